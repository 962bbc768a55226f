use Rattle.std.proofs.Common.{sym, ap, ◌∙◌, refl}
use Rattle.established.specs.Established.{moment}
use Rattle.listing.specs.declared.product.Product.{Product}
use Rattle.entering.proofs.Fronts.{worth_told}
use Rattle.amending.proofs.amendments.arriving.Goals as goal

pub returns : goal.returns
returns g c =
    let m = c.args.market.now in
    record {
      number = refl;
      side = refl;
      product = refl;
      participant = refl;
      limit = refl;
      quantity = refl;
      duration = refl;
      at = refl;
      today = refl;
      worth = worth_told m.products (moment c.args.table.now (g.T.Tape.records c.args.tape.now) m.state.day c.args.time) (g.M.PricingModel.tells m.model) c.args.a.entry.order.product _ (sym c.unwrap.ensures ∙ c.established.ensures.answer) c.established.ensures.whole c.requires.listed;
      width = ap (λ (p : Product). p.listed.no_bust) c.requires.product;
    }
