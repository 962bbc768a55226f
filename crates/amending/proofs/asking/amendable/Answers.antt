use Rattle.std.proofs.Common.{◌≡◌, ◌<◌, sym, refl, ap, ◌∙◌, arith}
use Rattle.std.proofs.lemmas.Bool.{lt-ltb}
use Rattle.std.proofs.lemmas.Result.{err_from_is_err_and}
use Rattle.std.specs.Bool.{then_some}
use Rattle.listing.specs.Questions.{sweep_of}
use Rattle.orders.specs.Queue.{slot_of}
use Rattle.orders.specs.Questions.{best_facing}
use Rattle.rules.specs.Worlds.{product_of}
use Rattle.market.specs.Markets.{bare}
use Rattle.market.proofs.Ways.{fails_with, passes_with}
use Rattle.amending.proofs.Owned.{stands_listed, early_is}
use Rattle.amending.proofs.asking.amendable.Goals as goal

pub unwrap-product-requires : goal.unwrap-product-requires
unwrap-product-requires g c =
    let e = c.in_ok-entry.entry in
    let listed : e.order.product < c.args.market.now.products.count =
    omega (arith, c.count.ensures, stands_listed c.count.result c.args.m.order c.args.table.now (slot_of e) c.in_ok-entry.ensures.1) in
    rw (c.product.ensures, lt-ltb _ _ listed) refl

pub returns-in_err-hold_limit : goal.returns-in_err-hold_limit
returns-in_err-hold_limit g c =
    let w = bare c.args.market.now.state c.args.market.now.products c.args.table.now in
    let e = c.in_ok-entry.entry in
    let t = c.in_ok-terms.terms in
    let own = rw c.count.ensures at c.in_ok-entry.ensures in
    let product : c.unwrap-product.result ≡ product_of w e.order.product = (passes_with _ _ _ (sym c.unwrap-product.ensures ∙ c.product.ensures)).1 in
    let p = err_from_is_err_and c.from_residual-in_err-hold_limit.result c.from_residual-in_err-hold_limit.ensures.1 in
    rw (p.1, p.2)
    (early_is w c.args.time c.args.m e t _ _ c.in_ok-terms.ensures own (c.then_some-new_price.ensures ∙ ap (λ b. then_some b t.price) c.has_new_price.ensures)
    (c.sweep_for-sweep.ensures ∙ ap (sweep_of e.order.side (best_facing e.order.side e.order.product w.table)) product)
    ∙ fails_with _ _ c.in_err-hold_limit.field-0.0 c.in_err-hold_limit.ensures)

pub returns : goal.returns
returns g c =
    let w = bare c.args.market.now.state c.args.market.now.products c.args.table.now in
    let e = c.in_ok-entry.entry in
    let t = c.in_ok-terms.terms in
    let own = rw c.count.ensures at c.in_ok-entry.ensures in
    let product : c.unwrap-product.result ≡ product_of w e.order.product = (passes_with _ _ _ (sym c.unwrap-product.ensures ∙ c.product.ensures)).1 in
    record {
      passes =
          early_is w c.args.time c.args.m e t _ _ c.in_ok-terms.ensures own (c.then_some-new_price.ensures ∙ ap (λ b. then_some b t.price) c.has_new_price.ensures)
          (c.sweep_for-sweep.ensures ∙ ap (sweep_of e.order.side (best_facing e.order.side e.order.product w.table)) product)
          ∙ (passes_with _ _ _ c.in_ok-hold_limit.ensures).0;
      found = own.1;
      within = own.2;
      listed = stands_listed w.products.count c.args.m.order w.table (slot_of e) own.1;
      product = product;
      terms = (passes_with _ _ _ c.in_ok-terms.ensures).1;
    }
