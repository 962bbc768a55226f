use Rattle.std.proofs.Common.{rules, length, refl, ◌∙◌}
use Rattle.std.proofs.lemmas.Simd.{splat_is_map}
use Rattle.orders.specs.Rows.{free}
use Rattle.market.proofs.market.Market.new.Goals as goal

pub returns : goal.returns
returns g c =
    (record { lists = c.in-Ok.ensures; starts = search rules; prices_by = refl }, c.fill.ensures.after (λ y is. is) ∙ splat_is_map c.args.table.now (length c.args.table.now) free refl)
