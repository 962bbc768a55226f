use Rattle.std.proofs.Common.{sym, subst}
use Rattle.std.specs.Result.{IsOk}
use Rattle.terms.proofs.Checked.{price_ok}
use Rattle.pricing.specs.Climbs.{rung_priced}
use Rattle.pricing.proofs.ladder.LadderPricingModel.price.Goals as goal

pub unwrap-requires : goal.unwrap-requires
unwrap-requires c =
    let ladder = c.args.self.now in
    let rung = c.in-Some.rung in
    subst IsOk (sym c.try_from.ensures) (price_ok rung.price (rung_priced ladder.rungs ladder.count ladder.sound _ rung c.in-Some.ensures))
