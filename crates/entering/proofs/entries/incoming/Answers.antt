use Rattle.std.proofs.Common.{ap, arith}
use Rattle.std.proofs.lemmas.Result.{err_from_is_err_and}
use Rattle.established.specs.Established.{moment}
use Rattle.entering.specs.Entries.{front_checks}
use Rattle.entering.specs.declared.admitted.Admitted.{Admitted}
use Rattle.entering.proofs.Fronts.{all_passed, listed_below, no_bust_fits, worth_told, comes_in_as}
use Rattle.market.specs.Markets.{world_of}
use Rattle.market.proofs.Ways.{fails_with, passes_with}
use Rattle.entering.proofs.entries.incoming.Goals as goal

pub returns-in_err-admitted : goal.returns-in_err-admitted
returns-in_err-admitted g c =
    let p = err_from_is_err_and c.from_residual.result c.from_residual.ensures.1 in
    rw (p.1, p.2) (fails_with _ _ c.in_err-admitted.field-0.0 c.in_err-admitted.ensures)

pub invariant_of-result : goal.invariant_of-result
invariant_of-result g c =
    let w = world_of g.M.PricingModel.tells g.T.Tape.records g.T.Tape.space c.args.market.now c.args.table.now c.args.tape.now in
    let pass = passes_with _ _ _ c.in_ok-admitted.ensures in
    let ps = c.args.market.now.products in
    let below = listed_below ps c.args.o.product (all_passed (front_checks w c.args.time c.args.o) pass.0).1.1.0 in
    let width = ap (λ (a : Admitted). a.product.listed.no_bust) pass.1 in
    record { listed = omega (arith, below, ps.few); narrow = omega (arith, width, no_bust_fits ps c.args.o.product below) }

pub returns : goal.returns
returns g c =
    let w = world_of g.M.PricingModel.tells g.T.Tape.records g.T.Tape.space c.args.market.now c.args.table.now c.args.tape.now in
    let o = c.args.o in
    let pass = passes_with _ _ _ c.in_ok-admitted.ensures in
    let ps = c.args.market.now.products in
    let below = listed_below ps o.product (all_passed (front_checks w c.args.time o) pass.0).1.1.0 in
    record {
      passes = pass.0;
      same = comes_in_as w c.args.time o _ pass.0 pass.1;
      worth = worth_told ps (moment w.table w.tape w.state.day c.args.time) w.tells o.product _ c.in_ok-established.ensures.answer c.in_ok-established.ensures.whole below;
      width = ap (λ (a : Admitted). a.product.listed.no_bust) pass.1;
    }
