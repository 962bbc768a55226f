use Rattle.std.proofs.Common.{◌≡◌, ◌-◌, ◌≤◌, ap, ◌∙◌, subst, sym, arith}
use Rattle.std.specs.Result.{result_ok}
use Rattle.lent_tape.proofs.LentTapeTape.read.Goals as goal
use Rattle.lent_tape.proofs.There.{record_there}
use Rattle.lent_tape.specs.Held.{IsPlace}
use Rattle.lent_tape.specs.Places.{record_if}
use Rattle.tape.proofs.Calls.{on_placed, record_placed}
use Rattle.tape.specs.Trades.{Checks}

pub returns-clause-answer : goal.returns-clause-answer
returns-clause-answer g c =
    let tape = c.args.self.now in
    let at = g.P.Places.at tape.places in
    let row = c.unwrap-row.result in
    let k = c.in_ok-place.place in
    let in' = subst (IsPlace tape c.args.n) c.in_ok-place.was c.place.ensures in
    let low : 1 ≤ c.args.n = omega (arith, in'.1) in
    let high : c.args.n ≤ tape.used = omega (arith, in'.0, in'.1) in
    let e : c.args.n - 1 ≡ k = omega (arith, in'.1) in
    let got = c.get.ensures in
    let asked : c.get.result ≡ record_if (g.P.Places.size tape.places) at k = cc in
    let here : row ≡ at k = record_there (g.P.Places.size tape.places) at k row c.get.result asked c.unwrap-row.ensures (omega (arith, in'.0, tape.within)) in
    let checks = subst (λ r. Checks row (result_ok r)) c.unwrap.ensures c.try_from.ensures in
    record {
      there = on_placed at tape.used c.args.n low high;
      same = checks.1 ∙ here ∙ sym (ap at e) ∙ sym (record_placed at tape.used c.args.n low high);
    }
