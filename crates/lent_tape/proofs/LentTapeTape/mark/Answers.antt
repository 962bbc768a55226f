use Rattle.std.proofs.Common.{◌≡◌, ◌+◌, ◌<◌, ◌≤◌, subst, arith, rules}
use Rattle.lent_tape.proofs.LentTapeTape.mark.Goals as goal
use Rattle.lent_tape.proofs.Marking.{fair_marking, rising_marking, placed_marking}
use Rattle.lent_tape.specs.Held.{IsPlace}
use Rattle.tape.proofs.Calls.{on_placed}

pub invariant_of-self : goal.invariant_of-self
invariant_of-self g c =
    let tape = c.args.self.now in
    let at = g.P.Places.at in
    let size = g.P.Places.size in
    let k = c.in_ok-place.place in
    let in' = subst (IsPlace tape c.args.n) c.in_ok-place.was c.place.ensures in
    let lt : k < tape.used = in'.0 in
    let within : tape.used ≤ size tape.places = tape.within in
    record {
      within = search (rules, arith);
      few = omega arith;
      fair = search (rules, fair_marking size at tape.used k c.args.mark tape.places);
      rising = search (rules, rising_marking size at tape.used k c.args.mark tape.places);
    }

pub returns-clause-answer : goal.returns-clause-answer
returns-clause-answer g c =
    let tape = c.args.self.now in
    let at = g.P.Places.at in
    let size = g.P.Places.size in
    let k = c.in_ok-place.place in
    let in' = subst (IsPlace tape c.args.n) c.in_ok-place.was c.place.ensures in
    let lt : k < tape.used = in'.0 in
    let is : c.args.n ≡ k + 1 = in'.1 in
    let low : 1 ≤ c.args.n = omega arith in
    let high : c.args.n ≤ tape.used = omega arith in
    record {
      there = on_placed (at tape.places) tape.used c.args.n low high;
      written = search (rules, placed_marking size at tape.used k c.args.mark tape.places);
      spaced = search (rules, arith);
    }
