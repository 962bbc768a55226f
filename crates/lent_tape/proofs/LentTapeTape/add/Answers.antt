use Rattle.std.proofs.Common.{◌≡◌, ℕ, ◌<◌, ◌≤◌, ◌≢◌, ap, ◌∙◌, arith}
use Rattle.lent_tape.proofs.LentTapeTape.add.Goals as goal
use Rattle.lent_tape.specs.Held.{held}
use Rattle.tape.proofs.Calls.{fair_push, rising_push}
use Rattle.tape.proofs.Memory.{placed_push}
use Rattle.tape.specs.Tapes.{latest}
use Rattle.tape.specs.Trades.{row_of}
use Rattle.tape.specs.declared.row.TradeRow.{TradeRow}

pub invariant_of-self : goal.invariant_of-self
invariant_of-self g c =
    let tape = c.args.self.now in
    let at = g.P.Places.at tape.places in
    let after = g.P.Places.at c.set.new.self in
    let row = c.into.result in
    let here = c.set.ensures.here (omega arith) in
    let below = λ (k : ℕ) (lt : k < tape.used). let ne : k ≢ tape.used = omega arith in c.set.ensures.others k ne in
    let time : row.time ≡ c.args.trade.time = ap (λ (r : TradeRow). r.time) c.into.ensures.0 in
    let timely : latest (held tape) ≤ row.time = omega arith in
    record {
      within = omega (arith, c.set.ensures.sized);
      few = omega arith;
      fair = fair_push at after tape.used tape.fair below (rw here c.into.ensures.1);
      rising = rising_push at after tape.used tape.rising below (rw here timely);
    }

pub returns : goal.returns
returns g c =
    let tape = c.args.self.now in
    let at = g.P.Places.at tape.places in
    let after = g.P.Places.at c.set.new.self in
    let here = c.set.ensures.here (omega arith) in
    let below = λ (k : ℕ) (lt : k < tape.used). let ne : k ≢ tape.used = omega arith in c.set.ensures.others k ne in
    record {
      written = placed_push at after tape.used (row_of c.args.trade) below (here ∙ c.into.ensures.0);
      roomy = omega arith;
      timely = omega arith;
      lessens = omega (arith, c.set.ensures.sized);
      by_one = omega (arith, c.set.ensures.sized);
    }
