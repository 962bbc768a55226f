use Rattle.std.proofs.Common.{◌≡◌, ℕ, ◌+◌, ◌<◌, not, length, Some, sym, refl, ap, ◌∙◌, arith}
use Rattle.orders.specs.Queue.{counted}
use Rattle.std.proofs.lemmas.Result.{err_from_is_err_and}
use Rattle.terms.specs.Checked.{lots_left}
use Rattle.terms.specs.Stamps.{last_stamp, stamp_at}
use Rattle.terms.specs.declared.refusal.Refusal.TheVariants.{TableFull, TapeFull}
use Rattle.terms.specs.declared.stamp.Stamp.{Stamp}
use Rattle.book.specs.Entries.{planned, arriving_as, resting_row, settled}
use Rattle.book.specs.Sweeps.{takes, due, Made, Unmade}
use Rattle.book.specs.Walks.{matching}
use Rattle.book.proofs.Entered.{place_free, none_free, full_table, full_tape, no_stamp, none_fails}
use Rattle.book.proofs.Numbered.{given_next, none_given, as_planned}
use Rattle.book.proofs.entering.enter_against.Goals as goal

pub returns-in_err-index-clause-entered : goal.returns-in_err-index-clause-entered
returns-in_err-index-clause-entered g c =
    let p = err_from_is_err_and c.from_residual.result c.from_residual.ensures.1 in
    let table = c.args.table.now in
    let full = c.in_err-index.ensures in
    rw p.1 (full_table c.args.o.product c.args.products c.args.stamp table _ _ c.if-o-products.false (none_free c.args.products (counted table) full.1) ∙ ap (λ r. Some r) (sym (p.2 ∙ ap TableFull full.0)), refl, refl)

pub returns-then-not-has_room-clause-entered : goal.returns-then-not-has_room-clause-entered
returns-then-not-has_room-clause-entered g c =
    let s = g.S.BookSide in
    let t = g.T.Tape in
    let o = c.args.o in
    let table = c.args.table.now in
    let tape = c.args.tape.now in
    let n = length (planned s.reaches s.code s.first o c.args.range table).fills in
    let same : c.plan_due-trades.result.trades ≡ n =
    c.plan_due-trades.ensures.trades ∙ ap (λ b. length (due (not b) (matching s.reaches s.code s.first o c.args.range table)).fills) c.may_rest-whole.ensures in
    let place = c.in_ok-index.ensures in (
      full_tape o.product c.args.products c.args.stamp table (takes (t.space tape) (t.records tape) o.time n) n c.if-o-products.false (place_free c.args.products table c.in_ok-index.index place.0 place.1)
          (ap (takes (t.space tape) (t.records tape) o.time) (sym same) ∙ sym c.if-not-has_room.ensures)
          ∙ ap (λ (k : ℕ). Some (TapeFull k)) (sym same),
      refl,
      refl,
    )

pub returns-in_default-clause-entered : goal.returns-in_default-clause-entered
returns-in_default-clause-entered g c =
    let s = g.S.BookSide in
    let t = g.T.Tape in
    let o = c.args.o in
    let table = c.args.table.now in
    let tape = c.args.tape.now in
    let n = length (planned s.reaches s.code s.first o c.args.range table).fills in
    let same : c.plan_due-trades.result.trades ≡ n =
    c.plan_due-trades.ensures.trades ∙ ap (λ b. length (due (not b) (matching s.reaches s.code s.first o c.args.range table)).fills) c.may_rest-whole.ensures in
    let place = c.in_ok-index.ensures in (
      no_stamp o.product c.args.products c.args.stamp table (takes (t.space tape) (t.records tape) o.time n) n c.if-o-products.false (place_free c.args.products table c.in_ok-index.index place.0 place.1)
          (ap (takes (t.space tape) (t.records tape) o.time) (sym same) ∙ sym c.if-not-has_room.ensures) (none_given c.args.stamp c.in_default.ensures),
      refl,
      refl,
    )

pub returns-in_err-swept-clause-entered : goal.returns-in_err-swept-clause-entered
returns-in_err-swept-clause-entered g c =
    let p = err_from_is_err_and c.from_residual-in_err-swept.result c.from_residual-in_err-swept.ensures.1 in
    let s = g.S.BookSide in
    let t = g.T.Tape in
    let o = c.args.o in
    let table = c.args.table.now in
    let tape = c.args.tape.now in
    let given = given_next c.args.stamp c.in-Some.number c.in-Some.ensures in
    let place = c.in_ok-index.ensures in
    let w = planned s.reaches s.code s.first o c.args.range table in
    let u : Unmade t.records t.space (arriving_as o (c.args.stamp + 1)) w table tape c.in_err-swept.field-0.0 c.sweep.new.table c.sweep.new.tape =
    as_planned (λ a v. Unmade t.records t.space a v table tape c.in_err-swept.field-0.0 c.sweep.new.table c.sweep.new.tape)
    s.reaches s.code s.first o c.args.stamp c.in-Some.number c.args.range table c.may_rest-whole.result c.may_rest-whole.ensures given.0 c.in_err-swept.ensures.made in
    rw p.1 (
      full_tape o.product c.args.products c.args.stamp table (takes (t.space tape) (t.records tape) o.time (length w.fills)) (length w.fills) c.if-o-products.false (place_free c.args.products table c.in_ok-index.index place.0 place.1) u.full
          ∙ ap (λ r. Some r) (sym (p.2 ∙ u.told)),
      u.same_table,
      u.same_tape,
    )

pub returns-clause-entered : goal.returns-clause-entered
returns-clause-entered g c =
    let s = g.S.BookSide in
    let t = g.T.Tape in
    let o = c.args.o in
    let table = c.args.table.now in
    let tape = c.args.tape.now in
    let given : (c.in-Some.number ≡ stamp_at (c.args.stamp + 1)) × (c.args.stamp < last_stamp) = given_next c.args.stamp c.in-Some.number c.in-Some.ensures in
    let number : c.number.result ≡ c.args.stamp + 1 = omega (arith, ap (λ (n : Stamp). n.number) given.0) in
    let place = c.in_ok-index.ensures in
    let swept = c.in_ok-swept.swept in
    let w = planned s.reaches s.code s.first o c.args.range table in
    let m : Made t.records t.space s.code (arriving_as o (c.args.stamp + 1)) w table tape swept c.sweep.new.table c.sweep.new.tape =
    as_planned (λ a v. Made t.records t.space s.code a v table tape swept c.sweep.new.table c.sweep.new.tape)
    s.reaches s.code s.first o c.args.stamp c.in-Some.number c.args.range table c.may_rest-whole.result c.may_rest-whole.ensures given.0 c.in_ok-swept.ensures.made in
    let left : c.lots.result ≡ lots_left swept.rest = c.lots.ensures in (
      none_fails o.product c.args.products c.args.stamp table (takes (t.space tape) (t.records tape) o.time (length w.fills)) (length w.fills) c.if-o-products.false (place_free c.args.products table c.in_ok-index.index place.0 place.1) m.fits given.1,
      record {
        number = number;
        traded = m.traded;
        rest = left ∙ m.rest;
        trades = m.trades;
        halted = m.halted;
        written = m.written;
        place = c.in_ok-index.index;
        free_before = record { counts = place.0; was_free = place.1 };
        reduced =
            c.settle.ensures
            ∙ ap (λ (n : ℕ). settled (resting_row o n) c.in_ok-index.index (lots_left swept.rest) c.sweep.new.table) (sym c.number.ensures ∙ number)
            ∙ ap (λ (k : ℕ). settled (resting_row o (c.args.stamp + 1)) c.in_ok-index.index k c.sweep.new.table) (sym left)
            ∙ ap (settled (resting_row o (c.args.stamp + 1)) c.in_ok-index.index c.lots.result) m.reduced;
      },
    )
