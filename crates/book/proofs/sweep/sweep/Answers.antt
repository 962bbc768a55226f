use Rattle.std.proofs.Common.{◌≡◌, ◌-◌, true, length, sym, ap, ◌∙◌, subst, arith}
use Rattle.orders.specs.Queue.{queue}
use Rattle.terms.specs.Checked.{lots_left}
use Rattle.book.specs.Sweeps.{due, takes, Made}
use Rattle.book.specs.Walks.{Walk, matching}
use Rattle.book.specs.declared.outcome.Swept.{Swept}
use Rattle.book.proofs.Conserved.{walk_conserves, not_killed, made_run}
use Rattle.book.proofs.sweep.sweep.Goals as goal

pub overflow_sub-result : goal.overflow_sub-result
overflow_sub-result g c =
    let s = g.S.BookSide in
    let a = c.args.a in
    let whole = walk_conserves s.reaches c.args.range.low.ticks c.args.range.high.ticks a.order.limit.ticks a.order.quantity.lots (queue s.code s.first a.order.product c.args.table.now) in
    omega (arith, whole, c.lots.ensures, c.lots-2.ensures, c.run-done.ensures.rest)

pub returns-clause-made : goal.returns-clause-made
returns-clause-made g c =
    let s = g.S.BookSide in
    let t = g.T.Tape in
    let a = c.args.a in
    let planned = c.plan_due-planned.ensures in
    let done = c.run-done.ensures in
    let w = matching s.reaches s.code s.first a.order c.args.range c.args.table.now in
    let alive : due c.args.whole w ≡ w = not_killed c.args.whole w c.plan_due-planned.result.trades planned.trades c.if-planned-eq0.false in
    let answer : Swept = record { traded = c.lots.result - c.lots-2.result; rest = c.run-done.result.rest; trades = c.run-done.result.trades; halted = c.run-done.result.halted } in
    let fits : takes (t.space c.args.tape.now) (t.records c.args.tape.now) a.order.time (length w.fills) ≡ true =
    ap (takes (t.space c.args.tape.now) (t.records c.args.tape.now) a.order.time) (sym (planned.trades ∙ ap (λ (v : Walk). length v.fills) alive)) ∙ sym c.if-not-has_room.ensures in
    let traded : answer.traded ≡ a.order.quantity.lots - lots_left answer.rest = omega (arith, c.lots.ensures, c.lots-2.ensures) in
    subst (λ (v : Walk). Made t.records t.space s.code a v c.args.table.now c.args.tape.now answer c.run-done.new.table c.run-done.new.tape) (sym alive)
    (made_run t.records t.space s.code a w c.args.table.now c.args.tape.now answer a.order.quantity.lots c.run-done.new.table c.run-done.new.tape
    (walk_conserves s.reaches c.args.range.low.ticks c.args.range.high.ticks a.order.limit.ticks a.order.quantity.lots (queue s.code s.first a.order.product c.args.table.now))
    fits done.table done.tape traded done.rest done.trades done.halted)
