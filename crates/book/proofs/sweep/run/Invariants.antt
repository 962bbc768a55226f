use Rattle.std.proofs.Common.{◌+◌, ◌≤◌, length}
use Rattle.orders.specs.Queue.{queue}
use Rattle.tape.specs.Tapes.{latest}
use Rattle.terms.specs.Checked.{lots_left}
use Rattle.book.specs.Sweeps.{RoomLeft}
use Rattle.book.specs.Walks.{walk, trade_by}
use Rattle.book.proofs.Walking.{Going}
use Rattle.book.proofs.sweep.run.Given as goal

abbrev pub invariant-sweep : goal.invariant-sweep
invariant-sweep g l =
    let s = g.S.BookSide in
    let t = g.T.Tape in
    let low = l.range.low.ticks in
    let high = l.range.high.ticks in
    Going (trade_by s.code l.a)
    (walk s.reaches low high l.a.order.limit.ticks l.a.order.quantity.lots (queue s.code s.first l.a.order.product l.initial.table))
    l.initial.table (t.records l.initial.tape)
    (walk s.reaches low high l.a.order.limit.ticks (lots_left l.rest) (queue s.code s.first l.a.order.product l.table))
    l.table (t.records l.tape) l.trades
    × (length (walk s.reaches low high l.a.order.limit.ticks (lots_left l.rest) (queue s.code s.first l.a.order.product l.table)).fills ≤ t.space l.tape)
    × (latest (t.records l.tape) ≤ l.a.order.time)
    × (l.trades + lots_left l.rest ≤ l.a.order.quantity.lots)
    × RoomLeft (t.space l.initial.tape) l.trades (t.space l.tape)

abbrev pub decreases-sweep : goal.decreases-sweep
decreases-sweep g l = lots_left l.rest
