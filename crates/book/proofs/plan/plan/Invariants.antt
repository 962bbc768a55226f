use Rattle.std.proofs.Common.{◌+◌, ◌≤◌}
use Rattle.orders.specs.Queue.{queue, behind, slot_of}
use Rattle.std.specs.Option.{option_map}
use Rattle.terms.specs.Checked.{lots_left}
use Rattle.book.specs.Walks.{walk}
use Rattle.book.proofs.Walking.{Left}
use Rattle.book.proofs.plan.plan.Given as goal

abbrev pub invariant-down : goal.invariant-down
invariant-down g l =
    let s = g.S.BookSide in
    Left (walk s.reaches l.range.low.ticks l.range.high.ticks l.o.limit.ticks l.o.quantity.lots (queue s.code s.first l.o.product l.table))
    (walk s.reaches l.range.low.ticks l.range.high.ticks l.o.limit.ticks (lots_left l.rest) (behind s.code s.first l.o.product (option_map slot_of l.cursor) l.table)) l.trades
    × (l.trades + lots_left l.rest ≤ l.o.quantity.lots)

abbrev pub decreases-down : goal.decreases-down
decreases-down g l = lots_left l.rest
