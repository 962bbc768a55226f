use Rattle.std.proofs.Common.{◌≡◌, ◌≤◌, ◌++◌, map, take, drop, count_by}
use Rattle.orders.specs.Closes.{left_at, leaves}
use Rattle.orders.proofs.resting.expire.Given as goal

abbrev pub invariant-loop-row : goal.invariant-loop-row
invariant-loop-row l =
    (l.row-items ≡ map (left_at l.products l.close) (take l.row-index l.initial.row-items) ++ drop l.row-index l.initial.row-items)
    × (l.count ≡ count_by (leaves l.products l.close) (take l.row-index l.initial.row-items))
    × (l.count ≤ l.row-index)
