use Rattle.std.proofs.Common.{◌≡◌, take}
use Rattle.std.specs.Option.{option_map}
use Rattle.orders.specs.Queue.{before, wanted, head, slot_of}
use Rattle.orders.proofs.Heads.{part}
use Rattle.orders.proofs.search.seek.Given as goal

abbrev pub invariant-loop-index : goal.invariant-loop-index
invariant-loop-index g l =
    let s = g.S.BookSide in
    option_map slot_of l.found
    ≡ head (part (before s.first) (wanted s.code s.first l.product (option_map slot_of l.after)) 0 (take l.index l.row-items))
