use Rattle.std.proofs.Common.{◌≡◌, drop, filter}
use Rattle.orders.specs.Queue.{slots, head}
use Rattle.orders.specs.Questions.{has_number, order_numbered}
use Rattle.orders.proofs.questions.find.Given as goal

abbrev pub invariant-loop-index : goal.invariant-loop-index
invariant-loop-index l =
    head (filter (has_number l.products l.number) (slots l.index (drop l.index l.row-items)))
    ≡ order_numbered l.products l.number l.table
