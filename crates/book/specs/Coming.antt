-- What comes next on the way down a queue. Assumes nothing.
use Rattle.std.specs.Prelude.{◌≡◌, ℕ, ◌<◌, Bool, true, false, List, length, Some, Option, MatchOption}
use Rattle.limits.specs.Ranges.{tradeable}
use Rattle.limits.specs.declared.range.Range.{Range}
use Rattle.orders.specs.Queue.{Slot, slot_of}
use Rattle.orders.specs.declared.row.OrderRow.{OrderRow}
use Rattle.book.specs.declared.coming.Next.{Next}
use Rattle.book.specs.declared.coming.Next.TheVariants.{Nothing, Outside, Match}

-- of the first order that is left: none, or one that the limit does not reach; one that it reaches outside the ends;
-- or a match inside them, where it stands in the table
abbrev pub Comes : (ℕ → ℕ → Bool) → ℕ → Range → Option Slot → List OrderRow → Next → Type 0
Comes reaches limit range first table Nothing = MatchOption first (Unit {0}) (λ a. reaches limit a.row.price ≡ false)
Comes reaches limit range first table Outside =
    MatchOption first ⊥ (λ a. (reaches limit a.row.price ≡ true) × (tradeable range.low.ticks range.high.ticks a.row.price ≡ false))
Comes reaches limit range first table (Match e) =
    (first ≡ Some (slot_of e)) × (reaches limit e.order.price.ticks ≡ true) × (tradeable range.low.ticks range.high.ticks e.order.price.ticks ≡ true) × (e.index < length table)
