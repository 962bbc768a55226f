-- What a queue in price-time priority is: the orders that rest, each once, and each before all that follow. Assumes nothing.
use Rattle.std.specs.Prelude.{◌≡◌, ℕ, Bool, true, List, [], ◌∷◌, All, filter}
use Rattle.std.specs.List.Sorted.{IsPermutation}
use Rattle.orders.specs.Queue.{Slot, slots, counted, before, rests, queue}
use Rattle.orders.specs.declared.row.OrderRow.{OrderRow}

-- each comes before all that follow it
abbrev pub InOrder : (Slot → Slot → Bool) → List Slot → Type 0
InOrder lt [] = Unit {0}
InOrder lt (a ∷ rest) = All (λ b. lt a b ≡ true) rest × InOrder lt rest

pub record QueueLaws (code : ℕ) (first : OrderRow → OrderRow → Bool) (product : ℕ) (table : List OrderRow) : Type 0 where
  -- the orders of this side and product that the table holds, and no others
  pub holds : IsPermutation (filter (rests code product) (slots 0 (counted table))) (queue code first product table)
  pub ordered : InOrder (before first) (queue code first product table)
