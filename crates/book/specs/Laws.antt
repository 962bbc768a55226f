-- What a walk down a queue keeps. Assumes nothing.
use Rattle.std.specs.Prelude.{◌≡◌, ℕ, ◌+◌, ◌<◌, ◌≤◌, Bool, true, false, List, [], ◌∷◌, map, length, take, drop, All, MatchOption}
use Rattle.limits.specs.Ranges.{tradeable}
use Rattle.orders.specs.Queue.{Slot, head}
use Rattle.book.specs.Sweeps.{lots_filled}
use Rattle.book.specs.Walks.{Fill, Walk}

-- every fill but the last takes all that its order had
abbrev pub WholeBefore : List Fill → Type 0
WholeBefore [] = Unit {0}
WholeBefore (f ∷ fills) = (0 < length fills → f.quantity ≡ f.slot.row.rest) × WholeBefore fills

module _ (reaches : ℕ → ℕ → Bool) (low high limit : ℕ) where
  -- a match that may be made: the limit reaches it, and it lies between the ends
  pub record Proper (f : Fill) : Type 0 where
    pub reached : reaches limit f.slot.row.price ≡ true
    pub within : tradeable low high f.slot.row.price ≡ true
    pub at_most : f.quantity ≤ f.slot.row.rest

  -- the limit reaches what comes next, but it lies outside the ends
  pub record Halting (a : Slot) : Type 0 where
    pub reached : reaches limit a.row.price ≡ true
    pub outside : tradeable low high a.row.price ≡ false

  pub record WalkLaws (q : ℕ) (queue : List Slot) (w : Walk) : Type 0 where
    -- fills and rest are the quantity
    pub conserves : lots_filled w.fills + w.rest ≡ q
    pub proper : All Proper w.fills
    -- the orders filled are the front of the queue, each once
    pub front : map (λ f. f.slot) w.fills ≡ take (length w.fills) queue
    pub whole_before : WholeBefore w.fills
    -- not halted and something left: no order that remains is reached
    pub stops : w.halted ≡ false → 0 < w.rest → All (λ a. reaches limit a.row.price ≡ false) (drop (length w.fills) queue)
    -- halted exactly at a next match outside the ends
    pub halts : w.halted ≡ true → (0 < w.rest) × MatchOption (head (drop (length w.fills) queue)) ⊥ Halting
