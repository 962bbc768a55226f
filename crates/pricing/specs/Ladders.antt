-- What a ladder is made of, what it refuses, and the price it gives. Assumes nothing.
use Rattle.std.specs.Prelude.{◌≡◌, ℕ, ◌<◌, ◌≤◌, Bool, true, false, cond, ◌⊎◌, List, [], ◌∷◌, length, take, ℤ, Some, None, Ok, Err, filter, Option, Result, int_le}
use Rattle.terms.specs.declared.malformed.Malformed.{Malformed}
use Rattle.terms.specs.declared.malformed.Malformed.TheVariants.{Count, DayLimit, Entry}
use Rattle.pricing.specs.Rungs.{at_fault}
use Rattle.pricing.specs.declared.ladder.Ladder.{Ladder}
use Rattle.pricing.specs.declared.rung.Rung.{Rung}

-- the rungs of a ladder, lowest first
abbrev pub rungs_of : Ladder → List Rung
rungs_of ladder = take ladder.count ladder.rungs

-- 1 to 32 rungs with none at fault make a ladder of just these; else the count is wrong, or the lowest rung at fault is told
abbrev pub Made : List Rung → Result Ladder Malformed → Type 0
Made rungs (Ok ladder) = (1 ≤ length rungs) × (length rungs ≤ 32) × ((k : ℕ) → k < length rungs → at_fault rungs k ≡ false) × (rungs_of ladder ≡ rungs)
Made rungs (Err Count) = (length rungs < 1) ⊎ (32 < length rungs)
Made rungs (Err DayLimit) = ⊥
Made rungs (Err (Entry k)) = (1 ≤ length rungs) × (length rungs ≤ 32) × (k < length rungs) × (at_fault rungs k ≡ true) × ((j : ℕ) → j < k → at_fault rungs j ≡ false)

-- the higher of a rung and the highest of others
abbrev pub higher : Rung → Option Rung → Rung
higher r None = r
higher r (Some s) = cond (int_le r.level s.level) s r

abbrev pub highest : List Rung → Option Rung
highest [] = None
highest (r ∷ rs) = Some (higher r (highest rs))

abbrev pub at_or_below : ℤ → Rung → Bool
at_or_below m r = int_le r.level m

abbrev pub price_or_nothing : Option Rung → ℕ
price_or_nothing None = 0
price_or_nothing (Some r) = r.price

-- the price of the highest rung at or below m, else 0
abbrev pub ladder_price : List Rung → ℤ → ℕ
ladder_price rungs m = price_or_nothing (highest (filter (at_or_below m) rungs))
