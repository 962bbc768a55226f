-- What is asked of a market, its book and its tape. Assumes nothing.
use Rattle.std.specs.Prelude.{ℕ, [], ◌∷◌, Option, Result}
use Rattle.rules.specs.Held.{listed_check}
use Rattle.limits.specs.declared.range.Range.{Range}
use Rattle.orders.specs.Questions.{best_buy, best_sell}
use Rattle.rules.specs.Refusing.{time_check}
use Rattle.rules.specs.Worlds.{World, range_in, established_in}
use Rattle.terms.specs.Checked.{price_at}
use Rattle.terms.specs.Checks.{answered, earliest}
use Rattle.terms.specs.declared.price.Price.{Price}
use Rattle.terms.specs.declared.refusal.Refusal.{Refusal}

-- the best buy and the best sell, either perhaps absent
abbrev pub top_in : World → ℕ → Result (Option Price × Option Price) Refusal
top_in w n = answered (listed_check w.products n) (best_buy n w.table, best_sell n w.table)

abbrev pub range_asked : World → ℕ → Result Range Refusal
range_asked w n = answered (listed_check w.products n) (range_in w n)

-- the time is checked before the product
abbrev pub established_asked : World → ℕ → ℕ → Result Price Refusal
established_asked w time n =
    answered (earliest (time_check w time ∷ listed_check w.products n ∷ [])) (price_at (established_in w time n))
