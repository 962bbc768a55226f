-- Correction by the best orders. Assumes nothing.
use Rattle.std.specs.Prelude.{ℕ, cond, List, Some, None, Option, nat_lt}
use Rattle.orders.specs.Questions.{best_buy, best_sell}
use Rattle.orders.specs.declared.row.OrderRow.{OrderRow}
use Rattle.terms.specs.declared.price.Price.{Price}

-- the best sell where it is below
abbrev pub lowered_to : Option Price → ℕ → ℕ
lowered_to None worth = worth
lowered_to (Some sell) worth = cond (nat_lt sell.ticks worth) sell.ticks worth

-- the best buy where it is above, else the best sell where it is below, else the worth itself
abbrev pub corrected : Option Price → Option Price → ℕ → ℕ
corrected None sell worth = lowered_to sell worth
corrected (Some buy) sell worth = cond (nat_lt worth buy.ticks) buy.ticks (lowered_to sell worth)

-- by the product's own best orders
unfoldable pub corrected_in : List OrderRow → ℕ → ℕ → ℕ
corrected_in table product worth = corrected (best_buy product table) (best_sell product table) worth
