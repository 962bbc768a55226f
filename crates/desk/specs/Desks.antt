-- What a desk refuses, answers and becomes. Assumes nothing.
use Rattle.std.specs.Prelude.{ℕ, Bool, false, ◌&&◌, List, [], ◌∷◌, Some, None, Ok, Err, Option, Result, nat_le}
use Rattle.limits.specs.Ranges.{tradeable_range}
use Rattle.limits.specs.declared.range.Range.{Range}
use Rattle.orders.specs.Questions.{best_buy, best_sell}
use Rattle.orders.specs.declared.row.OrderRow.{OrderRow}
use Rattle.terms.specs.Checked.{price_at}
use Rattle.terms.specs.Checks.{unless}
use Rattle.terms.specs.Ranges.{highest_price}
use Rattle.terms.specs.declared.field.Field.TheVariants.{Price as the_price}
use Rattle.terms.specs.declared.malformed.Malformed.TheVariants.{Entry}
use Rattle.terms.specs.declared.price.Price.{Price}
use Rattle.terms.specs.declared.refusal.Refusal.{Refusal}
use Rattle.terms.specs.declared.refusal.Refusal.TheVariants.{Malformed, NotListed, OutOfRange}
use Rattle.desk.specs.declared.desk.Desk.{Desk}
use Rattle.desk.specs.declared.desk.Product.{Product}

abbrev pub empty_desk : Desk
empty_desk = record { product = None; stamp = 0; halted = false }

abbrev pub figures_fine : ℕ → ℕ → Bool
figures_fine sweep daily = nat_le 1 sweep && nat_le sweep 1000 && nat_le 1 daily && nat_le daily 100000

abbrev pub listing_checks : ℕ → ℕ → ℕ → List (Option Refusal)
listing_checks sweep daily reference =
    unless (figures_fine sweep daily) (Malformed (Entry 0)) ∷ unless (nat_le reference highest_price) (OutOfRange the_price) ∷ []

abbrev pub product_of : ℕ → ℕ → ℕ → Product
product_of sweep daily reference = record { sweep = sweep; daily = daily; reference = price_at reference }

abbrev pub listed_desk : Desk → ℕ → ℕ → ℕ → Desk
listed_desk desk sweep daily reference = record { product = Some (product_of sweep daily reference); stamp = desk.stamp; halted = false }

abbrev pub product_or : Option Product → Result Product Refusal
product_or (Some product) = Ok product
product_or None = Err (NotListed 0)

abbrev pub top_of : Option Product → List OrderRow → Result (Option Price × Option Price) Refusal
top_of None table = Err (NotListed 0)
top_of (Some product) table = Ok (best_buy 0 table, best_sell 0 table)

abbrev pub range_of : Option Product → Result Range Refusal
range_of None = Err (NotListed 0)
range_of (Some product) = Ok (tradeable_range product.reference.ticks product.daily)
