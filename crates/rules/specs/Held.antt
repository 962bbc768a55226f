-- What products hold, read and changed: the same as is said of products, over all that they hold and no more. Assumes nothing.
use Rattle.std.specs.Prelude.{ℕ, List, [], ◌∷◌, length, take, Option, ◌==◌, nat_lt, slice_set}
use Rattle.listing.specs.Changes.{Contents, lifted, settled, all_prices, frenetic_check}
use Rattle.listing.specs.Product.{product_at}
use Rattle.listing.specs.declared.product.Product.{Product}
use Rattle.terms.specs.Checks.{unless, earliest}
use Rattle.terms.specs.declared.field.Field.TheVariants.{Settlements, Price as the_price}
use Rattle.terms.specs.declared.refusal.Refusal.{Refusal}
use Rattle.terms.specs.declared.refusal.Refusal.TheVariants.{NotListed, OutOfRange}

-- a product that is not listed gets 7 with its number
abbrev pub listed_check : Contents → ℕ → Option Refusal
listed_check ps n = unless (nat_lt n ps.count) (NotListed n)

abbrev pub product_in : Contents → ℕ → Product
product_in ps n = product_at ps.rows n

-- the products in the order of their numbers
abbrev pub products_of : Contents → List Product
products_of ps = take ps.count ps.rows

-- the same with other rows
abbrev pub with_rows : Contents → List Product → Contents
with_rows ps rows = record { rows = rows; count = ps.count; limit = ps.limit }

-- one product changed
abbrev pub with_product : Contents → ℕ → Product → Contents
with_product ps n p = with_rows ps (slice_set ps.rows n p)

abbrev pub widen_check : Contents → ℕ → ℕ → Option Refusal
widen_check ps n ticks = earliest (listed_check ps n ∷ frenetic_check (product_in ps n) ticks ∷ [])

abbrev pub without_halts : Contents → Contents
without_halts ps = with_rows ps (lifted ps.count ps.rows)

abbrev pub with_settlements : Contents → List ℕ → Contents
with_settlements ps prices = with_rows ps (settled prices ps.rows)

-- a number that is no price gets 8 with field 1, a wrong count 8 with field 6
abbrev pub settle_check : Contents → List ℕ → Option Refusal
settle_check ps prices =
    earliest
    (unless (all_prices prices) (OutOfRange the_price) ∷ unless (length prices == ps.count) (OutOfRange Settlements) ∷ [])
