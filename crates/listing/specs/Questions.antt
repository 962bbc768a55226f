-- What is asked of the products. Assumes nothing.
use Rattle.std.specs.Prelude.{ℕ, Bool, List, Option, nat_lt}
use Rattle.std.specs.List.{list_any}
use Rattle.limits.specs.Ranges.{tradeable_range}
use Rattle.limits.specs.Sweeps.{anchor_price, sweep_price}
use Rattle.limits.specs.declared.range.Range.{Range}
use Rattle.terms.specs.Checked.{price_at}
use Rattle.terms.specs.Checks.{unless}
use Rattle.terms.specs.declared.price.Price.{Price}
use Rattle.terms.specs.declared.refusal.Refusal.{Refusal}
use Rattle.terms.specs.declared.refusal.Refusal.TheVariants.{NotListed}
use Rattle.terms.specs.declared.side.Side.{Side}
use Rattle.listing.specs.Product.{product_at, ticks_in_force}
use Rattle.listing.specs.declared.product.Product.{Product}
use Rattle.listing.specs.declared.products.Products.{Products}

-- a product that is not listed gets 7 with its number
abbrev pub listed_check : Products → ℕ → Option Refusal
listed_check ps n = unless (nat_lt n ps.count) (NotListed n)

abbrev pub product_in : Products → ℕ → Product
product_in ps n = product_at ps.rows n

-- the tradeable range: the daily ticks in force around the reference price
abbrev pub range_of : Product → Range
range_of p = tradeable_range p.reference (ticks_in_force p)

-- the sweep price: from the best price offered on the opposite side, else from the reference price
abbrev pub sweep_of : Side → Option Price → Product → Price
sweep_of side best p = sweep_price side (anchor_price best (price_at p.reference)) p.listed.sweep

abbrev pub any_halted : List Product → Bool
any_halted products = list_any (λ p. p.halted) products
