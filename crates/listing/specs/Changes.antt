-- What changes for a product. Assumes nothing.
use Rattle.std.specs.Prelude.{ℕ, Bool, false, cond, List, [], ◌∷◌, ◌++◌, map, length, take, drop, Some, None, Option, ◌==◌, nat_le, slice_set}
use Rattle.std.specs.List.{list_all}
use Rattle.terms.specs.Checks.{unless, earliest}
use Rattle.terms.specs.Ranges.{highest_price}
use Rattle.terms.specs.declared.field.Field.TheVariants.{FreneticTicks, Settlements, Price as the_price}
use Rattle.terms.specs.declared.refusal.Refusal.{Refusal}
use Rattle.terms.specs.declared.refusal.Refusal.TheVariants.{OutOfRange}
use Rattle.listing.specs.Product.{frenetic_fits}
use Rattle.listing.specs.Questions.{product_in, listed_check}
use Rattle.listing.specs.declared.product.Product.{Product}
use Rattle.listing.specs.declared.products.Products.{Products}

-- all that products hold
pub record Contents : Type 0 where
  pub rows : List Product
  pub count : ℕ
  pub limit : ℕ

-- the same with other rows
abbrev pub with_rows : Products → List Product → Contents
with_rows ps rows = record { rows = rows; count = ps.count; limit = ps.limit }

abbrev pub contents : Products → Contents
contents ps = with_rows ps ps.rows

-- one product changed
abbrev pub with_product : Products → ℕ → Product → Contents
with_product ps n p = with_rows ps (slice_set ps.rows n p)

-- an adjustment: the reference price, and how many records the tape holds
abbrev pub with_reference : ℕ → ℕ → Product → Product
with_reference price records p =
    record { listed = p.listed; frenetic = p.frenetic; reference = price; halted = p.halted; adjusted = records }

-- what a number of a call sets: 0 goes back to the listed daily ticks
abbrev pub frenetic_of : ℕ → Option ℕ
frenetic_of ticks = cond (ticks == 0) None (Some ticks)

abbrev pub with_frenetic : ℕ → Product → Product
with_frenetic ticks p =
    record { listed = p.listed; frenetic = frenetic_of ticks; reference = p.reference; halted = p.halted; adjusted = p.adjusted }

abbrev pub with_halt : Bool → Product → Product
with_halt halted p =
    record { listed = p.listed; frenetic = p.frenetic; reference = p.reference; halted = halted; adjusted = p.adjusted }

-- ticks that do not fit get 8 with field 5
abbrev pub frenetic_check : Product → ℕ → Option Refusal
frenetic_check p ticks = unless (frenetic_fits p.listed.daily (frenetic_of ticks)) (OutOfRange FreneticTicks)

abbrev pub widen_check : Products → ℕ → ℕ → Option Refusal
widen_check ps n ticks = earliest (listed_check ps n ∷ frenetic_check (product_in ps n) ticks ∷ [])

-- each of the first n products without a halt
abbrev pub lifted : ℕ → List Product → List Product
lifted n rows = map (with_halt false) (take n rows) ++ drop n rows

abbrev pub without_halts : Products → Contents
without_halts ps = with_rows ps (lifted ps.count ps.rows)

abbrev pub settled_at : ℕ → Product → Product
settled_at price p = with_reference price p.adjusted p

-- the reference price of each product becomes its settlement price
abbrev pub settled : List ℕ → List Product → List Product
settled [] rows = rows
settled (price ∷ prices) [] = []
settled (price ∷ prices) (p ∷ rows) = settled_at price p ∷ settled prices rows

abbrev pub with_settlements : Products → List ℕ → Contents
with_settlements ps prices = with_rows ps (settled prices ps.rows)

abbrev pub all_prices : List ℕ → Bool
all_prices prices = list_all (λ price. nat_le price highest_price) prices

-- a number that is no price gets 8 with field 1, a wrong count 8 with field 6
abbrev pub settle_check : Products → List ℕ → Option Refusal
settle_check ps prices =
    earliest
    (unless (all_prices prices) (OutOfRange the_price) ∷ unless (length prices == ps.count) (OutOfRange Settlements) ∷ [])
