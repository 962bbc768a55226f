-- The order table in the laws' own words: who waits, who comes first, what rests under a number. Assumes nothing.
use Rattle.std.specs.Prelude.{◌≡◌, ℕ, ◌<◌, ◌≤◌, Bool, true, ◌&&◌, ◌⊎◌, List, ◌==◌, slice_index_or}
use Rattle.orders.specs.Queue.{counted}
use Rattle.orders.specs.Questions.{stands}
use Rattle.orders.specs.Rows.{fair, free, side_code}
use Rattle.orders.specs.declared.row.OrderRow.{OrderRow}
use Rattle.terms.specs.declared.side.Side.{Side}
use Rattle.terms.specs.declared.side.Side.TheVariants.{Buy, Sell}
use Rattle.laws.specs.Words.{total, only}

-- what stands at a place, of those that count
abbrev pub row_at : List OrderRow → ℕ → OrderRow
row_at table i = slice_index_or (counted table) i free

-- an order of this side and product waits here
abbrev pub waits : Side → ℕ → OrderRow → Bool
waits side n r = fair r && (r.side == side_code side && r.product == n)

-- a price is not worse for an order of this side than a limit
abbrev pub Within : Side → ℕ → ℕ → Type 0
Within Buy limit price = price ≤ limit
Within Sell limit price = limit ≤ price

-- a better price, or the same price and an earlier place
abbrev pub Before : Side → OrderRow → OrderRow → Type 0
Before Buy a b = (b.price < a.price) ⊎ ((a.price ≡ b.price) × (a.place < b.place))
Before Sell a b = (a.price < b.price) ⊎ ((a.price ≡ b.price) × (a.place < b.place))

abbrev pub rest_of : ℕ → OrderRow → ℕ
rest_of number r = only (r.number == number) r.rest

-- what the table holds of the order of a number
abbrev pub resting : ℕ → List OrderRow → ℕ
resting number table = total (rest_of number) (counted table)

-- every place is free, or holds an order of a listed product
abbrev pub Tidy : ℕ → List OrderRow → Type 0
Tidy products table = (i : ℕ) → (row_at table i ≡ free) ⊎ (stands products (row_at table i) ≡ true)

-- a number was given, and is of one order that rests
pub record Numbered (last : ℕ) (table : List OrderRow) : Type 0 where
  pub given : (i : ℕ) → (row_at table i).number ≤ last
  pub apart : (i j : ℕ) → 0 < (row_at table i).rest → 0 < (row_at table j).rest → (row_at table i).number ≡ (row_at table j).number → i ≡ j

-- each buy that waits is below each sell that waits
abbrev pub Uncrossed : ℕ → List OrderRow → Type 0
Uncrossed n table =
    (i j : ℕ) → waits Buy n (row_at table i) ≡ true → waits Sell n (row_at table j) ≡ true → (row_at table i).price < (row_at table j).price
