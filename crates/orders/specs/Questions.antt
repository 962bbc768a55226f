-- What is asked of an order table. Assumes nothing.
use Rattle.std.specs.Prelude.{◌≡◌, ℕ, ◌<◌, Bool, true, false, ◌&&◌, List, length, Some, None, Ok, Err, All, filter, Option, Result, ◌==◌, nat_le, nat_lt, slice_index_or}
use Rattle.std.specs.Option.{option_map}
use Rattle.terms.specs.Checked.{price_at}
use Rattle.terms.specs.declared.price.Price.{Price}
use Rattle.orders.specs.Queue.{Slot, slots, counted, queue, head, higher_first, lower_first}
use Rattle.orders.specs.Orders.{row_of}
use Rattle.orders.specs.Rows.{fair, free}
use Rattle.terms.specs.declared.side.Side.{Side}
use Rattle.terms.specs.declared.side.Side.TheVariants.{Buy, Sell}
use Rattle.orders.specs.declared.full.TableFull.{TableFull}
use Rattle.orders.specs.declared.order.Order.{Order}
use Rattle.orders.specs.declared.row.OrderRow.{OrderRow}

abbrev pub slot_price : Slot → Price
slot_price a = price_at a.row.price

-- the price of the first order of a queue
abbrev pub best_price : ℕ → (OrderRow → OrderRow → Bool) → ℕ → List OrderRow → Option Price
best_price code first product table = option_map slot_price (head (queue code first product table))

abbrev pub best_buy : ℕ → List OrderRow → Option Price
best_buy product table = best_price 0 higher_first product table

abbrev pub best_sell : ℕ → List OrderRow → Option Price
best_sell product table = best_price 1 lower_first product table

-- the best price that an order of this side would trade with
abbrev pub best_facing : Side → ℕ → List OrderRow → Option Price
best_facing Buy product table = best_sell product table
best_facing Sell product table = best_buy product table

-- a best buy at or above a best sell
abbrev pub crosses : Option Price → Option Price → Bool
crosses None sell = false
crosses (Some buy) None = false
crosses (Some buy) (Some sell) = nat_le sell.ticks buy.ticks

-- an order in one of the products listed; every other place is free
abbrev pub stands : ℕ → OrderRow → Bool
stands products r = fair r && nat_lt r.product products

-- the order that a place holds, if it stands in one of these products
abbrev pub Stands : ℕ → OrderRow → Option Order → Type 0
Stands products r None = stands products r ≡ false
Stands products r (Some o) = (stands products r ≡ true) × (row_of o ≡ r)

abbrev pub has_number : ℕ → ℕ → Slot → Bool
has_number products number a = stands products a.row && a.row.number == number

-- the order of a number: the first place that has it
abbrev pub order_numbered : ℕ → ℕ → List OrderRow → Option Slot
order_numbered products number table = head (filter (has_number products number) (slots 0 (counted table)))

-- a place that counts and is free; or none is, and how many count
abbrev pub FreePlace : ℕ → List OrderRow → Result ℕ TableFull → Type 0
FreePlace products table (Ok i) = (i < length (counted table)) × (stands products (slice_index_or table i free) ≡ false)
FreePlace products table (Err full) = (full.places ≡ length (counted table)) × All (λ r. stands products r ≡ true) (counted table)
