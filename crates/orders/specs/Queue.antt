-- The queue of one side and product, in price-time priority. Assumes nothing.
use Rattle.std.specs.Prelude.{ℕ, suc, Bool, true, cond, not, ◌&&◌, ◌||◌, List, [], ◌∷◌, take, Some, None, filter, Option, ◌==◌, nat_lt}
use Rattle.orders.specs.Orders.{row_of}
use Rattle.orders.specs.Rows.{fair}
use Rattle.orders.specs.declared.order.Entry.{Entry}
use Rattle.orders.specs.declared.row.OrderRow.{OrderRow}

-- a place of the table: its index, and what stands there
pub record Slot : Type 0 where
  pub index : ℕ
  pub row : OrderRow

abbrev pub slot : ℕ → OrderRow → Slot
slot i r = record { index = i; row = r }

abbrev pub slot_of : Entry → Slot
slot_of e = slot e.index (row_of e.order)

-- the places of a table whose first index is i
abbrev pub slots : ℕ → List OrderRow → List Slot
slots i [] = []
slots i (r ∷ rows) = slot i r ∷ slots (suc i) rows

abbrev pub most_places : ℕ
most_places = 65536

-- the places that count
unfoldable pub counted : List OrderRow → List OrderRow
counted table = take most_places table

-- the better price, and at one price the lower place: a higher price is better for buys, a lower one for sells
abbrev pub higher_first : OrderRow → OrderRow → Bool
higher_first a b = nat_lt b.price a.price || (b.price == a.price && nat_lt a.place b.place)

abbrev pub lower_first : OrderRow → OrderRow → Bool
lower_first a b = nat_lt a.price b.price || (a.price == b.price && nat_lt a.place b.place)

-- which of two comes first: by the side's rule, and where that leaves it open by the lower index
abbrev pub before : (OrderRow → OrderRow → Bool) → Slot → Slot → Bool
before first a b = first a.row b.row || (not (first b.row a.row) && nat_lt a.index b.index)

abbrev pub insert : (Slot → Slot → Bool) → Slot → List Slot → List Slot
insert lt a [] = a ∷ []
insert lt a (b ∷ bs) = cond (lt a b) (a ∷ b ∷ bs) (b ∷ insert lt a bs)

abbrev pub sorted : (Slot → Slot → Bool) → List Slot → List Slot
sorted lt [] = []
sorted lt (a ∷ rest) = insert lt a (sorted lt rest)

-- an order of this side and product stands here
abbrev pub rests : ℕ → ℕ → Slot → Bool
rests code product a = fair a.row && (a.row.side == code && a.row.product == product)

-- the resting orders of a side and product, the first to be matched first
abbrev pub queue : ℕ → (OrderRow → OrderRow → Bool) → ℕ → List OrderRow → List Slot
queue code first product table = sorted (before first) (filter (rests code product) (slots 0 (counted table)))

abbrev pub head : List Slot → Option Slot
head [] = None
head (a ∷ rest) = Some a

-- behind a cursor; with none, anywhere
abbrev pub past : (OrderRow → OrderRow → Bool) → Option Slot → Slot → Bool
past first None a = true
past first (Some c) a = before first c a

abbrev pub wanted : ℕ → (OrderRow → OrderRow → Bool) → ℕ → Option Slot → Slot → Bool
wanted code first product after a = past first after a && rests code product a

-- the queue of those behind a cursor
abbrev pub behind : ℕ → (OrderRow → OrderRow → Bool) → ℕ → Option Slot → List OrderRow → List Slot
behind code first product after table = sorted (before first) (filter (wanted code first product after) (slots 0 (counted table)))

-- the better of a place and the best so far
abbrev pub lead : (Slot → Slot → Bool) → Slot → Option Slot → Option Slot
lead lt a None = Some a
lead lt a (Some b) = cond (lt a b) (Some a) (Some b)

abbrev pub offer : (Slot → Slot → Bool) → (Slot → Bool) → Slot → Option Slot → Option Slot
offer lt p a best = cond (p a) (lead lt a best) best
