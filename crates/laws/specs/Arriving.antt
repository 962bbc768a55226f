-- The order that arrives with a call, and how far it may go, in the laws' own words. Assumes nothing.
use Rattle.std.specs.Prelude.{◌≡◌, ℕ, ◌+◌, ◌-◌, ◌<◌, ◌≤◌, min, true, false, ◌⊎◌, Some, None, Ok, Option, Result, ◌≢◌}
use Rattle.listing.specs.declared.product.Product.{Product}
use Rattle.orders.specs.Rows.{side_code}
use Rattle.terms.specs.Sides.{opposite}
use Rattle.terms.specs.declared.phase.Phase.TheVariants.{NightSession, DaySession}
use Rattle.terms.specs.declared.refusal.Refusal.{Refusal}
use Rattle.terms.specs.declared.side.Side.{Side}
use Rattle.terms.specs.declared.side.Side.TheVariants.{Buy, Sell}
use Rattle.rules.specs.Calls.{Call, Answer}
use Rattle.rules.specs.Calls.{enter, amend, received}
use Rattle.rules.specs.Worlds.{World, product_of}
use Rattle.rules.specs.declared.amendment.Amendment.{Amendment}
use Rattle.rules.specs.declared.new_order.NewOrder.{NewOrder}
use Rattle.rules.specs.Receipts.{Receipt}
use Rattle.laws.specs.Book.{row_at, waits, Within}

-- a session runs, and neither the market nor the product is halted
pub record Open (w : World) (n : ℕ) : Type 0 where
  pub runs : (w.state.phase ≡ NightSession) ⊎ (w.state.phase ≡ DaySession)
  pub market : w.state.halted ≡ false
  pub product : (product_of w n).halted ≡ false

-- the daily ticks in force: the frenetic ones while they are set, which are above 0, else those listed
abbrev pub InForce : Product → ℕ → Type 0
InForce p ticks = ((p.frenetic ≡ None) × (ticks ≡ p.listed.daily)) ⊎ ((0 < ticks) × (p.frenetic ≡ Some ticks))

-- the price that a sweep is counted from: the best that waits on the other side, else the reference price
pub data Anchor (w : World) (side : Side) (n : ℕ) : ℕ → Type 0 where
  best : (i : ℕ) → waits (opposite side) n (row_at w.table i) ≡ true →
      ((j : ℕ) → waits (opposite side) n (row_at w.table j) ≡ true → Within (opposite side) (row_at w.table i).price (row_at w.table j).price) →
      Anchor w side n (row_at w.table i).price
  none_waits : ((j : ℕ) → waits (opposite side) n (row_at w.table j) ≢ true) → Anchor w side n (product_of w n).reference

-- not further than so many ticks, nor beyond the prices that exist
abbrev pub Sweeps : Side → ℕ → ℕ → ℕ → Type 0
Sweeps Buy from ticks price = (price ≤ from + ticks) × (price ≤ 1000000)
Sweeps Sell from ticks price = from ≤ price + ticks

-- just so many ticks, or the end of the prices that exist
abbrev pub Furthest : Side → ℕ → ℕ → ℕ → Type 0
Furthest Buy from ticks price = price ≡ min (from + ticks) 1000000
Furthest Sell from ticks price = price ≡ from - ticks

-- the price of an entered order: its limit, or for a market order as far as its sweep goes
abbrev pub OwnPrice : World → NewOrder → Option ℕ → ℕ → Type 0
OwnPrice w o (Some limit) price = price ≡ limit
OwnPrice w o None price =
    (from : ℕ) × Anchor w o.side o.product from × Furthest o.side from (product_of w o.product).listed.sweep price

pub record Arriver : Type 0 where
  pub product : ℕ
  pub side : Side
  pub price : ℕ
  pub number : ℕ
  pub participant : ℕ

abbrev pub arriver : ℕ → Side → ℕ → ℕ → ℕ → Arriver
arriver n side price number participant =
    record { product = n; side = side; price = price; number = number; participant = participant }

-- the order that an accepted call entered, or that rested and was amended
pub data Arrives (w : World) : Call → Result Answer Refusal → Arriver → Type 0 where
  enters : (o : NewOrder) (r : Receipt) (price : ℕ) → OwnPrice w o o.limit price →
      Arrives w (enter o) (Ok (received r)) (arriver o.product o.side price r.number o.participant)
  amends : (m : Amendment) (r : Receipt) (i : ℕ) (side : Side) →
      0 < (row_at w.table i).rest → (row_at w.table i).number ≡ m.order → (row_at w.table i).participant ≡ m.participant → (row_at w.table i).side ≡ side_code side →
      Arrives w (amend m) (Ok (received r)) (arriver (row_at w.table i).product side m.price m.order m.participant)
