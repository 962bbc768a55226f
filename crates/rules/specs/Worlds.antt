-- What a call finds and leaves: the market's state and products, its pricing model, the order table and the tape. Assumes nothing.
use Rattle.std.specs.Prelude.{ℕ, Bool, true, false, not, ◌&&◌, ◌||◌, List}
use Rattle.established.specs.Established.{moment}
use Rattle.rules.specs.Worth.{established}
use Rattle.limits.specs.declared.range.Range.{Range}
use Rattle.listing.specs.Changes.{Contents}
use Rattle.listing.specs.Questions.{range_of, sweep_of}
use Rattle.rules.specs.Held.{product_in}
use Rattle.listing.specs.declared.product.Product.{Product}
use Rattle.orders.specs.Questions.{best_facing}
use Rattle.orders.specs.declared.row.OrderRow.{OrderRow}
use Rattle.tape.specs.declared.row.TradeRow.{TradeRow}
use Rattle.terms.specs.declared.phase.Phase.{Phase}
use Rattle.terms.specs.declared.phase.Phase.TheVariants.{Closed, BeforeNight, NightSession, BeforeDay, DaySession}
use Rattle.terms.specs.declared.price.Price.{Price}
use Rattle.terms.specs.declared.right.Right.{Right}
use Rattle.terms.specs.declared.side.Side.{Side}
use Rattle.rules.specs.declared.state.State.{State}

pub record World : Type 0 where
  pub state : State
  pub products : Contents
  -- what the pricing model tells
  pub tells : Right → ℕ → ℕ → ℕ
  pub table : List OrderRow
  pub tape : List TradeRow
  -- how many more records the tape takes
  pub room : ℕ

abbrev pub world : State → Contents → (Right → ℕ → ℕ → ℕ) → List OrderRow → List TradeRow → ℕ → World
world state products tells table tape room =
    record { state = state; products = products; tells = tells; table = table; tape = tape; room = room }

abbrev pub state_of : Phase → ℕ → ℕ → ℕ → Bool → State
state_of phase day time stamp halted = record { phase = phase; day = day; time = time; stamp = stamp; halted = halted }

-- the same at a later time
abbrev pub at_time : ℕ → State → State
at_time time s = state_of s.phase s.day time s.stamp s.halted

abbrev pub in_phase : Phase → ℕ → State → State
in_phase phase time s = state_of phase s.day time s.stamp s.halted

abbrev pub in_session : Phase → Bool
in_session Closed = false
in_session BeforeNight = false
in_session NightSession = true
in_session BeforeDay = false
in_session DaySession = true

abbrev pub before_session : Phase → Bool
before_session Closed = false
before_session BeforeNight = true
before_session NightSession = false
before_session BeforeDay = true
before_session DaySession = false

abbrev pub is_closed : Phase → Bool
is_closed Closed = true
is_closed BeforeNight = false
is_closed NightSession = false
is_closed BeforeDay = false
is_closed DaySession = false

abbrev pub ends_day : Phase → Bool
ends_day Closed = false
ends_day BeforeNight = false
ends_day NightSession = false
ends_day BeforeDay = false
ends_day DaySession = true

-- the day's phases in their order
abbrev pub next_phase : Phase → Phase
next_phase Closed = BeforeNight
next_phase BeforeNight = NightSession
next_phase NightSession = BeforeDay
next_phase BeforeDay = DaySession
next_phase DaySession = Closed

abbrev pub product_of : World → ℕ → Product
product_of w n = product_in w.products n

-- by a future the whole market, by an option itself
abbrev pub is_halted : World → ℕ → Bool
is_halted w n = w.state.halted || (product_of w n).halted

-- a session, and no halt
abbrev pub is_open : World → ℕ → Bool
is_open w n = in_session w.state.phase && not (is_halted w n)

abbrev pub range_in : World → ℕ → Range
range_in w n = range_of (product_of w n)

abbrev pub sweep_in : World → Side → ℕ → Price
sweep_in w side n = sweep_of side (best_facing side n w.table) (product_of w n)

-- the established market price at a time, from tape and book as they stand
abbrev pub established_in : World → ℕ → ℕ → ℕ
established_in w time n = established w.products (moment w.table w.tape w.state.day time) w.tells n
