-- Law A: each trade was made as the rules ask, by just one call; and an open product is not crossed. Assumes nothing.
use Rattle.std.specs.Prelude.{◌≡◌, ℕ, ◌+◌, ◌≤◌, Bool, true, ◌&&◌, length, nat_le, nat_lt}
use Rattle.tape.specs.Tapes.{on_tape, record_at}
use Rattle.tape.specs.declared.row.TradeRow.{TradeRow}
use Rattle.terms.specs.Sides.{opposite}
use Rattle.rules.specs.Arrivals.{by_side}
use Rattle.rules.specs.Worlds.{World, product_of, established_in}
use Rattle.laws.specs.Arriving.{Open, InForce, Anchor, Sweeps, Arriver, Arrives}
use Rattle.laws.specs.Book.{row_at, waits, Before, Uncrossed}
use Rattle.laws.specs.Histories.{Event, History}
use Rattle.laws.specs.Words.{count, Each}

-- the event put the record of this number on the tape
abbrev pub puts : ℕ → Event → Bool
puts k e = nat_lt (length e.before.tape) k && nat_le k (length e.after.tape)

-- the record t is of a match that the event made as the rules ask, on what it found
pub record WellMade (e : Event) (t : TradeRow) : Type 0 where
  -- the order that arrived
  pub who : Arriver
  pub arrives : Arrives e.before e.call e.answer who
  pub product : t.product ≡ who.product
  pub was_open : Open e.before who.product
  -- the order that waited
  pub place : ℕ
  pub waited : waits (opposite who.side) who.product (row_at e.before.table place) ≡ true
  pub the_buy : t.buy ≡ by_side who.side who.number (row_at e.before.table place).number
  pub the_sell : t.sell ≡ by_side who.side (row_at e.before.table place).number who.number
  pub the_buyer : t.buyer ≡ by_side who.side who.participant (row_at e.before.table place).participant
  pub the_seller : t.seller ≡ by_side who.side (row_at e.before.table place).participant who.participant
  -- both prices
  pub not_above_the_buy : t.price ≤ by_side who.side who.price (row_at e.before.table place).price
  pub not_below_the_sell : by_side who.side (row_at e.before.table place).price who.price ≤ t.price
  -- the tradeable range
  pub daily : ℕ
  pub in_force : InForce (product_of e.before who.product) daily
  pub not_below_the_range : (product_of e.before who.product).reference ≤ t.price + daily
  pub not_above_the_range : t.price ≤ (product_of e.before who.product).reference + daily
  -- the sweep price of the order that arrived
  pub swept_from : ℕ
  pub anchor : Anchor e.before who.side who.product swept_from
  pub within_the_sweep : Sweeps who.side swept_from (product_of e.before who.product).listed.sweep t.price
  -- who was ahead of the order that it traded with has nothing left
  pub in_turn : (i : ℕ) → waits (opposite who.side) who.product (row_at e.before.table i) ≡ true →
      Before (opposite who.side) (row_at e.before.table i) (row_at e.before.table place) → (row_at e.after.table i).rest ≡ 0
  -- what it was written with
  pub at_the_time : t.time ≡ e.time
  pub on_the_day : t.day ≡ e.before.state.day
  pub market_price : t.established ≡ established_in e.before e.time who.product
  pub no_bust : t.no_bust ≡ (product_of e.before who.product).listed.no_bust

pub record TradedWell (h : History) (w : World) : Type 0 where
  pub put_once : (k : ℕ) → on_tape w.tape k ≡ true → count (puts k) h ≡ 1
  pub well_made : (k : ℕ) → Each (λ e. puts k e ≡ true → WellMade e (record_at w.tape k)) h
  -- in an open product all buys are below all sells
  pub uncrossed : (n : ℕ) → Open w n → Uncrossed n w.table
