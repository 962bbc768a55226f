-- An order is entered: what stops it, and what becomes of it. Assumes nothing.
use Rattle.std.specs.Prelude.{◌≡◌, ℕ, ◌+◌, ◌<◌, Bool, false, cond, not, ◌||◌, List, [], ◌∷◌, ◌++◌, map, length, Some, None, Ok, Err, Option, Result, ◌==◌, nat_le, nat_lt, slice_index_or, slice_set}
use Rattle.limits.specs.declared.range.Range.{Range}
use Rattle.orders.specs.Queue.{counted, higher_first, lower_first}
use Rattle.orders.specs.Questions.{stands}
use Rattle.orders.specs.Rows.{free, side_code, duration_code, duration_date}
use Rattle.orders.specs.declared.row.OrderRow.{OrderRow}
use Rattle.tape.specs.declared.row.TradeRow.{TradeRow}
use Rattle.terms.specs.Checks.{unless, earliest}
use Rattle.terms.specs.Durations.{may_rest}
use Rattle.terms.specs.Stamps.{last_stamp, stamp_at}
use Rattle.terms.specs.declared.refusal.Refusal.{Refusal}
use Rattle.terms.specs.declared.refusal.Refusal.TheVariants.{NotListed, TableFull, TapeFull, Exhausted}
use Rattle.terms.specs.declared.side.Side.{Side}
use Rattle.terms.specs.declared.side.Side.TheVariants.{Buy, Sell}
use Rattle.book.specs.Sweeps.{due, takes, lots_filled}
use Rattle.book.specs.Walks.{Walk, matching, filled, trade_by}
use Rattle.book.specs.declared.arriving.Arriving.{Arriving}
use Rattle.book.specs.declared.incoming.Incoming.{Incoming}
use Rattle.book.specs.declared.outcome.Receipt.{Receipt}

-- the incoming order under its number
abbrev pub arriving_as : Incoming → ℕ → Arriving
arriving_as o number = record { number = stamp_at number; order = o }

-- what a place holds of it: its number is its place in time too
abbrev pub resting_row : Incoming → ℕ → ℕ → OrderRow
resting_row o number rest =
    record {
      number = number;
      place = number;
      product = o.product;
      side = side_code o.side;
      price = o.limit.ticks;
      rest = rest;
      participant = o.participant.number;
      duration = duration_code o.duration;
      date = duration_date o.duration;
      entered = o.day;
    }

abbrev pub any_free : ℕ → List OrderRow → Bool
any_free products [] = false
any_free products (r ∷ rows) = not (stands products r) || any_free products rows

-- a remainder rests at an index; none, nowhere
abbrev pub settled : (ℕ → OrderRow) → ℕ → ℕ → List OrderRow → List OrderRow
settled row i rest table = cond (rest == 0) table (slice_set table i (row rest))

-- some place that counted and was free before the order came; which one is open
pub record SomePlace (products : ℕ) (before : List OrderRow) (i : ℕ) : Type 0 where
  pub counts : i < length (counted before)
  pub was_free : stands products (slice_index_or before i free) ≡ false

-- over the queue of a side, in its order
module _ (reaches : ℕ → ℕ → Bool) (code : ℕ) (first : OrderRow → OrderRow → Bool) where
  -- the walk that will be made: an order for now trades whole or is killed
  abbrev pub planned : Incoming → Range → List OrderRow → Walk
  planned o range table = due (not (may_rest o.duration)) (matching reaches code first o range table)

  -- the product is not listed; no place is free; the tape does not take the trades; no stamp is left
  abbrev pub entry_checks : ℕ → ℕ → Incoming → Range → List OrderRow → List TradeRow → ℕ → List (Option Refusal)
  entry_checks products stamp o range table records space =
      unless (nat_lt o.product products) (NotListed o.product)
      ∷ unless (any_free products (counted table)) (TableFull (length (counted table)))
      ∷ unless (takes space records o.time (length (planned o range table).fills)) (TapeFull (length (planned o range table).fills))
      ∷ unless (nat_lt stamp last_stamp) Exhausted ∷ []

  module _ {T : Type 0} (records : T → List TradeRow) (space : T → ℕ) where
    pub record Accepted (products stamp : ℕ) (o : Incoming) (range : Range) (table : List OrderRow) (tape : T) (receipt : Receipt Bool) (table' : List OrderRow) (tape' : T) : Type 0 where
      pub number : receipt.number ≡ stamp + 1
      pub traded : receipt.traded ≡ lots_filled (planned o range table).fills
      pub rest : receipt.rest ≡ (planned o range table).rest
      pub trades : receipt.trades ≡ length (planned o range table).fills
      pub halted : receipt.halt ≡ (planned o range table).halted
      pub written : records tape' ≡ records tape ++ map (trade_by code (arriving_as o (stamp + 1))) (planned o range table).fills
      pub place : ℕ
      pub free_before : SomePlace products table place
      pub reduced : table' ≡ settled (resting_row o (stamp + 1)) place receipt.rest (filled (planned o range table).fills table)

    -- the earliest check that fails, with nothing changed; else the order is entered
    abbrev pub Enters : ℕ → ℕ → Incoming → Range → List OrderRow → T → Result (Receipt Bool) Refusal → List OrderRow → T → Type 0
    Enters products stamp o range table tape (Ok receipt) table' tape' =
        (earliest (entry_checks products stamp o range table (records tape) (space tape)) ≡ None) × Accepted products stamp o range table tape receipt table' tape'
    Enters products stamp o range table tape (Err refusal) table' tape' =
        (earliest (entry_checks products stamp o range table (records tape) (space tape)) ≡ Some refusal) × (table' ≡ table) × (tape' ≡ tape)

-- a buy meets the sells, a sell the buys
abbrev pub EntersFrom : {T : Type 0} → (T → List TradeRow) → (T → ℕ) → ℕ → ℕ → Side → Incoming → Range → List OrderRow → T → Result (Receipt Bool) Refusal → List OrderRow → T → Type 0
EntersFrom records space products stamp Buy = Enters (λ limit price. nat_le price limit) 1 lower_first records space products stamp
EntersFrom records space products stamp Sell = Enters (λ limit price. nat_le limit price) 0 higher_first records space products stamp

-- how many trades an entry tells; a refusal tells none
abbrev pub trades_entered : Result (Receipt Bool) Refusal → ℕ
trades_entered (Ok receipt) = receipt.trades
trades_entered (Err refusal) = 0
