-- An order comes back to its book at a new price: what stops it, and what becomes of it. Assumes nothing.
use Rattle.std.specs.Prelude.{◌≡◌, ℕ, ◌+◌, Bool, List, [], ◌∷◌, ◌++◌, map, length, Some, None, Ok, Err, Option, Result, nat_le, nat_lt, slice_set}
use Rattle.limits.specs.declared.range.Range.{Range}
use Rattle.orders.specs.Orders.{come_back_row}
use Rattle.orders.specs.Queue.{higher_first, lower_first}
use Rattle.orders.specs.Rows.{free}
use Rattle.orders.specs.declared.row.OrderRow.{OrderRow}
use Rattle.tape.specs.declared.row.TradeRow.{TradeRow}
use Rattle.terms.specs.Checked.{lots_left}
use Rattle.terms.specs.Checks.{unless, earliest}
use Rattle.terms.specs.Stamps.{last_stamp}
use Rattle.terms.specs.declared.refusal.Refusal.{Refusal}
use Rattle.terms.specs.declared.refusal.Refusal.TheVariants.{TapeFull, Exhausted}
use Rattle.terms.specs.declared.side.Side.{Side}
use Rattle.terms.specs.declared.side.Side.TheVariants.{Buy, Sell}
use Rattle.book.specs.Entries.{settled}
use Rattle.book.specs.Sweeps.{takes, lots_filled, RoomLeft}
use Rattle.book.specs.Walks.{matching, filled, trade_by}
use Rattle.book.specs.declared.arriving.Arriving.{Arriving}
use Rattle.book.specs.declared.outcome.Swept.{Swept}

-- the tape does not take so many trades at this time; no stamp is left
abbrev pub arrival_checks : ℕ → ℕ → List TradeRow → ℕ → ℕ → List (Option Refusal)
arrival_checks stamp space records time trades =
    unless (takes space records time trades) (TapeFull trades)
    ∷ unless (nat_lt stamp last_stamp) Exhausted ∷ []

-- over the queue of a side, in its order
module _ (reaches : ℕ → ℕ → Bool) (code : ℕ) (first : OrderRow → OrderRow → Bool) {T : Type 0} (records : T → List TradeRow) (space : T → ℕ) where
  -- it trades, its old place is free, and what is left of it stands there again, behind in time
  pub record CameBack (stamp index : ℕ) (row : OrderRow) (a : Arriving) (range : Range) (table : List OrderRow) (tape : T) (answer : Swept) (table' : List OrderRow) (tape' : T) : Type 0 where
    pub traded : answer.traded ≡ lots_filled (matching reaches code first a.order range table).fills
    pub rest : lots_left answer.rest ≡ (matching reaches code first a.order range table).rest
    pub trades : answer.trades ≡ length (matching reaches code first a.order range table).fills
    pub halted : answer.halted ≡ (matching reaches code first a.order range table).halted
    pub written : records tape' ≡ records tape ++ map (trade_by code a) (matching reaches code first a.order range table).fills
    pub room : RoomLeft (space tape) (length (matching reaches code first a.order range table).fills) (space tape')
    pub reduced : table' ≡ settled (come_back_row row (stamp + 1) a.order.limit.ticks) index (matching reaches code first a.order range table).rest (slice_set (filled (matching reaches code first a.order range table).fills table) index free)

  -- the earliest check that fails, with nothing changed; else the order comes back
  abbrev pub ComesBack : ℕ → ℕ → OrderRow → Arriving → Range → List OrderRow → T → Result Swept Refusal → List OrderRow → T → Type 0
  ComesBack stamp index row a range table tape (Ok answer) table' tape' =
      (earliest (arrival_checks stamp (space tape) (records tape) a.order.time (length (matching reaches code first a.order range table).fills)) ≡ None) × CameBack stamp index row a range table tape answer table' tape'
  ComesBack stamp index row a range table tape (Err refusal) table' tape' =
      (earliest (arrival_checks stamp (space tape) (records tape) a.order.time (length (matching reaches code first a.order range table).fills)) ≡ Some refusal) × (table' ≡ table) × (tape' ≡ tape)

-- a buy meets the sells, a sell the buys
abbrev pub ComesBackFrom : {T : Type 0} → (T → List TradeRow) → (T → ℕ) → ℕ → Side → ℕ → OrderRow → Arriving → Range → List OrderRow → T → Result Swept Refusal → List OrderRow → T → Type 0
ComesBackFrom records space stamp Buy = ComesBack (λ limit price. nat_le price limit) 1 lower_first records space stamp
ComesBackFrom records space stamp Sell = ComesBack (λ limit price. nat_le limit price) 0 higher_first records space stamp
