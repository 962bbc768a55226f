-- What becomes of an arriving order. Assumes nothing.
use Rattle.std.specs.Prelude.{◌≡◌, ℕ, ◌+◌, ◌≤◌, Bool, true, false, cond, not, ◌&&◌, ◌||◌, List, [], ◌++◌, map, length, Ok, Err, sum_by, Result, ◌==◌, nat_le}
use Rattle.orders.specs.declared.row.OrderRow.{OrderRow}
use Rattle.tape.specs.Tapes.{latest}
use Rattle.tape.specs.declared.row.TradeRow.{TradeRow}
use Rattle.terms.specs.Checked.{lots_left}
use Rattle.terms.specs.declared.refusal.Refusal.{Refusal}
use Rattle.terms.specs.declared.refusal.Refusal.TheVariants.{TapeFull}
use Rattle.book.specs.Walks.{Fill, Walk, filled, trade_by}
use Rattle.book.specs.declared.arriving.Arriving.{Arriving}
use Rattle.book.specs.declared.outcome.Swept.{Swept}

abbrev pub killed : Walk
killed = record { fills = []; rest = 0; halted = false }

-- an order that must trade whole does so, or is killed
abbrev pub due : Bool → Walk → Walk
due whole w = cond (whole && not (w.rest == 0)) killed w

abbrev pub lots_filled : List Fill → ℕ
lots_filled fills = sum_by (λ f. f.quantity) fills

-- so many trades at this time go on a tape with this room
abbrev pub takes : ℕ → List TradeRow → ℕ → ℕ → Bool
takes space records time trades = trades == 0 || (nat_le trades space && nat_le (latest records) time)

-- each trade takes at most one place of the room, and nothing gives room back
abbrev pub RoomLeft : ℕ → ℕ → ℕ → Type 0
RoomLeft before trades after = (after ≤ before) × (before ≤ after + trades)

module _ {T : Type 0} (records : T → List TradeRow) (space : T → ℕ) where
  -- the fills are made, in the table and on the tape
  pub record Made (code : ℕ) (a : Arriving) (w : Walk) (table : List OrderRow) (tape : T) (answer : Swept) (table' : List OrderRow) (tape' : T) : Type 0 where
    pub fits : takes (space tape) (records tape) a.order.time (length w.fills) ≡ true
    pub reduced : table' ≡ filled w.fills table
    pub written : records tape' ≡ records tape ++ map (trade_by code a) w.fills
    pub traded : answer.traded ≡ lots_filled w.fills
    pub rest : lots_left answer.rest ≡ w.rest
    pub trades : answer.trades ≡ length w.fills
    pub halted : answer.halted ≡ w.halted

  -- the tape does not take them: nothing is written
  pub record Unmade (a : Arriving) (w : Walk) (table : List OrderRow) (tape : T) (refusal : Refusal) (table' : List OrderRow) (tape' : T) : Type 0 where
    pub full : takes (space tape) (records tape) a.order.time (length w.fills) ≡ false
    pub told : refusal ≡ TapeFull (length w.fills)
    pub same_table : table' ≡ table
    pub same_tape : tape' ≡ tape

  abbrev pub Sweeps : ℕ → Arriving → Walk → List OrderRow → T → Result Swept Refusal → List OrderRow → T → Type 0
  Sweeps code a w table tape (Ok answer) table' tape' = Made code a w table tape answer table' tape'
  Sweeps code a w table tape (Err refusal) table' tape' = Unmade a w table tape refusal table' tape'

-- how many trades an answer tells; a refusal tells none
abbrev pub trades_told : Result Swept Refusal → ℕ
trades_told (Ok answer) = answer.trades
trades_told (Err refusal) = 0
