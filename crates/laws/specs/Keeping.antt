-- The keeping law: what rests is what was entered or last amended, in the place in time that it then took; and each
-- accepted call is answered by what it did. Assumes nothing.
use Rattle.std.specs.Prelude.{◌≡◌, ℕ, ◌<◌, ◌≤◌, Bool, true, false, ◌&&◌, List, [], ◌∷◌, length, drop, Ok, Err, Result, ◌≢◌, nat_lt}
use Rattle.orders.specs.Queue.{counted}
use Rattle.orders.specs.Rows.{side_code, duration_code, duration_date}
use Rattle.orders.specs.declared.row.OrderRow.{OrderRow}
use Rattle.tape.specs.declared.row.TradeRow.{TradeRow}
use Rattle.terms.specs.declared.determination.Determination.{Determination}
use Rattle.terms.specs.declared.refusal.Refusal.{Refusal}
use Rattle.rules.specs.Calls.{Call, Answer}
use Rattle.rules.specs.Calls.{roll, open_session, close_session, enter, amend, withdraw, adjust, frenetic, resume, request, determine}
use Rattle.rules.specs.Calls.{done, removed, received, left_with, case_on}
use Rattle.rules.specs.Worlds.{World}
use Rattle.rules.specs.declared.amendment.Amendment.{Amendment}
use Rattle.rules.specs.declared.new_order.NewOrder.{NewOrder}
use Rattle.rules.specs.Receipts.{Receipt}
use Rattle.laws.specs.Arriving.{OwnPrice}
use Rattle.laws.specs.Book.{row_at, resting}
use Rattle.laws.specs.Histories.{Event, History, is_accepted}
use Rattle.laws.specs.Quantities.{has_to_leave, number_told}
use Rattle.laws.specs.Words.{total, count, Each}

-- no place in time is later than the last that was given
abbrev pub Placed : World → Type 0
Placed w = (i : ℕ) → (row_at w.table i).place ≤ w.state.stamp

-- later than every order of the table
abbrev pub Last : World → OrderRow → Type 0
Last w new = (j : ℕ) → (row_at w.table j).place < new.place

-- it is as it was, but for what it may have traded
pub record Stayed (old new : OrderRow) : Type 0 where
  pub number : new.number ≡ old.number
  pub place : new.place ≡ old.place
  pub product : new.product ≡ old.product
  pub side : new.side ≡ old.side
  pub price : new.price ≡ old.price
  pub rest : new.rest ≤ old.rest
  pub participant : new.participant ≡ old.participant
  pub duration : new.duration ≡ old.duration
  pub date : new.date ≡ old.date
  pub entered : new.entered ≡ old.entered

-- it is the order that was entered, under a number of its own and behind every other
pub record Came (w : World) (o : NewOrder) (r : Receipt) (new : OrderRow) : Type 0 where
  pub number : new.number ≡ r.number
  pub new_number : (j : ℕ) → (row_at w.table j).number < new.number
  pub place : Last w new
  pub product : new.product ≡ o.product
  pub side : new.side ≡ side_code o.side
  pub price : OwnPrice w o o.limit new.price
  pub rest : new.rest ≡ r.rest
  pub participant : new.participant ≡ o.participant
  pub duration : new.duration ≡ duration_code o.duration
  pub date : new.date ≡ duration_date o.duration
  pub entered : new.entered ≡ w.state.day

-- it is the order that was amended: it keeps its place where its price is the same and its quantity not larger than
-- what it had left, and else it is behind every other
pub record Changed (w : World) (m : Amendment) (r : Receipt) (old new : OrderRow) : Type 0 where
  pub rested : 0 < old.rest
  pub old_number : old.number ≡ m.order
  pub owner : old.participant ≡ m.participant
  pub number : new.number ≡ m.order
  pub keeps_place : old.price ≡ m.price → m.quantity ≤ old.rest → new.place ≡ old.place
  pub new_price : (old.price ≢ m.price) → Last w new
  pub larger : old.rest < m.quantity → Last w new
  pub product : new.product ≡ old.product
  pub side : new.side ≡ old.side
  pub price : new.price ≡ m.price
  pub rest : new.rest ≡ r.rest
  pub participant : new.participant ≡ old.participant
  pub duration : new.duration ≡ old.duration
  pub date : new.date ≡ old.date
  pub entered : new.entered ≡ old.entered

-- where an order that rests has come from: it is not the one that the answer tells of, and stayed; or it is
pub data ComesFrom (w : World) (i : ℕ) (new : OrderRow) : Call → Answer → Type 0 where
  stayed : (c : Call) (a : Answer) → (new.number ≡ number_told (Ok a) → ⊥) → Stayed (row_at w.table i) new → ComesFrom w i new c a
  came : (o : NewOrder) (r : Receipt) → Came w o r new → ComesFrom w i new (enter o) (received r)
  changed : (m : Amendment) (r : Receipt) (j : ℕ) → Changed w m r (row_at w.table j) new → ComesFrom w i new (amend m) (received r)

-- a refused call leaves every row as it was
abbrev pub Kept : Event → Result Answer Refusal → Type 0
Kept e (Err refusal) = (i : ℕ) → row_at e.after.table i ≡ row_at e.before.table i
Kept e (Ok a) = (i : ℕ) → 0 < (row_at e.after.table i).rest → ComesFrom e.before i (row_at e.after.table i) e.call a

abbrev pub RowsKept : Event → Type 0
RowsKept e = Kept e e.answer

-- the records that an event put on the tape
abbrev pub put : Event → List TradeRow
put e = drop (length e.before.tape) e.after.tape

-- of how many trades, of how much, and how much rests then
pub record Receives (e : Event) (r : Receipt) : Type 0 where
  pub traded : r.traded ≡ total (λ t. t.quantity) (put e)
  pub trades : r.trades ≡ length (put e)
  pub rest : r.rest ≡ resting r.number e.after.table

-- how many orders rest that have to leave
abbrev pub leavers : World → ℕ
leavers w = count (λ r. nat_lt 0 r.rest && has_to_leave w r) (counted w.table)

-- what each call is answered
pub data Told (e : Event) : Call → Answer → Type 0 where
  of_roll : (prices : List ℕ) → Told e (roll prices) done
  of_opening : Told e open_session done
  of_close : (orders : ℕ) → orders ≡ leavers e.before → Told e close_session (removed orders)
  of_entry : (o : NewOrder) (r : Receipt) → Receives e r → Told e (enter o) (received r)
  of_amendment : (m : Amendment) (r : Receipt) → r.number ≡ m.order → Receives e r → Told e (amend m) (received r)
  of_withdrawal : (participant number quantity : ℕ) → quantity ≡ resting number e.before.table → Told e (withdraw participant number) (left_with quantity)
  of_adjustment : (n price : ℕ) → Told e (adjust n price) done
  of_frenetic : (n ticks : ℕ) → Told e (frenetic n ticks) done
  of_resumption : Told e resume done
  of_request : (participant n : ℕ) → Told e (request participant n) (case_on n)
  of_determination : (n : ℕ) (verdict : Determination) → Told e (determine n verdict) done

abbrev pub ToldSo : Event → Result Answer Refusal → Type 0
ToldSo e (Err refusal) = Unit {0}
ToldSo e (Ok a) = Told e e.call a

abbrev pub ToldRightly : Event → Type 0
ToldRightly e = ToldSo e e.answer

abbrev pub is_entry : Call → Bool
is_entry (roll prices) = false
is_entry open_session = false
is_entry close_session = false
is_entry (enter o) = true
is_entry (amend m) = false
is_entry (withdraw participant number) = false
is_entry (adjust n price) = false
is_entry (frenetic n ticks) = false
is_entry resume = false
is_entry (request participant n) = false
is_entry (determine n verdict) = false

-- the number of an entered order is above all that were told before, so that no two orders ever have one
abbrev pub RisingNumbers : History → Type 0
RisingNumbers [] = Unit {0}
RisingNumbers (e ∷ h) =
    ((is_entry e.call && is_accepted e.answer) ≡ true → Each (λ f. number_told f.answer < number_told e.answer) h) × RisingNumbers h
