-- Law B: no quantity of an order is lost, and none comes from nowhere. Assumes nothing.
use Rattle.std.specs.Prelude.{◌≡◌, ℕ, ◌+◌, ◌-◌, Bool, true, cond, not, ◌&&◌, Ok, Err, Result, ◌==◌, ◌≢◌, nat_le}
use Rattle.orders.specs.Queue.{counted}
use Rattle.orders.specs.declared.row.OrderRow.{OrderRow}
use Rattle.tape.specs.declared.row.TradeRow.{TradeRow}
use Rattle.terms.specs.Durations.{may_rest}
use Rattle.terms.specs.declared.refusal.Refusal.{Refusal}
use Rattle.rules.specs.Calls.{Call, Answer}
use Rattle.rules.specs.Calls.{roll, open_session, close_session, enter, amend, withdraw, adjust, frenetic, resume, request, determine}
use Rattle.rules.specs.Calls.{done, removed, received, left_with, case_on}
use Rattle.rules.specs.Worlds.{World, ends_day}
use Rattle.laws.specs.Book.{resting, rest_of}
use Rattle.laws.specs.Histories.{History, is_accepted}
use Rattle.laws.specs.Words.{total, only, Each}

-- the number that an order was given or has, as it was answered; no order has number 0
abbrev pub number_told : Result Answer Refusal → ℕ
number_told (Err refusal) = 0
number_told (Ok done) = 0
number_told (Ok (removed orders)) = 0
number_told (Ok (received r)) = r.number
number_told (Ok (left_with quantity)) = 0
number_told (Ok (case_on trade)) = 0

-- how much of it traded, as it was answered
abbrev pub traded_told : Result Answer Refusal → ℕ
traded_told (Err refusal) = 0
traded_told (Ok done) = 0
traded_told (Ok (removed orders)) = 0
traded_told (Ok (received r)) = r.traded
traded_told (Ok (left_with quantity)) = 0
traded_told (Ok (case_on trade)) = 0

-- an order that rests has to leave at this close: one for the session always; at the end of the day one for the day,
-- one whose date has come, and one until cancelled that has stayed as long as the market's day limit
abbrev pub has_to_leave : World → OrderRow → Bool
has_to_leave w r =
    cond (r.duration == 1) true
    (ends_day w.state.phase
    && cond (r.duration == 2) true
    (cond (r.duration == 3) (nat_le r.date w.state.day) (nat_le (r.entered + w.products.limit) (w.state.day + 1))))

-- what a call did with the order of a number, in what it found

-- it was entered with this much
abbrev pub entered_by : ℕ → World → Result Answer Refusal → Call → ℕ
entered_by n w a (roll prices) = 0
entered_by n w a open_session = 0
entered_by n w a close_session = 0
entered_by n w a (enter o) = only (number_told a == n) o.quantity
entered_by n w a (amend m) = 0
entered_by n w a (withdraw participant number) = 0
entered_by n w a (adjust product price) = 0
entered_by n w a (frenetic product ticks) = 0
entered_by n w a resume = 0
entered_by n w a (request participant trade) = 0
entered_by n w a (determine trade verdict) = 0

-- it was increased by this much
abbrev pub increased_by : ℕ → World → Result Answer Refusal → Call → ℕ
increased_by n w a (roll prices) = 0
increased_by n w a open_session = 0
increased_by n w a close_session = 0
increased_by n w a (enter o) = 0
increased_by n w a (amend m) = only (m.order == n) (m.quantity - resting n w.table)
increased_by n w a (withdraw participant number) = 0
increased_by n w a (adjust product price) = 0
increased_by n w a (frenetic product ticks) = 0
increased_by n w a resume = 0
increased_by n w a (request participant trade) = 0
increased_by n w a (determine trade verdict) = 0

-- it was decreased by this much
abbrev pub decreased_by : ℕ → World → Result Answer Refusal → Call → ℕ
decreased_by n w a (roll prices) = 0
decreased_by n w a open_session = 0
decreased_by n w a close_session = 0
decreased_by n w a (enter o) = 0
decreased_by n w a (amend m) = only (m.order == n) (resting n w.table - m.quantity)
decreased_by n w a (withdraw participant number) = 0
decreased_by n w a (adjust product price) = 0
decreased_by n w a (frenetic product ticks) = 0
decreased_by n w a resume = 0
decreased_by n w a (request participant trade) = 0
decreased_by n w a (determine trade verdict) = 0

-- it left with this much: killed, withdrawn, or removed by the close that had to
abbrev pub left_by : ℕ → World → Result Answer Refusal → Call → ℕ
left_by n w a (roll prices) = 0
left_by n w a open_session = 0
left_by n w a close_session = total (λ r. only (has_to_leave w r) (rest_of n r)) (counted w.table)
left_by n w a (enter o) = only (number_told a == n) (only (not (may_rest o.duration) && traded_told a == 0) o.quantity)
left_by n w a (amend m) = 0
left_by n w a (withdraw participant number) = only (number == n) (resting n w.table)
left_by n w a (adjust product price) = 0
left_by n w a (frenetic product ticks) = 0
left_by n w a resume = 0
left_by n w a (request participant trade) = 0
left_by n w a (determine trade verdict) = 0

-- over the accepted calls of a history
abbrev pub in_all : (World → Result Answer Refusal → Call → ℕ) → History → ℕ
in_all f h = total (λ e. only (is_accepted e.answer) (f e.before e.answer e.call)) h

-- the quantity that a record has of the order of a number, whatever its mark
abbrev pub quantity_of : ℕ → TradeRow → ℕ
quantity_of n t = only (t.buy == n) t.quantity + only (t.sell == n) t.quantity

abbrev pub Conserved : History → World → Type 0
Conserved h w =
    (n : ℕ) →
    in_all (entered_by n) h + in_all (increased_by n) h
    ≡ in_all (decreased_by n) h + total (quantity_of n) w.tape + resting n w.table + in_all (left_by n) h

-- nobody trades with itself, so that no record counts twice for one order
abbrev pub TwoOrders : World → Type 0
TwoOrders w = Each (λ t. t.buy ≢ t.sell) w.tape
