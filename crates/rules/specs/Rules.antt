-- The rule of every call: refused, with everything as it was; or accepted, with what stands after it. Assumes nothing.
use Rattle.std.specs.Prelude.{◌≡◌, ℕ, ◌+◌, ◌-◌, false, List, length, Some, None, Ok, Err, Result, slice_set}
use Rattle.book.specs.Entries.{SomePlace}
use Rattle.book.specs.Sweeps.{RoomLeft}
use Rattle.listing.specs.Changes.{with_reference, with_frenetic, Contents}
use Rattle.rules.specs.Held.{with_product, without_halts, with_settlements}
use Rattle.orders.specs.Closes.{expired, removed as leaving}
use Rattle.orders.specs.declared.close.Close.{Close}
use Rattle.orders.specs.declared.row.OrderRow.{OrderRow}
use Rattle.tape.specs.Tapes.{record_at, marked}
use Rattle.terms.specs.Determinations.{mark_by}
use Rattle.terms.specs.declared.mark.Mark.{Mark}
use Rattle.terms.specs.declared.mark.Mark.TheVariants.{Considered}
use Rattle.terms.specs.declared.phase.Phase.TheVariants.{BeforeNight}
use Rattle.terms.specs.declared.refusal.Refusal.{Refusal}
use Rattle.rules.specs.Amending.{order_in, after_amendment, amended_receipt, amended_fills, after_withdrawal}
use Rattle.rules.specs.Arrivals.{met, receipt_for}
use Rattle.rules.specs.Calls.{Call, Answer, roll, open_session, close_session, enter, amend, withdraw, adjust, frenetic, resume, request, determine, done, removed, received, left_with, case_on}
use Rattle.rules.specs.Entering.{entry, after_entry}
use Rattle.rules.specs.Refusing.{fault}
use Rattle.rules.specs.Worlds.{World, world, state_of, at_time, in_phase, ends_day, next_phase, product_of}

-- other products, at a time
abbrev pub with_contents : World → ℕ → Contents → World
with_contents w time products = world (at_time time w.state) products w.tells w.table w.tape w.room

-- another mark on a trade, at a time
abbrev pub with_mark_on : World → ℕ → ℕ → Mark → World
with_mark_on w time n mark =
    world (at_time time w.state) w.products w.tells w.table
    (slice_set w.tape (n - 1) (marked mark (record_at w.tape n))) w.room

abbrev pub close_in : World → Close
close_in w = record { day_ends = ends_day w.state.phase; day = w.state.day; limit = w.products.limit }

abbrev pub after_roll : World → ℕ → List ℕ → World
after_roll w time prices =
    world (state_of BeforeNight (w.state.day + 1) time w.state.stamp w.state.halted)
    (with_settlements w.products prices) w.tells w.table w.tape w.room

-- the next phase, and what the table holds then
abbrev pub turned : World → ℕ → List OrderRow → World
turned w time table =
    world (in_phase (next_phase w.state.phase) time w.state) w.products w.tells table w.tape w.room

abbrev pub after_resumption : World → ℕ → World
after_resumption w time =
    world (state_of w.state.phase w.state.day time w.state.stamp false)
    (without_halts w.products) w.tells w.table w.tape w.room

-- what stands after an accepted call; the place and the room are open to an entry, the room to an amendment
abbrev pub after : World → ℕ → Call → ℕ → ℕ → World
after w time (roll prices) place room = after_roll w time prices
after w time open_session place room = turned w time w.table
after w time close_session place room = turned w time (expired w.products.count (close_in w) w.table)
after w time (enter o) place room = after_entry w time o place room
after w time (amend m) place room = after_amendment w m time room
after w time (withdraw participant number) place room = after_withdrawal w time number
after w time (adjust n price) place room =
    with_contents w time (with_product w.products n (with_reference price (length w.tape) (product_of w n)))
after w time (frenetic n ticks) place room = with_contents w time (with_product w.products n (with_frenetic ticks (product_of w n)))
after w time resume place room = after_resumption w time
after w time (request participant n) place room = with_mark_on w time n Considered
after w time (determine n verdict) place room = with_mark_on w time n (mark_by verdict)

abbrev pub answer : World → ℕ → Call → Answer
answer w time (roll prices) = done
answer w time open_session = done
answer w time close_session = removed (leaving w.products.count (close_in w) w.table)
answer w time (enter o) = received (receipt_for w (entry w time o))
answer w time (amend m) = received (amended_receipt w m time)
answer w time (withdraw participant number) = left_with (order_in w number).rest
answer w time (adjust n price) = done
answer w time (frenetic n ticks) = done
answer w time resume = done
answer w time (request participant n) = case_on n
answer w time (determine n verdict) = done

-- how far the open choices go: a place that counts and was free, and room for each trade
abbrev pub Chosen : World → ℕ → Call → ℕ → ℕ → Type 0
Chosen w time (roll prices) place room = Unit {0}
Chosen w time open_session place room = Unit {0}
Chosen w time close_session place room = Unit {0}
Chosen w time (enter o) place room =
    SomePlace w.products.count w.table place × RoomLeft w.room (length (met w (entry w time o)).fills) room
Chosen w time (amend m) place room = RoomLeft w.room (length (amended_fills w m time)) room
Chosen w time (withdraw participant number) place room = Unit {0}
Chosen w time (adjust n price) place room = Unit {0}
Chosen w time (frenetic n ticks) place room = Unit {0}
Chosen w time resume place room = Unit {0}
Chosen w time (request participant n) place room = Unit {0}
Chosen w time (determine n verdict) place room = Unit {0}

pub data Step (w : World) (time : ℕ) (c : Call) : Result Answer Refusal → World → Type 0 where
  refuses : (refusal : Refusal) → fault w time c ≡ Some refusal → Step w time c (Err refusal) w
  accepts : (place room : ℕ) → fault w time c ≡ None → Chosen w time c place room → Step w time c (Ok (answer w time c)) (after w time c place room)
