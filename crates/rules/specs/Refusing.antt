-- What each call is refused for, in the order in which it is tested. Assumes nothing.
use Rattle.std.specs.Prelude.{ℕ, ◌+◌, ◌-◌, Bool, true, false, not, ◌&&◌, ◌||◌, List, [], ◌∷◌, map, length, Some, None, Option, ◌==◌, nat_le, nat_lt}
use Rattle.std.specs.List.{range_with_len}
use Rattle.std.specs.Option.{option_map, unwrap_or}
use Rattle.book.specs.Entries.{any_free}
use Rattle.terms.specs.Stamps.{last_stamp}
use Rattle.book.specs.Sweeps.{takes}
use Rattle.established.specs.Verdicts.{verdict_on}
use Rattle.limits.specs.Sweeps.{limit_held as held_to_sweep}
use Rattle.listing.specs.Changes.{frenetic_check}
use Rattle.rules.specs.Held.{settle_check, products_of, listed_check}
use Rattle.listing.specs.Questions.{any_halted}
use Rattle.orders.specs.Queue.{counted}
use Rattle.orders.specs.Questions.{best_buy, best_sell, crosses}
use Rattle.orders.specs.declared.row.OrderRow.{OrderRow}
use Rattle.tape.specs.Tapes.{on_tape, record_at}
use Rattle.tape.specs.declared.row.TradeRow.{TradeRow}
use Rattle.terms.specs.Checked.{price_at}
use Rattle.terms.specs.Checks.{unless, earliest}
use Rattle.terms.specs.Numbers.{mark_of}
use Rattle.terms.specs.Ranges.{highest_price, largest_quantity, last_participant}
use Rattle.terms.specs.declared.duration.Duration.{Duration}
use Rattle.terms.specs.declared.duration.Duration.TheVariants.{Now, Session, Day, Until, UntilCancelled}
use Rattle.terms.specs.declared.field.Field.TheVariants.{Price as the_price, Quantity as the_quantity, Participant as the_participant, Date as the_date}
use Rattle.terms.specs.declared.mark.Mark.{Mark}
use Rattle.terms.specs.declared.mark.Mark.TheVariants.{Stands}
use Rattle.terms.specs.declared.price.Price.{Price}
use Rattle.terms.specs.declared.refusal.Refusal.{Refusal}
use Rattle.terms.specs.declared.refusal.Refusal.TheVariants.{TimeFell, WrongPhase, OutOfRange, Halted, NotResting, TableFull, TapeFull, Exhausted, NothingHalted, Crossed, Missing, NoSide, Marked, TooLate, NoBust, NotConsidered}
use Rattle.terms.specs.declared.side.Side.{Side}
use Rattle.terms.specs.declared.verdict.Verdict.{Verdict}
use Rattle.terms.specs.declared.verdict.Verdict.TheVariants.{Within, Beyond}
use Rattle.rules.specs.Amending.{rests_for, order_in, side_in, new_price, takes_stamp, amended_fills}
use Rattle.rules.specs.Arrivals.{met}
use Rattle.rules.specs.Calls.{Call, roll, open_session, close_session, enter, amend, withdraw, adjust, frenetic, resume, request, determine}
use Rattle.rules.specs.Entering.{entry}
use Rattle.rules.specs.Worlds.{World, in_session, before_session, is_closed, product_of, is_halted, sweep_in}
use Rattle.rules.specs.declared.amendment.Amendment.{Amendment}
use Rattle.rules.specs.declared.new_order.NewOrder.{NewOrder}

-- 5: the time is below that of the last accepted call
abbrev pub time_check : World → ℕ → Option Refusal
time_check w time = unless (nat_le w.state.time time) (TimeFell w.state.time)

-- 6: not in this phase
abbrev pub phase_check : World → Bool → Option Refusal
phase_check w runs = unless runs (WrongPhase w.state.phase)

-- 8: out of range
abbrev pub price_check : ℕ → Option Refusal
price_check price = unless (nat_le price highest_price) (OutOfRange the_price)

abbrev pub limit_check : Option ℕ → Option Refusal
limit_check None = None
limit_check (Some price) = price_check price

abbrev pub quantity_check : ℕ → Option Refusal
quantity_check quantity = unless (nat_le 1 quantity && nat_le quantity largest_quantity) (OutOfRange the_quantity)

abbrev pub participant_check : ℕ → Option Refusal
participant_check participant = unless (nat_le 1 participant && nat_le participant last_participant) (OutOfRange the_participant)

-- a date before today
abbrev pub date_check : ℕ → Duration → Option Refusal
date_check day Now = None
date_check day Session = None
date_check day Day = None
date_check day (Until date) = unless (nat_le day date) (OutOfRange the_date)
date_check day UntilCancelled = None

-- 9: the market or the product is halted
abbrev pub halt_check : World → ℕ → Option Refusal
halt_check w n = unless (not (is_halted w n)) (Halted n)

-- 10: no order of this number rests for the participant
abbrev pub owner_check : World → ℕ → ℕ → Option Refusal
owner_check w participant number = unless (rests_for w participant number) (NotResting number)

-- 11: a limit beyond the sweep price; a market order has none
abbrev pub limit_held : Side → Option ℕ → Price → Option Refusal
limit_held side limit sweep = held_to_sweep side (option_map price_at limit) sweep

-- an amended price, if it is new
abbrev pub amended_limit : Bool → ℕ → Option ℕ
amended_limit true price = Some price
amended_limit false price = None

-- 12: no place is free
abbrev pub place_check : World → Option Refusal
place_check w = unless (any_free w.products.count (counted w.table)) (TableFull (length (counted w.table)))

-- 13: the tape does not take the trades
abbrev pub tape_check : World → ℕ → ℕ → Option Refusal
tape_check w time trades = unless (takes w.room w.tape time trades) (TapeFull trades)

-- 14: no further number
abbrev pub next_check : ℕ → Option Refusal
next_check n = unless (nat_lt n last_stamp) Exhausted

-- 15: nothing is halted
abbrev pub halted_check : World → Option Refusal
halted_check w = unless (w.state.halted || any_halted (products_of w.products)) NothingHalted

-- 16: a best buy reaches a best sell; product by product
abbrev pub crossed_check : List OrderRow → ℕ → Option Refusal
crossed_check table n = unless (not (crosses (best_buy n table) (best_sell n table))) (Crossed n)

abbrev pub crossing_check : World → Option Refusal
crossing_check w = earliest (map (crossed_check w.table) (range_with_len 0 w.products.count))

-- 17: no such trade, or the participant is no side of it
abbrev pub trade_check : World → ℕ → Option Refusal
trade_check w n = unless (on_tape w.tape n) (Missing (record { number = n; count = length w.tape }))

abbrev pub side_check : TradeRow → ℕ → ℕ → Option Refusal
side_check r participant n = unless (r.buyer == participant || r.seller == participant) (NoSide n)

abbrev pub mark_in : TradeRow → Mark
mark_in r = unwrap_or (mark_of r.mark) Stands

-- 18: the trade does not stand unquestioned
abbrev pub mark_check : TradeRow → Option Refusal
mark_check r = unless (r.mark == 0) (Marked (mark_in r))

-- in seconds
abbrev pub request_limit : ℕ
request_limit = 300

-- 19: so many seconds too late
abbrev pub late_check : TradeRow → ℕ → Option Refusal
late_check r time = unless (nat_le time (r.time + request_limit)) (TooLate (time - (r.time + request_limit)))

abbrev pub may_be_taken_back : Verdict → Bool
may_be_taken_back Within = false
may_be_taken_back Beyond = true

-- 20: within the no-bust ticks
abbrev pub width_check : TradeRow → Option Refusal
width_check r =
    unless (may_be_taken_back (verdict_on r.price r.established r.no_bust)) (NoBust (price_at r.established))

-- 21: the trade is not being considered
abbrev pub considered_check : TradeRow → Option Refusal
considered_check r = unless (r.mark == 1) (NotConsidered (mark_in r))

abbrev pub entry_checks : World → ℕ → NewOrder → List (Option Refusal)
entry_checks w time o =
    phase_check w (in_session w.state.phase)
    ∷ listed_check w.products o.product
    ∷ limit_check o.limit
    ∷ quantity_check o.quantity
    ∷ participant_check o.participant
    ∷ date_check w.state.day o.duration
    ∷ halt_check w o.product
    ∷ limit_held o.side o.limit (sweep_in w o.side o.product)
    ∷ place_check w
    ∷ tape_check w time (length (met w (entry w time o)).fills)
    ∷ next_check w.state.stamp ∷ []

abbrev pub amendment_checks : World → ℕ → Amendment → List (Option Refusal)
amendment_checks w time m =
    phase_check w (not (is_closed w.state.phase))
    ∷ price_check m.price
    ∷ quantity_check m.quantity
    ∷ participant_check m.participant
    ∷ owner_check w m.participant m.order
    ∷ limit_held (side_in (order_in w m.order).side) (amended_limit (new_price w m) m.price) (sweep_in w (side_in (order_in w m.order).side) (order_in w m.order).product)
    ∷ tape_check w time (length (amended_fills w m time))
    ∷ unless (not (takes_stamp w m) || nat_lt w.state.stamp last_stamp) Exhausted ∷ []

-- the checks of each call after that of its time
abbrev pub own_checks : World → ℕ → Call → List (Option Refusal)
own_checks w time (roll prices) =
    phase_check w (is_closed w.state.phase) ∷ settle_check w.products prices ∷ next_check w.state.day ∷ []
own_checks w time open_session = phase_check w (before_session w.state.phase) ∷ crossing_check w ∷ []
own_checks w time close_session = phase_check w (in_session w.state.phase) ∷ []
own_checks w time (enter o) = entry_checks w time o
own_checks w time (amend m) = amendment_checks w time m
own_checks w time (withdraw participant number) =
    phase_check w (not (is_closed w.state.phase)) ∷ participant_check participant ∷ owner_check w participant number ∷ []
own_checks w time (adjust n price) = listed_check w.products n ∷ price_check price ∷ []
own_checks w time (frenetic n ticks) = listed_check w.products n ∷ frenetic_check (product_of w n) ticks ∷ []
own_checks w time resume = halted_check w ∷ crossing_check w ∷ []
own_checks w time (request participant n) =
    participant_check participant
    ∷ trade_check w n
    ∷ side_check (record_at w.tape n) participant n
    ∷ mark_check (record_at w.tape n)
    ∷ late_check (record_at w.tape n) time
    ∷ width_check (record_at w.tape n) ∷ []
own_checks w time (determine n verdict) = trade_check w n ∷ considered_check (record_at w.tape n) ∷ []

abbrev pub checks : World → ℕ → Call → List (Option Refusal)
checks w time c = time_check w time ∷ own_checks w time c

-- the earliest that fails
abbrev pub fault : World → ℕ → Call → Option Refusal
fault w time c = earliest (checks w time c)
