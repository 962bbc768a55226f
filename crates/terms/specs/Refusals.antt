-- The number and the one detail of every refusal. Assumes nothing.
use Rattle.std.specs.Prelude.{ℕ}
use Rattle.terms.specs.Numbers.{field_number, malformed_number, mark_number, phase_number}
use Rattle.terms.specs.declared.refusal.Refusal.{Refusal}
use Rattle.terms.specs.declared.refusal.Refusal.TheVariants.{Malformed, TimeFell, WrongPhase, NotListed, OutOfRange, Halted, NotResting, BeyondSweep, TableFull, TapeFull, Exhausted, NothingHalted, Crossed, Missing, NoSide, Marked, TooLate, NoBust, NotConsidered}

abbrev pub refusal_number : Refusal → ℕ
refusal_number (Malformed fault) = 4
refusal_number (TimeFell last) = 5
refusal_number (WrongPhase phase) = 6
refusal_number (NotListed product) = 7
refusal_number (OutOfRange field) = 8
refusal_number (Halted product) = 9
refusal_number (NotResting order) = 10
refusal_number (BeyondSweep sweep) = 11
refusal_number (TableFull places) = 12
refusal_number (TapeFull trades) = 13
refusal_number Exhausted = 14
refusal_number NothingHalted = 15
refusal_number (Crossed product) = 16
refusal_number (Missing fault) = 17
refusal_number (NoSide trade) = 17
refusal_number (Marked mark) = 18
refusal_number (TooLate seconds) = 19
refusal_number (NoBust established) = 20
refusal_number (NotConsidered mark) = 21

abbrev pub refusal_detail : Refusal → ℕ
refusal_detail (Malformed fault) = malformed_number fault
refusal_detail (TimeFell last) = last
refusal_detail (WrongPhase phase) = phase_number phase
refusal_detail (NotListed product) = product
refusal_detail (OutOfRange field) = field_number field
refusal_detail (Halted product) = product
refusal_detail (NotResting order) = order
refusal_detail (BeyondSweep sweep) = sweep.ticks
refusal_detail (TableFull places) = places
refusal_detail (TapeFull trades) = trades
refusal_detail Exhausted = 0
refusal_detail NothingHalted = 0
refusal_detail (Crossed product) = product
refusal_detail (Missing fault) = fault.number
refusal_detail (NoSide trade) = trade
refusal_detail (Marked mark) = mark_number mark
refusal_detail (TooLate seconds) = seconds
refusal_detail (NoBust established) = established.ticks
refusal_detail (NotConsidered mark) = mark_number mark
