-- What the cases of each enum are as numbers. Assumes nothing.
use Rattle.std.specs.Prelude.{ℕ, cond, Some, None, Option, ◌==◌}
use Rattle.terms.specs.declared.field.Field.{Field}
use Rattle.terms.specs.declared.field.Field.TheVariants.{Price, Quantity, Participant, Date, FreneticTicks, Settlements}
use Rattle.terms.specs.declared.halt.Halt.{Halt}
use Rattle.terms.specs.declared.halt.Halt.TheVariants.{Nothing, OneOption, WholeMarket}
use Rattle.terms.specs.declared.malformed.Malformed.{Malformed}
use Rattle.terms.specs.declared.malformed.Malformed.TheVariants.{Count, DayLimit, Entry}
use Rattle.terms.specs.declared.mark.Mark.{Mark}
use Rattle.terms.specs.declared.mark.Mark.TheVariants.{Stands, Considered, Upheld, Cancelled}
use Rattle.terms.specs.declared.phase.Phase.{Phase}
use Rattle.terms.specs.declared.phase.Phase.TheVariants.{Closed, BeforeNight, NightSession, BeforeDay, DaySession}

abbrev pub field_number : Field → ℕ
field_number Price = 1
field_number Quantity = 2
field_number Participant = 3
field_number Date = 4
field_number FreneticTicks = 5
field_number Settlements = 6

abbrev pub phase_number : Phase → ℕ
phase_number Closed = 0
phase_number BeforeNight = 1
phase_number NightSession = 2
phase_number BeforeDay = 3
phase_number DaySession = 4

abbrev pub mark_number : Mark → ℕ
mark_number Stands = 0
mark_number Considered = 1
mark_number Upheld = 2
mark_number Cancelled = 3

-- the mark that has a number; none has one above 3
abbrev pub mark_of : ℕ → Option Mark
mark_of n =
    cond (n == 0) (Some Stands)
    (cond (n == 1) (Some Considered)
    (cond (n == 2) (Some Upheld)
    (cond (n == 3) (Some Cancelled) None)))

abbrev pub halt_number : Halt → ℕ
halt_number Nothing = 0
halt_number OneOption = 1
halt_number WholeMarket = 2

abbrev pub malformed_number : Malformed → ℕ
malformed_number Count = 32
malformed_number DayLimit = 33
malformed_number (Entry n) = n
