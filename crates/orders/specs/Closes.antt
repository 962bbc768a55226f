-- Which orders leave at a close. Assumes nothing.
use Rattle.std.specs.Prelude.{ℕ, ◌+◌, ◌-◌, Bool, true, false, cond, ◌&&◌, List, ◌++◌, map, drop, Some, None, count_by, Option, nat_le}
use Rattle.terms.specs.declared.duration.Duration.{Duration}
use Rattle.terms.specs.declared.duration.Duration.TheVariants.{Now, Session, Day, Until, UntilCancelled}
use Rattle.orders.specs.Queue.{counted, most_places}
use Rattle.orders.specs.Questions.{stands}
use Rattle.orders.specs.Rows.{duration_of, free}
use Rattle.orders.specs.declared.close.Close.{Close}
use Rattle.orders.specs.declared.row.OrderRow.{OrderRow}

-- an order entered on day e, at the close of a session
abbrev pub ends : Close → ℕ → Duration → Bool
ends close e Now = false
ends close e Session = true
ends close e Day = close.day_ends
ends close e (Until date) = close.day_ends && nat_le date close.day
ends close e UntilCancelled = close.day_ends && nat_le (e + close.limit - 1) close.day

abbrev pub ends_if : Close → ℕ → Option Duration → Bool
ends_if close e None = false
ends_if close e (Some duration) = ends close e duration

abbrev pub leaves : ℕ → Close → OrderRow → Bool
leaves products close r = stands products r && ends_if close r.entered (duration_of r.duration r.date)

abbrev pub left_at : ℕ → Close → OrderRow → OrderRow
left_at products close r = cond (leaves products close r) free r

-- the table once they have left
abbrev pub expired : ℕ → Close → List OrderRow → List OrderRow
expired products close table = map (left_at products close) (counted table) ++ drop most_places table

abbrev pub removed : ℕ → Close → List OrderRow → ℕ
removed products close table = count_by (leaves products close) (counted table)
