-- The turns of the day, each in its phase. Assumes nothing.
use Rattle.std.specs.Prelude.{ℕ, Bool, List, [], ◌∷◌, map, Option, nat_le}
use Rattle.std.specs.List.{range_with_len}
use Rattle.orders.specs.declared.row.OrderRow.{OrderRow}
use Rattle.rules.specs.Refusing.{crossed_check}
use Rattle.rules.specs.Worlds.{in_session, before_session, is_closed, in_phase, next_phase}
use Rattle.rules.specs.declared.state.State.{State}
use Rattle.terms.specs.Checks.{unless, earliest}
use Rattle.terms.specs.declared.phase.Phase.{Phase}
use Rattle.terms.specs.declared.refusal.Refusal.{Refusal}
use Rattle.terms.specs.declared.refusal.Refusal.TheVariants.{TimeFell, WrongPhase}
use Rattle.rules.specs.declared.turns.Turn.{Turn}
use Rattle.rules.specs.declared.turns.Turn.TheVariants.{Roll, Open, Close}

abbrev pub time_fault : State → ℕ → Option Refusal
time_fault s time = unless (nat_le s.time time) (TimeFell s.time)

-- roll when closed, open before a session, close in one
abbrev pub turns_in : Turn → Phase → Bool
turns_in Roll phase = is_closed phase
turns_in Open phase = before_session phase
turns_in Close phase = in_session phase

abbrev pub turn_fault : State → Turn → ℕ → Option Refusal
turn_fault s turn time = earliest (time_fault s time ∷ unless (turns_in turn s.phase) (WrongPhase s.phase) ∷ [])

abbrev pub turned_state : State → ℕ → State
turned_state s time = in_phase (next_phase s.phase) time s

-- product by product
abbrev pub crossings : List OrderRow → ℕ → Option Refusal
crossings table products = earliest (map (crossed_check table) (range_with_len 0 products))
