-- Checks in a row: the earliest that fails is the answer. Assumes nothing.
use Rattle.std.specs.Prelude.{Bool, cond, List, [], ◌∷◌, Some, None, Ok, Err, Option, Result}
use Rattle.terms.specs.declared.refusal.Refusal.{Refusal}

-- a check passes, or is refused so
abbrev pub unless : Bool → Refusal → Option Refusal
unless passes refusal = cond passes None (Some refusal)

abbrev pub first_of : Option Refusal → Option Refusal → Option Refusal
first_of (Some refusal) later = Some refusal
first_of None later = later

abbrev pub earliest : List (Option Refusal) → Option Refusal
earliest [] = None
earliest (check ∷ checks) = first_of check (earliest checks)

-- what a call answers: the refusal, or what it answers once accepted
abbrev pub answered : {A : Type 0} → Option Refusal → A → Result A Refusal
answered None answer = Ok answer
answered (Some refusal) answer = Err refusal

-- what stands after a call: what stood before where it is refused
abbrev pub left_by : {S : Type 0} → Option Refusal → S → S → S
left_by None before after = after
left_by (Some refusal) before after = before
