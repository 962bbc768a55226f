-- The numbers of each call's checks, in the order in which they are tested: they rise. Assumes nothing.
use Rattle.std.specs.Prelude.{◌≡◌, ℕ, ◌≤◌, List, [], ◌∷◌, Some, Option}
use Rattle.terms.specs.Refusals.{refusal_number}
use Rattle.terms.specs.declared.refusal.Refusal.{Refusal}
use Rattle.rules.specs.Calls.{Call}
use Rattle.rules.specs.Calls.{roll, open_session, close_session, enter, amend, withdraw, adjust, frenetic, resume, request, determine}
use Rattle.rules.specs.Refusing.{checks}
use Rattle.rules.specs.Worlds.{World}

-- one for each check; those of number 8 stand in the order of their fields
abbrev pub check_numbers : Call → List ℕ
check_numbers (roll prices) = 5 ∷ 6 ∷ 8 ∷ 14 ∷ []
check_numbers open_session = 5 ∷ 6 ∷ 16 ∷ []
check_numbers close_session = 5 ∷ 6 ∷ []
check_numbers (enter o) = 5 ∷ 6 ∷ 7 ∷ 8 ∷ 8 ∷ 8 ∷ 8 ∷ 9 ∷ 11 ∷ 12 ∷ 13 ∷ 14 ∷ []
check_numbers (amend m) = 5 ∷ 6 ∷ 8 ∷ 8 ∷ 8 ∷ 10 ∷ 11 ∷ 13 ∷ 14 ∷ []
check_numbers (withdraw participant number) = 5 ∷ 6 ∷ 8 ∷ 10 ∷ []
check_numbers (adjust n price) = 5 ∷ 7 ∷ 8 ∷ []
check_numbers (frenetic n ticks) = 5 ∷ 7 ∷ 8 ∷ []
check_numbers resume = 5 ∷ 15 ∷ 16 ∷ []
check_numbers (request participant n) = 5 ∷ 8 ∷ 17 ∷ 17 ∷ 18 ∷ 19 ∷ 20 ∷ []
check_numbers (determine n verdict) = 5 ∷ 17 ∷ 21 ∷ []

-- each is at most the next
abbrev pub Rising : List ℕ → Type 0
Rising [] = Unit {0}
Rising (m ∷ []) = Unit {0}
Rising (m ∷ n ∷ numbers) = (m ≤ n) × Rising (n ∷ numbers)

-- where a check fails, its refusal has this number
abbrev pub Numbered : ℕ → Option Refusal → Type 0
Numbered n check = (refusal : Refusal) → check ≡ Some refusal → refusal_number refusal ≡ n

-- as many numbers as checks, each that of its check
abbrev pub Told : List ℕ → List (Option Refusal) → Type 0
Told [] [] = Unit {0}
Told [] (check ∷ checks) = ⊥
Told (n ∷ numbers) [] = ⊥
Told (n ∷ numbers) (check ∷ checks) = Numbered n check × Told numbers checks

abbrev pub ChecksRise : Type 0
ChecksRise = (w : World) (time : ℕ) (c : Call) → Rising (check_numbers c) × Told (check_numbers c) (checks w time c)
