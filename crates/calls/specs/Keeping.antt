-- The cases that are kept beside a market: on which trades, and which of them a call puts in or takes out. Assumes nothing.
use Rattle.std.specs.Prelude.{◌≡◌, ℕ, ◌+◌, ◌<◌, cond, List, [], ◌∷◌, ◌++◌, map, length, take, Some, None, Ok, Err, vec_items, All, Option, Result, Vec, ◌==◌, ◌≢◌, nat_eq}
use Rattle.std.specs.List.{HoldsAt}
use Rattle.laws.specs.Histories.{History, cases, spent}
use Rattle.laws.specs.Words.{count}
use Rattle.cases.specs.declared.case.Case.{Case}
use Rattle.rules.specs.Calls.{Call, Answer}
use Rattle.rules.specs.Calls.{roll, open_session, close_session, enter, amend, withdraw, adjust, frenetic, resume, request, determine}
use Rattle.terms.specs.declared.refusal.Refusal.{Refusal}

-- the trades that cases are on
abbrev pub trades_of : List Case → List ℕ
trades_of cs = map (λ c. c.trade) cs

abbrev pub kept_in : {Z : Type 0} → Vec Case Z → List ℕ
kept_in v = trades_of (vec_items v)

-- how many are on this trade
abbrev pub kept_on : ℕ → List ℕ → ℕ
kept_on k kept = count (λ n. nat_eq n k) kept

-- just the cases that were handed out and are not spent
abbrev pub Kept : History → List ℕ → Type 0
Kept h kept = (k : ℕ) → kept_on k kept + spent k h ≡ cases k h

abbrev pub without_first : ℕ → List ℕ → List ℕ
without_first k [] = []
without_first k (n ∷ ns) = cond (n == k) ns (n ∷ without_first k ns)

-- once the call is accepted
abbrev pub keeps : Call → List ℕ → List ℕ
keeps (roll prices) kept = kept
keeps open_session kept = kept
keeps close_session kept = kept
keeps (enter o) kept = kept
keeps (amend m) kept = kept
keeps (withdraw participant number) kept = kept
keeps (adjust n price) kept = kept
keeps (frenetic n ticks) kept = kept
keeps resume kept = kept
keeps (request participant n) kept = kept ++ n ∷ []
keeps (determine n verdict) kept = without_first n kept

-- a refused call changes nothing
abbrev pub kept_after : Call → Result Answer Refusal → List ℕ → List ℕ
kept_after c (Ok a) kept = keeps c kept
kept_after c (Err refusal) kept = kept

-- the place of the first case on a trade
abbrev pub Finds : ℕ → List Case → Option ℕ → Type 0
Finds k cs (Some i) = (i < length cs) × HoldsAt (λ c. c.trade ≡ k) cs i × All (λ c. c.trade ≢ k) (take i cs)
Finds k cs None = All (λ c. c.trade ≢ k) cs
