-- A call by its rule goes on every history. Assumes nothing.
use Rattle.std.proofs.Common.{◌≡◌, ℕ, ◌+◌, ◌≤◌, Bool, true, false, ◌&&◌, eqb, List, [], ◌∷◌, ◌++◌, get_or, Some, None, Ok, Err, Option, Result, sym, refl, ap, ◌∙◌, subst, arith}
use Rattle.std.proofs.lemmas.List.{map-append}
use Rattle.std.specs.List.{insert, remove}
use Rattle.laws.proofs.All.{all_laws}
use Rattle.laws.specs.Histories.{History, then_called, Holds, event, cases, spent, verdicts}
use Rattle.laws.specs.Words.{only}
use Rattle.market.specs.Markets.{Follows}
use Rattle.cases.specs.declared.case.Case.{Case}
use Rattle.rules.specs.Calls.{Call, Answer as RuleAnswer}
use Rattle.rules.specs.Calls.{roll, open_session, close_session, enter, amend, withdraw, adjust, frenetic, resume, request, determine}
use Rattle.rules.specs.Calls.{done, case_on}
use Rattle.rules.specs.Refusing.{fault}
use Rattle.rules.specs.Rules.{Step, refuses, accepts, answer, after, Chosen}
use Rattle.rules.specs.Worlds.{World}
use Rattle.terms.specs.Checks.{answered, left_by}
use Rattle.terms.specs.declared.determination.Determination.{Determination}
use Rattle.terms.specs.declared.determination.Determination.TheVariants.{Upheld, Cancelled}
use Rattle.terms.specs.declared.refusal.Refusal.{Refusal}
use Rattle.std.specs.Result.{IsErr, IsErrAnd}
use Rattle.calls.specs.Applied.{GoesOn, Heard, Applied}
use Rattle.calls.specs.declared.call.Answer.{Answer}
use Rattle.calls.specs.declared.call.Undone.{Undone}
use Rattle.calls.specs.declared.call.Undone.TheVariants.{Refused}
use Rattle.calls.specs.Keeping.{Kept, trades_of, kept_on, keeps, kept_after, without_first, Finds}
use Rattle.calls.proofs.Lists.{kept_last, one_less, first_found, one_kept, put_back}

module _ (w : World) (time : ℕ) (c : Call) where
  -- of a call whose rule leaves nothing open
  pub followed : (r : Result RuleAnswer Refusal) (w' : World) → Chosen w time c 0 0 → Follows w time c r w' → Step w time c r w'
  followed r w' chosen f = by_fault (fault w time c) refl f.answers f.leaves
    where
      by_fault : (o : Option Refusal) → fault w time c ≡ o → r ≡ answered o (answer w time c) → w' ≡ left_by o w (after w time c 0 0) → Step w time c r w'
      by_fault None e is left =
          subst (λ (x : World). Step w time c r x) (sym left)
          (subst (λ (x : Result RuleAnswer Refusal). Step w time c x (after w time c 0 0)) (sym is) (accepts 0 0 e chosen))
      by_fault (Some refusal) e is left =
          subst (λ (x : World). Step w time c r x) (sym left)
          (subst (λ (x : Result RuleAnswer Refusal). Step w time c x w) (sym is) (refuses refusal e))

-- what a determination needs of the kept cases
abbrev pub HasCase : Call → List ℕ → Type 0
HasCase (roll prices) kept = Unit {0}
HasCase open_session kept = Unit {0}
HasCase close_session kept = Unit {0}
HasCase (enter o) kept = Unit {0}
HasCase (amend m) kept = Unit {0}
HasCase (withdraw participant number) kept = Unit {0}
HasCase (adjust n price) kept = Unit {0}
HasCase (frenetic n ticks) kept = Unit {0}
HasCase resume kept = Unit {0}
HasCase (request participant n) kept = Unit {0}
HasCase (determine n verdict) kept = 1 ≤ kept_on n kept

holds : (h : History) (c : Call) (kept : List ℕ) → Kept h kept → HasCase c kept → Holds h c
holds h (roll prices) kept k has = tt
holds h open_session kept k has = tt
holds h close_session kept k has = tt
holds h (enter o) kept k has = tt
holds h (amend m) kept k has = tt
holds h (withdraw participant number) kept k has = tt
holds h (adjust n price) kept k has = tt
holds h (frenetic n ticks) kept k has = tt
holds h resume kept k has = tt
holds h (request participant n) kept k has = tt
holds h (determine n verdict) kept k has = omega (arith, k n)

module _ (h : History) (w : World) (time : ℕ) (w' : World) (kept : List ℕ) (k : ℕ) (was : kept_on k kept + spent k h ≡ cases k h) where
  refused_counts : (c : Call) (e : Refusal) → kept_on k kept + spent k (event w time c (Err e) w' ∷ h) ≡ cases k (event w time c (Err e) w' ∷ h)
  refused_counts c e = omega arith

  determined : (n : ℕ) (verdict : Determination) (a : RuleAnswer) → 1 ≤ kept_on n kept →
      kept_on k (without_first n kept) + spent k (event w time (determine n verdict) (Ok a) w' ∷ h) ≡ cases k (event w time (determine n verdict) (Ok a) w' ∷ h)
  determined n Upheld a has = by_test (eqb n k) (one_less k n kept has)
    where
      by_test : (b : Bool) → kept_on k (without_first n kept) + only b 1 ≡ kept_on k kept →
          kept_on k (without_first n kept) + ((only (b && true) 1 + verdicts Upheld k h) + (only (b && false) 1 + verdicts Cancelled k h)) ≡ 0 + cases k h
      by_test true e = omega arith
      by_test false e = omega arith
  determined n Cancelled a has = by_test (eqb n k) (one_less k n kept has)
    where
      by_test : (b : Bool) → kept_on k (without_first n kept) + only b 1 ≡ kept_on k kept →
          kept_on k (without_first n kept) + ((only (b && false) 1 + verdicts Upheld k h) + (only (b && true) 1 + verdicts Cancelled k h)) ≡ 0 + cases k h
      by_test true e = omega arith
      by_test false e = omega arith

  accepted_counts : (c : Call) (a : RuleAnswer) → HasCase c kept →
      kept_on k (kept_after c (Ok a) kept) + spent k (event w time c (Ok a) w' ∷ h) ≡ cases k (event w time c (Ok a) w' ∷ h)
  accepted_counts (roll prices) a has = omega arith
  accepted_counts open_session a has = omega arith
  accepted_counts close_session a has = omega arith
  accepted_counts (enter o) a has = omega arith
  accepted_counts (amend m) a has = omega arith
  accepted_counts (withdraw participant number) a has = omega arith
  accepted_counts (adjust n price) a has = omega arith
  accepted_counts (frenetic n ticks) a has = omega arith
  accepted_counts resume a has = omega arith
  accepted_counts (request participant n) a has = omega (arith, kept_last k n kept)
  accepted_counts (determine n verdict) a has = determined n verdict a has

still_kept : (h : History) (w : World) (time : ℕ) (c : Call) (r : Result RuleAnswer Refusal) (w' : World) (kept : List ℕ) → Kept h kept → HasCase c kept → Kept (event w time c r w' ∷ h) (kept_after c r kept)
still_kept h w time c (Ok a) w' kept was has = λ k. accepted_counts h w time w' kept k (was k) c a has
still_kept h w time c (Err e) w' kept was has = λ k. refused_counts h w time w' kept k (was k) c e

module _ (w : World) (time : ℕ) (c : Call) (r : Result RuleAnswer Refusal) (w' : World) (kept kept' : List ℕ) where
  pub goes_on : Step w time c r w' → kept' ≡ kept_after c r kept → HasCase c kept → GoesOn w time c r w' kept kept'
  goes_on step is has = λ h reached was.
      let on = then_called reached (holds h c kept was has) step in
      (on, subst (λ (x : List ℕ). Kept (event w time c r w' ∷ h) x) (sym is) (still_kept h w time c r w' kept was has), all_laws on)

  pub made_by : Step w time c r w' → kept' ≡ kept_after c r kept → HasCase c kept → Heard w time c kept r w' kept'
  made_by step is has = record { rule = step; cases = is; goes_on = goes_on step is has }

-- of a call that neither puts in nor takes out a case
pub answered_by : {w : World} {time : ℕ} {c d : Call} {r s : Result RuleAnswer Refusal} {w' : World} {kept : List ℕ} →
    c ≡ d → r ≡ s → kept ≡ keeps d kept → HasCase d kept → Step w time d s w' → Heard w time c kept r w' kept
answered_by {w} {time} {c} {d} {r} {s} {w'} {kept} same is leaves has step =
    subst (λ (x : Call). Heard w time x kept r w' kept) (sym same)
    (subst (λ (x : Result RuleAnswer Refusal). Heard w time d kept x w' kept) (sym is) (made_by w time d s w' kept kept step (unchanged s) has))
  where
    unchanged : (x : Result RuleAnswer Refusal) → kept ≡ kept_after d x kept
    unchanged (Ok a) = leaves
    unchanged (Err e) = refl

-- a refusal is told as it is
pub told_so : (x : Result Answer Undone) (e : Refusal) → IsErr x → IsErrAnd x (λ u. u ≡ Refused e) → x ≡ Err (Refused e)
told_so (Ok a) e is that = absurd (let z : ◌≡◌ {A = ℕ} 0 1 = cc in let y : ⊥ = omega arith in y)
told_so (Err u) e is that = ap Err that

-- it is heard so
pub refused_so : {w : World} {time : ℕ} {c : Call} {x : Result Answer Undone} {w' : World} {kept kept' : List ℕ} (e : Refusal) →
    x ≡ Err (Refused e) → Heard w time c kept (Err e) w' kept' → Applied w time c kept x w' kept'
refused_so {w} {time} {c} {x} {w'} {kept} {kept'} e is heard =
    subst (λ (r : Result Answer Undone). Applied w time c kept r w' kept') (sym is) heard

-- of a call that is refused
pub refused_by : {w : World} {time : ℕ} {c d : Call} {x : Result Answer Undone} {w' : World} (kept : List ℕ) (e : Refusal) →
    c ≡ d → x ≡ Err (Refused e) → HasCase d kept → Step w time d (Err e) w' → Applied w time c kept x w' kept
refused_by {w} {time} {c} {d} {x} {w'} kept e same is has step =
    refused_so e is
    (subst (λ (a : Call). Heard w time a kept (Err e) w' kept) (sym same) (made_by w time d (Err e) w' kept kept step refl has))

module _ (w : World) (time n : ℕ) (w' : World) (cs cs' : List Case) where
  its_trade : (o : Option Refusal) (k : ℕ) → Ok (case_on k) ≡ answered o (case_on n) → k ≡ n
  its_trade None k e = cc
  its_trade (Some refusal) k e = absurd (let z : ◌≡◌ {A = ℕ} 0 1 = cc in let y : ⊥ = omega arith in y)

  -- the case goes in last
  pub case_kept : (participant : ℕ) (case : Case) → Follows w time (request participant n) (Ok (case_on case.trade)) w' → cs' ≡ cs ++ case ∷ [] →
      Heard w time (request participant n) (trades_of cs) (Ok (case_on n)) w' (trades_of cs')
  case_kept participant case f is =
      let on : case.trade ≡ n = its_trade (fault w time (request participant n)) case.trade f.answers in
      made_by w time (request participant n) _ w' _ _
      (subst (λ (k : ℕ). Step w time (request participant n) (Ok (case_on k)) w') on (followed w time (request participant n) _ w' tt f))
      (ap trades_of is ∙ (map-append (λ (c : Case). c.trade) cs (case ∷ []) ∙ ap (λ (k : ℕ). trades_of cs ++ k ∷ []) on))
      tt

module _ (w : World) (time n : ℕ) (verdict : Determination) (w' : World) (cs cs' : List Case) (i : ℕ) (case : Case) where
  determined_on : Finds n cs (Some i) → case ≡ get_or cs i case → (r : Result RuleAnswer Refusal) → Follows w time (determine case.trade verdict) r w' → Step w time (determine n verdict) r w'
  determined_on finds here r f =
      subst (λ (k : ℕ). Step w time (determine k verdict) r w') (ap (λ (c : Case). c.trade) here ∙ finds.1 case)
      (followed w time (determine case.trade verdict) r w' tt f)

  -- the first case on its trade comes out
  pub case_spent : Finds n cs (Some i) → case ≡ get_or cs i case → Follows w time (determine case.trade verdict) (Ok done) w' → cs' ≡ remove cs i →
      Heard w time (determine n verdict) (trades_of cs) (Ok done) w' (trades_of cs')
  case_spent finds here f is =
      made_by w time (determine n verdict) _ w' _ _ (determined_on finds here _ f) (ap trades_of is ∙ first_found n cs i finds) (one_kept n cs i finds)

  -- and goes back to its place
  pub case_back : (e : Refusal) → Finds n cs (Some i) → case ≡ get_or cs i case → Follows w time (determine case.trade verdict) (Err e) w' → cs' ≡ insert (remove cs i) i case →
      Heard w time (determine n verdict) (trades_of cs) (Err e) w' (trades_of cs')
  case_back e finds here f is =
      made_by w time (determine n verdict) _ w' _ _ (determined_on finds here _ f) (ap trades_of (is ∙ put_back cs i case finds.0 here)) (one_kept n cs i finds)
