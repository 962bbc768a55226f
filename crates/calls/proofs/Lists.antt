-- Counts of the kept cases, and the first of them on a trade. Assumes nothing.
use Rattle.std.proofs.Common.{◌≡◌, ◌≢◌, ℕ, zero, suc, ◌+◌, ◌<◌, ◌≤◌, Bool, true, false, cond, eqb, List, [], ◌∷◌, ◌++◌, length, take, get_or, Some, None, sym, refl, ap, ◌∙◌, arith}
use Rattle.std.proofs.lemmas.Bool.{cond-true, cond-false, eqb-true, eq-eqb, ne_eqb}
use Rattle.std.proofs.lemmas.List.Elements.{All-head, All-tail}
use Rattle.std.specs.List.{insert, remove}
use Rattle.laws.specs.Words.{Each, only}
use Rattle.cases.specs.declared.case.Case.{Case}
use Rattle.calls.specs.Keeping.{trades_of, kept_on, without_first, Finds}

pub kept_last : (k n : ℕ) (kept : List ℕ) → kept_on k (kept ++ n ∷ []) ≡ kept_on k kept + only (eqb n k) 1
kept_last k n [] = omega arith
kept_last k n (m ∷ kept) = omega (arith, kept_last k n kept)

-- the first on its trade comes out
pub one_less : (k n : ℕ) (kept : List ℕ) → 1 ≤ kept_on n kept → kept_on k (without_first n kept) + only (eqb n k) 1 ≡ kept_on k kept
one_less k n [] some = absurd (let z : ⊥ = omega arith in z)
one_less k n (m ∷ kept) some = by_test (eqb m n) refl (λ more. one_less k n kept more)
  where
    by_test : (b : Bool) → eqb m n ≡ b → (1 ≤ kept_on n kept → kept_on k (without_first n kept) + only (eqb n k) 1 ≡ kept_on k kept) →
        kept_on k (cond b kept (m ∷ without_first n kept)) + only (eqb n k) 1 ≡ only (eqb m k) 1 + kept_on k kept
    by_test true e later =
        let same = ap (λ (x : ℕ). only (eqb x k) 1) (eqb-true m n e) in
        omega arith
    by_test false e later =
        let other = ap (λ (b : Bool). only b 1) e in
        let more : 1 ≤ kept_on n kept = omega arith in
        omega (arith, later more)

pub first_found : (k : ℕ) (cs : List Case) (i : ℕ) → Finds k cs (Some i) → trades_of (remove cs i) ≡ without_first k (trades_of cs)
first_found k [] i f = absurd (let z : ⊥ = omega arith in z)
first_found k (c ∷ cs) zero f = sym (cond-true (eqb c.trade k) _ _ (eq-eqb c.trade k (f.1 c)))
first_found k (c ∷ cs) (suc i) f =
    ap (λ (ns : List ℕ). c.trade ∷ ns) (first_found k cs i (omega arith, f.1, All-tail (λ (x : Case). x.trade ≢ k) c (take i cs) f.2))
    ∙ sym (cond-false (eqb c.trade k) _ _ (ne_eqb c.trade k (All-head (λ (x : Case). x.trade ≢ k) c (take i cs) f.2)))

pub one_kept : (k : ℕ) (cs : List Case) (i : ℕ) → Finds k cs (Some i) → 1 ≤ kept_on k (trades_of cs)
one_kept k [] i f = absurd (let z : ⊥ = omega arith in z)
one_kept k (c ∷ cs) zero f = let here = ap (λ (b : Bool). only b 1) (eq-eqb c.trade k (f.1 c)) in omega arith
one_kept k (c ∷ cs) (suc i) f = omega (arith, one_kept k cs i (omega arith, f.1, All-tail (λ (x : Case). x.trade ≢ k) c (take i cs) f.2))

pub none_kept : (k : ℕ) (cs : List Case) → Finds k cs None → Each (λ n. n ≡ k → ⊥) (trades_of cs)
none_kept k [] f = tt
none_kept k (c ∷ cs) f = (All-head (λ (x : Case). x.trade ≢ k) c cs f, none_kept k cs (All-tail (λ (x : Case). x.trade ≢ k) c cs f))

pub put_back : (cs : List Case) (i : ℕ) (c : Case) → i < length cs → c ≡ get_or cs i c → insert (remove cs i) i c ≡ cs
put_back [] i c l e = absurd (let z : ⊥ = omega arith in z)
put_back (d ∷ cs) zero c l e = ap (λ (x : Case). x ∷ cs) e
put_back (d ∷ cs) (suc i) c l e = ap (λ (xs : List Case). d ∷ xs) (put_back cs i c (omega arith) e)
