-- What the checks of a call tell by its answer: which one fails, or that all pass. Assumes nothing.
use Rattle.std.proofs.Common.{◌≡◌, true, List, [], ◌∷◌, ◌++◌, is_err, IsErrAnd, Some, None, Ok, Err, Option, Result, refl, ap, ◌∙◌, arith}
use Rattle.std.proofs.lemmas.Result.{err_from_is_err_and}
use Rattle.terms.specs.Checks.{answered, earliest}
use Rattle.terms.specs.declared.refusal.Refusal.{Refusal}

pub fails_with : {A : Type 0} (o : Option Refusal) (v : A) (f : Refusal) → Err f ≡ answered o v → o ≡ Some f
fails_with None v f e = grind arith
fails_with (Some g) v f e = cc

pub passes_with : {A : Type 0} (o : Option Refusal) (v w : A) → Ok w ≡ answered o v → (o ≡ None) × (w ≡ v)
passes_with None v w e = (refl, cc)
passes_with (Some g) v w e = grind arith

-- a check that passes, before another
pub asked_next : {A : Type 0} (a b : Option Refusal) (v : A) → a ≡ None → answered (earliest (a ∷ b ∷ [])) v ≡ answered b v
asked_next None None v e = refl
asked_next None (Some f) v e = refl
asked_next (Some g) b v e = grind arith

-- what a `?` returns
pub handed_on : {A : Type 0} (r : Result A Refusal) (e : Refusal) → IsErrAnd r (λ f. f ≡ e) → is_err r ≡ true → r ≡ Err e
handed_on r e by is = let p = err_from_is_err_and r by in p.1 ∙ ap (λ f. Err f) p.2

pub earlier_fails : (xs ys : List (Option Refusal)) (e : Refusal) → earliest xs ≡ Some e → earliest (xs ++ ys) ≡ Some e
earlier_fails [] ys e p = grind arith
earlier_fails (None ∷ xs) ys e p = earlier_fails xs ys e p
earlier_fails (Some f ∷ xs) ys e p = p

pub later_is : (xs ys : List (Option Refusal)) → earliest xs ≡ None → earliest (xs ++ ys) ≡ earliest ys
later_is [] ys p = refl
later_is (None ∷ xs) ys p = later_is xs ys p
later_is (Some f ∷ xs) ys p = grind arith

pub not_both : (o : Option Refusal) (e : Refusal) → o ≡ Some e → o ≡ None → ⊥
not_both o e p q = grind arith
