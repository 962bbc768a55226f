-- Insertion sort puts every place before all that follow. Assumes the laws of a side.
use Rattle.std.proofs.Common.{◌≡◌, ◌<◌, Bool, true, false, cond, List, [], ◌∷◌, All, sym, refl, ◌∙◌, arith}
use Rattle.std.proofs.lemmas.List.Elements.{All-cons, All-head, All-nil, All-tail, All-weaker}
use Rattle.std.proofs.lemmas.List.Sorted.{IsPermutation-refl, IsPermutation-cons, IsPermutation-swap, IsPermutation-trans}
use Rattle.std.proofs.lemmas.Bool.{true≢false}
use Rattle.std.specs.List.Sorted.{IsPermutation}
use Rattle.orders.specs.Priority.{InOrder}
use Rattle.orders.specs.Queue.{Slot, insert, sorted}
use Rattle.orders.proofs.Cursor.{Ranks, Rising, true_unless}
use Rattle.orders.proofs.Gone.{all_insert, all_sorted}

module _ (lt : Slot → Slot → Bool) where
  shuffled_insert : (x : Slot) (q : List Slot) → IsPermutation (x ∷ q) (insert lt x q)
  shuffled_insert x [] = IsPermutation-refl (x ∷ [])
  shuffled_insert x (y ∷ ys) = go (lt x y) (shuffled_insert x ys)
    where
      go : (b : Bool) → IsPermutation (x ∷ ys) (insert lt x ys) → IsPermutation (x ∷ y ∷ ys) (cond b (x ∷ y ∷ ys) (y ∷ insert lt x ys))
      go true i = IsPermutation-refl (x ∷ y ∷ ys)
      go false i =
          IsPermutation-trans (x ∷ y ∷ ys) (y ∷ x ∷ ys) (y ∷ insert lt x ys)
          (IsPermutation-swap (x ∷ y ∷ ys) (y ∷ x ∷ ys) 0 1 (omega arith) (omega arith) refl)
          (IsPermutation-cons y (x ∷ ys) (insert lt x ys) i)

  pub shuffled_sorted : (xs : List Slot) → IsPermutation xs (sorted lt xs)
  shuffled_sorted [] = IsPermutation-refl []
  shuffled_sorted (x ∷ xs) =
      IsPermutation-trans (x ∷ xs) (x ∷ sorted lt xs) (insert lt x (sorted lt xs))
      (IsPermutation-cons x xs (sorted lt xs) (shuffled_sorted xs)) (shuffled_insert x (sorted lt xs))

module _ (lt : Slot → Slot → Bool) (o : Ranks lt) where
  passes_on : (x y z : Slot) → lt x y ≡ true → lt y z ≡ true → lt x z ≡ true
  passes_on x y z h k = true_unless (lt x z) (λ f. true≢false (sym h ∙ o.chain x z y f (o.oneway y z k)))

  ordered_insert : (x : Slot) (q : List Slot) → All (λ y. (x.index ≡ y.index → ⊥)) q → InOrder lt q → InOrder lt (insert lt x q)
  ordered_insert x [] a r = (All-nil (λ y. lt x y ≡ true), tt)
  ordered_insert x (y ∷ ys) a r = go (lt x y) refl (ordered_insert x ys (All-tail (λ z. (x.index ≡ z.index → ⊥)) y ys a) r.1)
    where
      go : (b : Bool) → lt x y ≡ b → InOrder lt (insert lt x ys) → InOrder lt (cond b (x ∷ y ∷ ys) (y ∷ insert lt x ys))
      go true e i = (All-cons (λ z. lt x z ≡ true) y ys e (All-weaker (λ z. lt y z ≡ true) (λ z. lt x z ≡ true) (λ z k. passes_on x y z e k) ys r.0), r)
      go false e i = (all_insert lt (λ z. lt y z ≡ true) x ys (o.total x y (All-head (λ z. (x.index ≡ z.index → ⊥)) y ys a) e) r.0, i)

  pub ordered_sorted : (xs : List Slot) → Rising xs → InOrder lt (sorted lt xs)
  ordered_sorted [] r = tt
  ordered_sorted (x ∷ xs) r =
      ordered_insert x (sorted lt xs)
      (all_sorted lt (λ y. (x.index ≡ y.index → ⊥)) xs (All-weaker (λ y. x.index < y.index) (λ y. (x.index ≡ y.index → ⊥)) (λ y h e. omega arith) xs r.0))
      (ordered_sorted xs r.1)
