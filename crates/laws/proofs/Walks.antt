-- What a walk along the queue did, as a relation: a case for each thing that can happen at an order. Assumes nothing.
use Rattle.std.proofs.Common.{◌≡◌, ℕ, ◌-◌, ◌<◌, min, Bool, true, false, eqb, List, [], ◌∷◌, arith}
use Rattle.std.proofs.lemmas.Bool.{cond_both, eqb-true, eqb-false}
use Rattle.book.specs.Walks.{Fill, Walk, fill_of, walk}
use Rattle.limits.specs.Ranges.{tradeable}
use Rattle.orders.specs.Queue.{Slot}
use Rattle.terms.specs.declared.side.Side.{Side}
use Rattle.rules.specs.Arrivals.{reaches}

pub data Walks (s : Side) (low high limit : ℕ) : ℕ → List Slot → List Fill → ℕ → Bool → Type 0 where
  ends : {q : ℕ} → Walks s low high limit q [] [] q false
  done : {q : ℕ} {x : Slot} {xs : List Slot} → q ≡ 0 → Walks s low high limit q (x ∷ xs) [] q false
  stops : {q : ℕ} {x : Slot} {xs : List Slot} → reaches s limit x.row.price ≡ false → Walks s low high limit q (x ∷ xs) [] q false
  halts : {q : ℕ} {x : Slot} {xs : List Slot} →
      0 < q → reaches s limit x.row.price ≡ true → tradeable low high x.row.price ≡ false → Walks s low high limit q (x ∷ xs) [] q true
  takes : {q : ℕ} {x : Slot} {xs : List Slot} {fs : List Fill} {left : ℕ} {b : Bool} →
      0 < q → reaches s limit x.row.price ≡ true → tradeable low high x.row.price ≡ true →
      Walks s low high limit (q - min q x.row.rest) xs fs left b →
      Walks s low high limit q (x ∷ xs) (fill_of x (min q x.row.rest) ∷ fs) left b

abbrev pub Did : Side → ℕ → ℕ → ℕ → ℕ → List Slot → Walk → Type 0
Did s low high limit q xs r = Walks s low high limit q xs r.fills r.rest r.halted

pub walks : (s : Side) (low high limit q : ℕ) (xs : List Slot) → Did s low high limit q xs (walk (reaches s) low high limit q xs)
walks s low high limit q [] = ends
walks s low high limit q (x ∷ xs) =
    let more : Walk = walk (reaches s) low high limit (q - min q x.row.rest) xs in
    let again : Did s low high limit (q - min q x.row.rest) xs more = walks s low high limit (q - min q x.row.rest) xs in
    cond_both (eqb q 0) _ _ (Did s low high limit q (x ∷ xs)) (λ e. done (eqb-true q 0 e))
    (λ e. let some : 0 < q = omega (arith, eqb-false q 0 e) in
    cond_both (reaches s limit x.row.price) _ _ (Did s low high limit q (x ∷ xs))
    (λ r. cond_both (tradeable low high x.row.price) _ _ (Did s low high limit q (x ∷ xs)) (λ t. takes some r t again) (λ t. halts some r t))
    (λ r. stops r))
