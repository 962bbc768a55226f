-- Where the orders of a queue stand, and the queue once its first order is gone. Assumes nothing.
use Rattle.std.proofs.Common.{◌≡◌, ℕ, zero, suc, ◌+◌, ◌<◌, ◌≤◌, Bool, true, false, cond, List, [], ◌∷◌, length, set, Some, None, All, filter, sym, refl, ap, ◌∙◌, subst, arith}
use Rattle.std.proofs.lemmas.List.Elements.{All-cons, All-filter, All-head, All-nil, All-tail, All-weaker}
use Rattle.orders.specs.Queue.{Slot, slot, slots, insert, sorted, head, counted, most_places}
use Rattle.orders.specs.Rows.{free}
use Rattle.orders.specs.declared.row.OrderRow.{OrderRow}
use Rattle.orders.proofs.Heads.{part, length_counted, set_counted}

abbrev pub tail : List Slot → List Slot
tail [] = []
tail (x ∷ xs) = xs

pub none_some : {A : Type 0} (a : A) → None ≡ Some a → ⊥
none_some a e = let z : ◌≡◌ {A = ℕ} 0 1 = cc in omega arith

pub some_same : {A : Type 0} (a b : A) → Some a ≡ Some b → a ≡ b
some_same a b e = cc

pub all_head : (P : Slot → Type 0) (q : List Slot) (x : Slot) → head q ≡ Some x → All P q → P x
all_head P [] x h a = absurd (none_some x h)
all_head P (y ∷ ys) x h a = subst P (some_same y x h) (All-head P y ys a)

pub parts : (q : List Slot) (x : Slot) → head q ≡ Some x → q ≡ x ∷ tail q
parts [] x h = absurd (none_some x h)
parts (y ∷ ys) x h = ap (λ z. z ∷ ys) (some_same y x h)

module _ (lt : Slot → Slot → Bool) where
  pub all_insert : (P : Slot → Type 0) (x : Slot) (q : List Slot) → P x → All P q → All P (insert lt x q)
  all_insert P x [] h a = All-cons P x [] h (All-nil P)
  all_insert P x (y ∷ ys) h a = go (lt x y) (all_insert P x ys h (All-tail P y ys a))
    where
      go : (b : Bool) → All P (insert lt x ys) → All P (cond b (x ∷ y ∷ ys) (y ∷ insert lt x ys))
      go true i = All-cons P x (y ∷ ys) h a
      go false i = All-cons P y (insert lt x ys) (All-head P y ys a) i

  pub all_sorted : (P : Slot → Type 0) (xs : List Slot) → All P xs → All P (sorted lt xs)
  all_sorted P [] a = All-nil P
  all_sorted P (x ∷ xs) a = all_insert P x (sorted lt xs) (All-head P x xs a) (all_sorted P xs (All-tail P x xs a))

abbrev pub Within : ℕ → ℕ → Slot → Type 0
Within k n x = (k ≤ x.index) × (x.index < k + n)

pub slots_in : (k : ℕ) (rows : List OrderRow) → All (Within k (length rows)) (slots k rows)
slots_in k [] = All-nil (Within k 0)
slots_in k (r ∷ rows) =
    All-cons (Within k (suc (length rows))) (slot k r) (slots (suc k) rows) (omega arith, omega arith)
    (All-weaker (Within (suc k) (length rows)) (Within k (suc (length rows))) (λ x h. (omega arith, omega arith)) (slots (suc k) rows) (slots_in (suc k) rows))

module _ (lt : Slot → Slot → Bool) (p : Slot → Bool) where
  pub part_in : (k : ℕ) (rows : List OrderRow) → All (Within k (length rows)) (part lt p k rows)
  part_in k rows = all_sorted lt (Within k (length rows)) (filter p (slots k rows)) (All-filter p (Within k (length rows)) (slots k rows) (slots_in k rows))

  pub head_in : (rows : List OrderRow) (x : Slot) → Some x ≡ head (part lt p 0 (counted rows)) → (x.index < length rows) × (x.index < most_places)
  head_in rows x h =
      let w = all_head (Within 0 (length (counted rows))) (part lt p 0 (counted rows)) x (sym h) (part_in 0 (counted rows)) in
      (omega (arith, w.1, length_counted rows), omega (arith, w.1, length_counted rows))

  -- x, put before q, has the index that the first has: it was the first
  first_gone : (x e : Slot) (q : List Slot) → All (λ y. (y.index ≡ e.index → ⊥)) q → head (insert lt x q) ≡ Some e → q ≡ tail (insert lt x q)
  first_gone x e [] a h = refl
  first_gone x e (y ∷ ys) a h = go (lt x y) (insert lt x ys) h
    where
      go : (b : Bool) (zs : List Slot) → head (cond b (x ∷ y ∷ ys) (y ∷ zs)) ≡ Some e → (y ∷ ys) ≡ tail (cond b (x ∷ y ∷ ys) (y ∷ zs))
      go true zs h = refl
      go false zs h = absurd (All-head (λ y. (y.index ≡ e.index → ⊥)) y ys a (ap (λ (z : Slot). z.index) (some_same y e h)))

  -- x was not the first, so e was
  other_gone : (x e : Slot) (q r : List Slot) → (x.index ≡ e.index → ⊥) → head (insert lt x q) ≡ Some e → (head q ≡ Some e → r ≡ tail q) → insert lt x r ≡ tail (insert lt x q)
  other_gone x e [] r n h i = absurd (n (ap (λ (z : Slot). z.index) (some_same x e h)))
  other_gone x e (y ∷ ys) r n h i = go (lt x y) h
    where
      go : (b : Bool) → head (cond b (x ∷ y ∷ ys) (y ∷ insert lt x ys)) ≡ Some e → insert lt x r ≡ tail (cond b (x ∷ y ∷ ys) (y ∷ insert lt x ys))
      go true h = absurd (n (ap (λ (z : Slot). z.index) (some_same x e h)))
      go false h = ap (insert lt x) (i h)

  abbrev put : Slot → List Slot → List Slot
  put x xs = sorted lt (filter p (x ∷ xs))

  front_gone : (x e : Slot) (xs : List Slot) → All (λ y. (y.index ≡ e.index → ⊥)) (sorted lt (filter p xs)) → head (put x xs) ≡ Some e → sorted lt (filter p xs) ≡ tail (put x xs)
  front_gone x e xs a h = go (p x) h
    where
      go : (b : Bool) → head (sorted lt (cond b (x ∷ filter p xs) (filter p xs))) ≡ Some e → sorted lt (filter p xs) ≡ tail (sorted lt (cond b (x ∷ filter p xs) (filter p xs)))
      go true h = first_gone x e (sorted lt (filter p xs)) a h
      go false h = absurd (all_head (λ y. (y.index ≡ e.index → ⊥)) (sorted lt (filter p xs)) e h a refl)

  later_gone : (x e : Slot) (xs ys : List Slot) → (x.index ≡ e.index → ⊥) → head (put x xs) ≡ Some e → (head (sorted lt (filter p xs)) ≡ Some e → sorted lt (filter p ys) ≡ tail (sorted lt (filter p xs))) → put x ys ≡ tail (put x xs)
  later_gone x e xs ys n h i = go (p x) h
    where
      go : (b : Bool) → head (sorted lt (cond b (x ∷ filter p xs) (filter p xs))) ≡ Some e → sorted lt (cond b (x ∷ filter p ys) (filter p ys)) ≡ tail (sorted lt (cond b (x ∷ filter p xs) (filter p xs)))
      go true h = other_gone x e (sorted lt (filter p xs)) (sorted lt (filter p ys)) n h i
      go false h = i h

-- no free place passes
module _ (lt : Slot → Slot → Bool) (p : Slot → Bool) (nobody : (k : ℕ) → p (slot k free) ≡ false) where
  gone : (k j : ℕ) (rows : List OrderRow) (e : Slot) → head (part lt p k rows) ≡ Some e → e.index ≡ k + j → part lt p k (set rows j free) ≡ tail (part lt p k rows)
  gone k j [] e h n = absurd (none_some e h)
  gone k zero (r ∷ rows) e h n =
      rw (nobody k)
      (front_gone lt p (slot k r) e (slots (suc k) rows)
      (All-weaker (Within (suc k) (length rows)) (λ y. (y.index ≡ e.index → ⊥)) (λ y w m. omega arith) (part lt p (suc k) rows) (part_in lt p (suc k) rows))
      h)
  gone k (suc j) (r ∷ rows) e h n =
      later_gone lt p (slot k r) e (slots (suc k) rows) (slots (suc k) (set rows j free)) (λ m. omega arith) h
      (λ g. gone (suc k) j rows e g (omega arith))

  -- the first order's place is freed
  pub gone_first : (rows : List OrderRow) (e : Slot) → Some e ≡ head (part lt p 0 (counted rows)) → tail (part lt p 0 (counted rows)) ≡ part lt p 0 (counted (set rows e.index free))
  gone_first rows e h =
      let w = head_in lt p rows e h in
      sym (gone 0 e.index (counted rows) e (sym h) (omega arith)) ∙ ap (part lt p 0) (sym (set_counted rows e.index free w.1))
