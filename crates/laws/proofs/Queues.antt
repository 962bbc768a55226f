-- The queue: it has each order that waits on its side, once, and nobody before who comes first. Assumes nothing.
use Rattle.std.proofs.Common.{◌≡◌, ℕ, zero, suc, ◌+◌, ◌<◌, Bool, true, false, cond, not, ◌&&◌, ltb, List, [], ◌∷◌, length, get_or, filter, sym, refl, ap, subst, inl, inr, le_of_suc-le-suc, not-suc-le-zero, arith}
use Rattle.std.proofs.lemmas.Bool.{cond_both, cond-true, or_cases, or_parts, and_parts, not-true}
use Rattle.std.proofs.lemmas.Bool.Decides.{nat_tests}
use Rattle.orders.specs.Ranks.{higher_by_price, lower_by_price, first_oneway as oneway, first_chain as chain}
use Rattle.orders.specs.Queue.{Slot, slot, slots, counted, higher_first, lower_first, before, insert, sorted, rests, queue}
use Rattle.orders.specs.Rows.{free, side_code}
use Rattle.orders.specs.declared.row.OrderRow.{OrderRow}
use Rattle.terms.specs.Sides.{opposite}
use Rattle.terms.specs.declared.side.Side.{Side}
use Rattle.terms.specs.declared.side.Side.TheVariants.{Buy, Sell}
use Rattle.rules.specs.Arrivals.{facing}
use Rattle.laws.specs.Book.{row_at, waits, Within, Before}
use Rattle.laws.specs.Words.{Each}
use Rattle.laws.proofs.Sums.{each_weaker}
use Rattle.laws.proofs.Tables.{waits_counted}

-- each of a queue, with one more

module _ (lt : Slot → Slot → Bool) (P : Slot → Type 0) where
  pub each_insert : (x : Slot) (xs : List Slot) → P x → Each P xs → Each P (insert lt x xs)
  each_insert x [] p h = (p, h)
  each_insert x (y ∷ ys) p h =
      cond_both (lt x y) (x ∷ y ∷ ys) (y ∷ insert lt x ys) (Each P) (λ e. (p, h)) (λ e. (h.0, each_insert x ys p h.1))

  pub each_uninsert : (x : Slot) (xs : List Slot) → Each P (insert lt x xs) → P x × Each P xs
  each_uninsert x [] = λ h. h
  each_uninsert x (y ∷ ys) =
      cond_both (lt x y) (x ∷ y ∷ ys) (y ∷ insert lt x ys) (λ l. Each P l → P x × Each P (y ∷ ys)) (λ e h. h)
      (λ e h. let r = each_uninsert x ys h.1 in (r.0, (h.0, r.1)))

  pub each_sorted : (xs : List Slot) → Each P xs → Each P (sorted lt xs)
  each_sorted [] h = tt
  each_sorted (x ∷ xs) h = each_insert x (sorted lt xs) h.0 (each_sorted xs h.1)

  pub each_unsorted : (xs : List Slot) → Each P (sorted lt xs) → Each P xs
  each_unsorted [] h = tt
  each_unsorted (x ∷ xs) h = let r = each_uninsert x (sorted lt xs) h in (r.0, each_unsorted xs r.1)

-- what holds of each place that passes holds of each that is kept, and the other way round

module _ (p : Slot → Bool) (P : Slot → Type 0) where
  pub each_kept : (i : ℕ) (rs : List OrderRow) →
      ((k : ℕ) → k < length rs → p (slot (i + k) (get_or rs k free)) ≡ true → P (slot (i + k) (get_or rs k free))) →
      Each P (filter p (slots i rs))
  each_kept i [] h = tt
  each_kept i (r ∷ rs) h =
      let others : List Slot = filter p (slots (suc i) rs) in
      let rest : Each P others =
      each_kept (suc i) rs
      (λ k l. subst (λ (n : ℕ). p (slot n (get_or rs k free)) ≡ true → P (slot n (get_or rs k free))) (omega arith) (h (suc k) (omega arith))) in
      cond_both (p (slot i r)) (slot i r ∷ others) others (Each P)
      (λ e. (subst (λ (n : ℕ). p (slot n r) ≡ true → P (slot n r)) (omega arith) (h 0 (omega arith)) e, rest))
      (λ e. rest)

  pub each_unkept : (i : ℕ) (rs : List OrderRow) → Each P (filter p (slots i rs)) →
      (k : ℕ) → k < length rs → p (slot (i + k) (get_or rs k free)) ≡ true → P (slot (i + k) (get_or rs k free))
  each_unkept i [] h k l = absurd (not-suc-le-zero l)
  each_unkept i (r ∷ rs) h zero l =
      let others : List Slot = filter p (slots (suc i) rs) in
      subst (λ (n : ℕ). p (slot n r) ≡ true → P (slot n r)) (omega arith)
      (λ t. let g : Each P (slot i r ∷ others) = subst (Each P) (cond-true (p (slot i r)) (slot i r ∷ others) others t) h in g.0)
  each_unkept i (r ∷ rs) h (suc k) l =
      let others : List Slot = filter p (slots (suc i) rs) in
      let go : Each P (cond (p (slot i r)) (slot i r ∷ others) others) → Each P others =
      cond_both (p (slot i r)) (slot i r ∷ others) others (λ l. Each P l → Each P others) (λ e g. g.1) (λ e g. g) in
      subst (λ (n : ℕ). p (slot n (get_or rs k free)) ≡ true → P (slot n (get_or rs k free))) (omega arith)
      (each_unkept (suc i) rs (go h) k (le_of_suc-le-suc l))

-- the queue of a side

abbrev pub first_of : Side → OrderRow → OrderRow → Bool
first_of Buy = higher_first
first_of Sell = lower_first

abbrev pub line : Side → ℕ → List OrderRow → List Slot
line side n table = queue (side_code side) (first_of side) n table

pub facing_line : (side : Side) (n : ℕ) (table : List OrderRow) → facing side n table ≡ line (opposite side) n table
facing_line Buy n table = refl
facing_line Sell n table = refl

-- an order that waits, where it stands
pub record Stood (side : Side) (n : ℕ) (table : List OrderRow) (x : Slot) : Type 0 where
  pub within : x.index < length (counted table)
  pub same : row_at table x.index ≡ x.row
  pub waiting : waits side n x.row ≡ true

pub stood : (side : Side) (n : ℕ) (table : List OrderRow) → Each (Stood side n table) (line side n table)
stood side n table =
    each_sorted (before (first_of side)) (Stood side n table) (filter (rests (side_code side) n) (slots 0 (counted table)))
    (each_kept (rests (side_code side) n) (Stood side n table) 0 (counted table)
    (λ k l t. record { within = omega arith; same = ap (λ (j : ℕ). row_at table j) (omega arith); waiting = t }))

pub each_in : (P : Slot → Type 0) (side : Side) (n : ℕ) (table : List OrderRow) → Each P (line side n table) →
    (k : ℕ) → waits side n (row_at table k) ≡ true → P (slot k (row_at table k))
each_in P side n table h k t =
    subst (λ (j : ℕ). waits side n (row_at table k) ≡ true → P (slot j (row_at table k))) (omega arith)
    (each_unkept (rests (side_code side) n) P 0 (counted table)
    (each_unsorted (before (first_of side)) P (filter (rests (side_code side) n) (slots 0 (counted table))) h) k (waits_counted side n table k t))
    t

-- each once

abbrev pub Once : List Slot → Type 0
Once [] = Unit {0}
Once (x ∷ xs) = Each (λ y. x.index ≡ y.index → ⊥) xs × Once xs

once_insert : (lt : Slot → Slot → Bool) (x : Slot) (xs : List Slot) → Each (λ y. x.index ≡ y.index → ⊥) xs → Once xs → Once (insert lt x xs)
once_insert lt x [] n h = (tt, tt)
once_insert lt x (y ∷ ys) n h =
    cond_both (lt x y) (x ∷ y ∷ ys) (y ∷ insert lt x ys) Once (λ e. (n, h))
    (λ e. (each_insert lt (λ z. y.index ≡ z.index → ⊥) x ys (λ q. n.0 (sym q)) h.0, once_insert lt x ys n.1 h.1))

once_sorted : (lt : Slot → Slot → Bool) (xs : List Slot) → Once xs → Once (sorted lt xs)
once_sorted lt [] h = tt
once_sorted lt (x ∷ xs) h =
    once_insert lt x (sorted lt xs) (each_sorted lt (λ y. x.index ≡ y.index → ⊥) xs h.0) (once_sorted lt xs h.1)

once_kept : (p : Slot → Bool) (i : ℕ) (rs : List OrderRow) → Once (filter p (slots i rs))
once_kept p i [] = tt
once_kept p i (r ∷ rs) =
    let others : List Slot = filter p (slots (suc i) rs) in
    let rest : Once others = once_kept p (suc i) rs in
    let later : Each (λ y. i ≡ y.index → ⊥) others = each_kept p (λ y. i ≡ y.index → ⊥) (suc i) rs (λ k l t e. omega arith) in
    cond_both (p (slot i r)) (slot i r ∷ others) others Once (λ e. (later, rest)) (λ e. rest)

pub once : (side : Side) (n : ℕ) (table : List OrderRow) → Once (line side n table)
once side n table =
    once_sorted (before (first_of side)) (filter (rests (side_code side) n) (slots 0 (counted table))) (once_kept (rests (side_code side) n) 0 (counted table))

-- nobody comes before who stands before

abbrev pub Ranked : Side → List Slot → Type 0
Ranked s [] = Unit {0}
Ranked s (x ∷ xs) = Each (λ y. first_of s y.row x.row ≡ false) xs × Ranked s xs

pub first_itself : (s : Side) (a : OrderRow) → first_of s a a ≡ false
first_itself Buy a = grind (arith, nat_tests)
first_itself Sell a = grind (arith, nat_tests)

first_back : (s : Side) (a b : OrderRow) → first_of s a b ≡ true → first_of s b a ≡ false
first_back Buy a b h = oneway higher_by_price a b h
first_back Sell a b h = oneway lower_by_price a b h

first_chain : (s : Side) (a b c : OrderRow) → first_of s a b ≡ false → first_of s b c ≡ false → first_of s a c ≡ false
first_chain Buy a b c h k = chain higher_by_price a b c h k
first_chain Sell a b c h k = chain lower_by_price a b c h k

before_back : (s : Side) (a b : Slot) → before (first_of s) a b ≡ true → first_of s b.row a.row ≡ false
before_back s a b e =
    elim (or_cases (first_of s a.row b.row) (not (first_of s b.row a.row) && ltb a.index b.index) e) [
      | inl h ↦ first_back s a.row b.row h
      | inr h ↦ not-true (first_of s b.row a.row) (and_parts (not (first_of s b.row a.row)) (ltb a.index b.index) h).0
    ]

before_not : (s : Side) (a b : Slot) → before (first_of s) a b ≡ false → first_of s a.row b.row ≡ false
before_not s a b e = (or_parts (first_of s a.row b.row) (not (first_of s b.row a.row) && ltb a.index b.index) e).0

ranked_insert : (s : Side) (x : Slot) (xs : List Slot) → Ranked s xs → Ranked s (insert (before (first_of s)) x xs)
ranked_insert s x [] h = (tt, tt)
ranked_insert s x (y ∷ ys) h =
    cond_both (before (first_of s) x y) (x ∷ y ∷ ys) (y ∷ insert (before (first_of s)) x ys) (Ranked s)
    (λ e. (
      (
        before_back s x y e,
        each_weaker (λ z. first_of s z.row y.row ≡ false) (λ z. first_of s z.row x.row ≡ false)
            (λ z k. first_chain s z.row y.row x.row k (before_back s x y e)) ys h.0,
      ),
      h,
    ))
    (λ e. (each_insert (before (first_of s)) (λ z. first_of s z.row y.row ≡ false) x ys (before_not s x y e) h.0, ranked_insert s x ys h.1))

ranked_sorted : (s : Side) (xs : List Slot) → Ranked s (sorted (before (first_of s)) xs)
ranked_sorted s [] = tt
ranked_sorted s (x ∷ xs) = ranked_insert s x (sorted (before (first_of s)) xs) (ranked_sorted s xs)

pub ranked : (side : Side) (n : ℕ) (table : List OrderRow) → Ranked side (line side n table)
ranked side n table = ranked_sorted side (filter (rests (side_code side) n) (slots 0 (counted table)))

-- in the laws' words

pub first_before : (s : Side) (a b : OrderRow) → Before s a b → first_of s a b ≡ true
first_before Buy a b (inl h) = grind (arith, nat_tests)
first_before Buy a b (inr h) = grind (arith, nat_tests)
first_before Sell a b (inl h) = grind (arith, nat_tests)
first_before Sell a b (inr h) = grind (arith, nat_tests)

pub first_within : (s : Side) (a b : OrderRow) → first_of s b a ≡ false → Within s a.price b.price
first_within Buy a b h = grind (arith, nat_tests)
first_within Sell a b h = grind (arith, nat_tests)
