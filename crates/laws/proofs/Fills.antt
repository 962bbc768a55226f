-- What a walk's fills take, and what they leave in the table. Assumes nothing.
use Rattle.std.proofs.Common.{◌≡◌, ℕ, ◌+◌, ◌-◌, ◌<◌, ◌≤◌, min, Bool, true, false, cond, eqb, ◌⊎◌, List, [], ◌∷◌, length, set, sym, refl, ap, ◌∙◌, subst, inl, inr, arith}
use Rattle.std.proofs.lemmas.Bool.{true≢false, both_ways, cond-false, eq-eqb, ne_eqb, cases_eq, leb-true, leb-false, lt-leb, le-leb}
use Rattle.book.specs.Walks.{Fill, fill_of, row_left, filled}
use Rattle.limits.specs.Ranges.{tradeable}
use Rattle.orders.specs.Queue.{Slot, counted}
use Rattle.orders.specs.declared.row.OrderRow.{OrderRow}
use Rattle.terms.specs.Sides.{opposite}
use Rattle.terms.specs.declared.side.Side.{Side}
use Rattle.terms.specs.declared.side.Side.TheVariants.{Buy, Sell}
use Rattle.rules.specs.Arrivals.{reaches}
use Rattle.laws.specs.Book.{row_at, Within, resting, rest_of}
use Rattle.laws.specs.Words.{total, only, Each}
use Rattle.laws.proofs.Sums.{each_weaker, each_both, only_add}
use Rattle.laws.proofs.Tables.{row_same, row_other, length_counted_set, resting_set, rest_left}
use Rattle.laws.proofs.Queues.{Once, Ranked, first_of, first_itself, first_within}
use Rattle.laws.proofs.Walks.{Walks, ends, done, stops, halts, takes}

-- what the fills took in all
abbrev pub lots_in : List Fill → ℕ
lots_in fs = total (λ f. f.quantity) fs

-- what they took of the row at a place
abbrev pub taken_at : ℕ → List Fill → ℕ
taken_at i fs = total (λ f. only (eqb f.slot.index i) f.quantity) fs

-- what they took of the order of a number
abbrev pub taken_of : ℕ → List Fill → ℕ
taken_of n fs = total (λ f. only (eqb f.slot.row.number n) f.quantity) fs

-- what a place holds once so much is taken
abbrev pub left_of : OrderRow → ℕ → OrderRow
left_of r m = cond (eqb m 0) r (row_left r m)

module _ (s : Side) (low high limit : ℕ) where
  -- what an order brought is what was filled and what is left
  pub left_taken : {q : ℕ} {xs : List Slot} {fs : List Fill} {left : ℕ} {b : Bool} → Walks s low high limit q xs fs left b → left + lots_in fs ≡ q
  left_taken ends = omega arith
  left_taken (done e) = omega arith
  left_taken (stops e) = omega arith
  left_taken (halts p r t) = omega arith
  left_taken (takes p r t w) = omega (arith, left_taken w)

  -- a fill is of an order of the queue, within the limit and the range
  pub record FitsIn (P : Slot → Type 0) (f : Fill) : Type 0 where
    pub stood : P f.slot
    pub some : 0 < f.slot.row.rest → 0 < f.quantity
    pub enough : f.quantity ≤ f.slot.row.rest
    pub reached : reaches s limit f.slot.row.price ≡ true
    pub inside : tradeable low high f.slot.row.price ≡ true

  pub fits_in : (P : Slot → Type 0) {q : ℕ} {xs : List Slot} {fs : List Fill} {left : ℕ} {b : Bool} →
      Walks s low high limit q xs fs left b → Each P xs → Each (FitsIn P) fs
  fits_in P ends h = tt
  fits_in P (done e) h = tt
  fits_in P (stops e) h = tt
  fits_in P (halts p r t) h = tt
  fits_in P (takes p r t w) h =
      (record { stood = h.0; some = λ l. omega arith; enough = omega arith; reached = r; inside = t }, fits_in P w h.1)

abbrev pub Apart : List Fill → Type 0
Apart [] = Unit {0}
Apart (f ∷ fs) = Each (λ g. f.slot.index ≡ g.slot.index → ⊥) fs × Apart fs

module _ (s : Side) (low high limit : ℕ) where
  fills_off : (i : ℕ) {q : ℕ} {xs : List Slot} {fs : List Fill} {left : ℕ} {b : Bool} →
      Walks s low high limit q xs fs left b → Each (λ y. i ≡ y.index → ⊥) xs → Each (λ g. i ≡ g.slot.index → ⊥) fs
  fills_off i ends h = tt
  fills_off i (done e) h = tt
  fills_off i (stops e) h = tt
  fills_off i (halts p r t) h = tt
  fills_off i (takes p r t w) h = (h.0, fills_off i w h.1)

  pub apart : {q : ℕ} {xs : List Slot} {fs : List Fill} {left : ℕ} {b : Bool} → Walks s low high limit q xs fs left b → Once xs → Apart fs
  apart ends h = tt
  apart (done e) h = tt
  apart (stops e) h = tt
  apart (halts p r t) h = tt
  apart (takes {x = x} p r t w) h = (fills_off x.index w h.0, apart w h.1)

  -- where something is left and nothing halted, each order of the queue is used up, or not reached
  abbrev pub Used : List Fill → Slot → Type 0
  Used fs x = (x.row.rest ≤ taken_at x.index fs) ⊎ (reaches s limit x.row.price ≡ false)

-- not reached, and so is what is behind it, in the queue of the other side
pub behind_unreached : (s : Side) (limit a b : ℕ) → Within (opposite s) a b → reaches s limit a ≡ false → reaches s limit b ≡ false
behind_unreached Buy limit a b h e = lt-leb b limit (omega (arith, leb-false a limit e))
behind_unreached Sell limit a b h e = lt-leb limit b (omega (arith, leb-false limit a e))

pub reached_within : (s : Side) (limit price : ℕ) → reaches s limit price ≡ true → Within s limit price
reached_within Buy limit price e = leb-true price limit e
reached_within Sell limit price e = leb-true limit price e

pub within_reached : (s : Side) (limit price : ℕ) → Within s limit price → reaches s limit price ≡ true
within_reached Buy limit price e = le-leb price limit e
within_reached Sell limit price e = le-leb limit price e

only_same : (i n : ℕ) → only (eqb i i) n ≡ n
only_same i n = rw (eq-eqb i i refl)

module _ (s : Side) (low high limit : ℕ) where
  pub used : {q : ℕ} {xs : List Slot} {fs : List Fill} {left : ℕ} {b : Bool} → Walks s low high limit q xs fs left b →
      Ranked (opposite s) xs → b ≡ false → 0 < left → Each (Used s low high limit fs) xs
  used ends o n l = tt
  used (done e) o n l = let z : ⊥ = omega arith in absurd z
  used {fs = fs} (stops {x = x} {xs = xs} e) o n l = (
    inr e,
    each_weaker (λ y. first_of (opposite s) y.row x.row ≡ false) (Used s low high limit fs)
        (λ y h. inr (behind_unreached s limit x.row.price y.row.price (first_within (opposite s) x.row y.row h) e)) xs o.0,
  )
  used (halts p r t) o n l = absurd (true≢false n)
  used (takes {q} {x = x} {xs = xs} {fs = fs} {left = left} p r t w) o n l =
      let f : Fill = fill_of x (min q x.row.rest) in
      let e = left_taken s low high limit w in (
        inl (omega (arith, e, only_same x.index (min q x.row.rest))),
        each_weaker (Used s low high limit fs) (Used s low high limit (f ∷ fs))
            (λ y h. elim h [ inl u ↦ inl (omega arith) | inr u ↦ inr u ]) xs (used w o.1 n l),
      )

-- a fill of an order that stands in this table
pub record Stands (table : List OrderRow) (f : Fill) : Type 0 where
  pub within : f.slot.index < length (counted table)
  pub same : row_at table f.slot.index ≡ f.slot.row
  pub some : 0 < f.quantity
  pub enough : f.quantity ≤ f.slot.row.rest

pub taken_none : (i : ℕ) (fs : List Fill) → Each (λ f. i ≡ f.slot.index → ⊥) fs → taken_at i fs ≡ 0
taken_none i [] h = refl
taken_none i (f ∷ fs) h =
    let one : only (eqb f.slot.index i) f.quantity ≡ 0 = rw (ne_eqb f.slot.index i (λ e. h.0 (sym e))) in
    omega (arith, taken_none i fs h.1, one)

-- still so, once another of them is written
stands_on : (table : List OrderRow) (f : Fill) (r : OrderRow) (fs : List Fill) → f.slot.index < length (counted table) →
    Each (λ g. f.slot.index ≡ g.slot.index → ⊥) fs → Each (Stands table) fs → Each (Stands (set table f.slot.index r)) fs
stands_on table f r fs l n h =
    each_weaker (λ g. (f.slot.index ≡ g.slot.index → ⊥) × Stands table g) (Stands (set table f.slot.index r))
    (λ g p. record {
      within = omega (arith, p.1.within, length_counted_set table f.slot.index r);
      same = row_other table f.slot.index g.slot.index r l (λ q. p.0 (sym q)) ∙ p.1.same;
      some = p.1.some;
      enough = p.1.enough;
    }) fs (each_both (λ g. f.slot.index ≡ g.slot.index → ⊥) (Stands table) fs n h)

-- the table after the fills: each row has what was not taken of it
pub row_filled : (fs : List Fill) (table : List OrderRow) → Each (Stands table) fs → Apart fs → (k : ℕ) →
    row_at (filled fs table) k ≡ left_of (row_at table k) (taken_at k fs)
row_filled [] table h a k = refl
row_filled (f ∷ fs) table h a k =
    let i : ℕ = f.slot.index in
    let r₁ : OrderRow = row_left f.slot.row f.quantity in
    let t₁ : List OrderRow = set table i r₁ in
    row_filled fs t₁ (stands_on table f r₁ fs h.0.within a.0 h.1) a.1 k
    ∙ (elim (cases_eq i k) [
      | inl e ↦
          (let none : taken_at k fs ≡ 0 = subst (λ (j : ℕ). taken_at j fs ≡ 0) e (taken_none i fs a.0) in
          let here : row_at t₁ k ≡ r₁ = subst (λ (j : ℕ). row_at t₁ j ≡ r₁) e (row_same table i r₁ h.0.within) in
          let there : row_at table k ≡ f.slot.row = subst (λ (j : ℕ). row_at table j ≡ f.slot.row) e h.0.same in
          let one : only (eqb i k) f.quantity ≡ f.quantity = rw (eq-eqb i k e) in
          let all : only (eqb i k) f.quantity + taken_at k fs ≡ f.quantity = omega arith in
          ap (left_of (row_at t₁ k)) none ∙ here
          ∙ sym (ap (left_of (row_at table k)) all
          ∙ cond-false (eqb f.quantity 0) _ _ (ne_eqb f.quantity 0 (λ z. omega (arith, h.0.some)))
          ∙ ap (λ (r : OrderRow). row_left r f.quantity) there))
      | inr n ↦
          (let other : row_at t₁ k ≡ row_at table k = row_other table i k r₁ h.0.within (λ q. n (sym q)) in
          let one : only (eqb i k) f.quantity ≡ 0 = rw (ne_eqb i k n) in
          let all : taken_at k fs ≡ only (eqb i k) f.quantity + taken_at k fs = omega arith in
          ap (λ (r : OrderRow). left_of r (taken_at k fs)) other ∙ ap (left_of (row_at table k)) all)
    ])

pub length_filled : (fs : List Fill) (table : List OrderRow) → length (counted (filled fs table)) ≡ length (counted table)
length_filled [] table = refl
length_filled (f ∷ fs) table = length_filled fs (set table f.slot.index _) ∙ length_counted_set table f.slot.index _

-- not more is taken from a place than stands there
pub taken_under : (fs : List Fill) (table : List OrderRow) → Each (Stands table) fs → Apart fs → (k : ℕ) → taken_at k fs ≤ (row_at table k).rest
taken_under [] table h a k = omega arith
taken_under (f ∷ fs) table h a k =
    let i : ℕ = f.slot.index in
    elim (cases_eq i k) [
      | inl e ↦
          (let none : taken_at k fs ≡ 0 = subst (λ (j : ℕ). taken_at j fs ≡ 0) e (taken_none i fs a.0) in
          let there : (row_at table k).rest ≡ f.slot.row.rest = subst (λ (j : ℕ). (row_at table j).rest ≡ f.slot.row.rest) e (ap (λ (r : OrderRow). r.rest) h.0.same) in
          let one : only (eqb i k) f.quantity ≡ f.quantity = rw (eq-eqb i k e) in
          omega (arith, h.0.enough, none, there, one))
      | inr n ↦
          (let one : only (eqb i k) f.quantity ≡ 0 = rw (ne_eqb i k n) in
          omega (arith, one, taken_under fs table h.1 a.1 k))
    ]

-- where something is taken, a fill stands
pub taken_some : (P : ℕ → Type 0) (fs : List Fill) → Each (λ f. P f.slot.index) fs → (k : ℕ) → 0 < taken_at k fs → P k
taken_some P [] h k l = let z : ⊥ = omega arith in absurd z
taken_some P (f ∷ fs) h k l =
    elim (cases_eq f.slot.index k) [
      | inl e ↦ subst P e h.0
      | inr n ↦ (let one : only (eqb f.slot.index k) f.quantity ≡ 0 = rw (ne_eqb f.slot.index k n) in taken_some P fs h.1 k (omega (arith, one)))
    ]

-- what rests under a number drops by what the fills took of it
pub resting_filled : (n : ℕ) (fs : List Fill) (table : List OrderRow) → Each (Stands table) fs → Apart fs →
    resting n (filled fs table) + taken_of n fs ≡ resting n table
resting_filled n [] table h a = omega arith
resting_filled n (f ∷ fs) table h a =
    let i : ℕ = f.slot.index in
    let r₀ : OrderRow = f.slot.row in
    let r₁ : OrderRow = row_left r₀ f.quantity in
    let t₁ : List OrderRow = set table i r₁ in
    let b : Bool = eqb r₀.number n in
    let sum : resting n t₁ + rest_of n (row_at table i) ≡ resting n table + rest_of n r₁ = resting_set n table i r₁ h.0.within in
    let was : rest_of n (row_at table i) ≡ only b r₀.rest = ap (rest_of n) h.0.same in
    let now : rest_of n r₁ ≡ only b (r₀.rest - f.quantity) = rest_left n r₀ f.quantity in
    let parts : only b r₀.rest ≡ only b (r₀.rest - f.quantity) + only b f.quantity =
    ap (only b) (omega (arith, h.0.enough)) ∙ only_add b (r₀.rest - f.quantity) f.quantity in
    let again : resting n (filled fs t₁) + taken_of n fs ≡ resting n t₁ = resting_filled n fs t₁ (stands_on table f r₁ fs h.0.within a.0 h.1) a.1 in
    omega (arith, again, sum, was, now, parts)

-- who comes before an order that was filled is used up

abbrev pub FirstUsed : Side → List Fill → Fill → Slot → Type 0
FirstUsed o fs f x = first_of o x.row f.slot.row ≡ true → x.row.rest ≤ taken_at x.index fs

each_all : {X : Type 0} (P : X → Type 0) → ((x : X) → P x) → (xs : List X) → Each P xs
each_all P f [] = tt
each_all P f (x ∷ xs) = (f x, each_all P f xs)

module _ (s : Side) (low high limit : ℕ) (o : Side) where
  brought : {q : ℕ} {xs : List Slot} {fs : List Fill} {left : ℕ} {b : Bool} → Walks s low high limit q xs fs left b → Each (λ f. 0 < q) fs
  brought ends = tt
  brought (done e) = tt
  brought (stops e) = tt
  brought (halts p r t) = tt
  brought {q} (takes {fs = fs} p r t w) = (p, each_all (λ f. 0 < q) (λ f. p) fs)

  pub first_used : {q : ℕ} {xs : List Slot} {fs : List Fill} {left : ℕ} {b : Bool} → Walks s low high limit q xs fs left b → Ranked o xs →
      Each (λ f. Each (FirstUsed o fs f) xs) fs
  first_used ends r = tt
  first_used (done e) r = tt
  first_used (stops e) r = tt
  first_used (halts p c t) r = tt
  first_used (takes {q} {x = x} {xs = xs} {fs = fs} p c t w) r =
      let f : Fill = fill_of x (min q x.row.rest) in
      let first : Each (FirstUsed o (f ∷ fs) f) (x ∷ xs) = (
        λ e. absurd (both_ways (first_of o x.row x.row) (first_itself o x.row) e),
        each_weaker (λ y. first_of o y.row x.row ≡ false) (FirstUsed o (f ∷ fs) f) (λ y n e. absurd (both_ways (first_of o y.row x.row) n e)) xs r.0,
      ) in (
        first,
        each_weaker (λ g. (0 < q - min q x.row.rest) × Each (FirstUsed o fs g) xs) (λ g. Each (FirstUsed o (f ∷ fs) g) (x ∷ xs))
            (λ g h. (
              λ e. omega (arith, h.0, only_same x.index (min q x.row.rest)),
              each_weaker (FirstUsed o fs g) (FirstUsed o (f ∷ fs) g) (λ y k e. omega (arith, k e)) xs h.1,
            ))
            fs (each_both (λ g. 0 < q - min q x.row.rest) (λ g. Each (FirstUsed o fs g) xs) fs (brought w) (first_used w r.1)),
      )
