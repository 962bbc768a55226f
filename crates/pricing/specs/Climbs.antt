-- Rungs that rise, and the highest at or below a level. Assumes nothing.
use Rattle.std.specs.Prelude.{◌≡◌, ℕ, zero, suc, ◌-◌, ◌<◌, ◌≤◌, Bool, true, false, cond, not, ◌&&◌, ◌||◌, List, [], ◌∷◌, length, take, ℤ, ◌≤ℤ◌, ◌<ℤ◌, IfSome, Some, None, All, filter, Option, int_le, nat_lt, slice_index_or, refl}
use Rattle.std.proofs.Common.{sym, ap, subst, ◌∙◌, arith, get_or-take}
use Rattle.std.proofs.lemmas.List.{length-take}
use Rattle.std.proofs.lemmas.Int.{ints}
use Rattle.std.proofs.lemmas.List.Elements.{All-head, All-tail, All-filter, All-from_get_or}
use Rattle.std.proofs.lemmas.Bool.{or_parts, and_parts, not-false, leb-true, lt-ltb, cond_both}
use Rattle.terms.specs.Ranges.{highest_price}
use Rattle.pricing.specs.Ladders.{at_or_below, higher, highest, price_or_nothing, ladder_price}
use Rattle.pricing.specs.Rungs.{in_range, no_rung, rung_at, at_fault}
use Rattle.pricing.specs.declared.rung.Rung.{Rung}

rung_same : (xs ys : List Rung) (n k : ℕ) → take n xs ≡ take n ys → k < n → rung_at xs k ≡ rung_at ys k
rung_same xs ys n k e h = sym (get_or-take n xs k no_rung h) ∙ ap (λ (l : List Rung). slice_index_or l k no_rung) e ∙ get_or-take n ys k no_rung h

-- lists with the same front have the same faults there
pub fault_same : (xs ys : List Rung) (n k : ℕ) → take n xs ≡ take n ys → k < n → at_fault xs k ≡ at_fault ys k
fault_same xs ys n k e h = rw (rung_same xs ys n k e h, rung_same xs ys n (k - 1) e (omega arith))

-- each level is below the next
abbrev Rises : List Rung → Type 0
Rises rs = (j : ℕ) → suc j < length rs → (rung_at rs j).level <ℤ (rung_at rs (suc j)).level

tail_rises : (r : Rung) (rs : List Rung) → Rises (r ∷ rs) → Rises rs
tail_rises r rs rise j h = rise (suc j) (omega arith)

-- the first level is at or below every other
from_first : (rs : List Rung) (k : ℕ) → Rises rs → k < length rs → (rung_at rs 0).level ≤ℤ (rung_at rs k).level
from_first rs zero rise h = omega (arith, ints)
from_first rs (suc k) rise h = omega (arith, ints, from_first rs k rise (omega arith), rise k h)

none_kept : (m : ℤ) (rs : List Rung) → ((j : ℕ) → j < length rs → at_or_below m (rung_at rs j) ≡ false) → filter (at_or_below m) rs ≡ []
none_kept m [] above = refl
none_kept m (r ∷ rs) above = rw (above 0 (omega arith)) (none_kept m rs (λ j h. above (suc j) (omega arith)))

-- the last rung at or below m is the highest of these
highest_kept : (m : ℤ) (rs : List Rung) (k : ℕ) → Rises rs → k < length rs → at_or_below m (rung_at rs k) ≡ true → ((j : ℕ) → k < j → j < length rs → at_or_below m (rung_at rs j) ≡ false) → highest (filter (at_or_below m) rs) ≡ Some (rung_at rs k)
highest_kept m [] k rise h here above = absurd (let z : ⊥ = omega arith in z)
highest_kept m (r ∷ rs) zero rise h here above = rw (here, none_kept m rs (λ j l. above (suc j) (omega arith) (omega arith)))
highest_kept m (r ∷ rs) (suc k) rise h here above =
    go (at_or_below m r) (highest_kept m rs k (tail_rises r rs rise) (omega arith) here (λ j g l. above (suc j) (omega arith) (omega arith)))
  where
    lower : int_le r.level (rung_at rs k).level ≡ true
    lower = let l = from_first (r ∷ rs) (suc k) rise h in grind (arith, ints)

    go : (b : Bool) → highest (filter (at_or_below m) rs) ≡ Some (rung_at rs k) → highest (cond b (r ∷ filter (at_or_below m) rs) (filter (at_or_below m) rs)) ≡ Some (rung_at rs k)
    go true rest = rw (rest, lower)
    go false rest = rest

-- a rung that is not at fault is above the one below
next_higher : (xs : List Rung) (j : ℕ) → at_fault xs (suc j) ≡ false → (rung_at xs j).level <ℤ (rung_at xs (suc j)).level
next_higher xs j e =
    let back : suc j - 1 ≡ j = omega arith in
    let faults : (not (in_range (rung_at xs (suc j))) || (nat_lt 0 (suc j) && int_le (rung_at xs (suc j)).level (rung_at xs j).level)) ≡ false = rw back at e in
    let under : (nat_lt 0 (suc j) && int_le (rung_at xs (suc j)).level (rung_at xs j).level) ≡ false = (or_parts _ (nat_lt 0 (suc j) && int_le (rung_at xs (suc j)).level (rung_at xs j).level) faults).1 in
    let met = lt-ltb 0 (suc j) (omega arith) in
    grind (arith, ints)

-- a rung that is not at fault has a price
pub priced_rung : (xs : List Rung) (k : ℕ) → at_fault xs k ≡ false → (rung_at xs k).price ≤ highest_price
priced_rung xs k e = leb-true _ _ (and_parts _ _ (not-false _ (or_parts _ _ e).0)).1

highest_in : (P : Rung → Type 0) (rs : List Rung) → All P rs → IfSome (highest rs) P
highest_in P [] a = tt
highest_in P (r ∷ rs) a = go (highest rs) (highest_in P rs (All-tail P r rs a))
  where
    go : (o : Option Rung) → IfSome o P → P (higher r o)
    go None h = All-head P r rs a
    go (Some s) h = cond_both (int_le r.level s.level) s r P (λ e. h) (λ e. All-head P r rs a)

module _ (rungs : List Rung) (n : ℕ) (sound : (k : ℕ) → k < n → at_fault rungs k ≡ false) (m : ℤ) where
  in_front : (k : ℕ) → k < n → rung_at (take n rungs) k ≡ rung_at rungs k
  in_front k h = get_or-take n rungs k no_rung h

  short : length (take n rungs) ≤ n
  short = simp length-take (omega arith)

  pub top_rung : n ≤ length rungs → (k : ℕ) → k < n → at_or_below m (rung_at rungs k) ≡ true → ((j : ℕ) → k < j → j < n → at_or_below m (rung_at rungs j) ≡ false) → highest (filter (at_or_below m) (take n rungs)) ≡ Some (rung_at rungs k)
  top_rung whole k h here above =
      highest_kept m (take n rungs) k
      (λ j l. rw (in_front j (omega (arith, short)), in_front (suc j) (omega (arith, short))) (next_higher rungs j (sound (suc j) (omega (arith, short)))))
      (simp length-take (omega arith)) (rw (in_front k h) here)
      (λ j g l. rw (in_front j (omega (arith, short))) (above j g (omega (arith, short))))
      ∙ ap Some (in_front k h)

  pub no_top : ((j : ℕ) → j < n → at_or_below m (rung_at rungs j) ≡ false) → highest (filter (at_or_below m) (take n rungs)) ≡ None
  no_top above = ap highest (none_kept m (take n rungs) (λ j l. rw (in_front j (omega (arith, short))) (above j (omega (arith, short)))))

  top_priced : IfSome (highest (filter (at_or_below m) (take n rungs))) (λ r. r.price ≤ highest_price)
  top_priced =
      highest_in (λ r. r.price ≤ highest_price) _
      (All-filter (at_or_below m) (λ r. r.price ≤ highest_price) (take n rungs)
      (All-from_get_or (λ r. r.price ≤ highest_price) (take n rungs) no_rung (λ k l. rw (in_front k (omega (arith, short))) (priced_rung rungs k (sound k (omega (arith, short)))))))

  pub ladder_priced : ladder_price (take n rungs) m ≤ highest_price
  ladder_priced = go (highest (filter (at_or_below m) (take n rungs))) top_priced
    where
      go : (o : Option Rung) → IfSome o (λ r. r.price ≤ highest_price) → price_or_nothing o ≤ highest_price
      go None h = omega arith
      go (Some r) h = h

  pub rung_priced : (r : Rung) → Some r ≡ highest (filter (at_or_below m) (take n rungs)) → r.price ≤ highest_price
  rung_priced r e = subst (λ (o : Option Rung). IfSome o (λ s. s.price ≤ highest_price)) (sym e) top_priced
