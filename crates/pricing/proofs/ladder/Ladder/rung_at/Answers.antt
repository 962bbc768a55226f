use Rattle.std.proofs.Common.{◌≡◌, ℕ, ℤ, ◌+◌, ◌<◌, ◌≤◌, true, false, ◌⊎◌, inl, inr, List, [], ◌∷◌, ◌++◌, length, take, Some, refl, sym, ap, subst, ◌∙◌, arith, rules, append_assoc, length-append}
use Rattle.std.proofs.lemmas.Int.{to_z-of_z}
use Rattle.std.proofs.lemmas.List.{length-take, get_or-take, length_push}
use Rattle.std.proofs.Math.Nat.{eq-or-lt_of_le}
use Rattle.pricing.specs.Climbs.{top_rung, no_top}
use Rattle.pricing.specs.Ladders.{at_or_below}
use Rattle.pricing.specs.Rungs.{no_rung, rung_at}
use Rattle.pricing.specs.declared.rung.Rung.{Rung}
use Rattle.pricing.proofs.ladder.Ladder.rung_at.Goals as goal

at_seam : (xs : List Rung) (x : Rung) (ys : List Rung) → rung_at (xs ++ x ∷ ys) (length xs) ≡ x
at_seam [] x ys = refl
at_seam (y ∷ xs) x ys = at_seam xs x ys

-- the rung that is next lies below all those passed, and is one of the ladder's
record Next (rungs : List Rung) (count : ℕ) (lower : List Rung) (r : Rung) (passed : List Rung) : Type 0 where
  whole : lower ++ r ∷ passed ≡ take count rungs
  counts : length lower < count
  is : rung_at rungs (length lower) ≡ r

next : (rungs : List Rung) (count : ℕ) (rest lower : List Rung) (r : Rung) (passed : List Rung) → rest ≡ lower ++ r ∷ [] → rest ++ passed ≡ take count rungs → Next rungs count lower r passed
next rungs count rest lower r passed e h =
    let whole : lower ++ r ∷ passed ≡ take count rungs = sym (append_assoc lower (r ∷ []) passed) ∙ ap (λ (l : List Rung). l ++ passed) (sym e) ∙ h in
    let counts : length lower < count = omega (arith, ap length whole, length-append lower (r ∷ passed), length-take count rungs) in
    record {
      whole = whole;
      counts = counts;
      is = sym (get_or-take count rungs (length lower) no_rung counts) ∙ ap (λ (l : List Rung). rung_at l (length lower)) (sym whole) ∙ at_seam lower r passed;
    }

-- none from the next on is at or below m
from_next : (rungs : List Rung) (count : ℕ) (m : ℤ) (lower : List Rung) (r : Rung) (passed : List Rung) → Next rungs count lower r passed → at_or_below m r ≡ false → ((j : ℕ) → length lower + 1 ≤ j → j < count → at_or_below m (rung_at rungs j) ≡ false) → (j : ℕ) → length lower ≤ j → j < count → at_or_below m (rung_at rungs j) ≡ false
from_next rungs count m lower r passed n here above j g l = go (eq-or-lt_of_le g)
  where
    go : (length lower ≡ j) ⊎ (length lower < j) → at_or_below m (rung_at rungs j) ≡ false
    go (inl e) = subst (λ (k : ℕ). at_or_below m (rung_at rungs k) ≡ false) e (rw n.is here)
    go (inr h) = above j (omega arith) l

pub returns-then-rung-m : goal.returns-then-rung-m
returns-then-rung-m c =
    let ladder = c.args.self.now in
    let fits = c.ranges.m in
    let above = simp to_z-of_z at c.loop-rung.invariant.above in
    let shorter = ap length c.in-Some.ensures.steps ∙ length_push c.next.new.self.iter.rest.now c.in-Some.rung.now in
    let n = next ladder.rungs ladder.count _ _ _ c.loop-rung.invariant.passed c.in-Some.ensures.steps c.loop-rung.invariant.whole in
    let here : at_or_below c.args.m c.in-Some.rung.now ≡ true = search (rules, to_z-of_z) in
    sym (top_rung ladder.rungs ladder.count ladder.sound c.args.m (omega arith) _ n.counts (rw n.is here) (λ j g l. above j (omega arith) l) ∙ ap Some n.is)

pub loop-rung-preserved : goal.loop-rung-preserved
loop-rung-preserved c =
    let n = next c.args.self.now.rungs c.args.self.now.count _ _ _ c.loop-rung.invariant.passed c.in-Some.ensures.steps c.loop-rung.invariant.whole in
    let shorter = ap length c.in-Some.ensures.steps ∙ length_push c.next.new.self.iter.rest.now c.in-Some.rung.now in
    record {
      passed = c.in-Some.rung.now ∷ c.loop-rung.invariant.passed;
      whole = n.whole;
      above = from_next c.args.self.now.rungs c.args.self.now.count _ _ _ _ n (search rules) (λ j g l. c.loop-rung.invariant.above j (omega arith) l);
    }

pub returns : goal.returns
returns c =
    let ladder = c.args.self.now in
    let fits = c.ranges.m in
    let above = simp to_z-of_z at c.loop-rung.invariant.above in
    sym (no_top ladder.rungs ladder.count ladder.sound c.args.m (λ j l. above j (omega (arith, c.in-None.ensures.steps)) l))
