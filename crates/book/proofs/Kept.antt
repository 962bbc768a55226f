-- The laws of a walk, step by step. Assumes that a queue is in order.
use Rattle.std.proofs.Common.{◌≡◌, ℕ, ◌-◌, ◌<◌, min, Bool, true, false, eqb, ◌⊎◌, List, [], ◌∷◌, map, length, take, drop, All, refl, ap, inl, inr, arith, MatchOption}
use Rattle.std.proofs.lemmas.List.Elements.{All-cons, All-nil}
use Rattle.std.proofs.lemmas.Bool.{cond_both, cases_eq, eqb-true, eqb-false, true≢false, false≢true}
use Rattle.limits.specs.Ranges.{tradeable}
use Rattle.orders.specs.Queue.{Slot, head}
use Rattle.book.specs.Laws.{WholeBefore, Proper, Halting, WalkLaws}
use Rattle.book.specs.Walks.{Walk, stop, fill_of, fill_then, walk}
use Rattle.book.proofs.Conserved.{walk_conserves}
use Rattle.book.proofs.Walking.{walk_none}

-- where an order is not reached, none that follows is
abbrev pub Further : (ℕ → Bool) → List Slot → Type 0
Further r [] = Unit {0}
Further r (x ∷ xs) = (r x.row.price ≡ false → All (λ y. r y.row.price ≡ false) xs) × Further r xs

module _ (reaches : ℕ → ℕ → Bool) (lo hi limit : ℕ) where
  abbrev r : ℕ → Bool
  r price = reaches limit price

  -- the laws but that of conservation, which stands by itself
  record Kept (q : ℕ) (es : List Slot) (w : Walk) : Type 0 where
    proper : All (Proper reaches lo hi limit) w.fills
    front : map (λ f. f.slot) w.fills ≡ take (length w.fills) es
    whole_before : WholeBefore w.fills
    stops : w.halted ≡ false → 0 < w.rest → All (λ a. r a.row.price ≡ false) (drop (length w.fills) es)
    halts : w.halted ≡ true → (0 < w.rest) × MatchOption (head (drop (length w.fills) es)) ⊥ (Halting reaches lo hi limit)

  at_none : (q : ℕ) (es : List Slot) → q ≡ 0 → Kept q es (stop q false)
  at_none q es z =
      record { proper = All-nil _; front = refl; whole_before = tt; stops = λ h l. absurd (let y : ⊥ = omega arith in y); halts = λ h. absurd (false≢true h) }

  at_unreached : (q : ℕ) (es : List Slot) → All (λ a. r a.row.price ≡ false) es → Kept q es (stop q false)
  at_unreached q es a = record { proper = All-nil _; front = refl; whole_before = tt; stops = λ h l. a; halts = λ h. absurd (false≢true h) }

  at_halt : (q : ℕ) (e : Slot) (es : List Slot) → (q ≡ 0 → ⊥) → r e.row.price ≡ true → tradeable lo hi e.row.price ≡ false → Kept q (e ∷ es) (stop q true)
  at_halt q e es n h o =
      record { proper = All-nil _; front = refl; whole_before = tt; stops = λ k l. absurd (true≢false k); halts = λ k. (omega (arith, n), record { reached = h; outside = o }) }

  -- a fill that leaves something of its order was the last
  all_of_it : (q : ℕ) (e : Slot) (es : List Slot) → 0 < length (walk reaches lo hi limit (q - min q e.row.rest) es).fills → min q e.row.rest ≡ e.row.rest
  all_of_it q e es h = go (cases_eq (q - min q e.row.rest) 0)
    where
      go : (q - min q e.row.rest ≡ 0) ⊎ (q - min q e.row.rest ≡ 0 → ⊥) → min q e.row.rest ≡ e.row.rest
      go (inl z) = absurd (let l = ap (λ (w : Walk). length w.fills) (walk_none reaches lo hi limit (q - min q e.row.rest) es z) in let y : ⊥ = omega (arith, l, h) in y)
      go (inr z) = omega (arith, z)

  at_fill : (q : ℕ) (e : Slot) (es : List Slot) → r e.row.price ≡ true → tradeable lo hi e.row.price ≡ true → (w : Walk) → w ≡ walk reaches lo hi limit (q - min q e.row.rest) es → Kept (q - min q e.row.rest) es w → Kept q (e ∷ es) (fill_then (fill_of e (min q e.row.rest)) w)
  at_fill q e es h t w is k =
      record {
        proper = All-cons (Proper reaches lo hi limit) (fill_of e (min q e.row.rest)) w.fills (record { reached = h; within = t; at_most = omega arith }) k.proper;
        front = ap (λ l. e ∷ l) k.front;
        whole_before = ((λ some. all_of_it q e es (rw is at some)), k.whole_before);
        stops = k.stops;
        halts = k.halts;
      }

  kept : (q : ℕ) (es : List Slot) → Further r es → Kept q es (walk reaches lo hi limit q es)
  kept q [] f = at_unreached q [] (All-nil _)
  kept q (e ∷ es) f =
      let on = kept (q - min q e.row.rest) es f.1 in
      cond_both (eqb q 0) _ _ (Kept q (e ∷ es)) (λ z. at_none q (e ∷ es) (eqb-true q 0 z))
      (λ n. cond_both (reaches limit e.row.price) _ _ (Kept q (e ∷ es))
      (λ h. cond_both (tradeable lo hi e.row.price) _ _ (Kept q (e ∷ es)) (λ t. at_fill q e es h t _ refl on) (λ o. at_halt q e es (eqb-false q 0 n) h o))
      (λ h. at_unreached q (e ∷ es) (All-cons (λ a. r a.row.price ≡ false) e es h (f.0 h))))

  pub walk_laws : (q : ℕ) (es : List Slot) → Further r es → WalkLaws reaches lo hi limit q es (walk reaches lo hi limit q es)
  walk_laws q es f =
      let k = kept q es f in
      record {
        conserves = walk_conserves reaches lo hi limit q es;
        proper = k.proper;
        front = k.front;
        whole_before = k.whole_before;
        stops = k.stops;
        halts = k.halts;
      }
