-- An arrival that halts: who would have been next, and that nobody is where it does not halt. Assumes nothing.
use Rattle.std.proofs.Common.{◌≡◌, ℕ, ◌<◌, ◌≤◌, min, Bool, true, false, eqb, ◌⊎◌, List, ◌∷◌, sym, refl, ap, ◌∙◌, subst, inl, inr, arith}
use Rattle.std.proofs.lemmas.Bool.{false≢true, both_ways, cond_both, cond-false, eq-eqb, ne_eqb}
use Rattle.book.specs.Walks.{Fill, fill_of, row_left}
use Rattle.limits.specs.Ranges.{tradeable}
use Rattle.orders.specs.Queue.{Slot}
use Rattle.orders.specs.Rows.{free, side_code}
use Rattle.orders.specs.declared.row.OrderRow.{OrderRow}
use Rattle.terms.specs.Sides.{opposite}
use Rattle.terms.specs.declared.side.Side.{Side}
use Rattle.terms.specs.declared.side.Side.TheVariants.{Buy, Sell}
use Rattle.rules.specs.Arrivals.{Arrival, met, arrived, remainder, reaches}
use Rattle.rules.specs.Worlds.{World, range_in}
use Rattle.laws.specs.Book.{row_at, waits, Within, Before}
use Rattle.laws.specs.Words.{only, Each}
use Rattle.laws.proofs.Sums.{each_weaker, each_both}
use Rattle.laws.proofs.Tables.{waits_rest, waits_side}
use Rattle.laws.proofs.Queues.{line, Stood, stood, each_in, once, ranked, Once, Ranked, first_of, first_itself, first_before}
use Rattle.laws.proofs.Walks.{Walks, ends, done, stops, halts, takes}
use Rattle.laws.proofs.Fills.{left_taken, reached_within, taken_at, left_of}
use Rattle.laws.proofs.Arrivals.{low_of, high_of, met_either, the_walk, Lands, rows_after, new_row, waited, clear}

module _ (s : Side) (low high limit : ℕ) where
  -- nobody who comes first has something left
  abbrev Passed : Side → List Fill → Slot → Slot → Type 0
  Passed o fs x y = (first_of o y.row x.row ≡ false) ⊎ (y.row.rest ≤ taken_at y.index fs)

  -- the order of the queue at which a walk halted
  record Next (P : Slot → Type 0) (o : Side) (fs : List Fill) (left : ℕ) (xs : List Slot) : Type 0 where
    slot : Slot
    stood : P slot
    some : 0 < left
    reached : reaches s limit slot.row.price ≡ true
    outside : tradeable low high slot.row.price ≡ false
    untouched : taken_at slot.index fs ≡ 0
    passed : Each (Passed o fs slot) xs

  next : (P : Slot → Type 0) (o : Side) {q : ℕ} {xs : List Slot} {fs : List Fill} {left : ℕ} {b : Bool} →
      Walks s low high limit q xs fs left b → b ≡ true → Each P xs → Once xs → Ranked o xs → Next P o fs left xs
  next P o ends e h n r = absurd (false≢true e)
  next P o (done z) e h n r = absurd (false≢true e)
  next P o (stops u) e h n r = absurd (false≢true e)
  next P o {fs = fs} (halts {x = x} {xs = xs} p c t) e h n r =
      record {
        slot = x;
        stood = h.0;
        some = p;
        reached = c;
        outside = t;
        untouched = refl;
        passed = (
          inl (first_itself o x.row),
          each_weaker (λ y. first_of o y.row x.row ≡ false) (Passed o fs x) (λ y k. inl k) xs r.0,
        );
      }
  next P o (takes {q} {x = x} {xs = xs} {fs = fs} {left = left} p c t w) e h n r =
      let m : ℕ = min q x.row.rest in
      let f : Fill = fill_of x m in
      let Q : Slot → Type 0 = λ y. P y × (x.index ≡ y.index → ⊥) in
      let g : Next Q o fs left xs = next Q o w e (each_both P (λ y. x.index ≡ y.index → ⊥) xs h.1 n.0) n.1 r.1 in
      let same : only (eqb x.index x.index) m ≡ m = rw (eq-eqb x.index x.index refl) in
      let other : only (eqb x.index g.slot.index) m ≡ 0 = rw (ne_eqb x.index g.slot.index g.stood.1) in
      record {
        slot = g.slot;
        stood = g.stood.0;
        some = g.some;
        reached = g.reached;
        outside = g.outside;
        untouched = omega (arith, other, g.untouched);
        passed = (
          inr (omega (arith, same, g.some, left_taken s low high limit w)),
          each_weaker (Passed o fs g.slot) (Passed o (f ∷ fs) g.slot) (λ y k. elim k [ inl u ↦ inl u | inr u ↦ inr (omega arith) ]) xs g.passed,
        );
      }

-- the best order that waits on the other side once a halt came: it is reached, but lies outside the range
pub record HaltedAt (w : World) (a : Arrival) (after : List OrderRow) : Type 0 where
  pub some : 0 < (met w a).rest
  pub place : ℕ
  pub waiting : waits (opposite a.side) a.product (row_at after place) ≡ true
  pub reached : Within a.side a.limit (row_at after place).price
  pub outside : tradeable (range_in w a.product).low.ticks (range_in w a.product).high.ticks (row_at after place).price ≡ false
  pub first : (j : ℕ) → waits (opposite a.side) a.product (row_at after j) ≡ true →
      Before (opposite a.side) (row_at after j) (row_at after place) → ⊥

-- the order that arrived is no order of the other side

two_codes : (s : Side) → side_code s ≡ side_code (opposite s) → ⊥
two_codes Buy e = omega arith
two_codes Sell e = omega arith

pub not_new : (a : Arrival) (n rest : ℕ) → waits (opposite a.side) n (new_row a rest) ≡ true → ⊥
not_new a n rest =
    cond_both (eqb rest 0) free (remainder a rest) (λ (r : OrderRow). waits (opposite a.side) n r ≡ true → ⊥)
    (λ e h. let z : ⊥ = omega (arith, waits_rest (opposite a.side) n free h) in z)
    (λ e h. two_codes a.side (waits_side (opposite a.side) n (remainder a rest) h))

-- what is left of an order keeps its price and its place

left_price : (r : OrderRow) (m : ℕ) → m < r.rest → (left_of r m).price ≡ r.price
left_price r m l =
    cond_both (eqb m 0) r (row_left r m) (λ (x : OrderRow). x.price ≡ r.price) (λ e. refl)
    (λ e. ap (λ (x : OrderRow). x.price) (cond-false (eqb r.rest m) _ _ (ne_eqb r.rest m (λ z. omega arith))))

left_place : (r : OrderRow) (m : ℕ) → m < r.rest → (left_of r m).place ≡ r.place
left_place r m l =
    cond_both (eqb m 0) r (row_left r m) (λ (x : OrderRow). x.place ≡ r.place) (λ e. refl)
    (λ e. ap (λ (x : OrderRow). x.place) (cond-false (eqb r.rest m) _ _ (ne_eqb r.rest m (λ z. omega arith))))

before_same : (s : Side) (a b c : OrderRow) → a.price ≡ b.price → a.place ≡ b.place → Before s a c → Before s b c
before_same Buy a b c p q (inl h) = inl (omega arith)
before_same Buy a b c p q (inr h) = inr (omega arith, omega arith)
before_same Sell a b c p q (inl h) = inl (omega arith)
before_same Sell a b c p q (inr h) = inr (omega arith, omega arith)

module _ (w : World) (a : Arrival) where
  abbrev o : Side
  o = opposite a.side

  the_next : (met w a).halted ≡ true →
      Next a.side (low_of w a) (high_of w a) a.limit (Stood o a.product w.table) o (met w a).fills (met w a).rest (line o a.product w.table)
  the_next =
      met_either w a
      (λ m. m.halted ≡ true →
      Next a.side (low_of w a) (high_of w a) a.limit (Stood o a.product w.table) o m.fills m.rest (line o a.product w.table))
      (λ e t. absurd (false≢true t))
      (λ e t. next a.side (low_of w a) (high_of w a) a.limit (Stood o a.product w.table) o (the_walk w a) t
      (stood o a.product w.table) (once o a.product w.table) (ranked o a.product w.table))

  module _ (i : ℕ) (table : List OrderRow) (room : ℕ) (l : Lands w a i table) where
    -- who waits after the arrival waited before, at the same price and place, and has something left
    record Stayed (k : ℕ) : Type 0 where
      waiting : waits o a.product (row_at w.table k) ≡ true
      rest : taken_at k (met w a).fills < (row_at w.table k).rest
      price : (row_at (arrived w a i table room).table k).price ≡ (row_at w.table k).price
      place : (row_at (arrived w a i table room).table k).place ≡ (row_at w.table k).place

    stayed : (k : ℕ) → waits o a.product (row_at (arrived w a i table room).table k) ≡ true → Stayed k
    stayed k t =
        elim (rows_after w a i table room l k) [
          | inl x ↦ absurd (not_new a a.product (met w a).rest (subst (λ (r : OrderRow). waits o a.product r ≡ true) x.1 t))
          | inr x ↦
              (let b = waited w a k (subst (λ (r : OrderRow). waits o a.product r ≡ true) x.1 t) in
              record {
                waiting = b.0;
                rest = b.1;
                price = ap (λ (r : OrderRow). r.price) x.1 ∙ left_price (row_at w.table k) (taken_at k (met w a).fills) b.1;
                place = ap (λ (r : OrderRow). r.place) x.1 ∙ left_place (row_at w.table k) (taken_at k (met w a).fills) b.1;
              })
        ]

    pub halts_at : (met w a).halted ≡ true → HaltedAt w a (arrived w a i table room).table
    halts_at t =
        let after : List OrderRow = (arrived w a i table room).table in
        let g = the_next t in
        let k : ℕ = g.slot.index in
        let was : waits o a.product (row_at w.table k) ≡ true =
        subst (λ (r : OrderRow). waits o a.product r ≡ true) (sym g.stood.same) g.stood.waiting in
        let kept : row_at after k ≡ row_at w.table k =
        elim (rows_after w a i table room l k) [
          | inl x ↦ absurd (both_ways (waits o a.product (row_at w.table i)) l.off (subst (λ (j : ℕ). waits o a.product (row_at w.table j) ≡ true) x.0 was))
          | inr x ↦ x.1 ∙ ap (left_of (row_at w.table k)) g.untouched
        ] in
        let row : row_at after k ≡ g.slot.row = kept ∙ g.stood.same in
        record {
          some = g.some;
          place = k;
          waiting = subst (λ (r : OrderRow). waits o a.product r ≡ true) (sym kept) was;
          reached = subst (λ (r : OrderRow). Within a.side a.limit r.price) (sym row) (reached_within a.side a.limit g.slot.row.price g.reached);
          outside = subst (λ (r : OrderRow). tradeable (low_of w a) (high_of w a) r.price ≡ false) (sym row) g.outside;
          first = λ j u b.
              let d = stayed j u in
              let b₁ : Before o (row_at w.table j) (row_at after k) = before_same o (row_at after j) (row_at w.table j) (row_at after k) d.price d.place b in
              let b₂ : first_of o (row_at w.table j) g.slot.row ≡ true =
              first_before o (row_at w.table j) g.slot.row (subst (λ (r : OrderRow). Before o (row_at w.table j) r) row b₁) in
              elim (each_in (Passed a.side (low_of w a) (high_of w a) a.limit o (met w a).fills g.slot) o a.product w.table g.passed j d.waiting) [
                | inl x ↦ both_ways (first_of o (row_at w.table j) g.slot.row) x b₂
                | inr x ↦ (let z : ⊥ = omega (arith, x, d.rest) in z)
              ];
        }

    -- where it did not halt and something of it is left, nobody that waits is reached
    pub clears : (met w a).halted ≡ false → 0 < (met w a).rest → (k : ℕ) → waits o a.product (row_at (arrived w a i table room).table k) ≡ true →
        Within a.side a.limit (row_at (arrived w a i table room).table k).price → ⊥
    clears n s k t r =
        elim (rows_after w a i table room l k) [
          | inl x ↦ not_new a a.product (met w a).rest (subst (λ (r : OrderRow). waits o a.product r ≡ true) x.1 t)
          | inr x ↦ clear w a i table room l n s k x.0 t (subst (λ (p : ℕ). Within a.side a.limit p) (stayed k t).price r)
        ]
