-- An order arrives: what it trades, and what it leaves in the book. Assumes nothing.
use Rattle.std.proofs.Common.{◌≡◌, ℕ, ◌+◌, ◌-◌, ◌<◌, ◌≤◌, Bool, true, false, cond, not, ◌&&◌, eqb, ◌⊎◌, List, [], ◌∷◌, map, length, set, sym, refl, ap, ◌∙◌, subst, inl, inr, arith}
use Rattle.std.proofs.lemmas.List.Sums.{sum_by-cons}
use Rattle.std.proofs.lemmas.Bool.{both_ways, cases_eq, cond_both, and_parts, and_cases, not-false, eqb-true}
use Rattle.book.specs.Entries.{settled}
use Rattle.book.specs.Sweeps.{lots_filled, killed}
use Rattle.book.specs.Walks.{Fill, Walk, row_left, filled, walk}
use Rattle.limits.specs.Ranges.{tradeable}
use Rattle.orders.specs.Queue.{Slot, counted}
use Rattle.orders.specs.Rows.{free}
use Rattle.orders.specs.declared.row.OrderRow.{OrderRow}
use Rattle.terms.specs.Sides.{opposite}
use Rattle.terms.specs.declared.side.Side.{Side}
use Rattle.terms.specs.declared.side.Side.TheVariants.{Buy, Sell}
use Rattle.rules.specs.Arrivals.{Arrival, met, arrived, remainder, reaches, facing, traded, by_side}
use Rattle.rules.specs.Worlds.{World, range_in}
use Rattle.laws.specs.Book.{row_at, waits, Within, Before, resting, rest_of}
use Rattle.laws.specs.Quantities.{quantity_of}
use Rattle.laws.specs.Words.{total, only, Each}
use Rattle.laws.proofs.Sums.{total_append, each_weaker, only_add, only_zero}
use Rattle.laws.proofs.Tables.{row_same, row_other, length_counted_set, resting_set, row_left_rest, waits_rest}
use Rattle.laws.proofs.Queues.{line, facing_line, Stood, stood, each_in, once, ranked, first_before}
use Rattle.laws.proofs.Walks.{Did, walks}
use Rattle.laws.proofs.Fills.{left_taken, FitsIn, fits_in, Apart, apart, Used, used, reached_within, within_reached, Stands, taken_none, row_filled, length_filled, taken_under, taken_some, taken_of, resting_filled, FirstUsed, first_used, lots_in, taken_at, left_of}

-- what the place that it comes to rest in holds then
abbrev pub new_row : Arrival → ℕ → OrderRow
new_row a rest = cond (eqb rest 0) free (remainder a rest)

-- where it comes to rest: a place that counts, where nobody waits for it, and which is free once its fills are made
pub record Lands (w : World) (a : Arrival) (i : ℕ) (table : List OrderRow) : Type 0 where
  pub within : i < length (counted w.table)
  pub off : waits (opposite a.side) a.product (row_at w.table i) ≡ false
  pub base : table ≡ set (filled (met w a).fills w.table) i free

pub record Fits (w : World) (a : Arrival) (f : Fill) : Type 0 where
  pub within : f.slot.index < length (counted w.table)
  pub same : row_at w.table f.slot.index ≡ f.slot.row
  pub waiting : waits (opposite a.side) a.product f.slot.row ≡ true
  pub some : 0 < f.quantity
  pub enough : f.quantity ≤ f.slot.row.rest
  pub reached : Within a.side a.limit f.slot.row.price
  pub inside : tradeable (range_in w a.product).low.ticks (range_in w a.product).high.ticks f.slot.row.price ≡ true

-- the walk, before it is known whether all of the order trades
abbrev pub low_of : World → Arrival → ℕ
low_of w a = (range_in w a.product).low.ticks

abbrev pub high_of : World → Arrival → ℕ
high_of w a = (range_in w a.product).high.ticks

abbrev pub plain : World → Arrival → Walk
plain w a = walk (reaches a.side) (low_of w a) (high_of w a) a.limit a.quantity (facing a.side a.product w.table)

pub met_either : (w : World) (a : Arrival) (P : Walk → Type 0) → (a.whole ≡ true → P killed) →
    ((a.whole && not (eqb (plain w a).rest 0)) ≡ false → P (plain w a)) → P (met w a)
unfolding met
met_either w a P x y =
    cond_both (a.whole && not (eqb (plain w a).rest 0)) killed (plain w a) P (λ e. x (and_parts a.whole (not (eqb (plain w a).rest 0)) e).0) y

pub the_walk : (w : World) (a : Arrival) → Did a.side (low_of w a) (high_of w a) a.limit a.quantity (line (opposite a.side) a.product w.table) (plain w a)
the_walk w a =
    subst (λ (xs : List Slot). Did a.side (low_of w a) (high_of w a) a.limit a.quantity xs (plain w a)) (facing_line a.side a.product w.table)
    (walks a.side (low_of w a) (high_of w a) a.limit a.quantity (facing a.side a.product w.table))

pub fits : (w : World) (a : Arrival) → Each (Fits w a) (met w a).fills
fits w a =
    met_either w a (λ m. Each (Fits w a) m.fills) (λ e. tt)
    (λ e. each_weaker (FitsIn a.side (low_of w a) (high_of w a) a.limit (Stood (opposite a.side) a.product w.table)) (Fits w a)
    (λ f h. record {
      within = h.stood.within;
      same = h.stood.same;
      waiting = h.stood.waiting;
      some = h.some (waits_rest (opposite a.side) a.product f.slot.row h.stood.waiting);
      enough = h.enough;
      reached = reached_within a.side a.limit f.slot.row.price h.reached;
      inside = h.inside;
    })
    (plain w a).fills
    (fits_in a.side (low_of w a) (high_of w a) a.limit (Stood (opposite a.side) a.product w.table) (the_walk w a)
    (stood (opposite a.side) a.product w.table)))

stands : (w : World) (a : Arrival) → Each (Stands w.table) (met w a).fills
stands w a =
    each_weaker (Fits w a) (Stands w.table) (λ f h. record { within = h.within; same = h.same; some = h.some; enough = h.enough }) (met w a).fills (fits w a)

pub fills_apart : (w : World) (a : Arrival) → Apart (met w a).fills
fills_apart w a =
    met_either w a (λ m. Apart m.fills) (λ e. tt)
    (λ e. apart a.side (low_of w a) (high_of w a) a.limit (the_walk w a) (once (opposite a.side) a.product w.table))

-- nothing is taken where nobody waits
pub taken_off : (w : World) (a : Arrival) (i : ℕ) → waits (opposite a.side) a.product (row_at w.table i) ≡ false → taken_at i (met w a).fills ≡ 0
taken_off w a i off =
    taken_none i (met w a).fills
    (each_weaker (Fits w a) (λ f. i ≡ f.slot.index → ⊥)
    (λ f h e. both_ways (waits (opposite a.side) a.product (row_at w.table i)) off
    (subst (λ (j : ℕ). waits (opposite a.side) a.product (row_at w.table j) ≡ true) (sym e)
    (subst (λ (r : OrderRow). waits (opposite a.side) a.product r ≡ true) (sym h.same) h.waiting)))
    (met w a).fills (fits w a))

-- each row after: the order that arrived, or what was there before, less what was taken
abbrev pub RowAfter : World → Arrival → ℕ → List OrderRow → ℕ → Type 0
RowAfter w a i after k =
    ((k ≡ i) × (row_at after k ≡ new_row a (met w a).rest))
    ⊎ ((k ≡ i → ⊥) × (row_at after k ≡ left_of (row_at w.table k) (taken_at k (met w a).fills)))

settled_here : (b : Bool) (i : ℕ) (r : OrderRow) (table : List OrderRow) → i < length (counted table) → row_at table i ≡ free →
    row_at (cond b table (set table i r)) i ≡ cond b free r
settled_here true i r table l e = e
settled_here false i r table l e = row_same table i r l

settled_other : (b : Bool) (i k : ℕ) (r : OrderRow) (table : List OrderRow) → i < length (counted table) → (k ≡ i → ⊥) →
    row_at (cond b table (set table i r)) k ≡ row_at table k
settled_other true i k r table l n = refl
settled_other false i k r table l n = row_other table i k r l n

long_filled : (w : World) (a : Arrival) (i : ℕ) → i < length (counted w.table) → i < length (counted (filled (met w a).fills w.table))
long_filled w a i l = omega (arith, l, length_filled (met w a).fills w.table)

long_freed : (w : World) (a : Arrival) (i : ℕ) → i < length (counted w.table) → i < length (counted (set (filled (met w a).fills w.table) i free))
long_freed w a i l = omega (arith, long_filled w a i l, length_counted_set (filled (met w a).fills w.table) i free)

pub rows_after : (w : World) (a : Arrival) (i : ℕ) (table : List OrderRow) (room : ℕ) → Lands w a i table →
    (k : ℕ) → RowAfter w a i (arrived w a i table room).table k
unfolding arrived
rows_after w a i table room l k =
    let fs : List Fill = (met w a).fills in
    let t₁ : List OrderRow = filled fs w.table in
    let t₂ : List OrderRow = set t₁ i free in
    let b : Bool = eqb (met w a).rest 0 in
    let r : OrderRow = remainder a (met w a).rest in
    subst (λ (t : List OrderRow). RowAfter w a i (cond b t (set t i r)) k) (sym l.base)
    (elim (cases_eq k i) [
      | inl e ↦
          inl (
            e,
            subst (λ (j : ℕ). row_at (cond b t₂ (set t₂ i r)) j ≡ cond b free r) (sym e)
                (settled_here b i r t₂ (long_freed w a i l.within) (row_same t₁ i free (long_filled w a i l.within))),
          )
      | inr n ↦
          inr (
            n,
            settled_other b i k r t₂ (long_freed w a i l.within) n ∙ row_other t₁ i k free (long_filled w a i l.within) n
                ∙ row_filled fs w.table (stands w a) (fills_apart w a) k,
          )
    ])

pub taken_most : (w : World) (a : Arrival) (k : ℕ) → taken_at k (met w a).fills ≤ (row_at w.table k).rest
taken_most w a k = taken_under (met w a).fills w.table (stands w a) (fills_apart w a) k

pub lots_same : (fs : List Fill) → lots_filled fs ≡ lots_in fs
lots_same [] = refl
lots_same (f ∷ fs) = sum_by-cons (λ (g : Fill). g.quantity) f fs ∙ ap (λ (n : ℕ). f.quantity + n) (lots_same fs)

plain_kept : (w : World) (a : Arrival) → lots_in (plain w a).fills + (plain w a).rest ≡ a.quantity
plain_kept w a = omega (arith, left_taken a.side (low_of w a) (high_of w a) a.limit (the_walk w a))

-- what it brought is what was filled and what is left; an order that trades whole does so, or not at all
pub lots_kept : (w : World) (a : Arrival) → a.whole ≡ false → lots_in (met w a).fills + (met w a).rest ≡ a.quantity
lots_kept w a e =
    met_either w a (λ m. lots_in m.fills + m.rest ≡ a.quantity) (λ t. absurd (both_ways a.whole e t)) (λ _. plain_kept w a)

pub lots_whole : (w : World) (a : Arrival) → a.whole ≡ true →
    ((met w a).rest ≡ 0) × ((((met w a).fills ≡ []) × ((met w a).halted ≡ false)) ⊎ (lots_in (met w a).fills ≡ a.quantity))
lots_whole w a e =
    met_either w a (λ m. (m.rest ≡ 0) × (((m.fills ≡ []) × (m.halted ≡ false)) ⊎ (lots_in m.fills ≡ a.quantity)))
    (λ t. (refl, inl (refl, refl)))
    (λ t.
    let none : (plain w a).rest ≡ 0 =
    elim (and_cases a.whole (not (eqb (plain w a).rest 0)) t) [
      | inl x ↦ absurd (both_ways a.whole x e)
      | inr x ↦ eqb-true (plain w a).rest 0 (not-false (eqb (plain w a).rest 0) x)
    ] in
    (none, inr (omega (arith, plain_kept w a, none))))

recorded_of : (w : World) (a : Arrival) (n : ℕ) (f : Fill) →
    quantity_of n (traded w a f) ≡ only (eqb a.number n) f.quantity + only (eqb f.slot.row.number n) f.quantity
recorded_of w a n f = go a.side
  where
    go : (s : Side) →
        only (eqb (by_side s a.number f.slot.row.number) n) f.quantity + only (eqb (by_side s f.slot.row.number a.number) n) f.quantity
        ≡ only (eqb a.number n) f.quantity + only (eqb f.slot.row.number n) f.quantity
    go Buy = refl
    go Sell = omega arith

recorded : (w : World) (a : Arrival) (n : ℕ) (fs : List Fill) →
    total (quantity_of n) (map (traded w a) fs) ≡ only (eqb a.number n) (lots_in fs) + taken_of n fs
recorded w a n [] = omega (arith, only_zero (eqb a.number n))
recorded w a n (f ∷ fs) = omega (arith, recorded w a n fs, recorded_of w a n f, only_add (eqb a.number n) f.quantity (lots_in fs))

-- what is left of it comes to rest in a place that is free
resting_settled : (n : ℕ) (a : Arrival) (i rest : ℕ) (table : List OrderRow) → i < length (counted table) → row_at table i ≡ free →
    resting n (settled (remainder a) i rest table) ≡ resting n table + only (eqb a.number n) rest
resting_settled n a i rest table l e =
    cond_both (eqb rest 0) table (set table i (remainder a rest)) (λ (t : List OrderRow). resting n t ≡ resting n table + only (eqb a.number n) rest)
    (λ z. let none : only (eqb a.number n) rest ≡ 0 = ap (only (eqb a.number n)) (eqb-true rest 0 z) ∙ only_zero (eqb a.number n) in omega (arith, none))
    (λ z.
    let none : rest_of n (row_at table i) ≡ 0 = ap (rest_of n) e ∙ only_zero (eqb 0 n) in
    let sum : resting n (set table i (remainder a rest)) + rest_of n (row_at table i) ≡ resting n table + only (eqb a.number n) rest =
    resting_set n table i (remainder a rest) l in
    omega (arith, none, sum))

-- what rests and what is on the tape grow by what arrived, less what stood where it now stands
pub conserves : (w : World) (a : Arrival) (i : ℕ) (table : List OrderRow) (room : ℕ) → Lands w a i table → (n : ℕ) →
    total (quantity_of n) (arrived w a i table room).tape + resting n (arrived w a i table room).table + rest_of n (row_at w.table i)
    ≡ total (quantity_of n) w.tape + resting n w.table + only (eqb a.number n) (lots_in (met w a).fills + (met w a).rest)
unfolding arrived
conserves w a i table room l n =
    let fs : List Fill = (met w a).fills in
    let t₁ : List OrderRow = filled fs w.table in
    let t₂ : List OrderRow = set t₁ i free in
    let b : Bool = eqb a.number n in
    let e₁ = resting_filled n fs w.table (stands w a) (fills_apart w a) in
    let e₂ : resting n t₂ + rest_of n (row_at t₁ i) ≡ resting n t₁ + only (eqb 0 n) 0 = resting_set n t₁ i free (long_filled w a i l.within) in
    let e₃ : rest_of n (row_at t₁ i) ≡ rest_of n (row_at w.table i) =
    ap (rest_of n) (row_filled fs w.table (stands w a) (fills_apart w a) i ∙ ap (left_of (row_at w.table i)) (taken_off w a i l.off)) in
    let e₄ : resting n (settled (remainder a) i (met w a).rest table) ≡ resting n t₂ + only b (met w a).rest =
    subst (λ (t : List OrderRow). resting n (settled (remainder a) i (met w a).rest t) ≡ resting n t₂ + only b (met w a).rest) (sym l.base)
    (resting_settled n a i (met w a).rest t₂ (long_freed w a i l.within) (row_same t₁ i free (long_filled w a i l.within))) in
    let e₅ = total_append (quantity_of n) w.tape (map (traded w a) fs) in
    let e₆ = recorded w a n fs in
    let e₇ = only_add b (lots_in fs) (met w a).rest in
    omega (arith, e₁, e₂, e₃, e₄, e₅, e₆, e₇, only_zero (eqb 0 n))

left_rest : (r : OrderRow) (m : ℕ) → (left_of r m).rest ≡ r.rest - m
left_rest r m =
    cond_both (eqb m 0) r (row_left r m) (λ (x : OrderRow). x.rest ≡ r.rest - m) (λ e. omega (arith, eqb-true m 0 e)) (λ e. row_left_rest r m)

-- who still waits waited before, and was not used up
pub waited : (w : World) (a : Arrival) (k : ℕ) →
    waits (opposite a.side) a.product (left_of (row_at w.table k) (taken_at k (met w a).fills)) ≡ true →
    (waits (opposite a.side) a.product (row_at w.table k) ≡ true) × (taken_at k (met w a).fills < (row_at w.table k).rest)
waited w a k h =
    let o : Side = opposite a.side in
    let r : OrderRow = row_at w.table k in
    let m : ℕ = taken_at k (met w a).fills in
    let still : 0 < (left_of r m).rest = waits_rest o a.product (left_of r m) h in
    let before : waits o a.product r ≡ true =
    elim (cases_eq m 0) [
      | inl e ↦ subst (λ (j : ℕ). waits o a.product (left_of r j) ≡ true) e h
      | inr n ↦
          taken_some (λ (j : ℕ). waits o a.product (row_at w.table j) ≡ true) (met w a).fills
          (each_weaker (Fits w a) (λ f. waits o a.product (row_at w.table f.slot.index) ≡ true)
          (λ f g. subst (λ (x : OrderRow). waits o a.product x ≡ true) (sym g.same) g.waiting) (met w a).fills (fits w a))
          k (omega (arith, n))
    ] in
    (before, omega (arith, still, left_rest r m))

used_up : (w : World) (a : Arrival) → (met w a).halted ≡ false → 0 < (met w a).rest →
    Each (Used a.side (low_of w a) (high_of w a) a.limit (met w a).fills) (line (opposite a.side) a.product w.table)
used_up w a =
    met_either w a
    (λ m. m.halted ≡ false → 0 < m.rest → Each (Used a.side (low_of w a) (high_of w a) a.limit m.fills) (line (opposite a.side) a.product w.table))
    (λ e n s. let z : ⊥ = omega arith in absurd z)
    (λ e n s. used a.side (low_of w a) (high_of w a) a.limit (the_walk w a) (ranked (opposite a.side) a.product w.table) n s)

-- it reaches nobody any more, where something of it is left and it did not halt
pub clear : (w : World) (a : Arrival) (i : ℕ) (table : List OrderRow) (room : ℕ) → Lands w a i table → (met w a).halted ≡ false → 0 < (met w a).rest →
    (k : ℕ) → (k ≡ i → ⊥) → waits (opposite a.side) a.product (row_at (arrived w a i table room).table k) ≡ true →
    Within a.side a.limit (row_at w.table k).price → ⊥
clear w a i table room l n s k d t r =
    let fs : List Fill = (met w a).fills in
    let o : Side = opposite a.side in
    elim (rows_after w a i table room l k) [
      | inl x ↦ d x.0
      | inr x ↦
          (let b = waited w a k (subst (λ (y : OrderRow). waits o a.product y ≡ true) x.1 t) in
          elim (each_in (Used a.side (low_of w a) (high_of w a) a.limit fs) o a.product w.table (used_up w a n s) k b.0) [
            | inl u ↦ (let z : ⊥ = omega (arith, u, b.1) in z)
            | inr u ↦ both_ways (reaches a.side a.limit (row_at w.table k).price) u (within_reached a.side a.limit (row_at w.table k).price r)
          ])
    ]

-- who was ahead of an order that was traded with has nothing left
abbrev pub InTurn : World → Arrival → List OrderRow → Fill → Type 0
InTurn w a after f =
    (k : ℕ) → waits (opposite a.side) a.product (row_at w.table k) ≡ true → Before (opposite a.side) (row_at w.table k) f.slot.row → (row_at after k).rest ≡ 0

firsts_used : (w : World) (a : Arrival) →
    Each (λ f. Each (FirstUsed (opposite a.side) (met w a).fills f) (line (opposite a.side) a.product w.table)) (met w a).fills
firsts_used w a =
    met_either w a
    (λ m. Each (λ f. Each (FirstUsed (opposite a.side) m.fills f) (line (opposite a.side) a.product w.table)) m.fills)
    (λ e. tt)
    (λ e. first_used a.side (low_of w a) (high_of w a) a.limit (opposite a.side) (the_walk w a) (ranked (opposite a.side) a.product w.table))

pub in_turn : (w : World) (a : Arrival) (i : ℕ) (table : List OrderRow) (room : ℕ) → Lands w a i table →
    Each (InTurn w a (arrived w a i table room).table) (met w a).fills
in_turn w a i table room l =
    let fs : List Fill = (met w a).fills in
    let o : Side = opposite a.side in
    each_weaker (λ f. Each (FirstUsed o fs f) (line o a.product w.table)) (InTurn w a (arrived w a i table room).table)
    (λ f h k t b.
    let r : OrderRow = row_at w.table k in
    let up : r.rest ≤ taken_at k fs = each_in (FirstUsed o fs f) o a.product w.table h k t (first_before o r f.slot.row b) in
    elim (rows_after w a i table room l k) [
      | inl x ↦
          absurd (both_ways (waits o a.product (row_at w.table i)) l.off (subst (λ (j : ℕ). waits o a.product (row_at w.table j) ≡ true) x.0 t))
      | inr x ↦ ap (λ (y : OrderRow). y.rest) x.1 ∙ left_rest r (taken_at k fs) ∙ omega (arith, up)
    ])
    fs (firsts_used w a)
