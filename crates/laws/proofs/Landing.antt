-- Where an entered order and a repriced one come to rest. Assumes nothing.
use Rattle.std.proofs.Common.{◌≡◌, ℕ, ◌<◌, true, false, eqb, List, [], ◌∷◌, length, get_or, set, sym, refl, ap, ◌∙◌, subst, inl, inr, arith, get_or-set_other}
use lib.Seq.{set-get_or}
use Rattle.std.proofs.lemmas.Bool.{cond_both, both_ways, and_right, ne_eqb, eqb-true}
use Rattle.book.specs.Entries.{SomePlace}
use Rattle.book.specs.Walks.{Fill, row_left, filled}
use Rattle.orders.proofs.Heads.{length_counted, get_or_counted}
use Rattle.orders.specs.Queue.{counted}
use Rattle.orders.specs.Questions.{stands}
use Rattle.orders.specs.Rows.{fair, free, side_code}
use Rattle.orders.specs.declared.row.OrderRow.{OrderRow}
use Rattle.terms.specs.Sides.{opposite}
use Rattle.terms.specs.declared.side.Side.{Side}
use Rattle.terms.specs.declared.side.Side.TheVariants.{Buy, Sell}
use Rattle.rules.specs.Amending.{slot_in, rests_for, side_in, repriced}
use Rattle.rules.specs.Arrivals.{Arrival, met}
use Rattle.rules.specs.Entering.{entry}
use Rattle.rules.specs.Worlds.{World}
use Rattle.rules.specs.declared.amendment.Amendment.{Amendment}
use Rattle.rules.specs.declared.new_order.NewOrder.{NewOrder}
use Rattle.laws.specs.Book.{row_at, waits, Tidy}
use Rattle.laws.specs.Words.{Each}
use Rattle.laws.proofs.Arrivals.{Lands, Fits, fits}
use Rattle.laws.proofs.Found.{Found, found}
use Rattle.laws.proofs.Sums.{each_weaker}

-- nobody waits in a free place
pub free_off : (s : Side) (n : ℕ) → waits s n free ≡ false
unfolding fair
free_off s n = refl

-- a place that counts is read alike in the whole table
pub row_at_is : (table : List OrderRow) (i : ℕ) → i < length (counted table) → row_at table i ≡ get_or table i free
row_at_is table i l = get_or_counted table i free (omega (arith, length_counted table, l))

-- where nobody stood, the place is free
pub place_was_free : (n : ℕ) (table : List OrderRow) (i : ℕ) → Tidy n table → SomePlace n table i → row_at table i ≡ free
place_was_free n table i tidy p =
    elim (tidy i) [
      | inl e ↦ e
      | inr s ↦ absurd (both_ways (stands n (row_at table i)) (ap (stands n) (row_at_is table i p.counts) ∙ p.was_free) s)
    ]

-- the fills are at places where an order of the other side waited
pub fills_off : (w : World) (a : Arrival) (i : ℕ) → waits (opposite a.side) a.product (row_at w.table i) ≡ false → Each (λ f. f.slot.index ≡ i → ⊥) (met w a).fills
fills_off w a i off =
    each_weaker (Fits w a) (λ f. f.slot.index ≡ i → ⊥)
    (λ f h e. both_ways (waits (opposite a.side) a.product (row_at w.table i)) off
    (subst (λ k. waits (opposite a.side) a.product (row_at w.table k) ≡ true) e
    (subst (λ r. waits (opposite a.side) a.product r ≡ true) (sym h.same) h.waiting)))
    (met w a).fills (fits w a)

filled_off : (fs : List Fill) (table : List OrderRow) (i : ℕ) → Each (λ f. f.slot.index ≡ i → ⊥) fs → get_or (filled fs table) i free ≡ get_or table i free
filled_off [] table i h = refl
filled_off (f ∷ fs) table i h =
    filled_off fs (set table f.slot.index (row_left f.slot.row f.quantity)) i h.1
    ∙ get_or-set_other table f.slot.index i (row_left f.slot.row f.quantity) free (λ e. h.0 (sym e))

pub entry_lands : (w : World) (time : ℕ) (o : NewOrder) (place : ℕ) → Tidy w.products.count w.table → o.product < w.products.count → SomePlace w.products.count w.table place →
    Lands w (entry w time o) place (filled (met w (entry w time o)).fills w.table)
entry_lands w time o place tidy listed p =
    let fs : List Fill = (met w (entry w time o)).fills in
    let gone : row_at w.table place ≡ free = place_was_free w.products.count w.table place tidy p in
    let off : waits (opposite o.side) o.product (row_at w.table place) ≡ false = ap (waits (opposite o.side) o.product) gone ∙ free_off (opposite o.side) o.product in
    let left : get_or (filled fs w.table) place free ≡ free = filled_off fs w.table place (fills_off w (entry w time o) place off) ∙ sym (row_at_is w.table place p.counts) ∙ gone in
    record {
      within = p.counts;
      off = off;
      base = sym (set-get_or (filled fs w.table) place free) ∙ ap (set (filled fs w.table) place) left;
    }

-- an order is not on the other side than its own
other_side : (code : ℕ) → eqb code (side_code (opposite (side_in code))) ≡ false
other_side code =
    cond_both (eqb code 0) Buy Sell (λ s. eqb code (side_code (opposite s)) ≡ false) (λ e. ne_eqb code 1 (λ q. omega (arith, q, eqb-true code 0 e))) (λ e. e)

pub own_off : (r : OrderRow) → waits (opposite (side_in r.side)) r.product r ≡ false
own_off r = and_right (fair r) _ (rw (other_side r.side))

pub amend_lands : (w : World) (m : Amendment) (time : ℕ) → rests_for w m.participant m.order ≡ true →
    Lands w (repriced w m time) (slot_in w m.order).index (set (filled (met w (repriced w m time)).fills w.table) (slot_in w m.order).index free)
amend_lands w m time rests =
    let f : Found w m.participant m.order = found w m.participant m.order rests in
    let r : OrderRow = (slot_in w m.order).row in
    record {
      within = f.within;
      off = ap (waits (opposite (side_in r.side)) r.product) f.same ∙ own_off r;
      base = refl;
    }
