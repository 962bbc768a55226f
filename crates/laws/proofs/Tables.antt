-- The places of a table that count: what stands there after a write, and what an order that waits is. Assumes nothing.
use Rattle.std.proofs.Common.{◌≡◌, ℕ, ◌+◌, ◌-◌, ◌<◌, min, Bool, true, false, ◌&&◌, eqb, List, length, get_or, set, sym, refl, ap, ◌∙◌, inl, inr, arith, length-set, get_or-set_other, get_or-set_same}
use Rattle.std.proofs.lemmas.List.{get_or_past}
use Rattle.std.proofs.lemmas.Bool.{and_parts, eqb-true, cases_lt, cond_both}
use Rattle.book.specs.Walks.{row_left}
use Rattle.orders.proofs.Heads.{length_counted, set_counted}
use Rattle.orders.specs.Queue.{counted, most_places}
use Rattle.orders.specs.Rows.{fair, free, side_code}
use Rattle.orders.specs.declared.row.OrderRow.{OrderRow}
use Rattle.terms.specs.declared.side.Side.{Side}
use Rattle.laws.specs.Book.{row_at, waits, rest_of, resting}
use Rattle.laws.specs.Words.{total, only}
use Rattle.laws.proofs.FairRows.{Proper, proper}
use Rattle.laws.proofs.Sums.{total_set}

-- a place that counts
pub counts : (table : List OrderRow) (i : ℕ) → i < length (counted table) → i < most_places
counts table i h = omega (arith, length_counted table)

pub counted_set : (table : List OrderRow) (i : ℕ) (r : OrderRow) → i < length (counted table) → counted (set table i r) ≡ set (counted table) i r
counted_set table i r h = set_counted table i r (counts table i h)

pub length_counted_set : (table : List OrderRow) (i : ℕ) (r : OrderRow) → length (counted (set table i r)) ≡ length (counted table)
length_counted_set table i r = length_counted (set table i r) ∙ ap (min most_places) (length-set table i r) ∙ sym (length_counted table)

pub row_same : (table : List OrderRow) (i : ℕ) (r : OrderRow) → i < length (counted table) → row_at (set table i r) i ≡ r
row_same table i r h = ap (λ (l : List OrderRow). get_or l i free) (counted_set table i r h) ∙ get_or-set_same (counted table) i r free h

pub row_other : (table : List OrderRow) (i k : ℕ) (r : OrderRow) → i < length (counted table) → (k ≡ i → ⊥) → row_at (set table i r) k ≡ row_at table k
row_other table i k r h n = ap (λ (l : List OrderRow). get_or l k free) (counted_set table i r h) ∙ get_or-set_other (counted table) i k r free n

pub resting_set : (n : ℕ) (table : List OrderRow) (i : ℕ) (r : OrderRow) → i < length (counted table) →
    resting n (set table i r) + rest_of n (row_at table i) ≡ resting n table + rest_of n r
resting_set n table i r h =
    ap (λ (l : List OrderRow). total (rest_of n) l + rest_of n (row_at table i)) (counted_set table i r h) ∙ total_set (rest_of n) (counted table) i r free h

-- who waits

pub waits_proper : (side : Side) (n : ℕ) (r : OrderRow) → waits side n r ≡ true → Proper r
waits_proper side n r h = proper r (and_parts (fair r) (eqb r.side (side_code side) && eqb r.product n) h).0

pub waits_rest : (side : Side) (n : ℕ) (r : OrderRow) → waits side n r ≡ true → 0 < r.rest
waits_rest side n r h = (waits_proper side n r h).some

pub waits_side : (side : Side) (n : ℕ) (r : OrderRow) → waits side n r ≡ true → r.side ≡ side_code side
waits_side side n r h =
    eqb-true r.side (side_code side)
    (and_parts (eqb r.side (side_code side)) (eqb r.product n) (and_parts (fair r) (eqb r.side (side_code side) && eqb r.product n) h).1).0

pub waits_product : (side : Side) (n : ℕ) (r : OrderRow) → waits side n r ≡ true → r.product ≡ n
waits_product side n r h =
    eqb-true r.product n
    (and_parts (eqb r.side (side_code side)) (eqb r.product n) (and_parts (fair r) (eqb r.side (side_code side) && eqb r.product n) h).1).1

-- a place that counts, since something rests there
pub rests_counted : (table : List OrderRow) (i : ℕ) → 0 < (row_at table i).rest → i < length (counted table)
rests_counted table i h =
    elim (cases_lt i (length (counted table))) [
      | inl l ↦ l
      | inr l ↦ (let z : ⊥ = omega (arith, ap (λ (r : OrderRow). r.rest) (get_or_past (counted table) i free l), h) in absurd z)
    ]

pub waits_counted : (side : Side) (n : ℕ) (table : List OrderRow) (i : ℕ) → waits side n (row_at table i) ≡ true → i < length (counted table)
waits_counted side n table i h = rests_counted table i (waits_rest side n (row_at table i) h)

-- what is left of a row
pub rest_left : (n : ℕ) (r : OrderRow) (m : ℕ) → rest_of n (row_left r m) ≡ only (eqb r.number n) (r.rest - m)
rest_left n r m =
    cond_both (eqb r.rest m) _ _ (λ (x : OrderRow). rest_of n x ≡ only (eqb r.number n) (r.rest - m))
    (λ e. let z : r.rest - m ≡ 0 = omega (arith, eqb-true r.rest m e) in none (eqb 0 n) (eqb r.number n) (r.rest - m) z)
    (λ e. refl)
  where
    none : (b c : Bool) (k : ℕ) → k ≡ 0 → only b 0 ≡ only c k
    none true true k e = sym e
    none true false k e = refl
    none false true k e = sym e
    none false false k e = refl

pub row_left_rest : (r : OrderRow) (m : ℕ) → (row_left r m).rest ≡ r.rest - m
row_left_rest r m =
    cond_both (eqb r.rest m) _ _ (λ (x : OrderRow). x.rest ≡ r.rest - m) (λ e. omega (arith, eqb-true r.rest m e)) (λ e. refl)
