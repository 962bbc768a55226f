-- The rows of a table that was written to, went through a close, or is new. Assumes nothing.
use Rattle.std.proofs.Common.{◌≡◌, ℕ, zero, suc, ◌<◌, ◌⊎◌, List, [], ◌∷◌, ◌++◌, map, length, get_or, take, drop, set, sym, refl, ap, ◌∙◌, subst, inl, inr}
use Rattle.std.proofs.lemmas.Bool.{cases_eq}
use Rattle.orders.specs.Closes.{expired, left_at}
use Rattle.orders.specs.Queue.{counted, most_places}
use Rattle.orders.specs.Rows.{fair, free}
use Rattle.orders.specs.declared.close.Close.{Close}
use Rattle.orders.specs.declared.row.OrderRow.{OrderRow}
use Rattle.laws.specs.Book.{row_at}
use Rattle.laws.specs.Words.{Each}
use Rattle.laws.proofs.Tables.{row_same, row_other}

-- one row is new, the others are as they were
abbrev pub RowSet : List OrderRow → ℕ → OrderRow → List OrderRow → ℕ → Type 0
RowSet t p r t' i = ((i ≡ p) × (row_at t' i ≡ r)) ⊎ ((i ≡ p → ⊥) × (row_at t' i ≡ row_at t i))

pub row_set : (table : List OrderRow) (p : ℕ) (r : OrderRow) → p < length (counted table) → (i : ℕ) → RowSet table p r (set table p r) i
row_set table p r l i =
    elim (cases_eq i p) [
      | inl e ↦ inl (e, subst (λ j. row_at (set table p r) j ≡ r) (sym e) (row_same table p r l))
      | inr n ↦ inr (n, row_other table p i r l n)
    ]

-- a close goes over all that count

take_over : (n : ℕ) (f : OrderRow → OrderRow) (xs : List OrderRow) → take n (map f (take n xs) ++ drop n xs) ≡ map f (take n xs)
take_over zero f xs = refl
take_over (suc n) f [] = refl
take_over (suc n) f (x ∷ xs) = ap (λ ys. f x ∷ ys) (take_over n f xs)

pub counted_expired : (n : ℕ) (close : Close) (table : List OrderRow) → counted (expired n close table) ≡ map (left_at n close) (counted table)
unfolding counted
counted_expired n close table = take_over most_places (left_at n close) table

left_free : (n : ℕ) (close : Close) → left_at n close free ≡ free
unfolding fair
left_free n close = refl

get_d_over : (f : OrderRow → OrderRow) → f free ≡ free → (xs : List OrderRow) (i : ℕ) → get_or (map f xs) i free ≡ f (get_or xs i free)
get_d_over f e [] i = sym e
get_d_over f e (x ∷ xs) zero = refl
get_d_over f e (x ∷ xs) (suc i) = get_d_over f e xs i

pub row_expired : (n : ℕ) (close : Close) (table : List OrderRow) (i : ℕ) → row_at (expired n close table) i ≡ left_at n close (row_at table i)
row_expired n close table i = ap (λ rows. get_or rows i free) (counted_expired n close table) ∙ get_d_over (left_at n close) (left_free n close) (counted table) i

-- a new table

free_taken : (n : ℕ) (xs : List OrderRow) → Each (λ r. r ≡ free) xs → (i : ℕ) → get_or (take n xs) i free ≡ free
free_taken zero xs h i = refl
free_taken (suc n) [] h i = refl
free_taken (suc n) (x ∷ xs) h zero = h.0
free_taken (suc n) (x ∷ xs) h (suc i) = free_taken n xs h.1 i

pub row_new : (table : List OrderRow) → Each (λ r. r ≡ free) table → (i : ℕ) → row_at table i ≡ free
unfolding counted
row_new table h i = free_taken most_places table h i
