-- A table whose places are gone through one by one. Assumes nothing.
use Rattle.std.proofs.Common.{◌≡◌, ℕ, ◌+◌, ◌-◌, ◌<◌, ◌≤◌, min, Bool, true, false, cond, count_by, List, ◌++◌, map, length, get_or, take, drop, set, sym, ap, ◌∙◌, arith, length-append, length-drop}
use Rattle.std.proofs.lemmas.List.Edits.{map_over_more}
use Rattle.std.proofs.lemmas.List.{get_or-append_right, get_or-drop, get_or_default, length-map, length-take, take_all, take_min, drop_all, drop_min, append-nil}
use Rattle.std.proofs.lemmas.List.Sums.{count_by_more_yes, count_by_more_no}
use Rattle.orders.specs.Queue.{counted, most_places}
use Rattle.orders.specs.Rows.{free}
use Rattle.orders.specs.declared.row.OrderRow.{OrderRow}

module _ (f : OrderRow → OrderRow) (xs ys : List OrderRow) (i : ℕ) (d : OrderRow) (in' : i < length xs) (so_far : ys ≡ map f (take i xs) ++ drop i xs) where
  passed : length (map f (take i xs)) ≡ i
  passed = simp (length-map, length-take) (omega arith)

  long : i < length ys
  long = rw so_far (simp (length-append, length-map, length-take, length-drop) (omega arith))

  -- the place that comes next is still as it was
  pub next_as_was : get_or ys i d ≡ get_or xs i d
  next_as_was =
      ap (λ (zs : List OrderRow). get_or zs i d) so_far
      ∙ get_or-append_right (map f (take i xs)) (drop i xs) i i d passed (omega arith)
      ∙ get_or-drop i xs (i - i) d
      ∙ ap (λ (k : ℕ). get_or xs k d) (omega arith)

  pub next_over : set ys i (f (get_or ys i d)) ≡ map f (take (i + 1) xs) ++ drop (i + 1) xs
  next_over = map_over_more f xs ys i (get_or ys i d) in' so_far (get_or_default ys i d (get_or ys i d) long)

-- a turn: the place is freed and counted where its order goes, and stays as it is where not
module _ (goes : OrderRow → Bool) (xs ys : List OrderRow) (i : ℕ) (in' : i < length xs) where
  abbrev pub freed : OrderRow → OrderRow
  freed r = cond (goes r) free r

  module _ (so_far : ys ≡ map freed (take i xs) ++ drop i xs) where
    next_goes : (b : Bool) → goes (get_or ys i free) ≡ b → goes (get_or xs i free) ≡ b
    next_goes b e = sym (ap goes (next_as_was freed xs ys i free in' so_far)) ∙ e

    pub goes_next : goes (get_or ys i free) ≡ true → (set ys i free ≡ map freed (take (i + 1) xs) ++ drop (i + 1) xs) × (count_by goes (take (i + 1) xs) ≡ count_by goes (take i xs) + 1)
    goes_next e =
        (ap (λ b. set ys i (cond b free (get_or ys i free))) (sym e) ∙ next_over freed xs ys i free in' so_far, count_by_more_yes goes xs i free in' (next_goes true e))

    pub stays_next : goes (get_or ys i free) ≡ false → (set ys i (get_or ys i free) ≡ map freed (take (i + 1) xs) ++ drop (i + 1) xs) × (count_by goes (take (i + 1) xs) ≡ count_by goes (take i xs))
    stays_next e =
        (ap (λ b. set ys i (cond b free (get_or ys i free))) (sym e) ∙ next_over freed xs ys i free in' so_far, count_by_more_no goes xs i free in' (next_goes false e))

-- all places that count are gone through
pub all_counted : (xs : List OrderRow) (i : ℕ) → i ≡ min most_places (length xs) → (take i xs ≡ counted xs) × (drop i xs ≡ drop most_places xs)
unfolding counted
all_counted xs i e = rw e (take_min most_places xs, drop_min most_places xs)

-- and every place behind them is as it was
pub all_left : (f : OrderRow → OrderRow) (table places : List OrderRow) (n i : ℕ) → n ≡ min most_places (length table) → length (take n table) ≤ i → places ≡ map f (take i (take n table)) ++ drop i (take n table) → places ++ drop n table ≡ map f (counted table) ++ drop most_places table
all_left f table places n i e h so_far =
    let ends = all_counted table n e in
    rw (so_far, take_all i (take n table) h, drop_all i (take n table) h, append-nil, ends.0, ends.1)
