-- The head of a queue, place by place from the table's end. Assumes nothing.
use Rattle.std.proofs.Common.{◌≡◌, ℕ, ◌<◌, min, Bool, true, false, cond, List, [], ◌∷◌, length, get_or, set, Some, filter, refl, length-take, get_or-take}
use lib.Seq.{take-set-lt}
use Rattle.orders.specs.Queue.{Slot, slots, insert, sorted, head, lead, offer, counted, most_places}
use Rattle.orders.specs.declared.row.OrderRow.{OrderRow}

pub length_counted : (rows : List OrderRow) → length (counted rows) ≡ min most_places (length rows)
unfolding counted
length_counted rows = length-take most_places rows

pub get_or_counted : (rows : List OrderRow) (k : ℕ) (d : OrderRow) → k < most_places → get_or (counted rows) k d ≡ get_or rows k d
unfolding counted
get_or_counted rows k d h = get_or-take most_places rows k d h

pub set_counted : (rows : List OrderRow) (k : ℕ) (r : OrderRow) → k < most_places → counted (set rows k r) ≡ set (counted rows) k r
unfolding counted
set_counted rows k r h = take-set-lt most_places rows k r h

-- those of a table from index i on that pass, in their order
abbrev pub part : (Slot → Slot → Bool) → (Slot → Bool) → ℕ → List OrderRow → List Slot
part lt p i rows = sorted lt (filter p (slots i rows))

module _ (lt : Slot → Slot → Bool) (p : Slot → Bool) where
  head_either : (b : Bool) (x y : Slot) (xs ys : List Slot) → head (cond b (x ∷ xs) (y ∷ ys)) ≡ cond b (Some x) (Some y)
  head_either true x y xs ys = refl
  head_either false x y xs ys = refl

  head_insert : (x : Slot) (q : List Slot) → head (insert lt x q) ≡ lead lt x (head q)
  head_insert x [] = refl
  head_insert x (y ∷ ys) = head_either (lt x y) x y (y ∷ ys) (insert lt x ys)

  pub head_with : (x : Slot) (xs : List Slot) → head (sorted lt (filter p (x ∷ xs))) ≡ offer lt p x (head (sorted lt (filter p xs)))
  head_with x xs = go (p x)
    where
      go : (b : Bool) → head (sorted lt (cond b (x ∷ filter p xs) (filter p xs))) ≡ cond b (lead lt x (head (sorted lt (filter p xs)))) (head (sorted lt (filter p xs)))
      go true = head_insert x (sorted lt (filter p xs))
      go false = refl
