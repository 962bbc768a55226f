-- The head of a queue, place by place from the table's start. Assumes the laws of a side.
use Rattle.std.proofs.Common.{◌≡◌, ℕ, suc, ◌+◌, ◌<◌, Bool, true, false, cond, List, [], ◌∷◌, ◌++◌, length, get_or, take, Some, None, All, filter, Option, sym, refl, ap, ◌∙◌, arith}
use Rattle.std.proofs.lemmas.Bool.{true≢false}
use Rattle.std.proofs.lemmas.List.{take_more, length-take}
use Rattle.std.proofs.lemmas.List.Elements.{All-head, All-tail, All-weaker}
use Rattle.orders.specs.Queue.{Slot, slot, slots, sorted, head, lead, offer}
use Rattle.orders.specs.declared.row.OrderRow.{OrderRow}
use Rattle.orders.proofs.Cursor.{Ranks}
use Rattle.orders.proofs.Gone.{Within, slots_in}
use Rattle.orders.proofs.Heads.{part, head_with}

slots_more : (k : ℕ) (rows : List OrderRow) (r : OrderRow) → slots k (rows ++ r ∷ []) ≡ slots k rows ++ slot (k + length rows) r ∷ []
slots_more k [] r = ap (λ n. slot n r ∷ []) (omega arith)
slots_more k (q ∷ rows) r = ap (λ es. slot k q ∷ es) (slots_more (suc k) rows r ∙ ap (λ n. slots (suc k) rows ++ slot n r ∷ []) (omega arith))

module _ (lt : Slot → Slot → Bool) (o : Ranks lt) (p : Slot → Bool) where
  -- of two places it does not matter which is offered first
  either_first : (x y : Slot) → (x.index ≡ y.index → ⊥) → lead lt y (Some x) ≡ lead lt x (Some y)
  either_first x y n = go (lt y x) (lt x y) refl refl
    where
      go : (b c : Bool) → lt y x ≡ b → lt x y ≡ c → cond b (Some y) (Some x) ≡ cond c (Some x) (Some y)
      go true true e f = absurd (true≢false (sym f ∙ o.oneway y x e))
      go true false e f = refl
      go false true e f = refl
      go false false e f = absurd (true≢false (sym (o.total x y n f) ∙ e))

  leads_swap : (x y : Slot) → (x.index ≡ y.index → ⊥) → (best : Option Slot) → lead lt y (lead lt x best) ≡ lead lt x (lead lt y best)
  leads_swap x y n None = either_first x y n
  leads_swap x y n (Some z) = go (lt x z) (lt y z) refl refl
    where
      go : (b c : Bool) → lt x z ≡ b → lt y z ≡ c → lead lt y (cond b (Some x) (Some z)) ≡ lead lt x (cond c (Some y) (Some z))
      go true true e f = either_first x y n
      go true false e f = rw (o.chain y z x f (o.oneway x z e), e)
      go false true e f = rw (o.chain x z y e (o.oneway y z f), f)
      go false false e f = rw (e, f)

  offers_swap : (x y : Slot) → (x.index ≡ y.index → ⊥) → (best : Option Slot) → offer lt p y (offer lt p x best) ≡ offer lt p x (offer lt p y best)
  offers_swap x y n best = go (p x) (p y)
    where
      go : (b c : Bool) → cond c (lead lt y (cond b (lead lt x best) best)) (cond b (lead lt x best) best) ≡ cond b (lead lt x (cond c (lead lt y best) best)) (cond c (lead lt y best) best)
      go true true = leads_swap x y n best
      go true false = refl
      go false true = refl
      go false false = refl

  head_last : (es : List Slot) (x : Slot) → All (λ y. (x.index ≡ y.index → ⊥)) es → head (sorted lt (filter p (es ++ x ∷ []))) ≡ offer lt p x (head (sorted lt (filter p es)))
  head_last [] x a = head_with lt p x []
  head_last (y ∷ ys) x a =
      head_with lt p y (ys ++ x ∷ [])
      ∙ ap (offer lt p y) (head_last ys x (All-tail (λ y. (x.index ≡ y.index → ⊥)) y ys a))
      ∙ offers_swap x y (All-head (λ y. (x.index ≡ y.index → ⊥)) y ys a) (head (sorted lt (filter p ys)))
      ∙ ap (offer lt p x) (sym (head_with lt p y ys))

  -- a turn of a loop over the places
  pub part_more : (rows : List OrderRow) (k : ℕ) (d : OrderRow) → k < length rows → head (part lt p 0 (take (k + 1) rows)) ≡ offer lt p (slot k (get_or rows k d)) (head (part lt p 0 (take k rows)))
  part_more rows k d h =
      let before = take k rows in
      let long : length before ≡ k = rw length-take (omega arith) in
      let r = get_or rows k d in
      let other = All-weaker (Within 0 (length before)) (λ y. (k ≡ y.index → ⊥)) (λ y w m. omega arith) (slots 0 before) (slots_in 0 before) in
      ap (λ rs. head (part lt p 0 rs)) (take_more rows k d h)
      ∙ ap (λ es. head (sorted lt (filter p es))) (slots_more 0 before r ∙ ap (λ n. slots 0 before ++ slot n r ∷ []) (omega arith))
      ∙ head_last (slots 0 before) (slot k r) other
