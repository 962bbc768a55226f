-- In a queue in order, what follows an order that is not reached is not reached either. Assumes the laws of a side.
use Rattle.std.proofs.Common.{◌≡◌, ℕ, Bool, true, false, not, ◌&&◌, ◌||◌, ltb, List, [], ◌∷◌, sym, refl, ◌∙◌}
use Rattle.std.proofs.lemmas.List.Elements.{All-weaker}
use Rattle.std.proofs.lemmas.Bool.{true≢false, false≢true}
use Rattle.orders.specs.Priority.{InOrder}
use Rattle.orders.specs.Queue.{Slot, before}
use Rattle.orders.specs.declared.row.OrderRow.{OrderRow}
use Rattle.book.proofs.Kept.{Further}

module _ (first : OrderRow → OrderRow → Bool) (reaches : ℕ → ℕ → Bool) (limit : ℕ) (oneway : (a b : OrderRow) → first a b ≡ true → first b a ≡ false) (nearer : (a b : OrderRow) (limit : ℕ) → first b a ≡ false → reaches limit b.price ≡ true → reaches limit a.price ≡ true) where
  not_after : (x y : Bool) (i : Bool) → (x ≡ true → y ≡ false) → (x || (not y && i)) ≡ true → y ≡ false
  not_after true y i one h = one refl
  not_after false true i one h = absurd (false≢true h)
  not_after false false i one h = refl

  follows : (a b : Slot) → before first a b ≡ true → reaches limit a.row.price ≡ false → reaches limit b.row.price ≡ false
  follows a b h n = go (reaches limit b.row.price) refl
    where
      go : (t : Bool) → reaches limit b.row.price ≡ t → t ≡ false
      go true e = absurd (true≢false (sym (nearer a.row b.row limit (not_after (first a.row b.row) (first b.row a.row) (ltb a.index b.index) (oneway a.row b.row) h) e) ∙ n))
      go false e = refl

  pub further : (q : List Slot) → InOrder (before first) q → Further (reaches limit) q
  further [] o = tt
  further (a ∷ q) o = (
    (λ n. All-weaker (λ b. before first a b ≡ true) (λ b. reaches limit b.row.price ≡ false) (λ b h. follows a b h n) q o.0),
    further q o.1,
  )
