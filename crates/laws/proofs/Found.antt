-- The order of a number, where one rests for its participant. Assumes nothing.
use Rattle.std.proofs.Common.{◌≡◌, ℕ, suc, ◌+◌, ◌<◌, Bool, true, eqb, List, [], ◌∷◌, length, get_or, Some, None, filter, Option, refl, subst, arith}
use Rattle.std.proofs.lemmas.Bool.{cond_both, and_parts, eqb-true, false≢true}
use Rattle.orders.specs.Queue.{Slot, slot, slots, head, counted}
use Rattle.orders.specs.Questions.{stands, has_number}
use Rattle.orders.specs.Rows.{free}
use Rattle.orders.specs.declared.row.OrderRow.{OrderRow}
use Rattle.rules.specs.Amending.{slot_in, slot_or_none, place_of, belongs, rests_for}
use Rattle.rules.specs.Worlds.{World}
use Rattle.laws.specs.Book.{row_at}

-- the first place that passes, in a table whose first index is i
abbrev Finds : (Slot → Bool) → ℕ → List OrderRow → Option Slot → Type 0
Finds p i rs None = Unit {0}
Finds p i rs (Some a) = (k : ℕ) × (a.index ≡ i + k) × (k < length rs) × (get_or rs k free ≡ a.row) × (p a ≡ true)

finds_later : (p : Slot → Bool) (i : ℕ) (r : OrderRow) (rs : List OrderRow) (o : Option Slot) → Finds p (suc i) rs o → Finds p i (r ∷ rs) o
finds_later p i r rs None h = tt
finds_later p i r rs (Some a) h = (suc h.0, omega (arith, h.1), omega (arith, h.2), h.3, h.4)

finds_first : (p : Slot → Bool) (i : ℕ) (rs : List OrderRow) → Finds p i rs (head (filter p (slots i rs)))
finds_first p i [] = tt
finds_first p i (r ∷ rs) =
    let later = finds_later p i r rs (head (filter p (slots (suc i) rs))) (finds_first p (suc i) rs) in
    cond_both (p (slot i r)) (slot i r ∷ filter p (slots (suc i) rs)) (filter p (slots (suc i) rs)) (λ l. Finds p i (r ∷ rs) (head l))
    (λ e. (0, omega arith, omega arith, refl, e)) (λ e. later)

-- a slot of the table holds the order of this number and participant
pub record HoldsOrder (w : World) (participant number : ℕ) (a : Slot) : Type 0 where
  pub within : a.index < length (counted w.table)
  pub same : row_at w.table a.index ≡ a.row
  pub stood : stands w.products.count a.row ≡ true
  pub numbered : a.row.number ≡ number
  pub owned : a.row.participant ≡ participant

abbrev pub Found : World → ℕ → ℕ → Type 0
Found w participant number = HoldsOrder w participant number (slot_in w number)

holds : (w : World) (participant number : ℕ) (o : Option Slot) → Finds (has_number w.products.count number) 0 (counted w.table) o → belongs participant o ≡ true →
    HoldsOrder w participant number (slot_or_none o)
holds w participant number None f b = absurd (false≢true b)
holds w participant number (Some a) f b =
    let index : f.0 ≡ a.index = omega (arith, f.1) in
    let parts = and_parts (stands w.products.count a.row) (eqb a.row.number number) f.4 in
    record {
      within = omega (arith, f.2, index);
      same = subst (λ k. row_at w.table k ≡ a.row) index f.3;
      stood = parts.0;
      numbered = eqb-true a.row.number number parts.1;
      owned = eqb-true a.row.participant participant b;
    }

pub found : (w : World) (participant number : ℕ) → rests_for w participant number ≡ true → Found w participant number
unfolding slot_in
found w participant number b =
    holds w participant number (place_of w number) (finds_first (has_number w.products.count number) 0 (counted w.table)) b
