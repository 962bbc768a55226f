-- An incoming order under its number. Assumes nothing.
use Rattle.std.proofs.Common.{◌≡◌, ℕ, ◌+◌, ◌<◌, ◌≤◌, Bool, true, false, cond, not, ltb, List, Some, None, refl, subst, arith}
use Rattle.std.proofs.lemmas.Bool.{ltb-true, ltb-false}
use Rattle.limits.specs.declared.range.Range.{Range}
use Rattle.orders.specs.declared.row.OrderRow.{OrderRow}
use Rattle.terms.specs.Durations.{may_rest}
use Rattle.terms.specs.Stamps.{last_stamp, stamp_at, stamp_after}
use Rattle.terms.specs.declared.stamp.Stamp.{Stamp}
use Rattle.book.specs.Entries.{arriving_as, planned}
use Rattle.book.specs.Sweeps.{due}
use Rattle.book.specs.Walks.{Walk, matching}
use Rattle.book.specs.declared.arriving.Arriving.{Arriving}
use Rattle.book.specs.declared.incoming.Incoming.{Incoming}

-- a stamp is left exactly below the last one
pub given_next : (last : ℕ) (s : Stamp) → Some s ≡ stamp_after last → (s ≡ stamp_at (last + 1)) × (last < last_stamp)
given_next last s e = go (ltb last last_stamp) refl e
  where
    go : (b : Bool) → ltb last last_stamp ≡ b → Some s ≡ cond b (Some (stamp_at (last + 1))) None → (s ≡ stamp_at (last + 1)) × (last < last_stamp)
    go true h k = (cc, ltb-true _ _ h)
    go false h k = absurd (let z : ◌≡◌ {A = ℕ} 0 1 = cc in omega arith)

pub none_given : (last : ℕ) → None ≡ stamp_after last → last_stamp ≤ last
none_given last e = go (ltb last last_stamp) refl e
  where
    go : (b : Bool) → ltb last last_stamp ≡ b → None ≡ cond b (Some (stamp_at (last + 1))) None → last_stamp ≤ last
    go true h k = absurd (let z : ◌≡◌ {A = ℕ} 0 1 = cc in omega arith)
    go false h k = ltb-false _ _ h

-- what holds of the order and its walk, holds of them as they are planned
pub as_planned : (P : Arriving → Walk → Type 0) (reaches : ℕ → ℕ → Bool) (code : ℕ) (first : OrderRow → OrderRow → Bool) (o : Incoming) (stamp : ℕ) (number : Stamp) (range : Range) (table : List OrderRow) (rests : Bool) → rests ≡ may_rest o.duration → number ≡ stamp_at (stamp + 1) → P (record { number = number; order = o }) (due (not rests) (matching reaches code first o range table)) → P (arriving_as o (stamp + 1)) (planned reaches code first o range table)
as_planned P reaches code first o stamp number range table rests e n h =
    subst (λ (s : Stamp). P (record { number = s; order = o }) (planned reaches code first o range table)) n
    (subst (λ (b : Bool). P (record { number = number; order = o }) (due (not b) (matching reaches code first o range table))) e h)
