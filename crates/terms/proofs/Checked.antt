-- A checked value is known by its number. Assumes nothing.
use Rattle.std.proofs.Common.{◌≡◌, ℕ, ◌+◌, ◌<◌, ◌≤◌, Bool, true, false, cond, ◌&&◌, leb, Some, Ok, Err, Result, refl, ap, ◌∙◌, arith}
use mathlib.Core.Path.{PathP, to_path_p}
use native.Mathlib.Bridge.{le_prop}
use Rattle.std.proofs.lemmas.Bool.{le-leb, lt-ltb, leb-true, and_parts}
use Rattle.std.specs.Result.{IsOk, result_ok}
use Rattle.terms.specs.Checked.{price_at, quantity_at, participant_at, price_if, quantity_if, participant_if}
use Rattle.terms.specs.Ranges.{highest_price, largest_quantity, last_participant}
use Rattle.terms.specs.declared.field.Field.{Field}
use Rattle.terms.specs.declared.field.Field.TheVariants.{Price as the_price, Quantity as the_quantity, Participant as the_participant}
use Rattle.terms.specs.declared.participant.Participant.{Participant}
use Rattle.terms.specs.declared.price.Price.{Price}
use Rattle.terms.specs.declared.quantity.Quantity.{Quantity}
use Rattle.terms.specs.declared.stamp.Stamp.{Stamp}
use Rattle.terms.specs.Stamps.{last_stamp, stamp_at, stamp_if, stamp_after}

-- the bounds of two equal numbers are the same facts
module _ {m n : ℕ} (e : m ≡ n) where
  pub above : (low : ℕ) (p : low ≤ m) (q : low ≤ n) → PathP (λ i. low ≤ e i) p q
  above low p q = to_path_p (λ i. low ≤ e i) (le_prop _ q)

  pub below : (high : ℕ) (p : m ≤ high) (q : n ≤ high) → PathP (λ i. e i ≤ high) p q
  below high p q = to_path_p (λ i. e i ≤ high) (le_prop _ q)

pub price_same : (p q : Price) → p.ticks ≡ q.ticks → p ≡ q
price_same p q e = λ i. record { ticks = e i; within = below e highest_price p.within q.within i }

pub quantity_same : (p q : Quantity) → p.lots ≡ q.lots → p ≡ q
quantity_same p q e =
    λ i. record { lots = e i; some = above e 1 p.some q.some i; within = below e largest_quantity p.within q.within i }

pub participant_same : (p q : Participant) → p.number ≡ q.number → p ≡ q
participant_same p q e =
    λ i. record { number = e i; some = above e 1 p.some q.some i; within = below e last_participant p.within q.within i }

pub stamp_same : (s t : Stamp) → s.number ≡ t.number → s ≡ t
stamp_same s t e = λ i. record { number = e i; given = above e 1 s.given t.given i }

-- and it is what its number makes
pub stamp_is : (s : Stamp) → stamp_at s.number ≡ s
stamp_is s = stamp_same _ _ (omega (arith, s.given))

pub stamp_made : (s : Stamp) → stamp_if s.number ≡ Some s
stamp_made s = rw (le-leb 1 s.number s.given) (ap Some (stamp_is s))

pub stamp_next : (last : ℕ) (s : Stamp) → s.number ≡ last + 1 → last < last_stamp → stamp_after last ≡ Some s
stamp_next last s e h = rw (lt-ltb last last_stamp h) (ap Some (stamp_same _ _ (omega arith)))

pub price_is : (p : Price) → price_at p.ticks ≡ p
price_is p = price_same _ _ (omega arith)

pub quantity_is : (q : Quantity) → quantity_at q.lots ≡ q
quantity_is q = quantity_same _ _ (omega arith)

pub participant_is : (p : Participant) → participant_at p.number ≡ p
participant_is p = participant_same _ _ (omega arith)

pub price_made : (p : Price) → price_if p.ticks ≡ Ok p
price_made p = rw (le-leb p.ticks highest_price p.within) (ap Ok (price_is p))

pub quantity_made : (q : Quantity) → quantity_if q.lots ≡ Ok q
quantity_made q = rw (le-leb 1 q.lots q.some, le-leb q.lots largest_quantity q.within) (ap Ok (quantity_is q))

pub participant_made : (p : Participant) → participant_if p.number ≡ Ok p
participant_made p = rw (le-leb 1 p.number p.some, le-leb p.number last_participant p.within) (ap Ok (participant_is p))

-- a number in range is not refused
pub price_ok : (n : ℕ) → n ≤ highest_price → IsOk (price_if n)
price_ok n h = rw (le-leb n highest_price h) refl

pub price_passes : (n : ℕ) (f : Field) → n ≤ highest_price → Err f ≡ price_if n → ⊥
price_passes n f h e =
    let made : price_if n ≡ Ok (price_at n) = rw (le-leb n highest_price h) in
    let z : ◌≡◌ {A = ℕ} 0 1 = cc in
    omega arith

some_is : {V : Type 0} (v w : V) → Some v ≡ result_ok {E = Field} (Ok w) → v ≡ w
some_is v w e = cc

none_is : {V : Type 0} (v : V) (f : Field) → Some v ≡ result_ok (Err f) → ⊥
none_is v f e = let z : ◌≡◌ {A = ℕ} 0 1 = cc in omega arith

-- what is known of a number once it was made a value
pub price_in : (n : ℕ) (p : Price) (r : Result Price Field) → r ≡ price_if n → Some p ≡ result_ok r → (n ≤ highest_price) × (p.ticks ≡ n)
price_in n p r e s = go (leb n highest_price) refl (s ∙ ap result_ok e)
  where
    go : (b : Bool) → leb n highest_price ≡ b → Some p ≡ result_ok (cond b (Ok (price_at n)) (Err the_price)) → (n ≤ highest_price) × (p.ticks ≡ n)
    go true h k = (leb-true _ _ h, omega (arith, ap (λ (q : Price). q.ticks) (some_is p (price_at n) k), leb-true _ _ h))
    go false h k = absurd (none_is p the_price k)

pub quantity_in : (n : ℕ) (q : Quantity) (r : Result Quantity Field) → r ≡ quantity_if n → Some q ≡ result_ok r → (1 ≤ n) × (n ≤ largest_quantity) × (q.lots ≡ n)
quantity_in n q r e s = go (leb 1 n && leb n largest_quantity) refl (s ∙ ap result_ok e)
  where
    go : (b : Bool) → (leb 1 n && leb n largest_quantity) ≡ b → Some q ≡ result_ok (cond b (Ok (quantity_at n)) (Err the_quantity)) → (1 ≤ n) × (n ≤ largest_quantity) × (q.lots ≡ n)
    go true h k =
        let both = and_parts _ _ h in
        let low = leb-true _ _ both.0 in
        let high = leb-true _ _ both.1 in
        (low, high, omega (arith, ap (λ (x : Quantity). x.lots) (some_is q (quantity_at n) k)))
    go false h k = absurd (none_is q the_quantity k)

pub participant_in : (n : ℕ) (p : Participant) (r : Result Participant Field) → r ≡ participant_if n → Some p ≡ result_ok r → (1 ≤ n) × (n ≤ last_participant) × (p.number ≡ n)
participant_in n p r e s = go (leb 1 n && leb n last_participant) refl (s ∙ ap result_ok e)
  where
    go : (b : Bool) → (leb 1 n && leb n last_participant) ≡ b → Some p ≡ result_ok (cond b (Ok (participant_at n)) (Err the_participant)) → (1 ≤ n) × (n ≤ last_participant) × (p.number ≡ n)
    go true h k =
        let both = and_parts _ _ h in
        let low = leb-true _ _ both.0 in
        let high = leb-true _ _ both.1 in
        (low, high, omega (arith, ap (λ (x : Participant). x.number) (some_is p (participant_at n) k)))
    go false h k = absurd (none_is p the_participant k)
