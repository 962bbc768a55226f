-- What a passed check tells. Assumes nothing.
use Rattle.std.proofs.Common.{◌≡◌, ℕ, Bool, true, false, leb, Some, None, Option, refl, arith}
use Rattle.std.proofs.lemmas.Bool.{leb-true, and_parts}
use Rattle.rules.specs.Refusing.{price_check, quantity_check, participant_check}
use Rattle.terms.specs.Checked.{price_at, quantity_at, participant_at}
use Rattle.terms.specs.Checks.{unless, first_of}
use Rattle.terms.specs.Ranges.{highest_price, largest_quantity, last_participant}
use Rattle.terms.specs.declared.refusal.Refusal.{Refusal}

pub unless_passed : (b : Bool) (r : Refusal) → unless b r ≡ None → b ≡ true
unless_passed true r e = refl
unless_passed false r e = grind arith

pub passed : (a b : Option Refusal) → first_of a b ≡ None → (a ≡ None) × (b ≡ None)
passed None b e = (refl, e)
passed (Some r) b e = grind arith

pub price_ticks : (n : ℕ) → price_check n ≡ None → (price_at n).ticks ≡ n
price_ticks n e = omega (arith, leb-true n highest_price (unless_passed _ _ e))

pub quantity_lots : (n : ℕ) → quantity_check n ≡ None → (quantity_at n).lots ≡ n
quantity_lots n e =
    let p = and_parts (leb 1 n) (leb n largest_quantity) (unless_passed _ _ e) in
    omega (arith, leb-true 1 n p.0, leb-true n largest_quantity p.1)

pub participant_number : (n : ℕ) → participant_check n ≡ None → (participant_at n).number ≡ n
participant_number n e =
    let p = and_parts (leb 1 n) (leb n last_participant) (unless_passed _ _ e) in
    omega (arith, leb-true 1 n p.0, leb-true n last_participant p.1)
