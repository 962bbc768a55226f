-- Numbers as four bytes, and a record's twelve. Assumes nothing.
use Rattle.std.proofs.Common.{◌≡◌, ℕ, ◌+◌, ◌*◌, ◌/◌, ◌%◌, ◌^◌, ◌<◌, refl, sym, ◌∙◌, mod-eq_of_lt, div-add-mod', arith}
use Rattle.std.proofs.lemmas.Nat.{shr-shr, div_below}
use Rattle.byte_tape.specs.Bytes.{four, number_at, ComesBack}
use Rattle.terms.specs.Numbers.{mark_number}
use Rattle.terms.specs.declared.mark.Mark.{Mark}
use Rattle.terms.specs.declared.mark.Mark.TheVariants.{Stands, Considered, Upheld, Cancelled}

joins : (n a b d w x y z : ℕ) → a * 256 + w ≡ n → b * 256 + x ≡ a → d * 256 + y ≡ b → z ≡ d → z * 16777216 + y * 65536 + x * 256 + w ≡ n
joins n a b d w x y z p q r s = omega arith

-- one number, from its four bytes
pub four_back : (n : ℕ) → n < 2 ^ 32 → n / 16777216 % 256 * 16777216 + n / 65536 % 256 * 65536 + n / 256 % 256 * 256 + n % 256 ≡ n
four_back n fits =
    let two : n / 65536 ≡ n / 256 / 256 = sym (shr-shr n 8 8) in
    let three : n / 16777216 ≡ n / 256 / 256 / 256 = sym (shr-shr (n / 256) 8 8 ∙ shr-shr n 8 16) in
    let top : n / 256 / 256 / 256 < 256 = rw (← three) (div_below n 16777216 256 (omega arith) (omega arith)) in
    rw (two, three) (joins n (n / 256) (n / 256 / 256) (n / 256 / 256 / 256) (n % 256) (n / 256 % 256) (n / 256 / 256 % 256) (n / 256 / 256 / 256 % 256) (div-add-mod' n 256) (div-add-mod' (n / 256) 256) (div-add-mod' (n / 256 / 256) 256) (mod-eq_of_lt top))

-- no mark is above 3, so it comes back whole
pub mark_back : (m : Mark) → number_at (four (mark_number m)) 0 ≡ mark_number m
mark_back Stands = refl
mark_back Considered = refl
mark_back Upheld = refl
mark_back Cancelled = refl

pub comes_back : ComesBack
comes_back r fit =
    λ i. record {
      product = four_back r.product (fit 0 0 (omega arith)) i;
      time = four_back r.time (fit 1 0 (omega arith)) i;
      price = four_back r.price (fit 2 0 (omega arith)) i;
      quantity = four_back r.quantity (fit 3 0 (omega arith)) i;
      buy = four_back r.buy (fit 4 0 (omega arith)) i;
      sell = four_back r.sell (fit 5 0 (omega arith)) i;
      buyer = four_back r.buyer (fit 6 0 (omega arith)) i;
      seller = four_back r.seller (fit 7 0 (omega arith)) i;
      established = four_back r.established (fit 8 0 (omega arith)) i;
      no_bust = four_back r.no_bust (fit 9 0 (omega arith)) i;
      mark = four_back r.mark (fit 10 0 (omega arith)) i;
      day = four_back r.day (fit 11 0 (omega arith)) i;
    }
