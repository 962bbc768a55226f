-- Words of digits, read from the front. Assumes nothing.
use Rattle.std.proofs.Common.{◌≡◌, ℕ, zero, suc, ◌+◌, ◌^◌, ◌<◌, ◌≤◌, true, false, not, ◌&&◌, eqb, List, [], ◌∷◌, length, get_or, take, Some, None, fold, refl, ◌∙◌, ⊎_elim, arith}
use Rattle.std.proofs.lemmas.Bool.{cases_Bool, and_right, and_from, le-ltb, lt-ltb, ne_eqb}
use Rattle.std.proofs.lemmas.List.Folds.{list_all_more, list_all_at}
use Rattle.std.proofs.lemmas.List.Sums.{fold_more}
use Rattle.std.specs.Char.{is_ascii_digit}
use Rattle.reading.specs.Numerals.{digit_more, decimal_value, digits, numeral}

pub digits_more : (xs : List ℕ) (i : ℕ) → i < length xs → digits (take i xs) ≡ true → is_ascii_digit (get_or xs i 0) ≡ true → digits (take (i + 1) xs) ≡ true
digits_more xs i l h d = list_all_more is_ascii_digit xs i 0 l ∙ and_from _ _ h d

grows : (n : ℕ) (cs : List ℕ) → n ≤ fold digit_more n cs
grows n [] = omega arith
grows n (c ∷ cs) = omega (arith, grows (digit_more n c) cs)

-- more digits never make a smaller number
front_smaller : (xs : List ℕ) (i n : ℕ) → fold digit_more n (take i xs) ≤ fold digit_more n xs
front_smaller [] zero n = omega arith
front_smaller [] (suc i) n = omega arith
front_smaller (x ∷ xs) zero n = grows n (x ∷ xs)
front_smaller (x ∷ xs) (suc i) n = front_smaller xs i (digit_more n x)

pub none_undigit : (xs : List ℕ) (i : ℕ) → i < length xs → is_ascii_digit (get_or xs i 0) ≡ false → numeral xs ≡ None
none_undigit xs i l d = rw (list_all_at is_ascii_digit xs i 0 l d, and_right (not (eqb (length xs) 0)) false refl)

pub none_large : (xs : List ℕ) (i : ℕ) → 2 ^ 32 ≤ decimal_value (take i xs) → numeral xs ≡ None
none_large xs i h =
    rw (le-ltb (decimal_value xs) (2 ^ 32) (omega (arith, front_smaller xs i 0)), and_right (not (eqb (length xs) 0) && digits xs) false refl)

-- a byte that is no digit, or makes the number too large, leaves none
pub none_more : (xs : List ℕ) (i : ℕ) → i < length xs → ((is_ascii_digit (get_or xs i 0) ≡ true) × (digit_more (decimal_value (take i xs)) (get_or xs i 0) < 2 ^ 32) → ⊥) → numeral xs ≡ None
none_more xs i l never =
    ⊎_elim
    (λ d. let small : digit_more (decimal_value (take i xs)) (get_or xs i 0) < 2 ^ 32 → ⊥ = λ s. never (d, s) in none_large xs (i + 1) (omega (arith, fold_more digit_more 0 xs i 0 l, small)))
    (λ d. none_undigit xs i l d)
    (cases_Bool (is_ascii_digit (get_or xs i 0)))

pub some_number : (xs : List ℕ) → (length xs ≡ 0 → ⊥) → digits xs ≡ true → decimal_value xs < 2 ^ 32 → numeral xs ≡ Some (decimal_value xs)
some_number xs n d h = rw (ne_eqb (length xs) 0 n, d, lt-ltb (decimal_value xs) (2 ^ 32) h)
