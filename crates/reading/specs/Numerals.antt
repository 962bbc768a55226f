-- What number a word writes. Assumes nothing.
use Rattle.std.specs.Prelude.{ℕ, Bool, ◌+◌, ◌-◌, ◌*◌, ◌^◌, cond, not, ◌&&◌, List, length, Some, None, fold, Option, ◌==◌, nat_lt}
use Rattle.std.specs.Char.{is_ascii_digit}
use Rattle.std.specs.List.{list_all}

-- one digit more, after those that write n
abbrev pub digit_more : ℕ → ℕ → ℕ
digit_more n c = n * 10 + (c - 48)

abbrev pub decimal_value : List ℕ → ℕ
decimal_value word = fold digit_more 0 word

abbrev pub digits : List ℕ → Bool
digits word = list_all is_ascii_digit word

-- one digit or more, and a number of 32 bits
abbrev pub numeral : List ℕ → Option ℕ
numeral word = cond (not (length word == 0) && digits word && nat_lt (decimal_value word) (2 ^ 32)) (Some (decimal_value word)) None
