-- The ranges of the market's numbers. Assumes nothing.
use Rattle.std.specs.Prelude.{ℕ}

abbrev pub highest_price : ℕ
highest_price = 1000000

abbrev pub largest_quantity : ℕ
largest_quantity = 1000000

abbrev pub last_participant : ℕ
last_participant = 999
