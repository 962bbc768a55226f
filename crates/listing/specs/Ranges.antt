-- The limits of a listing. Assumes nothing.
use Rattle.std.specs.Prelude.{ℕ}

abbrev pub most_products : ℕ
most_products = 32

-- in days
abbrev pub longest_limit : ℕ
longest_limit = 365

-- in ticks, as the next two
abbrev pub widest_sweep : ℕ
widest_sweep = 1000

abbrev pub widest_daily : ℕ
widest_daily = 100000

abbrev pub widest_no_bust : ℕ
widest_no_bust = 100000
