-- The limits of a tape and of a trade's own numbers. Assumes nothing.
use Rattle.std.specs.Prelude.{ℕ}

-- products are numbered from 0
abbrev pub last_product : ℕ
last_product = 31

-- in ticks
abbrev pub widest_no_bust : ℕ
widest_no_bust = 100000

abbrev pub last_mark : ℕ
last_mark = 3

-- the records that a tape may ever hold
abbrev pub most_records : ℕ
most_records = 65536
