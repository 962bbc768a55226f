-- The numbers that a market gives, each once and each later one higher. Assumes nothing.
use Rattle.std.specs.Prelude.{ℕ, ◌+◌, ◌≤◌, max, cond, Some, None, Option, nat_le, nat_lt}
use Rattle.std.proofs.Common.{arith}
use Rattle.terms.specs.declared.stamp.Stamp.{Stamp}

abbrev pub last_stamp : ℕ
last_stamp = 4294967295

pub some_number : (n : ℕ) → 1 ≤ max n 1
some_number n = omega arith

-- the stamp of a number, which is never 0
abbrev pub stamp_at : ℕ → Stamp
stamp_at n = record { number = max n 1; given = some_number n }

-- a number that may have been given
abbrev pub stamp_if : ℕ → Option Stamp
stamp_if n = cond (nat_le 1 n) (Some (stamp_at n)) None

-- the one after the last one given; none where that was the last of all
abbrev pub stamp_after : ℕ → Option Stamp
stamp_after last = cond (nat_lt last last_stamp) (Some (stamp_at (last + 1))) None
