-- The verdict on a trade's price against the no-bust ticks. Assumes nothing.
use Rattle.std.specs.Prelude.{ℕ, ◌+◌, ◌-◌, cond, nat_le}
use Rattle.terms.specs.declared.verdict.Verdict.{Verdict}
use Rattle.terms.specs.declared.verdict.Verdict.TheVariants.{Within, Beyond}

-- one of the two differences is 0
abbrev pub distance : ℕ → ℕ → ℕ
distance a b = (a - b) + (b - a)

-- a price at most the no-bust ticks away is within
abbrev pub verdict_on : ℕ → ℕ → ℕ → Verdict
verdict_on price established no_bust = cond (nat_le (distance price established) no_bust) Within Beyond
