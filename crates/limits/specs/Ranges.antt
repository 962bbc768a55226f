-- The tradeable range of a product. Assumes nothing.
use Rattle.std.specs.Prelude.{ℕ, ◌+◌, ◌-◌, Bool, ◌&&◌, nat_le}
use Rattle.terms.specs.Checked.{price_at}
use Rattle.limits.specs.declared.range.Range.{Range}

-- so many ticks either side of the reference price, cut to the prices that exist
abbrev pub tradeable_range : ℕ → ℕ → Range
tradeable_range reference ticks = record { low = price_at (reference - ticks); high = price_at (reference + ticks) }

-- both ends included
abbrev pub tradeable : ℕ → ℕ → ℕ → Bool
tradeable low high price = nat_le low price && nat_le price high
