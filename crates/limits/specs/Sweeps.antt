-- Anchor, sweep price, and what lies beyond a limit. Assumes nothing.
use Rattle.std.specs.Prelude.{ℕ, ◌+◌, ◌-◌, Bool, not, Some, None, Option, nat_lt}
use Rattle.terms.specs.Checks.{unless}
use Rattle.terms.specs.Checked.{price_at}
use Rattle.terms.specs.declared.price.Price.{Price}
use Rattle.terms.specs.declared.refusal.Refusal.{Refusal}
use Rattle.terms.specs.declared.refusal.Refusal.TheVariants.{BeyondSweep}
use Rattle.terms.specs.declared.side.Side.{Side}
use Rattle.terms.specs.declared.side.Side.TheVariants.{Buy, Sell}

-- the best price offered on the opposite side, else the reference price
abbrev pub anchor_price : Option Price → Price → Price
anchor_price (Some best) reference = best
anchor_price None reference = reference

-- a buy may go so many ticks above its anchor, a sell so many below, cut to the prices that exist
abbrev pub sweep_price : Side → Price → ℕ → Price
sweep_price Buy anchor ticks = price_at (anchor.ticks + ticks)
sweep_price Sell anchor ticks = price_at (anchor.ticks - ticks)

-- a buy's price is beyond a limit above it, a sell's below it
abbrev pub beyond : Side → Price → Price → Bool
beyond Buy price limit = nat_lt limit.ticks price.ticks
beyond Sell price limit = nat_lt price.ticks limit.ticks

-- a price beyond its sweep price gets 11 with the sweep price
abbrev pub sweep_check : Side → Price → Price → Option Refusal
sweep_check side price sweep = unless (not (beyond side price sweep)) (BeyondSweep sweep)

-- a limit is held to its sweep price; a market order has none
abbrev pub limit_held : Side → Option Price → Price → Option Refusal
limit_held side None sweep = None
limit_held side (Some price) sweep = sweep_check side price sweep
