use Rattle.std.proofs.Common.{◌≡◌, ℕ, ◌<◌, ◌≤◌, false, List, ◌++◌, length}
use Rattle.pricing.specs.Ladders.{at_or_below, rungs_of}
use Rattle.pricing.specs.Rungs.{rung_at}
use Rattle.pricing.specs.declared.rung.Rung.{Rung}
use Rattle.pricing.proofs.ladder.Ladder.rung_at.Given as goal

-- what is left are the lowest rungs, and all those passed are above m
abbrev pub invariant-loop-rung : goal.invariant-loop-rung
invariant-loop-rung l =
    record {
      passed : List Rung;
      whole : l.rung-iterator.iter.rest.now ++ passed ≡ rungs_of l.self;
      above : (j : ℕ) → length l.rung-iterator.iter.rest.now ≤ j → j < l.self.count → at_or_below l.m (rung_at l.self.rungs j) ≡ false;
    }
