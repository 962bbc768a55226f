use Rattle.std.proofs.Common.{◌≡◌, ℕ, ◌<◌, false, length, take}
use Rattle.pricing.specs.Rungs.{at_fault}
use Rattle.pricing.proofs.ladder.Ladder.new.Given as goal

abbrev pub invariant-loop-k : goal.invariant-loop-k
invariant-loop-k l =
    record {
      sound : (j : ℕ) → j < l.k → at_fault l.rungs j ≡ false;
      copied : take l.k l.own ≡ take l.k l.rungs;
      room : length l.own ≡ 32;
    }
