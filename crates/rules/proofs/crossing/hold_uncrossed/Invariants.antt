use Rattle.std.proofs.Common.{◌≡◌, ◌-◌, map}
use Rattle.std.specs.List.{range_with_len}
use Rattle.terms.specs.Checks.{earliest}
use Rattle.rules.specs.Refusing.{crossed_check}
use Rattle.rules.specs.Turns.{crossings}
use Rattle.rules.proofs.crossing.hold_uncrossed.Given as goal

abbrev pub invariant-loop-n : goal.invariant-loop-n
invariant-loop-n l = earliest (map (crossed_check l.table) (range_with_len l.n (l.products - l.n))) ≡ crossings l.table l.products
