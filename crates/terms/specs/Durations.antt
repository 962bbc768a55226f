-- Which durations let an order rest. Assumes nothing.
use Rattle.std.specs.Prelude.{Bool, true, false}
use Rattle.terms.specs.declared.duration.Duration.{Duration}
use Rattle.terms.specs.declared.duration.Duration.TheVariants.{Now, Session, Day, Until, UntilCancelled}

abbrev pub may_rest : Duration → Bool
may_rest Now = false
may_rest Session = true
may_rest Day = true
may_rest (Until date) = true
may_rest UntilCancelled = true
