use Rattle.std.proofs.Common.{sym, arith}
use Rattle.terms.proofs.Checked.{stamp_next}
use Rattle.terms.proofs.stamp.Stamp.after.Goals as goal

pub returns : goal.returns
returns c = sym (stamp_next c.args.last _ (omega (arith, c.in_ok-checked_add.ensures)) (omega (arith, c.in_ok-checked_add.ensures)))
