use Rattle.std.proofs.Common.{sym}
use Rattle.terms.proofs.Checked.{stamp_made}
use Rattle.terms.proofs.stamp.StampTryFromU32.try_from.Goals as goal

pub returns : goal.returns
returns c = sym (stamp_made _)
