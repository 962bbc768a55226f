use Rattle.std.proofs.Common.{sym}
use Rattle.terms.proofs.Checked.{quantity_made}
use Rattle.terms.proofs.quantity.QuantityTryFromU32.try_from.Goals as goal

pub returns : goal.returns
returns c = sym (quantity_made _)
