use Rattle.std.proofs.Common.{sym}
use Rattle.terms.proofs.Checked.{price_made}
use Rattle.terms.proofs.price.PriceTryFromU32.try_from.Goals as goal

pub returns : goal.returns
returns c = sym (price_made _)
