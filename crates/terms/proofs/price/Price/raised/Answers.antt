use Rattle.std.proofs.Common.{arith}
use Rattle.terms.proofs.Checked.{price_same}
use Rattle.terms.proofs.price.Price.raised.Goals as goal

pub returns : goal.returns
returns c = price_same _ _ (omega arith)
