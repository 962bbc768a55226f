use Rattle.rules.proofs.Numbering.{rising, told}
use Rattle.rules.proofs.order.checks_rise.Goals as goal

pub returns : goal.returns
returns c = λ w time call. (rising call, told w time call)
