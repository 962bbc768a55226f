use Rattle.laws.proofs.laws_hold.Goals as goal
use Rattle.laws.proofs.All.{all_laws}
use Rattle.laws.proofs.Example.{can_cancel}

pub returns : goal.returns
returns c = record { laws = λ h w r. all_laws r; possible = can_cancel }
