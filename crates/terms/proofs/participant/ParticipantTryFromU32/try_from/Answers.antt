use Rattle.std.proofs.Common.{sym}
use Rattle.terms.proofs.Checked.{participant_made}
use Rattle.terms.proofs.participant.ParticipantTryFromU32.try_from.Goals as goal

pub returns : goal.returns
returns c = sym (participant_made _)
