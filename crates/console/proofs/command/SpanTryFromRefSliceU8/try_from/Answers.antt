use Rattle.std.proofs.Common.{◌≡◌, codes, refl, arith, rules}
use Rattle.std.proofs.lemmas.Slice.Eq.{text_from_reads}
use Rattle.console.proofs.command.SpanTryFromRefSliceU8.try_from.Goals as goal

pub returns-in-session : goal.returns-in-session
returns-in-session c =
    let is : c.args.word.now ≡ codes "session" = text_from_reads _ (codes "session") (omega arith) (search rules) in
    rw is refl

pub returns-in-117 : goal.returns-in-117
returns-in-117 c =
    let is : c.args.word.now ≡ codes "until-cancelled" = text_from_reads _ (codes "until-cancelled") (omega arith) (search rules) in
    rw is refl
