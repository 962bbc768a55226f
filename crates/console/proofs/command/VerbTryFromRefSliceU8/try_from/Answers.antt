use Rattle.std.proofs.Common.{◌≡◌, codes, refl, arith, rules}
use Rattle.std.proofs.lemmas.Slice.Eq.{text_from_reads}
use Rattle.console.proofs.command.VerbTryFromRefSliceU8.try_from.Goals as goal

pub returns-in-product : goal.returns-in-product
returns-in-product c =
    let is : c.args.word.now ≡ codes "product" = text_from_reads _ (codes "product") (omega arith) (search rules) in
    rw is refl
