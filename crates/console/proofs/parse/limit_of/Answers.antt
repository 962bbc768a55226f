use Rattle.std.proofs.Common.{◌≡◌, codes, refl, arith, rules}
use Rattle.std.proofs.lemmas.Slice.Eq.{text_from_reads}
use Rattle.console.proofs.parse.limit_of.Goals as goal

pub returns-in-market : goal.returns-in-market
returns-in-market c =
    let is : c.args.word.now ≡ codes "market" = text_from_reads _ (codes "market") (omega arith) (search rules) in
    rw is refl
