-- What a place in use holds. Assumes nothing.
use Rattle.std.proofs.Common.{◌≡◌, ℕ, ◌<◌, Some, Option, sym, refl, ◌∙◌}
use Rattle.std.proofs.lemmas.Bool.{lt-ltb}
use Rattle.lent_tape.specs.Places.{record_if}
use Rattle.tape.specs.declared.row.TradeRow.{TradeRow}

some_is : (r s : TradeRow) → Some r ≡ Some s → r ≡ s
some_is r s e = cc

pub record_there : (size : ℕ) (at : ℕ → TradeRow) (k : ℕ) (r : TradeRow) (o : Option TradeRow) → o ≡ record_if size at k → o ≡ Some r → k < size → r ≡ at k
record_there size at k r o is some lt =
    let e : record_if size at k ≡ Some (at k) = rw (lt-ltb k size lt) refl in
    some_is r (at k) (sym some ∙ is ∙ e)
