-- What an entered or amended order is answered: the book's receipt, with what its arrival halted. Assumes nothing.
use Rattle.book.specs.declared.outcome.Receipt.{Receipt as ReceiptOf}
use Rattle.terms.specs.declared.halt.Halt.{Halt}

abbrev pub Receipt : Type 0
Receipt = ReceiptOf Halt
