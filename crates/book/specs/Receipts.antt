-- A receipt tells its trades and, in a word of the reader's own, what was halted. Assumes nothing.
use Rattle.book.specs.declared.outcome.Receipt.{Receipt}

-- the same answer with another word on the halt
abbrev pub with_halt : {H K : Type 0} → Receipt H → K → Receipt K
with_halt r halt = record { number = r.number; traded = r.traded; rest = r.rest; trades = r.trades; halt = halt }
