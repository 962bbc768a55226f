-- The moment that a price is asked of, as the program holds it. Assumes nothing.
use Rattle.std.specs.Prelude.{List}
use Rattle.tape.specs.declared.row.TradeRow.{TradeRow}
use Rattle.established.specs.Established.{Moment, moment}
use Rattle.established.specs.declared.moment.Moment.{Moment as Held}

-- its tape is the records that the tape means
abbrev pub moment_of : {T : Type 0} → (T → List TradeRow) → Held T → Moment
moment_of records m = moment m.table.now (records m.tape.now) m.day m.time
