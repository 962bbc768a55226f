-- What a tape over lent memory means. Assumes nothing.
use Rattle.std.specs.Prelude.{◌≡◌, ℕ, ◌+◌, ◌-◌, ◌<◌, ◌≤◌, min, List, length, Ok, Err, Result}
use Rattle.std.proofs.Common.{arith}
use Rattle.terms.specs.declared.missing.Missing.{Missing}
use Rattle.tape.proofs.Memory.{length_placed, fair_placed, rising_placed}
use Rattle.tape.specs.Placed.{placed}
use Rattle.tape.specs.Ranges.{most_records}
use Rattle.tape.specs.Tapes.{Fair, Rising, Absent}
use Rattle.tape.specs.declared.row.TradeRow.{TradeRow}
use Rattle.lent_tape.specs.declared.LentTape.{LentTape}
use Rattle.lent_tape.specs.declared.no_record.NoRecord.{NoRecord}
use Rattle.lent_tape.specs.declared.places.Places.{Ghosts}

abbrev pub lacking : NoRecord → Missing
lacking fault = record { number = fault.number; count = fault.count }

module _ {P : Type 0} {memory : Ghosts P} where
  -- the records of the places in use
  abbrev pub held : LentTape P memory → List TradeRow
  held tape = placed (memory.at tape.places) tape.used

  -- what the memory still takes
  abbrev pub free : LentTape P memory → ℕ
  free tape = min (memory.size tape.places) most_records - tape.used

  -- the place of record n, or that there is none
  abbrev pub IsPlace : LentTape P memory → ℕ → Result ℕ NoRecord → Type 0
  IsPlace tape n (Ok k) = (k < tape.used) × (n ≡ k + 1)
  IsPlace tape n (Err fault) = Absent lacking (held tape) n fault

  pub held_bounded : (tape : LentTape P memory) → length (held tape) + free tape ≤ most_records
  held_bounded tape = omega (arith, length_placed (memory.at tape.places) tape.used, tape.within, tape.few)

  pub held_fair : (tape : LentTape P memory) → Fair (held tape)
  held_fair tape = fair_placed (memory.at tape.places) tape.used tape.fair

  pub held_rising : (tape : LentTape P memory) → Rising (held tape)
  held_rising tape = rising_placed (memory.at tape.places) tape.used tape.rising
