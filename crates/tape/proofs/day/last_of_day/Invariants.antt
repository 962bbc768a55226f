use Rattle.std.proofs.Common.{◌≡◌, ℕ, ◌<◌, ◌≤◌, false, length, take}
use Rattle.tape.proofs.day.last_of_day.Given as goal
use Rattle.tape.specs.Days.{of_day, last_of}
use Rattle.tape.specs.Tapes.{record_at}

-- the records still to be read have the last one, and none of the others is of the day
abbrev pub invariant-loop-number : goal.invariant-loop-number
invariant-loop-number g l =
    let rows = g.T.Tape.records l.tape in
    (last_of l.product l.day (take l.number rows) ≡ last_of l.product l.day rows)
    × ((k : ℕ) → l.number < k → k ≤ length rows → of_day l.product l.day (record_at rows k) ≡ false)
