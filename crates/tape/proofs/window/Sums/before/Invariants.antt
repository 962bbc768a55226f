use Rattle.std.proofs.Common.{◌≡◌, ◌+◌, take}
use Rattle.tape.proofs.window.Sums.before.Given as goal
use Rattle.tape.specs.Windows.{window, turnover, volume}

-- what is told so far, with what the records still to be read add
abbrev pub invariant-loop-number : goal.invariant-loop-number
invariant-loop-number g l =
    let rows = g.T.Tape.records l.tape in
    (l.turnover + turnover (window l.product l.time (take l.number rows)) ≡ turnover (window l.product l.time rows))
    × (l.volume + volume (window l.product l.time (take l.number rows)) ≡ volume (window l.product l.time rows))
