use Rattle.std.proofs.Common.{◌≡◌, ◌+◌, ◌-◌, ◌*◌, ◌≤◌, length, take, arith}
use Rattle.tape.proofs.Back.{back_taken, turnover_bound, volume_bound}
use Rattle.tape.proofs.window.Sums.before.Given as given
use Rattle.tape.proofs.window.Sums.before.Goals as goal
use Rattle.tape.specs.Ranges.{most_records}
use Rattle.tape.specs.Windows.{window, worth, turnover, volume}

more-turnover : (g : given.Over) (c : goal.After-from g) → turnover (window c.args.product c.args.time (take c.loop-number.number (g.T.Tape.records c.args.tape.now))) ≡ turnover (window c.args.product c.args.time (take (c.loop-number.number - 1) (g.T.Tape.records c.args.tape.now))) + c.from.result * c.from-lots.result
more-turnover g c =
    let rows = g.T.Tape.records c.args.tape.now in
    let trade = c.known-trade.result in
    let e : c.from.result * c.from-lots.result ≡ trade.price.ticks * trade.quantity.lots = cc in
    rw e (back_taken worth c.args.product c.args.time rows c.loop-number.number trade c.loop-number-test.true (omega arith) c.known-trade.ensures c.if-trade-product.true (omega arith))

more-volume : (g : given.Over) (c : goal.After-from g) → volume (window c.args.product c.args.time (take c.loop-number.number (g.T.Tape.records c.args.tape.now))) ≡ volume (window c.args.product c.args.time (take (c.loop-number.number - 1) (g.T.Tape.records c.args.tape.now))) + c.from-lots.result
more-volume g c =
    let rows = g.T.Tape.records c.args.tape.now in
    let trade = c.known-trade.result in
    let e : c.from-lots.result ≡ trade.quantity.lots = cc in
    rw e (back_taken (λ r. r.quantity) c.args.product c.args.time rows c.loop-number.number trade c.loop-number-test.true (omega arith) c.known-trade.ensures c.if-trade-product.true (omega arith))

pub overflow_add-turnover : goal.overflow_add-turnover
overflow_add-turnover g c =
    let tape = c.args.tape.now in
    let rows = g.T.Tape.records tape in
    let few : length rows ≤ most_records = omega (arith, g.T.Tape.bounded tape) in
    omega (arith, more-turnover g c, turnover_bound c.args.product c.args.time rows (g.T.Tape.fair tape) few)

pub overflow_add-volume : goal.overflow_add-volume
overflow_add-volume g c =
    let tape = c.args.tape.now in
    let rows = g.T.Tape.records tape in
    let few : length rows ≤ most_records = omega (arith, g.T.Tape.bounded tape) in
    omega (arith, more-volume g c, volume_bound c.args.product c.args.time rows (g.T.Tape.fair tape) few)
