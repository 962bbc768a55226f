use Rattle.std.proofs.Common.{◌<◌, length, take, count_by, sym, ap, ◌∙◌, arith}
use Rattle.std.proofs.lemmas.List.{take_all}
use Rattle.orders.specs.Closes.{leaves, left_at}
use Rattle.orders.proofs.Leaving.{goes_next, stays_next, all_counted, all_left}
use Rattle.orders.proofs.resting.expire.Goals.{then-has_left, else-has_left}
use Rattle.orders.proofs.resting.expire.Goals as goal

pub loop-row-preserved : goal.loop-row-preserved
loop-row-preserved c =
    let goes = leaves c.args.products c.args.close in
    let i = c.loop-row.row-index in
    let places = take c.min-places.result c.args.table.now in
    let in' : i < length places = omega arith in
    elim c.if-has_left.branch [
      | then-has_left w ↦
          let next = goes_next goes places c.loop-row.row-items i in' c.loop-row.invariant.0 (sym c.has_left.ensures ∙ w.if-has_left.true) in
          (w.row-items-is ∙ next.0, omega (arith, next.1), omega arith)
      | else-has_left w ↦
          let next = stays_next goes places c.loop-row.row-items i in' c.loop-row.invariant.0 (sym c.has_left.ensures ∙ w.if-has_left.false) in
          (w.row-items-is ∙ next.0, omega (arith, next.1), omega arith)
    ]

pub returns-clause-table : goal.returns-clause-table
returns-clause-table c =
    all_left (left_at c.args.products c.args.close) c.args.table.now c.loop-row.row-items c.min-places.result c.loop-row.row-index (omega arith) (omega arith) c.loop-row.invariant.0

pub returns-clause-count : goal.returns-clause-count
returns-clause-count c =
    let table = c.args.table.now in
    let places = take c.min-places.result table in
    c.loop-row.invariant.1 ∙ ap (count_by (leaves c.args.products c.args.close)) (take_all c.loop-row.row-index places (omega arith) ∙ (all_counted table c.min-places.result (omega arith)).0)
