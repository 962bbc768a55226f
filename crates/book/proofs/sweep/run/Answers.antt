use Rattle.std.proofs.Common.{◌≡◌, ◌-◌, min, true, false, [], ◌∷◌, ◌++◌, length, ap, ◌∙◌, arith}
use Rattle.orders.specs.Queue.{before, rests, slot_of}
use Rattle.tape.specs.Tapes.{latest}
use Rattle.tape.proofs.Times.{latest_push}
use Rattle.tape.specs.declared.row.TradeRow.{TradeRow}
use Rattle.terms.specs.Checked.{lots_left}
use Rattle.book.specs.Walks.{Walk, stop, fill_of}
use Rattle.book.proofs.Walking.{going_end, going_on, walk_none, walk_nothing, walk_outside, step, nobody_free}
use Rattle.book.proofs.sweep.run.Goals as goal

pub sweep-preserved : goal.sweep-preserved
sweep-preserved g c =
    let s = g.S.BookSide in
    let records = g.T.Tape.records in
    let e = slot_of c.in-Match.e in
    let q = lots_left c.sweep.rest in
    let m = c.least-m.result.lots in
    let some : q ≡ c.in-Some.left.lots = ap lots_left c.in-Some.is in
    let smaller : m ≡ min q e.row.rest = omega (arith, some, c.least-m.ensures) in
    let left : lots_left c.less-rest.result ≡ q - m = omega (arith, some, c.less-rest.ensures) in
    let st = step s.reaches c.args.range.low.ticks c.args.range.high.ticks c.args.a.order.limit.ticks (before s.first) (rests s.code c.args.a.order.product) (nobody_free s.code c.args.a.order.product) q m (lots_left c.less-rest.result) c.sweep.table e c.in-Match.ensures.0 (λ z. omega (arith, some, c.in-Some.left.some)) c.in-Match.ensures.1 c.in-Match.ensures.2 smaller left in
    let on = going_on _ _ (fill_of e m) c.sweep.table _ _ c.sweep.trades c.sweep.invariant.0 st (c.write.ensures.records ∙ ap (λ t. records c.sweep.tape ++ t ∷ []) c.trade.ensures) in
    let room = ap (λ (w : Walk). length w.fills) st in
    let late : latest (records c.write.new.tape) ≡ c.args.a.order.time =
    ap latest c.write.ensures.records ∙ latest_push (records c.sweep.tape) _ ∙ ap (λ (r : TradeRow). r.time) c.trade.ensures in
    rw c.left_row.ensures (
      on,
      omega (arith, room, c.write.ensures.room.1, c.sweep.invariant.1),
      omega (arith, late),
      omega (arith, some, c.less-rest.ensures, c.least-m.ensures, c.in-Some.left.some, c.in-Match.e.order.rest.some, c.sweep.invariant.3),
      (omega (arith, c.write.ensures.room.0, c.sweep.invariant.4.0), omega (arith, c.write.ensures.room.1, c.sweep.invariant.4.1)),
    )

pub returns-in_default : goal.returns-in_default
returns-in_default g c =
    let s = g.S.BookSide in
    going_end _ (lots_left c.sweep.rest) _ c.sweep.table _ c.sweep.trades _ _ c.sweep.invariant.0 c.sweep.invariant.4
    (walk_none s.reaches c.args.range.low.ticks c.args.range.high.ticks c.args.a.order.limit.ticks (lots_left c.sweep.rest) _ (ap lots_left c.in_default.is))

pub returns-in-Nothing : goal.returns-in-Nothing
returns-in-Nothing g c =
    let s = g.S.BookSide in
    let some : lots_left c.sweep.rest ≡ c.in-Some.left.lots = ap lots_left c.in-Some.is in
    going_end _ c.in-Some.left.lots _ c.sweep.table _ c.sweep.trades _ _ c.sweep.invariant.0 c.sweep.invariant.4
    (walk_nothing s.reaches c.args.range.low.ticks c.args.range.high.ticks c.args.a.order.limit.ticks (lots_left c.sweep.rest) _ c.in-Nothing.ensures ∙ ap (λ n. stop n false) some)

pub returns-in-Outside : goal.returns-in-Outside
returns-in-Outside g c =
    let s = g.S.BookSide in
    let some : lots_left c.sweep.rest ≡ c.in-Some.left.lots = ap lots_left c.in-Some.is in
    going_end _ c.in-Some.left.lots _ c.sweep.table _ c.sweep.trades _ _ c.sweep.invariant.0 c.sweep.invariant.4
    (walk_outside s.reaches c.args.range.low.ticks c.args.range.high.ticks c.args.a.order.limit.ticks (lots_left c.sweep.rest) _ (λ z. omega (arith, some, c.in-Some.left.some)) c.in-Outside.ensures ∙ ap (λ n. stop n true) some)
