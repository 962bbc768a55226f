use Rattle.std.proofs.Common.{◌≡◌, ◌-◌, min, sym, ap, ◌∙◌, true, false, arith}
use Rattle.orders.specs.Queue.{slot_of}
use Rattle.orders.proofs.Cursor.{ranks, next_behind}
use Rattle.std.specs.Option.{option_map}
use Rattle.terms.specs.Checked.{lots_left}
use Rattle.book.specs.Walks.{stop, fill_of}
use Rattle.book.proofs.Walking.{left_on, left_end, walk_none, walk_nothing, walk_outside, step_down}
use Rattle.book.proofs.plan.plan.Goals as goal

pub down-preserved : goal.down-preserved
down-preserved g c =
    let s = g.S.BookSide in
    let met = g.met.S.BookSide in
    let o = c.args.o in
    let e = slot_of c.in-Match.e in
    let q = lots_left c.down.rest in
    let some : q ≡ c.in-Some.left.lots = ap lots_left c.in-Some.is in
    let first = c.in-Match.ensures.0 in
    let next = next_behind s.first (ranks s.first met.oneway met.chain) s.code o.product c.args.table.now (option_map slot_of c.down.cursor) e (sym first) in
    let left : lots_left c.less-rest.result ≡ q - min q e.row.rest = omega (arith, some, c.less-rest.ensures) in
    let st = step_down s.reaches c.args.range.low.ticks c.args.range.high.ticks o.limit.ticks q (lots_left c.less-rest.result) _ _ e first (λ z. omega (arith, some, c.in-Some.left.some)) c.in-Match.ensures.1 c.in-Match.ensures.2 left next in
    (left_on _ _ _ (fill_of e (min q e.row.rest)) c.down.trades c.down.invariant.0 st, omega (arith, some, c.less-rest.ensures, c.in-Some.left.some, c.in-Match.e.order.rest.some, c.down.invariant.1))

pub returns-in_default : goal.returns-in_default
returns-in_default g c =
    let s = g.S.BookSide in
    left_end _ _ (lots_left c.down.rest) _ c.down.trades c.down.invariant.0
    (walk_none s.reaches c.args.range.low.ticks c.args.range.high.ticks c.args.o.limit.ticks (lots_left c.down.rest) _ (ap lots_left c.in_default.is))

pub returns-in-Nothing : goal.returns-in-Nothing
returns-in-Nothing g c =
    let s = g.S.BookSide in
    let some : lots_left c.down.rest ≡ c.in-Some.left.lots = ap lots_left c.in-Some.is in
    left_end _ _ c.in-Some.left.lots _ c.down.trades c.down.invariant.0
    (walk_nothing s.reaches c.args.range.low.ticks c.args.range.high.ticks c.args.o.limit.ticks (lots_left c.down.rest) _ c.in-Nothing.ensures ∙ ap (λ n. stop n false) some)

pub returns-in-Outside : goal.returns-in-Outside
returns-in-Outside g c =
    let s = g.S.BookSide in
    let some : lots_left c.down.rest ≡ c.in-Some.left.lots = ap lots_left c.in-Some.is in
    left_end _ _ c.in-Some.left.lots _ c.down.trades c.down.invariant.0
    (walk_outside s.reaches c.args.range.low.ticks c.args.range.high.ticks c.args.o.limit.ticks (lots_left c.down.rest) _ (λ z. omega (arith, some, c.in-Some.left.some)) c.in-Outside.ensures ∙ ap (λ n. stop n true) some)
