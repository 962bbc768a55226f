use Rattle.orders.specs.Queue.{queue, slots, counted, before, rests}
use Rattle.orders.proofs.Cursor.{ranks, rising_slots, rising_kept}
use Rattle.orders.proofs.Ordered.{ordered_sorted}
use Rattle.std.proofs.Common.{filter}
use Rattle.book.proofs.Behind.{further}
use Rattle.book.proofs.Kept.{walk_laws}
use Rattle.book.proofs.laws.matching_laws.Goals as goal

pub returns : goal.returns
returns g c =
    let s = g.S.BookSide in
    let met = g.met.S.BookSide in
    let o = c.args.o in
    let range = c.args.range in
    let table = c.args.table.now in
    let places = slots 0 (counted table) in
    let p = rests s.code o.product in
    let ordered = ordered_sorted (before s.first) (ranks s.first met.oneway met.chain) (filter p places) (rising_kept p places (rising_slots 0 (counted table))) in
    walk_laws s.reaches range.low.ticks range.high.ticks o.limit.ticks o.quantity.lots (queue s.code s.first o.product table)
    (further s.first s.reaches o.limit.ticks met.oneway met.nearer (queue s.code s.first o.product table) ordered)
