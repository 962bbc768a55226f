use Rattle.std.proofs.Common.{filter}
use Rattle.orders.specs.Queue.{slots, counted, before, rests}
use Rattle.orders.proofs.Cursor.{ranks, rising_slots, rising_kept}
use Rattle.orders.proofs.Ordered.{shuffled_sorted, ordered_sorted}
use Rattle.orders.proofs.laws.queue_laws.Goals as goal

pub returns : goal.returns
returns g c =
    let s = g.S.BookSide in
    let met = g.met.S.BookSide in
    let p = rests s.code c.args.product in
    let places = slots 0 (counted c.args.table.now) in
    record {
      holds = shuffled_sorted (before s.first) (filter p places);
      ordered = ordered_sorted (before s.first) (ranks s.first met.oneway met.chain) (filter p places) (rising_kept p places (rising_slots 0 (counted c.args.table.now)));
    }
