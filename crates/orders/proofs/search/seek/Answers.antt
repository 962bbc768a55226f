use Rattle.std.proofs.Common.{◌≡◌, ◌<◌, Bool, List, length, take, IfSome, Some, None, Option, sym, ap, ◌∙◌, arith}
use Rattle.std.proofs.lemmas.List.{take_all}
use Rattle.std.specs.Option.{option_map, option_or}
use Rattle.orders.specs.Queue.{Slot, slot_of, before, wanted, head, counted}
use Rattle.orders.specs.Rows.{free}
use Rattle.orders.specs.declared.order.Entry.{Entry}
use Rattle.orders.specs.declared.row.OrderRow.{OrderRow}
use Rattle.orders.proofs.Cursor.{ranks}
use Rattle.orders.proofs.Gone.{head_in}
use Rattle.orders.proofs.Heads.{part}
use Rattle.orders.proofs.Onward.{part_more}
use Rattle.orders.proofs.search.seek.Goals.{in-Some, in_default}
use Rattle.orders.proofs.search.seek.Goals as goal

pub loop-index-preserved : goal.loop-index-preserved
loop-index-preserved g c =
    let s = g.S.BookSide in
    let met = g.met.S.BookSide in
    let rows = c.counted-row-items.result.now in
    let i = c.loop-index.index in
    let lt = before s.first in
    let p = wanted s.code s.first c.args.product (option_map slot_of c.args.after) in
    let more = part_more lt (ranks s.first met.oneway met.chain) p rows i free (omega arith) in
    let or_found : Option Entry → Option Entry = λ r. option_or r c.loop-index.found in
    let found : c.match-better.found ≡ or_found c.better.result =
    elim c.match-better.branch [
      | in-Some w ↦ w.found-is ∙ sym (ap or_found w.in-Some.is)
      | in_default w ↦ w.found-is ∙ sym (ap or_found w.in_default.is)
    ] in
    cc (found, c.better.ensures, c.loop-index.invariant)

inside : (lt : Slot → Slot → Bool) (p : Slot → Bool) (rows : List OrderRow) (o : Option Entry) → option_map slot_of o ≡ head (part lt p 0 (counted rows)) → IfSome o (λ e. e.index < length rows)
inside lt p rows None h = tt
inside lt p rows (Some e) h = (head_in lt p rows (slot_of e) h).0

pub returns-clause-within : goal.returns-clause-within
returns-clause-within g c =
    let s = g.S.BookSide in
    let table = c.args.table.now in
    let p = wanted s.code s.first c.args.product (option_map slot_of c.args.after) in
    let whole : take c.loop-index.index c.counted-row-items.result.now ≡ counted table = take_all _ _ (omega arith) ∙ c.counted-row-items.ensures.rows in
    inside (before s.first) p table c.loop-index.found (rw whole at c.loop-index.invariant)
