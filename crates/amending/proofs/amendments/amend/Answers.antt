use Rattle.std.proofs.Common.{◌≡◌, ◌+◌, cond, not, ◌||◌, ltb, set, Some, None, sym, refl, ap, ◌∙◌}
use Rattle.listing.specs.Changes.{contents}
use Rattle.orders.specs.declared.row.OrderRow.{OrderRow}
use Rattle.rules.specs.Amending.{slot_in, takes_stamp}
use Rattle.rules.specs.Calls.{amend, received}
use Rattle.rules.specs.Worlds.{World, range_in}
use Rattle.terms.specs.Checks.{unless}
use Rattle.terms.specs.Stamps.{last_stamp, stamp_at}
use Rattle.terms.specs.declared.refusal.Refusal.TheVariants.{Exhausted}
use Rattle.terms.specs.declared.stamp.Stamp.{Stamp}
use Rattle.market.specs.Markets.{world_of}
use Rattle.amending.proofs.Changing.{amend_stopped, again_is, takes_is, change_refused, change_accepted, stamp_given, place_given, turned_back, taken_back, back_refused, back_accepted}
use Rattle.entering.proofs.Steps.{halts_listed, step_refused}
use Rattle.market.proofs.Ways.{fails_with, passes_with, handed_on}
use Rattle.amending.proofs.amendments.amend.Goals as goal

pub returns-in_err-a : goal.returns-in_err-a
unfolding slot_in
returns-in_err-a g c =
    let w = world_of g.M.PricingModel.tells g.T.Tape.records g.T.Tape.space c.args.market.now c.args.table.now c.args.tape.now in
    let e = c.in_err-a.field-0.0 in
    step_refused w c.args.time (amend c.args.m) received c.from_residual.result e _ (amend_stopped w c.args.time c.args.m e c.in_err-a.ensures)
    (handed_on _ e c.from_residual.ensures.1 c.from_residual.ensures.0) refl

pub returns-in_err-swept : goal.returns-in_err-swept
unfolding slot_in
returns-in_err-swept g c =
    let t = g.T.Tape in
    let self = c.args.market.now in
    let w : World = world_of g.M.PricingModel.tells t.records t.space self c.args.table.now c.args.tape.now in
    let time = c.args.time in
    let m = c.args.m in
    let a = c.in_ok-a.a in
    let may = c.in_ok-a.ensures in
    let r = c.arriving-arriving.result in
    let came = c.arriving-arriving.ensures in
    let on = sym (c.arrives_again.ensures ∙ again_is w time m a may) ∙ c.if-arrives_again.true in
    let ranged : c.in_ok-range.range ≡ range_in w r.order.product = (passes_with _ _ _ c.in_ok-range.ensures).1 ∙ ap (range_in w) (sym came.product) in
    let f = c.in_err-swept.field-0.0 in
    let down = turned_back t.records t.space self.state w.products w.tells w.table c.args.tape.now time a r c.in_ok-range.range came ranged f c.come_back.new.table c.come_back.new.tape c.in_err-swept.ensures in
    step_refused w time (amend m) received c.from_residual-in_err-swept.result f _
    (back_refused w time m a may on r came f down.0)
    (handed_on _ f c.from_residual-in_err-swept.ensures.1 c.from_residual-in_err-swept.ensures.0)
    (λ j. world_of g.M.PricingModel.tells t.records t.space self (down.1 j) (down.2 j))

pub returns-then-arrives_again : goal.returns-then-arrives_again
unfolding slot_in
returns-then-arrives_again g c =
    let t = g.T.Tape in
    let self = c.args.market.now in
    let w : World = world_of g.M.PricingModel.tells t.records t.space self c.args.table.now c.args.tape.now in
    let time = c.args.time in
    let m = c.args.m in
    let a = c.in_ok-a.a in
    let may = c.in_ok-a.ensures in
    let r = c.arriving-arriving.result in
    let came = c.arriving-arriving.ensures in
    let on = sym (c.arrives_again.ensures ∙ again_is w time m a may) ∙ c.if-arrives_again.true in
    let ranged : c.in_ok-range.range ≡ range_in w r.order.product = (passes_with _ _ _ c.in_ok-range.ensures).1 ∙ ap (range_in w) (sym came.product) in
    let got = taken_back t.records t.space self.state w.products w.tells w.table c.args.tape.now time a r c.in_ok-range.range came ranged c.in_ok-swept.swept c.come_back.new.table c.come_back.new.tape c.in_ok-swept.ensures in
    let noted = c.note_arrival-halt.ensures in
    let number = c.number.ensures ∙ ap (λ (s : Stamp). s.number) (sym came.number) in
    rw (number, c.lots.ensures, noted.model)
    (back_accepted w time m a may on r came c.in_ok-swept.swept c.note_arrival-halt.result c.note_arrival-halt.new.market.state (contents c.note_arrival-halt.new.market.products)
    c.come_back.new.table (t.records c.come_back.new.tape) (t.space c.come_back.new.tape)
    got.0 got.1 (noted.halt ∙ halts_listed a.entry.order.product self.products.count _ may.listed) noted.state noted.products)

pub returns-in_err-stamp : goal.returns-in_err-stamp
unfolding slot_in
returns-in_err-stamp g c =
    let w : World = world_of g.M.PricingModel.tells g.T.Tape.records g.T.Tape.space c.args.market.now c.args.table.now c.args.tape.now in
    let time = c.args.time in
    let m = c.args.m in
    let a = c.in_ok-a.a in
    let may = c.in_ok-a.ensures in
    let off = sym (c.arrives_again.ensures ∙ again_is w time m a may) ∙ c.if-arrives_again.false in
    let takes = c.takes_stamp.ensures ∙ takes_is w time m a may in
    let f = c.in_err-stamp.field-0.0 in
    let fails = ap (λ b. unless (not b || ltb w.state.stamp last_stamp) Exhausted) (sym takes) ∙ fails_with _ _ f c.in_err-stamp.ensures in
    step_refused w time (amend m) received c.from_residual-in_err-stamp.result f _ (change_refused w time m a may off f fails)
    (handed_on _ f c.from_residual-in_err-stamp.ensures.1 c.from_residual-in_err-stamp.ensures.0) refl

pub returns : goal.returns
unfolding slot_in
returns g c =
    let w : World = world_of g.M.PricingModel.tells g.T.Tape.records g.T.Tape.space c.args.market.now c.args.table.now c.args.tape.now in
    let time = c.args.time in
    let m = c.args.m in
    let a = c.in_ok-a.a in
    let may = c.in_ok-a.ensures in
    let off = sym (c.arrives_again.ensures ∙ again_is w time m a may) ∙ c.if-arrives_again.false in
    let takes = c.takes_stamp.ensures ∙ takes_is w time m a may in
    let pass = passes_with _ _ _ c.in_ok-stamp.ensures in
    let passes = ap (λ b. unless (not b || ltb w.state.stamp last_stamp) Exhausted) (sym takes) ∙ pass.0 in
    let stamp = pass.1 ∙ ap (λ b. cond b (Some (stamp_at (w.state.stamp + 1))) None) takes in
    rw (c.number-2.ensures, c.lots-2.ensures)
    (change_accepted w time m a may off passes c.last_given-market.result c.unwrap_or-place.result.number c.put.new.table
    (stamp_given (takes_stamp w m) c.in_ok-stamp.stamp w.state.stamp c.last_given-market.result stamp c.last_given-market.ensures)
    (ap (λ (s : Stamp). s.number) c.unwrap_or-place.ensures ∙ place_given (takes_stamp w m) c.in_ok-stamp.stamp w.state.stamp a.entry.order.place stamp)
    (c.put.ensures ∙ ap (λ (row : OrderRow). set w.table a.entry.index row) c.moved.ensures))
