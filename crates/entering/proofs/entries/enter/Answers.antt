use Rattle.std.proofs.Common.{◌≡◌, ℕ, ◌+◌, ◌<◌, sym, refl, ap, ◌∙◌, subst}
use Rattle.listing.specs.Changes.{contents}
use Rattle.rules.specs.Arrivals.{Arrival}
use Rattle.rules.specs.Calls.{enter, received}
use Rattle.rules.specs.Worlds.{World, product_of, range_in, established_in}
use Rattle.entering.specs.Entries.{front_checks, plain}
use Rattle.entering.proofs.Arrived.{turned_down, taken_in}
use Rattle.entering.proofs.Fronts.{all_passed, listed_below}
use Rattle.entering.proofs.Steps.{halts_listed, step_refused, entry_stopped, entry_refused, entry_taken}
use Rattle.market.specs.Markets.{world_of}
use Rattle.market.proofs.Ways.{handed_on, passes_with}
use Rattle.entering.proofs.entries.enter.Goals as goal

pub returns-in_err-incoming : goal.returns-in_err-incoming
returns-in_err-incoming g c =
    let w = world_of g.M.PricingModel.tells g.T.Tape.records g.T.Tape.space c.args.market.now c.args.table.now c.args.tape.now in
    let e = c.in_err-incoming.field-0.0 in
    step_refused w c.args.time (enter c.args.o) received c.from_residual.result e _ (entry_stopped w c.args.time c.args.o e c.in_err-incoming.ensures)
    (handed_on _ e c.from_residual.ensures.1 c.from_residual.ensures.0) refl

pub returns-in_err-done : goal.returns-in_err-done
returns-in_err-done g c =
    let t = g.T.Tape in
    let m = c.args.market.now in
    let w : World = world_of g.M.PricingModel.tells t.records t.space m c.args.table.now c.args.tape.now in
    let o = c.args.o in
    let i = c.in_ok-incoming.incoming in
    let came = c.in_ok-incoming.ensures in
    let product : i.product ≡ o.product = ap (λ (a : Arrival). a.product) came.same in
    let below = listed_below m.products o.product (all_passed (front_checks w c.args.time o) came.passes).1.1.0 in
    let listed = subst (λ (n : ℕ). n < m.products.count) (sym product) below in
    let ranged : c.in_ok-range.range ≡ range_in w i.product = (passes_with _ _ _ c.in_ok-range.ensures).1 ∙ ap (range_in w) (sym product) in
    let e = c.in_err-done.field-0.0 in
    let down = turned_down t.records t.space m.state w.products w.tells w.table c.args.tape.now i c.in_ok-range.range listed ranged e c.enter.new.table c.enter.new.tape
    (rw c.count.ensures at c.in_err-done.ensures.entered) in
    step_refused w c.args.time (enter o) received c.from_residual-in_err-done.result e _
    (entry_refused w c.args.time o came.passes (plain i (w.state.stamp + 1)) came.same e down.0)
    (handed_on _ e c.from_residual-in_err-done.ensures.1 c.from_residual-in_err-done.ensures.0)
    (λ j. world_of g.M.PricingModel.tells t.records t.space m (down.1 j) (down.2 j))

pub returns : goal.returns
returns g c =
    let t = g.T.Tape in
    let m = c.args.market.now in
    let w : World = world_of g.M.PricingModel.tells t.records t.space m c.args.table.now c.args.tape.now in
    let o = c.args.o in
    let i = c.in_ok-incoming.incoming in
    let came = c.in_ok-incoming.ensures in
    let product : i.product ≡ o.product = ap (λ (a : Arrival). a.product) came.same in
    let below = listed_below m.products o.product (all_passed (front_checks w c.args.time o) came.passes).1.1.0 in
    let listed = subst (λ (n : ℕ). n < m.products.count) (sym product) below in
    let ranged : c.in_ok-range.range ≡ range_in w i.product = (passes_with _ _ _ c.in_ok-range.ensures).1 ∙ ap (range_in w) (sym product) in
    let at : i.time ≡ c.args.time = ap (λ (a : Arrival). a.time) came.same in
    let worth : i.established.ticks ≡ established_in w i.time i.product = came.worth ∙ sym (λ j. established_in w (at j) (product j)) in
    let width : i.no_bust ≡ (product_of w i.product).listed.no_bust = came.width ∙ ap (λ (n : ℕ). (product_of w n).listed.no_bust) (sym product) in
    let entered =
    taken_in t.records t.space m.state w.products w.tells w.table c.args.tape.now i c.in_ok-range.range listed ranged worth width (ap (λ (a : Arrival). a.entered) came.same)
    c.in_ok-done.done c.enter.new.table c.enter.new.tape
    (rw c.count.ensures at c.in_ok-done.ensures.entered) c.in_ok-done.ensures.room in
    let noted = c.note_arrival-halt.ensures in
    rw (c.with_halt.ensures, c.note_arrival-halt.ensures.model)
    (entry_taken w c.args.time o came.passes (plain i (w.state.stamp + 1)) came.same c.in_ok-done.done c.note_arrival-halt.result
    c.note_arrival-halt.new.market.state (contents c.note_arrival-halt.new.market.products) c.enter.new.table (t.records c.enter.new.tape) (t.space c.enter.new.tape)
    entered (noted.halt ∙ halts_listed o.product m.products.count _ below) noted.state noted.products)
