use Rattle.std.proofs.Common.{◌≡◌, ◌-◌, ◌<◌, ◌≤◌, Bool, false, cond, eqb, get_or, take, Some, sym, ap, ◌∙◌, ⊎_elim, arith}
use Rattle.std.proofs.lemmas.Bool.{and_left, and_right, ne_eqb, cases_lt}
use Rattle.tape.proofs.Back.{last_more}
use Rattle.tape.proofs.day.last_of_day.Goals as goal
use Rattle.tape.proofs.day.last_of_day.Goals.{else-trade-product-via-then-trade-product+else-trade-day, else-trade-product-via-else-trade-product}
use Rattle.tape.specs.Days.{of_day, last_of}
use Rattle.tape.specs.Tapes.{blank}
use Rattle.tape.specs.Trades.{row_of}

pub loop-number-preserved : goal.loop-number-preserved
loop-number-preserved g c =
    let rows = g.T.Tape.records c.args.tape.now in
    let product = c.args.product in
    let day = c.args.day in
    let n = c.loop-number.number in
    let trade = c.known-trade.result in
    let other : of_day product day (row_of trade) ≡ false =
    elim c.else-trade-product.branch [
      | else-trade-product-via-then-trade-product+else-trade-day w ↦ and_right (eqb trade.product product) (eqb trade.day day) (ne_eqb trade.day day w.if-trade-day.false)
      | else-trade-product-via-else-trade-product w ↦ and_left (eqb trade.product product) (eqb trade.day day) (ne_eqb trade.product product w.if-trade-product.false)
    ] in
    let at : of_day product day (get_or rows (n - 1) blank) ≡ false =
    ap (of_day product day) (sym c.known-trade.ensures.same) ∙ other in (
      sym (last_more product day rows n c.loop-number-test.true (omega arith) ∙ ap (λ (b : Bool). cond b (Some n) (last_of product day (take (n - 1) rows))) at) ∙ c.loop-number.invariant.0,
      λ k past in'.
          ⊎_elim
          (λ (l : n < k). c.loop-number.invariant.1 k l in')
          (λ (l : k ≤ n). let e : k ≡ n = omega arith in rw e at)
          (cases_lt n k),
    )
