use Rattle.std.proofs.Common.{◌≡◌, Bool, Err, Result, sym, refl, ap, ◌∙◌, subst}
use Rattle.std.proofs.lemmas.Result.{err_from_is_err_and}
use Rattle.book.specs.Entries.{EntersFrom}
use Rattle.book.specs.declared.outcome.Receipt.{Receipt}
use Rattle.limits.specs.Ranges.{tradeable_range}
use Rattle.terms.specs.declared.refusal.Refusal.{Refusal}
use Rattle.desk.specs.Entries.{after_entry, comes_in}
use Rattle.desk.proofs.Ways.{listed_is, fails_with, passes_with, turned_down, to_book, as_came}
use Rattle.desk.proofs.desk.Desk.enter.Goals as goal

pub returns-in_err-incoming : goal.returns-in_err-incoming
returns-in_err-incoming g c =
    let t = g.T.Tape in
    let p = err_from_is_err_and c.from_residual-in_err-incoming.result c.from_residual-in_err-incoming.ensures.1 in
    let is = listed_is _ c.in_ok-product.product c.in_ok-product.ensures in
    turned_down t.records t.space _ c.in_ok-product.product c.args.order c.args.self.now c.args.table.now c.args.tape.now _ _ _ _ is c.in_err-incoming.field-0.0 (fails_with _ _ _ c.in_err-incoming.ensures)
    (record { told = p.1 ∙ ap (λ e. Err e) p.2; same_desk = refl; same_table = refl; same_tape = refl })

pub returns-in_err-receipt : goal.returns-in_err-receipt
returns-in_err-receipt g c =
    let t = g.T.Tape in
    let self = c.args.self.now in
    let order = c.args.order in
    let product = c.in_ok-product.product in
    let table = c.args.table.now in
    let tape = c.args.tape.now in
    let p = err_from_is_err_and c.from_residual-in_err-receipt.result c.from_residual-in_err-receipt.ensures.1 in
    let is = listed_is _ product c.in_ok-product.ensures in
    let pass = passes_with _ _ c.in_ok-incoming.incoming c.in_ok-incoming.ensures in
    let told : c.from_residual-in_err-receipt.result ≡ Err c.in_err-receipt.field-0.0 = p.1 ∙ ap (λ e. Err e) p.2 in
    let came =
    subst (λ (r : Result (Receipt Bool) Refusal). EntersFrom t.records t.space 1 self.stamp order.side (comes_in product table order) (tradeable_range product.reference.ticks product.daily) table tape r c.enter.new.table c.enter.new.tape) (sym told)
    (as_came t.records t.space 1 self.stamp table tape (Err c.in_err-receipt.field-0.0) c.enter.new.table c.enter.new.tape _ _ c.range.result _ pass.1 c.range.ensures c.in_err-receipt.ensures.entered) in
    to_book t.records t.space _ product order self table tape _ _ _ _ is pass.0
    (record { enters = came; leaves = ap (after_entry self) (sym told) })
