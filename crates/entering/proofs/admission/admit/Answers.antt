use Rattle.std.proofs.Common.{◌≡◌, not, ◌||◌, ◌++◌, Some, None, sym, ap, ◌∙◌, arith}
use Rattle.std.proofs.lemmas.Grind.{common_steps}
use Rattle.listing.specs.declared.product.Product.{Product}
use Rattle.listing.specs.Questions.{sweep_of}
use Rattle.orders.specs.Questions.{best_facing}
use Rattle.rules.specs.Refusing.{halt_check, limit_held}
use Rattle.rules.specs.Worlds.{sweep_in}
use Rattle.terms.specs.Checks.{unless}
use Rattle.terms.specs.declared.refusal.Refusal.TheVariants.{Halted}
use Rattle.entering.specs.Entries.{place_checks, number_checks, trading_checks, admitted_as}
use Rattle.market.specs.Markets.{bare}
use Rattle.market.proofs.Ways.{fails_with, passes_with, handed_on}
use Rattle.limits.specs.Sweeps.{limit_held as held_to_sweep}
use Rattle.entering.specs.declared.admitted.Numbers.{Numbers}
use Rattle.entering.proofs.Fronts.{earlier_answers, later_answers, trading_left}
use Rattle.entering.proofs.admission.admit.Goals as goal

pub returns-in_err-limit : goal.returns-in_err-limit
returns-in_err-limit g c =
    let w = bare c.args.market.now.state c.args.market.now.products c.args.table.now in
    let o = c.args.o in
    let a = place_checks w c.args.time o in
    let b = number_checks w.state.day o in
    let d = trading_checks w o in
    handed_on _ _ c.from_residual-in_err-limit.ensures.1 c.from_residual-in_err-limit.ensures.0
    ∙ sym (later_answers a (b ++ d) _ _ (admitted_as w o) c.in_ok-product.ensures ∙ earlier_answers b d _ (admitted_as w o) _ c.in_err-limit.ensures)

pub returns-then-market : goal.returns-then-market
returns-then-market g c =
    let w = bare c.args.market.now.state c.args.market.now.products c.args.table.now in
    let o = c.args.o in
    let product = (passes_with _ _ _ c.in_ok-product.ensures).1 in
    let halted : halt_check w o.product ≡ Some (Halted o.product) =
    ap (λ (p : Product). unless (not (w.state.halted || p.halted)) (Halted o.product)) (sym product) ∙ grind (arith, common_steps) in
    sym (trading_left w c.args.time o _ _ c.in_ok-product.ensures c.in_ok-limit.ensures ∙ rw halted)

pub returns-in_err-hold_limit : goal.returns-in_err-hold_limit
returns-in_err-hold_limit g c =
    let w = bare c.args.market.now.state c.args.market.now.products c.args.table.now in
    let o = c.args.o in
    let product = (passes_with _ _ _ c.in_ok-product.ensures).1 in
    let limit = ap (λ (m : Numbers). m.limit) (passes_with _ _ _ c.in_ok-limit.ensures).1 in
    let sweep : c.sweep_for-sweep.result ≡ sweep_in w o.side o.product =
    c.sweep_for-sweep.ensures ∙ ap (sweep_of o.side (best_facing o.side o.product w.table)) product in
    let halted : halt_check w o.product ≡ None =
    ap (λ (p : Product). unless (not (w.state.halted || p.halted)) (Halted o.product)) (sym product) ∙ grind (arith, common_steps) in
    let held : limit_held o.side o.limit (sweep_in w o.side o.product) ≡ Some c.in_err-hold_limit.field-0.0 =
    sym (λ j. held_to_sweep o.side (limit j) (sweep j)) ∙ fails_with _ _ c.in_err-hold_limit.field-0.0 c.in_err-hold_limit.ensures in
    handed_on _ _ c.from_residual-in_err-hold_limit.ensures.1 c.from_residual-in_err-hold_limit.ensures.0
    ∙ sym (trading_left w c.args.time o _ _ c.in_ok-product.ensures c.in_ok-limit.ensures ∙ rw (halted, held))
