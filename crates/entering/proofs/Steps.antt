-- A call is a step by its rule. Assumes nothing.
use Rattle.std.proofs.Common.{◌≡◌, ℕ, ◌<◌, Bool, cond, ◌||◌, ltb, List, Some, None, Ok, Err, Option, Result, sym, refl, ap, ◌∙◌, subst}
use Rattle.std.proofs.lemmas.Bool.{lt-ltb}
use Rattle.book.specs.Receipts.{with_halt}
use Rattle.book.specs.Walks.{filled}
use Rattle.book.specs.declared.outcome.Receipt.{Receipt}
use Rattle.listing.specs.Changes.{Contents}
use Rattle.orders.specs.declared.row.OrderRow.{OrderRow}
use Rattle.rules.specs.Arrivals.{Arrival, met, arrived, halt_by, halt_in, halting, halts_market, receipt_for}
use Rattle.rules.specs.Calls.{Call, Answer, told, enter, received}
use Rattle.rules.specs.Entering.{entry}
use Rattle.rules.specs.Refusing.{fault}
use Rattle.rules.specs.Rules.{Step, refuses, accepts, answer, after, Chosen}
use Rattle.rules.specs.Worlds.{World, world, state_of, product_of}
use Rattle.rules.specs.declared.new_order.NewOrder.{NewOrder}
use Rattle.rules.specs.declared.state.State.{State}
use Rattle.tape.specs.declared.row.TradeRow.{TradeRow}
use Rattle.terms.specs.Checks.{earliest}
use Rattle.terms.specs.declared.halt.Halt.{Halt}
use Rattle.terms.specs.declared.halt.Halt.TheVariants.{Nothing}
use Rattle.terms.specs.declared.refusal.Refusal.{Refusal}
use Rattle.entering.specs.Entries.{front_checks}
use Rattle.entering.proofs.Arrived.{Arrives, Entered, back_checks}
use Rattle.market.proofs.Ways.{earlier_fails, later_is}

-- a listed product halts as its kind says
pub halts_listed : (n count : ℕ) (h : Halt) → n < count → cond (ltb n count) h Nothing ≡ h
halts_listed n count h l = rw (lt-ltb n count l)

module _ (w : World) (time : ℕ) (c : Call) where
  pub step_refused : {A : Type 0} (name : A → Answer) (r : Result A Refusal) (e : Refusal) (w' : World) → fault w time c ≡ Some e → r ≡ Err e → w' ≡ w → Step w time c (told name r) w'
  step_refused name r e w' f is same =
      subst (λ (x : World). Step w time c (told name r) x) (sym same) (subst (λ x. Step w time c (told name x) w) (sym is) (refuses e f))

  pub step_accepted : (a : Answer) (w' : World) (place room : ℕ) → fault w time c ≡ None → Chosen w time c place room → a ≡ answer w time c → w' ≡ after w time c place room → Step w time c (Ok a) w'
  step_accepted a w' place room f chosen is same =
      subst (λ (x : World). Step w time c (Ok a) x) (sym same) (subst (λ (x : Answer). Step w time c (Ok x) (after w time c place room)) (sym is) (accepts place room f chosen))

  -- an order arrived, and the market notes it
  pub step_arrived : (b : Arrival) (place index : ℕ) (left : List OrderRow → List OrderRow) (r : Receipt Bool) (h : Halt) (s' : State) (ps' : Contents) (table' : List OrderRow) (tape' : List TradeRow) (room' : ℕ) →
      fault w time c ≡ None → Chosen w time c place room' → answer w time c ≡ received (receipt_for w b) →
      after w time c place room' ≡ arrived w b index (left (filled (met w b).fills w.table)) room' → Arrives w b (met w b) index left r table' tape' room' →
      h ≡ halt_by (product_of w b.product).listed.kind r.halt → s' ≡ state_of w.state.phase w.state.day b.time b.place (halts_market h || w.state.halted) → ps' ≡ halting h b.product w.products →
      Step w time c (Ok (received (with_halt r h))) (world s' ps' w.tells table' tape' room')
  unfolding arrived
  step_arrived b place index left r h s' ps' table' tape' room' f chosen answers leaves a halt state products =
      let halts : h ≡ halt_in w b = halt ∙ ap (halt_by (product_of w b.product).listed.kind) a.halted_is in
      let receipt : with_halt r h ≡ receipt_for w b =
      λ j. record { number = a.number_is j; traded = a.traded_is j; rest = a.rest_is j; trades = a.trades_is j; halt = halts j } in
      let state' = state ∙ (λ j. state_of w.state.phase w.state.day b.time b.place (halts_market (halts j) || w.state.halted)) in
      let products' = products ∙ (λ j. halting (halts j) b.product w.products) in
      step_accepted _ _ place room' f chosen (ap received receipt ∙ sym answers)
      ((λ j. world (state' j) (products' j) w.tells (a.table_is j) (a.tape_is j) room') ∙ sym leaves)

module _ (w : World) (time : ℕ) (o : NewOrder) where
  abbrev last : List (Option Refusal)
  last = back_checks w (entry w time o) (met w (entry w time o))

  pub entry_stopped : (e : Refusal) → earliest (front_checks w time o) ≡ Some e → fault w time (enter o) ≡ Some e
  entry_stopped e f = earlier_fails (front_checks w time o) last e f

  module _ (passes : earliest (front_checks w time o) ≡ None) (b : Arrival) (same : b ≡ entry w time o) where
    pub entry_refused : (e : Refusal) → earliest (back_checks w b (met w b)) ≡ Some e → fault w time (enter o) ≡ Some e
    entry_refused e f =
        later_is (front_checks w time o) last passes ∙ subst (λ (x : Arrival). earliest (back_checks w x (met w x)) ≡ Some e) same f

    pub entry_taken : (r : Receipt Bool) (h : Halt) (s' : State) (ps' : Contents) (table' : List OrderRow) (tape' : List TradeRow) (room' : ℕ) → Entered w b (met w b) r table' tape' room' →
        h ≡ halt_by (product_of w o.product).listed.kind r.halt → s' ≡ state_of w.state.phase w.state.day time r.number (halts_market h || w.state.halted) → ps' ≡ halting h o.product w.products →
        Step w time (enter o) (Ok (received (with_halt r h))) (world s' ps' w.tells table' tape' room')
    entry_taken r h s' ps' table' tape' room' entered halt state products =
        let e : Entered w (entry w time o) (met w (entry w time o)) r table' tape' room' = subst (λ (x : Arrival). Entered w x (met w x) r table' tape' room') same entered in
        step_arrived w time (enter o) (entry w time o) e.place e.place (λ table. table) r h s' ps' table' tape' room'
        (later_is (front_checks w time o) last passes ∙ e.passes)
        (e.free_before, e.arrives.room) refl refl e.arrives halt
        (state ∙ ap (λ (n : ℕ). state_of w.state.phase w.state.day time n (halts_market h || w.state.halted)) e.arrives.number_is) products
