-- Each call that was answered halts where its next match lies outside the tradeable range, and only there. Assumes nothing.
use Rattle.std.proofs.Common.{◌≡◌, ℕ, zero, suc, ◌+◌, ◌-◌, ◌<◌, ◌≤◌, Bool, true, false, cond, not, ◌||◌, eqb, leb, ◌⊎◌, List, [], ◌∷◌, length, set, None, Ok, Result, sym, refl, ap, ◌∙◌, subst, inl, inr, arith, get_or-set_other}
use Rattle.std.proofs.lemmas.Bool.{false≢true, both_ways, cases_eq, and_parts, and_cases, eqb-true, eq-eqb, leb-false, not-true, not-false}
use Rattle.book.specs.Walks.{filled}
use Rattle.limits.specs.Ranges.{tradeable}
use Rattle.listing.specs.Changes.{with_halt, with_reference, with_frenetic, settled, lifted}
use Rattle.listing.specs.Entries.{is_future, unlisted}
use Rattle.listing.specs.Product.{product_at, fresh, ticks_in_force}
use Rattle.rules.specs.Held.{product_in}
use Rattle.listing.specs.declared.kind.Kind.{Kind}
use Rattle.listing.specs.declared.kind.Kind.TheVariants.{Future, Option as AnOption}
use Rattle.listing.specs.declared.product.Product.{Product}
use Rattle.orders.specs.Rows.{free}
use Rattle.orders.specs.declared.row.OrderRow.{OrderRow}
use Rattle.terms.specs.Checked.{price_at}
use Rattle.terms.specs.Sides.{opposite}
use Rattle.terms.specs.declared.halt.Halt.{Halt}
use Rattle.terms.specs.declared.halt.Halt.TheVariants.{Nothing, OneOption, WholeMarket}
use Rattle.terms.specs.declared.refusal.Refusal.{Refusal}
use Rattle.rules.specs.Amending.{slot_in, new_price, arrives_again, repriced, after_arrival, after_change, after_amendment, changed_receipt, amended_receipt}
use Rattle.rules.specs.Arrivals.{Arrival, met, arrived, halt_by, halt_in, halting, halts_market, receipt_for}
use Rattle.rules.specs.Calls.{Call, Answer, roll, open_session, close_session, enter, amend, withdraw, adjust, frenetic, resume, request, determine, received}
use Rattle.rules.specs.Entering.{entry}
use Rattle.rules.specs.Refusing.{fault}
use Rattle.rules.specs.Rules.{Step, refuses, accepts, after, answer, Chosen}
use Rattle.rules.specs.Worlds.{World, in_session, is_halted, is_open, product_of, range_in}
use Rattle.rules.specs.declared.amendment.Amendment.{Amendment}
use Rattle.rules.specs.declared.new_order.NewOrder.{NewOrder}
use Rattle.laws.specs.Arriving.{Open, Arriver, arriver, Arrives, enters}
use Rattle.laws.specs.Book.{row_at, Tidy, Numbered}
use Rattle.laws.specs.Halting.{Outside, HaltsAs, NewPrice, Meets, Stopped, WentOn, HaltsRightly, HaltedRightly}
use Rattle.laws.specs.Histories.{Event, event, History, Reached, made, then_called}
use Rattle.laws.specs.Words.{Each}
use Rattle.laws.proofs.Anchors.{waits_price, own_price, ticks_in_force_are}
use Rattle.laws.proofs.Arrivals.{Lands}
use Rattle.laws.proofs.FairRows.{stands_listed}
use Rattle.laws.proofs.Found.{Found, found}
use Rattle.laws.proofs.Halts.{HaltedAt, halts_at, clears}
use Rattle.laws.proofs.Landing.{entry_lands, amend_lands}
use Rattle.laws.proofs.Made.{open_from, amends_as}
use Rattle.laws.proofs.Numbers.{tidy, numbered, alone_found, found_rests}
use Rattle.laws.proofs.Passing.{EntryPassed, entry_passed, AmendmentPassed, amendment_passed}
use Rattle.laws.proofs.Priced.{Sound, sound}
use Rattle.laws.proofs.Uncross.{option_there, is_open_since, halt_kept}

-- what lies outside the range
outside_range : (w : World) (n price : ℕ) → (product_of w n).reference ≤ 1000000 → price ≤ 1000000 →
    tradeable (range_in w n).low.ticks (range_in w n).high.ticks price ≡ false → Outside (product_of w n) (ticks_in_force (product_of w n)) price
outside_range w n price l m e =
    let low : ℕ = (range_in w n).low.ticks in
    let high : ℕ = (range_in w n).high.ticks in
    span (product_of w n).reference (ticks_in_force (product_of w n))
    (elim (and_cases (leb low price) (leb price high) e) [
      | inl x ↦ inl (leb-false low price x)
      | inr x ↦ inr (leb-false price high x)
    ])
  where
    span : (r t : ℕ) → (price < (price_at (r - t)).ticks) ⊎ ((price_at (r + t)).ticks < price) → (price + t < r) ⊎ (r + t < price)
    span r t (inl x) = inl (omega arith)
    span r t (inr x) = inr (omega (arith, m))

-- the order of an arrival, in the laws' words
abbrev who_of : Arrival → Arriver
who_of a = arriver a.product a.side a.limit a.number a.participant

module _ (w : World) (a : Arrival) (i : ℕ) (table : List OrderRow) (room : ℕ) (lands : Lands w a i table) (low : Sound (product_of w a.product))
    (c : Call) (n : Result Answer Refusal) (arr : Arrives w c n (who_of a)) (is_open : Open w a.product) (meets : Meets w (who_of a) c) where
  abbrev e : Event
  e = event w a.time c n (arrived w a i table room)

  stopped : (halt : Halt) → (met w a).halted ≡ true → HaltsAs (product_of w a.product).listed.kind e a.product halt → Stopped e (met w a).rest halt
  stopped halt t h =
      let g : HaltedAt w a (arrived w a i table room).table = halts_at w a i table room lands t in
      let r : OrderRow = row_at (arrived w a i table room).table g.place in
      record {
        who = who_of a;
        arrives = arr;
        meets = meets;
        was_open = is_open;
        some = g.some;
        place = g.place;
        waiting = g.waiting;
        reached = g.reached;
        first = g.first;
        daily = ticks_in_force (product_of w a.product);
        in_force = ticks_in_force_are (product_of w a.product) low.widened;
        outside = outside_range w a.product r.price low.reference (waits_price (opposite a.side) a.product r g.waiting) g.outside;
        halted = h;
      }

  -- what is halted after it, by what it was answered
  market_by : (halt : Halt) → halt_in w a ≡ halt → e.after.state.halted ≡ (halts_market halt || w.state.halted)
  unfolding arrived
  market_by halt told = ap (λ x. halts_market x || w.state.halted) told

  product_by : (halt : Halt) → halt_in w a ≡ halt → (k : ℕ) → (product_of e.after k).halted ≡ (product_in (halting halt a.product w.products) k).halted
  unfolding arrived
  product_by halt told k = ap (λ x. (product_in (halting x a.product w.products) k).halted) told

  went_on : halt_in w a ≡ Nothing → (met w a).halted ≡ false → WentOn e (met w a).rest
  went_on told t =
      record {
        no_halt = (λ h. sym (market_by Nothing told) ∙ h, λ k h. sym (product_by Nothing told k) ∙ h);
        who = who_of a;
        arrives = arr;
        clear = λ m s. clears w a i table room lands t s;
      }

  rightly : (kind : Kind) (halted : Bool) → (product_of w a.product).listed.kind ≡ kind → (met w a).halted ≡ halted → HaltsRightly e (met w a).rest (halt_by kind halted)
  rightly Future true k t =
      let told : halt_in w a ≡ WholeMarket = ap (λ x. halt_by x (met w a).halted) k ∙ ap (halt_by Future) t in
      stopped WholeMarket t
      (subst (λ x. HaltsAs x e a.product WholeMarket) (sym k)
      (refl, market_by WholeMarket told, λ j h. sym (product_by WholeMarket told j) ∙ h))
  rightly Future false k t = went_on (ap (λ x. halt_by x (met w a).halted) k ∙ ap (halt_by Future) t) t
  rightly (AnOption right strike underlying) true k t =
      let told : halt_in w a ≡ OneOption = ap (λ x. halt_by x (met w a).halted) k ∙ ap (halt_by (AnOption right strike underlying)) t in
      let off : Product = with_halt true (product_of w a.product) in
      let rows : List Product = w.products.rows in
      stopped OneOption t
      (subst (λ x. HaltsAs x e a.product OneOption) (sym k) (
        refl,
        product_by OneOption told a.product ∙ ap (λ (x : Product). x.halted) (option_there rows a.product off (ap is_future k)),
        λ h. sym (market_by OneOption told) ∙ h,
        λ j d h. ap (λ (x : Product). x.halted) (sym (get_or-set_other rows a.product j off (fresh unlisted) d)) ∙ sym (product_by OneOption told j) ∙ h,
      ))
  rightly (AnOption right strike underlying) false k t =
      went_on (ap (λ x. halt_by x (met w a).halted) k ∙ ap (halt_by (AnOption right strike underlying)) t) t

  arrived_rightly : HaltsRightly e (met w a).rest (halt_in w a)
  arrived_rightly = rightly (product_of w a.product).listed.kind (met w a).halted refl refl

entry_rightly : (w : World) (time : ℕ) (o : NewOrder) (place room : ℕ) → EntryPassed w time o → Chosen w time (enter o) place room →
    Tidy w.products.count w.table → Sound (product_of w o.product) →
    HaltedRightly (event w time (enter o) (Ok (answer w time (enter o))) (after w time (enter o) place room))
entry_rightly w time o place room p t td low =
    let a : Arrival = entry w time o in
    arrived_rightly w a place (filled (met w a).fills w.table) room (entry_lands w time o place td p.listed t.0) low (enter o) (Ok (answer w time (enter o)))
    (enters o (receipt_for w a) a.limit (own_price w o o.limit low.reference)) (open_from w o.product p.session p.not_halted) tt

-- an order whose price changes rested at another
other_price : (w : World) (m : Amendment) → Found w m.participant m.order → Numbered w.state.stamp w.table → new_price w m ≡ true → NewPrice w m
other_price w m f h t i r n e =
    let k : ℕ = (slot_in w m.order).index in
    let x : OrderRow = (slot_in w m.order).row in
    elim (cases_eq i k) [
      | inl q ↦
          both_ways (eqb m.price x.price) (not-true (eqb m.price x.price) t)
          (eq-eqb m.price x.price (sym e ∙ ap (λ j. (row_at w.table j).price) q ∙ ap (λ y. y.price) f.same))
      | inr d ↦ alone_found w m.participant m.order f h i d r n
    ]

amend_rightly : (w : World) (time : ℕ) (m : Amendment) (room : ℕ) → AmendmentPassed w time m → Numbered w.state.stamp w.table →
    ((n : ℕ) → n < w.products.count → Sound (product_of w n)) →
    HaltedRightly (event w time (amend m) (Ok (received (amended_receipt w m time))) (after_amendment w m time room))
unfolding after_amendment amended_receipt
amend_rightly w time m room p h low = go (arrives_again w m) refl
  where
    f : Found w m.participant m.order
    f = found w m.participant m.order p.owner

    i : ℕ
    i = (slot_in w m.order).index

    x : OrderRow
    x = (slot_in w m.order).row

    a : Arrival
    a = repriced w m time

    go : (b : Bool) → arrives_again w m ≡ b →
        HaltedRightly (event w time (amend m) (Ok (received (cond b (receipt_for w a) (changed_receipt w m)))) (cond b (after_arrival w m time room) (after_change w m time room)))
    go true t =
        let q = and_parts (new_price w m) (is_open w x.product) t in
        let o = and_parts (in_session w.state.phase) (not (is_halted w x.product)) q.1 in
        let on = open_from w x.product o.0 (not-true (is_halted w x.product) o.1) in
        let listed : x.product < w.products.count = stands_listed w.products.count x f.stood in
        arrived_rightly w a i (set (filled (met w a).fills w.table) i free) room (amend_lands w m time p.owner) (low x.product listed) (amend m)
        (Ok (received (receipt_for w a))) (amends_as w m (receipt_for w a) f) on (on, other_price w m f h q.0)
    go false t =
        record {
          no_halt = (λ h. h, λ k h. h);
          who = who_of a;
          arrives = amends_as w m (changed_receipt w m) f;
          clear = λ g s j u v.
              elim (and_cases (new_price w m) (is_open w x.product) t) [
                | inl k ↦
                    g.1 i (found_rests w m.participant m.order f) (ap (λ y. y.number) f.same ∙ f.numbered)
                    (ap (λ y. y.price) f.same ∙ sym (eqb-true m.price x.price (not-false (eqb m.price x.price) k)))
                | inr k ↦ both_ways (is_open w x.product) k (is_open_since w x.product g.0)
              ];
        }

-- no other call halts anything

settled_halts : (prices : List ℕ) (rows : List Product) (k : ℕ) → (product_at (settled prices rows) k).halted ≡ (product_at rows k).halted
settled_halts [] rows k = refl
settled_halts (price ∷ prices) [] k = refl
settled_halts (price ∷ prices) (r ∷ rows) zero = refl
settled_halts (price ∷ prices) (r ∷ rows) (suc k) = settled_halts prices rows k

lifted_halts : (n : ℕ) (rows : List Product) (k : ℕ) → (product_at (lifted n rows) k).halted ≡ true → (product_at rows k).halted ≡ true
lifted_halts zero rows k h = h
lifted_halts (suc n) [] k h = h
lifted_halts (suc n) (r ∷ rows) zero h = absurd (false≢true h)
lifted_halts (suc n) (r ∷ rows) (suc k) h = lifted_halts n rows k h

after_rightly : (w : World) (time : ℕ) (c : Call) (place room : ℕ) → fault w time c ≡ None → Chosen w time c place room →
    Tidy w.products.count w.table → Numbered w.state.stamp w.table → ((n : ℕ) → n < w.products.count → Sound (product_of w n)) →
    HaltedRightly (event w time c (Ok (answer w time c)) (after w time c place room))
after_rightly w time (roll prices) place room e t td h low = (λ z. z, λ k z. sym (settled_halts prices w.products.rows k) ∙ z)
after_rightly w time open_session place room e t td h low = (λ z. z, λ k z. z)
after_rightly w time close_session place room e t td h low = (λ z. z, λ k z. z)
after_rightly w time (enter o) place room e t td h low =
    let p = entry_passed w time o e in
    entry_rightly w time o place room p t td (low o.product p.listed)
after_rightly w time (amend m) place room e t td h low = amend_rightly w time m room (amendment_passed w time m e) h low
after_rightly w time (withdraw participant number) place room e t td h low = (λ z. z, λ k z. z)
after_rightly w time (adjust n price) place room e t td h low =
    (λ z. z, λ k z. sym (halt_kept w.products.rows n k (with_reference price (length w.tape) (product_of w n)) refl) ∙ z)
after_rightly w time (frenetic n ticks) place room e t td h low =
    (λ z. z, λ k z. sym (halt_kept w.products.rows n k (with_frenetic ticks (product_of w n)) refl) ∙ z)
after_rightly w time resume place room e t td h low = (λ z. absurd (false≢true z), lifted_halts w.products.count w.products.rows)
after_rightly w time (request participant n) place room e t td h low = (λ z. z, λ k z. z)
after_rightly w time (determine n verdict) place room e t td h low = (λ z. z, λ k z. z)

step_rightly : {h : History} {w : World} {time : ℕ} {c : Call} {a : Result Answer Refusal} {w' : World} → Reached h w → Step w time c a w' → HaltedRightly (event w time c a w')
step_rightly before (refuses r e) = (λ z. z, λ k z. z)
step_rightly {w = w} {time = time} {c = c} before (accepts place room e t) =
    after_rightly w time c place room e t (tidy before) (numbered before) (sound before)

pub halted_rightly : {h : History} {w : World} → Reached h w → Each HaltedRightly h
halted_rightly (made w f) = tt
halted_rightly (then_called before holds step) = (step_rightly before step, halted_rightly before)
