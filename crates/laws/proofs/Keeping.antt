-- What rests is what was entered or last amended, in the place in time that it then took. Assumes nothing.
use Rattle.std.proofs.Common.{◌≡◌, ℕ, ◌+◌, ◌-◌, ◌<◌, ◌≤◌, Bool, true, false, cond, not, ◌||◌, eqb, ltb, List, length, set, None, Ok, Result, sym, refl, ap, ◌∙◌, subst, inl, inr, arith}
use Rattle.std.proofs.lemmas.Bool.{cond_both, cond-true, cond-false, and_parts, both_ways, eq-eqb, not-true}
use Rattle.std.proofs.lemmas.Bool.Decides.{nat_tests}
use Rattle.book.specs.Walks.{row_left, filled}
use Rattle.orders.specs.Closes.{expired, leaves}
use Rattle.orders.specs.Queue.{counted}
use Rattle.orders.specs.Rows.{free}
use Rattle.orders.specs.declared.row.OrderRow.{OrderRow}
use Rattle.terms.specs.declared.refusal.Refusal.{Refusal}
use Rattle.rules.specs.Amending.{slot_in, new_price, takes_stamp, stamp_after, arrives_again, repriced, changed_order, changed_receipt, after_arrival, after_change, after_amendment, amended_receipt}
use Rattle.rules.specs.Arrivals.{Arrival, met, arrived, remainder, receipt_for}
use Rattle.rules.specs.Calls.{Call, Answer}
use Rattle.rules.specs.Calls.{roll, open_session, close_session, enter, amend, withdraw, adjust, frenetic, resume, request, determine, received}
use Rattle.rules.specs.Entering.{entry}
use Rattle.rules.specs.Refusing.{fault}
use Rattle.rules.specs.Rules.{after, answer, Chosen, close_in, Step, refuses, accepts}
use Rattle.rules.specs.Worlds.{World, is_open, product_of}
use Rattle.rules.specs.declared.amendment.Amendment.{Amendment}
use Rattle.rules.specs.declared.new_order.NewOrder.{NewOrder}
use Rattle.laws.specs.Book.{row_at, Tidy, Numbered}
use Rattle.laws.specs.Histories.{event, History, Reached, made, then_called}
use Rattle.laws.specs.Keeping.{Placed, Stayed, Changed, ComesFrom, stayed, came, changed, RowsKept}
use Rattle.laws.specs.Quantities.{number_told}
use Rattle.laws.specs.Words.{Each}
use Rattle.laws.proofs.Anchors.{own_price}
use Rattle.laws.proofs.Arrivals.{Lands, new_row, rows_after}
use Rattle.laws.proofs.FairRows.{Proper, stands_proper, stands_fair, reduced}
use Rattle.laws.proofs.Fills.{taken_at, left_of}
use Rattle.laws.proofs.Found.{Found, found}
use Rattle.laws.proofs.Landing.{entry_lands, amend_lands}
use Rattle.laws.proofs.Made.{code_side}
use Rattle.laws.proofs.Numbers.{TidyRow, tidy, numbered, alone_found}
use Rattle.laws.proofs.Passing.{EntryPassed, entry_passed, AmendmentPassed, amendment_passed, withdrawal_passed}
use Rattle.laws.proofs.Priced.{priced}
use Rattle.laws.proofs.Written.{row_set, row_expired, row_new}

-- no place is later than the last that was given

left_place : (r : OrderRow) (m : ℕ) → (left_of r m).place ≤ r.place
left_place r m =
    cond_both (eqb m 0) r (row_left r m) (λ x. x.place ≤ r.place) (λ e. omega arith)
    (λ e. cond_both (eqb r.rest m) free (reduced r (r.rest - m)) (λ x. x.place ≤ r.place) (λ q. omega arith) (λ q. omega arith))

new_place : (a : Arrival) (rest : ℕ) → (new_row a rest).place ≤ a.place
new_place a rest = cond_both (eqb rest 0) free (remainder a rest) (λ r. r.place ≤ a.place) (λ e. omega arith) (λ e. omega arith)

arrived_placed : (w : World) (a : Arrival) (i : ℕ) (table : List OrderRow) (room : ℕ) → Lands w a i table → a.place ≡ w.state.stamp + 1 →
    Placed w → Placed (arrived w a i table room)
unfolding arrived
arrived_placed w a i table room l stamp h k =
    elim (rows_after w a i table room l k) [
      | inl x ↦ omega (arith, ap (λ r. r.place) x.1, new_place a (met w a).rest)
      | inr x ↦ omega (arith, ap (λ r. r.place) x.1, left_place (row_at w.table k) (taken_at k (met w a).fills), h k, stamp)
    ]

set_placed : (table : List OrderRow) (p : ℕ) (r : OrderRow) (last last' : ℕ) → p < length (counted table) → last ≤ last' → r.place ≤ last' →
    ((i : ℕ) → (row_at table i).place ≤ last) → (i : ℕ) → (row_at (set table p r) i).place ≤ last'
set_placed table p r last last' l u v h i =
    elim (row_set table p r l i) [
      | inl x ↦ omega (arith, ap (λ r. r.place) x.1)
      | inr x ↦ omega (arith, ap (λ r. r.place) x.1, h i)
    ]

place_under : (b : Bool) (stamp old : ℕ) → old ≤ stamp → cond b (stamp + 1) old ≤ cond b (stamp + 1) stamp
place_under true stamp old l = omega arith
place_under false stamp old l = l

pub stamp_over : (b : Bool) (stamp : ℕ) → stamp ≤ cond b (stamp + 1) stamp
stamp_over true stamp = omega arith
stamp_over false stamp = omega arith

amended_placed : (w : World) (m : Amendment) (time room : ℕ) → AmendmentPassed w time m → Placed w → Placed (after_amendment w m time room)
unfolding after_amendment
amended_placed w m time room p h =
    let f : Found w m.participant m.order = found w m.participant m.order p.owner in
    let i : ℕ = (slot_in w m.order).index in
    let old : (slot_in w m.order).row.place ≤ w.state.stamp = omega (arith, ap (λ r. r.place) f.same, h i) in
    cond_both (arrives_again w m) (after_arrival w m time room) (after_change w m time room) Placed
    (λ e. arrived_placed w (repriced w m time) i _ room (amend_lands w m time p.owner) refl h)
    (λ e. set_placed w.table i (changed_order w m) w.state.stamp (stamp_after w m) f.within
    (stamp_over (takes_stamp w m) w.state.stamp) (place_under (takes_stamp w m) w.state.stamp (slot_in w m.order).row.place old) h)

after_placed : (w : World) (time : ℕ) (c : Call) (place room : ℕ) → fault w time c ≡ None → Chosen w time c place room → Tidy w.products.count w.table →
    Placed w → Placed (after w time c place room)
after_placed w time (roll prices) place room e t d h = h
after_placed w time open_session place room e t d h = h
after_placed w time close_session place room e t d h = λ i.
    let row : OrderRow = row_at w.table i in
    subst (λ r. r.place ≤ w.state.stamp) (sym (row_expired w.products.count (close_in w) w.table i))
    (cond_both (leaves w.products.count (close_in w) row) free row (λ r. r.place ≤ w.state.stamp) (λ q. omega arith) (λ q. h i))
after_placed w time (enter o) place room e t d h =
    arrived_placed w (entry w time o) place _ room (entry_lands w time o place d (entry_passed w time o e).listed t.0) refl h
after_placed w time (amend m) place room e t d h = amended_placed w m time room (amendment_passed w time m e) h
after_placed w time (withdraw participant number) place room e t d h =
    let f : Found w participant number = found w participant number (withdrawal_passed w time participant number e) in
    set_placed w.table (slot_in w number).index free w.state.stamp w.state.stamp f.within (omega arith) (omega arith) h
after_placed w time (adjust n price) place room e t d h = h
after_placed w time (frenetic n ticks) place room e t d h = h
after_placed w time resume place room e t d h = h
after_placed w time (request participant n) place room e t d h = h
after_placed w time (determine n verdict) place room e t d h = h

step_placed : (w : World) (time : ℕ) (c : Call) {a : Result Answer Refusal} {w' : World} → Step w time c a w' → Tidy w.products.count w.table → Placed w → Placed w'
step_placed w time c (refuses refusal e) d h = h
step_placed w time c (accepts place room e t) d h = after_placed w time c place room e t d h

pub placed : {h : History} {w : World} → Reached h w → Placed w
placed (made w f) = λ i. omega (arith, ap (λ r. r.place) (row_new w.table f.nobody_rests i))
placed (then_called {w = w} {time = time} {c = c} before holds step) = step_placed w time c step (tidy before) (placed before)

-- rows that stayed

stays : (r r' : OrderRow) → r' ≡ r → Stayed r r'
stays r r' e =
    subst (Stayed r) (sym e)
    (record {
      number = refl;
      place = refl;
      product = refl;
      side = refl;
      price = refl;
      rest = omega arith;
      participant = refl;
      duration = refl;
      date = refl;
      entered = refl;
    })

pub stays_left : (r : OrderRow) (m : ℕ) → 0 < (left_of r m).rest → Stayed r (left_of r m)
stays_left r m =
    cond_both (eqb m 0) r (row_left r m) (λ x. 0 < x.rest → Stayed r x) (λ e l. stays r r refl)
    (λ e. cond_both (eqb r.rest m) free (reduced r (r.rest - m)) (λ x. 0 < x.rest → Stayed r x)
    (λ q l. absurd (let z : ⊥ = omega (arith, l) in z))
    (λ q l. record {
      number = refl;
      place = refl;
      product = refl;
      side = refl;
      price = refl;
      rest = omega arith;
      participant = refl;
      duration = refl;
      date = refl;
      entered = refl;
    }))

-- no order has number 0
has_number : (n : ℕ) (r : OrderRow) → TidyRow n r → 0 < r.rest → r.number ≡ 0 → ⊥
has_number n r (inl e) l z = omega (arith, l, ap (λ x. x.rest) e)
has_number n r (inr s) l z = omega (arith, z, (stands_proper n r s).numbered)

-- an answer that tells of no order
quiet_row : (w : World) (c : Call) (a : Answer) (i : ℕ) (new : OrderRow) → Tidy w.products.count w.table → number_told (Ok a) ≡ 0 →
    new ≡ row_at w.table i → 0 < new.rest → ComesFrom w i new c a
quiet_row w c a i new d none e l =
    stayed c a
    (λ q. has_number w.products.count (row_at w.table i) (d i) (omega (arith, l, ap (λ r. r.rest) e)) (omega (arith, q, none, ap (λ r. r.number) e)))
    (stays (row_at w.table i) new e)

-- an order that arrives
arrived_kept : (w : World) (a : Arrival) (i : ℕ) (table : List OrderRow) (room : ℕ) → Lands w a i table → (c : Call) (n : Answer) →
    ((k : ℕ) → 0 < (met w a).rest → ComesFrom w k (remainder a (met w a).rest) c n) →
    ((k : ℕ) → (k ≡ i → ⊥) → 0 < (row_at w.table k).rest → (row_at w.table k).number ≡ number_told (Ok n) → ⊥) →
    (k : ℕ) → 0 < (row_at (arrived w a i table room).table k).rest → ComesFrom w k (row_at (arrived w a i table room).table k) c n
arrived_kept w a i table room l c n new others k some =
    let row : OrderRow = row_at w.table k in
    let left : OrderRow = left_of row (taken_at k (met w a).fills) in
    elim (rows_after w a i table room l k) [
      | inl x ↦
          subst (λ r. ComesFrom w k r c n) (sym x.1)
          (cond_both (eqb (met w a).rest 0) free (remainder a (met w a).rest) (λ r. 0 < r.rest → ComesFrom w k r c n)
          (λ e u. absurd (let z : ⊥ = omega (arith, u) in z)) (λ e u. new k u)
          (omega (arith, some, ap (λ r. r.rest) x.1)))
      | inr x ↦
          (let u : 0 < left.rest = omega (arith, some, ap (λ r. r.rest) x.1) in
          let s : Stayed row left = stays_left row (taken_at k (met w a).fills) u in
          subst (λ r. ComesFrom w k r c n) (sym x.1) (stayed c n (λ q. others k x.0 (omega (arith, u, s.rest)) (sym s.number ∙ q)) s))
    ]

entry_kept : (w : World) (time : ℕ) (o : NewOrder) (place room : ℕ) → EntryPassed w time o → Chosen w time (enter o) place room →
    Tidy w.products.count w.table → Numbered w.state.stamp w.table → Placed w → (product_of w o.product).reference ≤ 1000000 →
    RowsKept (event w time (enter o) (Ok (answer w time (enter o))) (after w time (enter o) place room))
entry_kept w time o place room p t d h l low =
    let a : Arrival = entry w time o in
    arrived_kept w a place (filled (met w a).fills w.table) room (entry_lands w time o place d p.listed t.0) (enter o) (received (receipt_for w a))
    (λ k u. came o (receipt_for w a)
    (record {
      number = refl;
      new_number = λ j. omega (arith, h.given j);
      place = λ j. omega (arith, l j);
      product = refl;
      side = refl;
      price = own_price w o o.limit low;
      rest = refl;
      participant = refl;
      duration = refl;
      date = refl;
      entered = refl;
    }))
    (λ k n u q. omega (arith, q, h.given k))

-- whether an amendment gives up the place

keeps_stamp : (p q r s : ℕ) → q ≡ p → s ≤ r → (not (eqb p q) || ltb r s) ≡ false
keeps_stamp p q r s e l = grind (arith, nat_tests)

new_price_stamps : (p q r s : ℕ) → (q ≡ p → ⊥) → (not (eqb p q) || ltb r s) ≡ true
new_price_stamps p q r s n = grind (arith, nat_tests)

larger_stamps : (p q r s : ℕ) → r < s → (not (eqb p q) || ltb r s) ≡ true
larger_stamps p q r s l = grind (arith, nat_tests)

amend_kept : (w : World) (time : ℕ) (m : Amendment) (room : ℕ) → AmendmentPassed w time m → Numbered w.state.stamp w.table → Placed w →
    RowsKept (event w time (amend m) (Ok (received (amended_receipt w m time))) (after_amendment w m time room))
unfolding after_amendment amended_receipt
amend_kept w time m room p h l = go (arrives_again w m) refl
  where
    f : Found w m.participant m.order
    f = found w m.participant m.order p.owner

    i : ℕ
    i = (slot_in w m.order).index

    x : OrderRow
    x = (slot_in w m.order).row

    proper_x : Proper x
    proper_x = stands_proper w.products.count x f.stood

    a : Arrival
    a = repriced w m time

    others : (k : ℕ) → (k ≡ i → ⊥) → 0 < (row_at w.table k).rest → (row_at w.table k).number ≡ x.number → ⊥
    others k d r e = alone_found w m.participant m.order f h k d r (e ∙ f.numbered)

    last : (place : ℕ) → place ≡ w.state.stamp + 1 → (j : ℕ) → (row_at w.table j).place < place
    last place e j = omega (arith, e, l j)

    go : (b : Bool) → arrives_again w m ≡ b →
        RowsKept (event w time (amend m) (Ok (received (cond b (receipt_for w a) (changed_receipt w m)))) (cond b (after_arrival w m time room) (after_change w m time room)))
    go true t =
        let q = and_parts (new_price w m) (is_open w x.product) t in
        arrived_kept w a i (set (filled (met w a).fills w.table) i free) room (amend_lands w m time p.owner) (amend m) (received (receipt_for w a))
        (λ k u. changed m (receipt_for w a) i
        (subst (λ y. Changed w m (receipt_for w a) y (remainder a (met w a).rest)) (sym f.same)
        (record {
          rested = proper_x.some;
          old_number = f.numbered;
          owner = f.owned;
          number = f.numbered;
          keeps_place = λ e v. absurd (both_ways (eqb m.price x.price) (not-true (eqb m.price x.price) q.0) (eq-eqb m.price x.price (sym e)));
          new_price = λ n. last (w.state.stamp + 1) refl;
          larger = λ n. last (w.state.stamp + 1) refl;
          product = refl;
          side = sym (code_side x (stands_fair w.products.count x f.stood));
          price = refl;
          rest = refl;
          participant = refl;
          duration = refl;
          date = refl;
          entered = refl;
        })))
        others
    go false t = λ k u.
        elim (row_set w.table i (changed_order w m) f.within k) [
          | inl y ↦
              subst (λ r. ComesFrom w k r (amend m) (received (changed_receipt w m))) (sym y.1)
              (changed m (changed_receipt w m) i
              (subst (λ r. Changed w m (changed_receipt w m) r (changed_order w m)) (sym f.same)
              (record {
                rested = proper_x.some;
                old_number = f.numbered;
                owner = f.owned;
                number = f.numbered;
                keeps_place = λ e v. cond-false (takes_stamp w m) _ _ (keeps_stamp m.price x.price x.rest m.quantity e v);
                new_price = λ n. last (changed_order w m).place (cond-true (takes_stamp w m) _ _ (new_price_stamps m.price x.price x.rest m.quantity n));
                larger = λ n. last (changed_order w m).place (cond-true (takes_stamp w m) _ _ (larger_stamps m.price x.price x.rest m.quantity n));
                product = refl;
                side = refl;
                price = refl;
                rest = refl;
                participant = refl;
                duration = refl;
                date = refl;
                entered = refl;
              })))
          | inr y ↦
              (let s : Stayed (row_at w.table k) (row_at (set w.table i (changed_order w m)) k) = stays (row_at w.table k) (row_at (set w.table i (changed_order w m)) k) y.1 in
              stayed (amend m) (received (changed_receipt w m)) (λ q. others k y.0 (omega (arith, u, s.rest)) (sym s.number ∙ q)) s)
        ]

-- any event

after_kept : (w : World) (time : ℕ) (c : Call) (place room : ℕ) → fault w time c ≡ None → Chosen w time c place room →
    Tidy w.products.count w.table → Numbered w.state.stamp w.table → Placed w → ((n : ℕ) → n < w.products.count → (product_of w n).reference ≤ 1000000) →
    RowsKept (event w time c (Ok (answer w time c)) (after w time c place room))
after_kept w time (roll prices) place room e t d h l low = λ i u. quiet_row w (roll prices) _ i _ d refl refl u
after_kept w time open_session place room e t d h l low = λ i u. quiet_row w open_session _ i _ d refl refl u
after_kept w time close_session place room e t d h l low = λ i u.
    let row : OrderRow = row_at w.table i in
    let n : ℕ = w.products.count in
    let new : OrderRow = row_at (expired n (close_in w) w.table) i in
    cond_both (leaves n (close_in w) row) free row (λ r. new ≡ r → ComesFrom w i new close_session (answer w time close_session))
    (λ q z. absurd (let b : ⊥ = omega (arith, u, ap (λ r. r.rest) z) in b)) (λ q z. quiet_row w close_session _ i new d refl z u)
    (row_expired n (close_in w) w.table i)
after_kept w time (enter o) place room e t d h l low =
    let p = entry_passed w time o e in entry_kept w time o place room p t d h l (low o.product p.listed)
after_kept w time (amend m) place room e t d h l low = amend_kept w time m room (amendment_passed w time m e) h l
after_kept w time (withdraw participant number) place room e t d h l low = λ i u.
    let f : Found w participant number = found w participant number (withdrawal_passed w time participant number e) in
    elim (row_set w.table (slot_in w number).index free f.within i) [
      | inl x ↦ absurd (let b : ⊥ = omega (arith, u, ap (λ r. r.rest) x.1) in b)
      | inr x ↦ quiet_row w (withdraw participant number) _ i _ d refl x.1 u
    ]
after_kept w time (adjust n price) place room e t d h l low = λ i u. quiet_row w (adjust n price) _ i _ d refl refl u
after_kept w time (frenetic n ticks) place room e t d h l low = λ i u. quiet_row w (frenetic n ticks) _ i _ d refl refl u
after_kept w time resume place room e t d h l low = λ i u. quiet_row w resume _ i _ d refl refl u
after_kept w time (request participant n) place room e t d h l low = λ i u. quiet_row w (request participant n) _ i _ d refl refl u
after_kept w time (determine n verdict) place room e t d h l low = λ i u. quiet_row w (determine n verdict) _ i _ d refl refl u

step_kept : {h : History} {w : World} {time : ℕ} {c : Call} {a : Result Answer Refusal} {w' : World} → Reached h w → Step w time c a w' → RowsKept (event w time c a w')
step_kept before (refuses r e) = λ i. refl
step_kept {w = w} {time = time} {c = c} before (accepts place room e t) =
    after_kept w time c place room e t (tidy before) (numbered before) (placed before) (priced before)

pub kept_rows : {h : History} {w : World} → Reached h w → Each RowsKept h
kept_rows (made w f) = tt
kept_rows (then_called before holds step) = (step_kept before step, kept_rows before)
