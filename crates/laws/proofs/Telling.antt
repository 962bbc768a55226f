-- Each accepted call is answered by what it did, and no number is given twice. Assumes nothing.
use Rattle.std.proofs.Common.{◌≡◌, ℕ, zero, suc, ◌+◌, ◌<◌, ◌≤◌, Bool, true, false, cond, ◌&&◌, eqb, ltb, List, [], ◌∷◌, ◌++◌, map, length, get_or, drop, set, None, Ok, count_by, Result, sym, refl, ap, ◌∙◌, inl, inr, arith}
use lib.ListN.{length-map}
use Rattle.std.proofs.lemmas.List.{drop_all}
use Rattle.std.proofs.lemmas.List.Sums.{sum_by-cons}
use Rattle.std.proofs.lemmas.Bool.{cond_both, cases_eq, eq-eqb, ne_eqb, lt-ltb, false≢true}
use Rattle.book.specs.Walks.{filled}
use Rattle.orders.specs.Closes.{leaves, removed as leaving}
use Rattle.orders.specs.Queue.{counted}
use Rattle.orders.specs.Rows.{fair, free}
use Rattle.orders.specs.declared.row.OrderRow.{OrderRow}
use Rattle.tape.specs.declared.row.TradeRow.{TradeRow}
use Rattle.terms.specs.declared.refusal.Refusal.{Refusal}
use Rattle.rules.specs.Amending.{slot_in, takes_stamp, arrives_again, repriced, changed_order, changed_receipt, after_arrival, after_change, after_amendment, amended_receipt}
use Rattle.rules.specs.Arrivals.{Arrival, met, arrived, traded, remainder, receipt_for}
use Rattle.rules.specs.Calls.{Call, Answer}
use Rattle.rules.specs.Calls.{roll, open_session, close_session, enter, amend, withdraw, adjust, frenetic, resume, request, determine, received}
use Rattle.rules.specs.Entering.{entry}
use Rattle.rules.specs.Refusing.{fault}
use Rattle.rules.specs.Rules.{after, answer, Chosen, close_in, Step, refuses, accepts}
use Rattle.rules.specs.Worlds.{World}
use Rattle.rules.specs.declared.amendment.Amendment.{Amendment}
use Rattle.laws.specs.Book.{row_at, resting, rest_of, Tidy, Numbered}
use Rattle.laws.specs.Histories.{Event, event, History, Reached, made, then_called, is_accepted}
use Rattle.laws.specs.Keeping.{Stayed, Receives, leavers, ToldRightly, is_entry, RisingNumbers}
use Rattle.laws.specs.Keeping.{of_roll, of_opening, of_close, of_entry, of_amendment, of_withdrawal, of_adjustment, of_frenetic, of_resumption, of_request, of_determination}
use Rattle.laws.specs.Quantities.{has_to_leave, number_told}
use Rattle.laws.specs.Words.{total, only, count, Each}
use Rattle.laws.proofs.Arrivals.{Lands, new_row, rows_after, lots_same}
use Rattle.laws.proofs.Conserve.{each_at, free_rest, alone_rests, leaves_as_has_to}
use Rattle.laws.proofs.FairRows.{stands_proper}
use Rattle.laws.proofs.Fills.{taken_at, left_of}
use Rattle.laws.proofs.Found.{Found, found}
use Rattle.laws.proofs.Keeping.{stays_left, stamp_over}
use Rattle.laws.proofs.Landing.{entry_lands, amend_lands}
use Rattle.laws.proofs.Numbers.{TidyRow, tidy, numbered, alone_found}
use Rattle.laws.proofs.Passing.{EntryPassed, entry_passed, AmendmentPassed, amendment_passed, withdrawal_passed}
use Rattle.laws.proofs.Sums.{total_zero, total_map, only_zero, each_weaker}
use Rattle.laws.proofs.Tapes.{arrived_tape}
use Rattle.laws.proofs.Written.{row_set}

-- a close: how many have to leave

counted_same : (p q : OrderRow → Bool) (xs : List OrderRow) → Each (λ x. p x ≡ q x) xs → count_by p xs ≡ count q xs
counted_same p q [] h = refl
counted_same p q (x ∷ xs) h =
    let one : only (p x) 1 ≡ only (q x) 1 = ap (λ b. only b 1) h.0 in
    let first : count_by p (x ∷ xs) ≡ only (p x) 1 + count_by p xs = sum_by-cons (λ (y : OrderRow). cond (p y) 1 0) x xs in
    omega (arith, one, first, counted_same p q xs h.1)

free_stays : (w : World) → leaves w.products.count (close_in w) free ≡ (ltb 0 free.rest && has_to_leave w free)
unfolding fair
free_stays w = refl

leaves_if_due : (w : World) (r : OrderRow) → TidyRow w.products.count r → leaves w.products.count (close_in w) r ≡ (ltb 0 r.rest && has_to_leave w r)
leaves_if_due w r (inl e) = ap (leaves w.products.count (close_in w)) e ∙ free_stays w ∙ sym (ap (λ x. ltb 0 x.rest && has_to_leave w x) e)
leaves_if_due w r (inr s) =
    leaves_as_has_to w r s ∙ sym (ap (λ b. b && has_to_leave w r) (lt-ltb 0 r.rest (stands_proper w.products.count r s).some))

close_told : (w : World) → Tidy w.products.count w.table → leaving w.products.count (close_in w) w.table ≡ leavers w
close_told w d =
    counted_same (leaves w.products.count (close_in w)) (λ r. ltb 0 r.rest && has_to_leave w r) (counted w.table)
    (each_at (λ r. leaves w.products.count (close_in w) r ≡ (ltb 0 r.rest && has_to_leave w r)) free (counted w.table)
    (λ i. leaves_if_due w (row_at w.table i) (d i)))

-- a withdrawal: all that rested under the number

withdrawal_told : (w : World) (participant number : ℕ) → Found w participant number → Numbered w.state.stamp w.table →
    (slot_in w number).row.rest ≡ resting number w.table
withdrawal_told w participant number f h =
    let same : eqb number number ≡ true = eq-eqb number number refl in
    let all = alone_rests w participant number f h number in
    sym (ap (λ b. only b (resting number w.table)) (sym same) ∙ all ∙ ap (λ b. only b (slot_in w number).row.rest) same)

-- what rests under a number that one place has

total_one : {X : Type 0} (f : X → ℕ) (d : X) → f d ≡ 0 → (xs : List X) (i : ℕ) → ((k : ℕ) → (k ≡ i → ⊥) → f (get_or xs k d) ≡ 0) → total f xs ≡ f (get_or xs i d)
total_one f d z [] i h = sym z
total_one f d z (x ∷ xs) zero h =
    let none = total_zero f xs (each_at (λ y. f y ≡ 0) d xs (λ k. h (suc k) (λ e. omega (arith, e)))) in omega (arith, none)
total_one f d z (x ∷ xs) (suc i) h =
    let none = h zero (λ e. omega (arith, e)) in
    omega (arith, none, total_one f d z xs i (λ k n. h (suc k) (λ e. n (omega (arith, e)))))

resting_one : (n : ℕ) (table : List OrderRow) (i : ℕ) → ((k : ℕ) → (k ≡ i → ⊥) → rest_of n (row_at table k) ≡ 0) → resting n table ≡ rest_of n (row_at table i)
resting_one n table i h = total_one (rest_of n) free (free_rest n) (counted table) i h

-- nobody else has the number
abbrev Alone : List OrderRow → ℕ → ℕ → Type 0
Alone table i n = (k : ℕ) → (k ≡ i → ⊥) → 0 < (row_at table k).rest → (row_at table k).number ≡ n → ⊥

other_rest : (n : ℕ) (r : OrderRow) → (0 < r.rest → r.number ≡ n → ⊥) → rest_of n r ≡ 0
other_rest n r h =
    elim (cases_eq r.rest 0) [
      | inl z ↦ ap (only (eqb r.number n)) z ∙ only_zero (eqb r.number n)
      | inr z ↦ ap (λ b. only b r.rest) (ne_eqb r.number n (h (omega (arith, z))))
    ]

own_rest : (n : ℕ) (r : OrderRow) → r.number ≡ n → rest_of n r ≡ r.rest
own_rest n r e = ap (λ b. only b r.rest) (eq-eqb r.number n e)

new_rest : (a : Arrival) (rest : ℕ) → rest_of a.number (new_row a rest) ≡ rest
new_rest a rest =
    elim (cases_eq rest 0) [
      | inl z ↦
          cond_both (eqb rest 0) free (remainder a rest) (λ r. rest_of a.number r ≡ rest) (λ e. free_rest a.number ∙ sym z) (λ e. own_rest a.number (remainder a rest) refl)
      | inr z ↦ ap (λ b. rest_of a.number (cond b free (remainder a rest))) (ne_eqb rest 0 z) ∙ own_rest a.number (remainder a rest) refl
    ]

-- an order that arrives

drop_front : (xs ys : List TradeRow) → drop (length xs) (xs ++ ys) ≡ ys
drop_front [] ys = refl
drop_front (x ∷ xs) ys = drop_front xs ys

arrived_receives : (w : World) (a : Arrival) (i : ℕ) (table : List OrderRow) (room : ℕ) → Lands w a i table → Alone w.table i a.number →
    (time : ℕ) (c : Call) (n : Result Answer Refusal) → Receives (event w time c n (arrived w a i table room)) (receipt_for w a)
arrived_receives w a i table room l alone time c n =
    let after : List OrderRow = (arrived w a i table room).table in
    let new : List TradeRow = map (traded w a) (met w a).fills in
    let put : drop (length w.tape) (arrived w a i table room).tape ≡ new = ap (drop (length w.tape)) (arrived_tape w a i table room) ∙ drop_front w.tape new in
    let others : (k : ℕ) → (k ≡ i → ⊥) → rest_of a.number (row_at after k) ≡ 0 = λ k d.
    elim (rows_after w a i table room l k) [
      | inl x ↦ absurd (d x.0)
      | inr x ↦
          ap (rest_of a.number) x.1
          ∙ other_rest a.number (left_of (row_at w.table k) (taken_at k (met w a).fills))
          (λ u e.
          let s : Stayed (row_at w.table k) (left_of (row_at w.table k) (taken_at k (met w a).fills)) = stays_left (row_at w.table k) (taken_at k (met w a).fills) u in
          alone k d (omega (arith, u, s.rest)) (sym s.number ∙ e))
    ] in
    let here : rest_of a.number (row_at after i) ≡ (met w a).rest =
    elim (rows_after w a i table room l i) [
      | inl x ↦ ap (rest_of a.number) x.1 ∙ new_rest a (met w a).rest
      | inr x ↦ absurd (x.0 refl)
    ] in
    record {
      traded = lots_same (met w a).fills ∙ sym (ap (total (λ t. t.quantity)) put ∙ total_map (λ t. t.quantity) (traded w a) (met w a).fills);
      trades = sym (ap length put ∙ length-map (met w a).fills (traded w a));
      rest = sym (resting_one a.number after i others ∙ here);
    }

amend_told : (w : World) (time : ℕ) (m : Amendment) (room : ℕ) → AmendmentPassed w time m → Numbered w.state.stamp w.table →
    ToldRightly (event w time (amend m) (Ok (received (amended_receipt w m time))) (after_amendment w m time room))
unfolding after_amendment amended_receipt
amend_told w time m room p h = go (arrives_again w m)
  where
    f : Found w m.participant m.order
    f = found w m.participant m.order p.owner

    i : ℕ
    i = (slot_in w m.order).index

    x : OrderRow
    x = (slot_in w m.order).row

    a : Arrival
    a = repriced w m time

    alone : Alone w.table i x.number
    alone k d r e = alone_found w m.participant m.order f h k d r (e ∙ f.numbered)

    none : drop (length w.tape) w.tape ≡ []
    none = drop_all (length w.tape) w.tape (omega arith)

    others : (k : ℕ) → (k ≡ i → ⊥) → rest_of x.number (row_at (set w.table i (changed_order w m)) k) ≡ 0
    others k d =
        elim (row_set w.table i (changed_order w m) f.within k) [
          | inl y ↦ absurd (d y.0)
          | inr y ↦ ap (rest_of x.number) y.1 ∙ other_rest x.number (row_at w.table k) (alone k d)
        ]

    here : rest_of x.number (row_at (set w.table i (changed_order w m)) i) ≡ m.quantity
    here =
        elim (row_set w.table i (changed_order w m) f.within i) [
          | inl y ↦ ap (rest_of x.number) y.1 ∙ own_rest x.number (changed_order w m) refl
          | inr y ↦ absurd (y.0 refl)
        ]

    go : (b : Bool) →
        ToldRightly (event w time (amend m) (Ok (received (cond b (receipt_for w a) (changed_receipt w m)))) (cond b (after_arrival w m time room) (after_change w m time room)))
    go true =
        of_amendment m (receipt_for w a) f.numbered
        (arrived_receives w a i (set (filled (met w a).fills w.table) i free) room (amend_lands w m time p.owner) alone time (amend m) (Ok (received (receipt_for w a))))
    go false =
        of_amendment m (changed_receipt w m) f.numbered
        (record {
          traded = sym (ap (total (λ t. t.quantity)) none);
          trades = sym (ap length none);
          rest = sym (resting_one x.number (set w.table i (changed_order w m)) i others ∙ here);
        })

-- any event

after_told : (w : World) (time : ℕ) (c : Call) (place room : ℕ) → fault w time c ≡ None → Chosen w time c place room →
    Tidy w.products.count w.table → Numbered w.state.stamp w.table →
    ToldRightly (event w time c (Ok (answer w time c)) (after w time c place room))
after_told w time (roll prices) place room e t d h = of_roll prices
after_told w time open_session place room e t d h = of_opening
after_told w time close_session place room e t d h = of_close _ (close_told w d)
after_told w time (enter o) place room e t d h =
    let a : Arrival = entry w time o in
    let p : EntryPassed w time o = entry_passed w time o e in
    of_entry o (receipt_for w a)
    (arrived_receives w a place (filled (met w a).fills w.table) room (entry_lands w time o place d p.listed t.0)
    (λ k n u q. omega (arith, q, h.given k)) time (enter o) (Ok (received (receipt_for w a))))
after_told w time (amend m) place room e t d h = amend_told w time m room (amendment_passed w time m e) h
after_told w time (withdraw participant number) place room e t d h =
    of_withdrawal participant number _ (withdrawal_told w participant number (found w participant number (withdrawal_passed w time participant number e)) h)
after_told w time (adjust n price) place room e t d h = of_adjustment n price
after_told w time (frenetic n ticks) place room e t d h = of_frenetic n ticks
after_told w time resume place room e t d h = of_resumption
after_told w time (request participant n) place room e t d h = of_request participant n
after_told w time (determine n verdict) place room e t d h = of_determination n verdict

step_told : {h : History} {w : World} {time : ℕ} {c : Call} {a : Result Answer Refusal} {w' : World} → Reached h w → Step w time c a w' → ToldRightly (event w time c a w')
step_told before (refuses r e) = tt
step_told {w = w} {time = time} {c = c} before (accepts place room e t) = after_told w time c place room e t (tidy before) (numbered before)

pub told_counts : {h : History} {w : World} → Reached h w → Each ToldRightly h
told_counts (made w f) = tt
told_counts (then_called before holds step) = (step_told before step, told_counts before)

-- numbers that were told: none is above the last given, and a new one is

-- what a call leaves as the last given, and what it tells
abbrev NumbersGrow : World → Result Answer Refusal → World → Type 0
NumbersGrow w a w' = (w.state.stamp ≤ w'.state.stamp) × (number_told a ≤ w'.state.stamp)

amend_grows : (w : World) (time : ℕ) (m : Amendment) (room : ℕ) → AmendmentPassed w time m → Numbered w.state.stamp w.table →
    NumbersGrow w (Ok (received (amended_receipt w m time))) (after_amendment w m time room)
unfolding after_amendment amended_receipt arrived
amend_grows w time m room p h = go (arrives_again w m)
  where
    f : Found w m.participant m.order
    f = found w m.participant m.order p.owner

    old : (slot_in w m.order).row.number ≤ w.state.stamp
    old = omega (arith, ap (λ r. r.number) f.same, h.given (slot_in w m.order).index)

    go : (b : Bool) →
        NumbersGrow w (Ok (received (cond b (receipt_for w (repriced w m time)) (changed_receipt w m)))) (cond b (after_arrival w m time room) (after_change w m time room))
    go true = (omega arith, omega (arith, old))
    go false = let up = stamp_over (takes_stamp w m) w.state.stamp in (up, omega (arith, old, up))

after_grows : (w : World) (time : ℕ) (c : Call) (place room : ℕ) → fault w time c ≡ None → Numbered w.state.stamp w.table →
    NumbersGrow w (Ok (answer w time c)) (after w time c place room)
unfolding arrived
after_grows w time (roll prices) place room e h = (omega arith, omega arith)
after_grows w time open_session place room e h = (omega arith, omega arith)
after_grows w time close_session place room e h = (omega arith, omega arith)
after_grows w time (enter o) place room e h = (omega arith, omega arith)
after_grows w time (amend m) place room e h = amend_grows w time m room (amendment_passed w time m e) h
after_grows w time (withdraw participant number) place room e h = (omega arith, omega arith)
after_grows w time (adjust n price) place room e h = (omega arith, omega arith)
after_grows w time (frenetic n ticks) place room e h = (omega arith, omega arith)
after_grows w time resume place room e h = (omega arith, omega arith)
after_grows w time (request participant n) place room e h = (omega arith, omega arith)
after_grows w time (determine n verdict) place room e h = (omega arith, omega arith)

step_numbers : {w : World} {time : ℕ} {c : Call} {a : Result Answer Refusal} {w' : World} → Numbered w.state.stamp w.table → Step w time c a w' → NumbersGrow w a w'
step_numbers h (refuses r e) = (omega arith, omega arith)
step_numbers {w} {time} {c} h (accepts place room e t) = after_grows w time c place room e h

abbrev ToldUnder : World → Event → Type 0
ToldUnder w e = number_told e.answer ≤ w.state.stamp

told_under : {h : History} {w : World} → Reached h w → Each (ToldUnder w) h
told_under (made w f) = tt
told_under (then_called {h} {w} {w'} before holds step) =
    let g = step_numbers (numbered before) step in
    (g.1, each_weaker (ToldUnder w) (ToldUnder w') (λ e l. omega (arith, l, g.0)) h (told_under before))

-- a new order's number is above the last given
new_above : {w : World} {time : ℕ} {c : Call} {a : Result Answer Refusal} {w' : World} → Step w time c a w' → (is_entry c && is_accepted a) ≡ true → w.state.stamp < number_told a
new_above {c = roll prices} (refuses r e) q = absurd (false≢true q)
new_above {c = open_session} (refuses r e) q = absurd (false≢true q)
new_above {c = close_session} (refuses r e) q = absurd (false≢true q)
new_above {c = enter o} (refuses r e) q = absurd (false≢true q)
new_above {c = amend m} (refuses r e) q = absurd (false≢true q)
new_above {c = withdraw participant number} (refuses r e) q = absurd (false≢true q)
new_above {c = adjust n price} (refuses r e) q = absurd (false≢true q)
new_above {c = frenetic n ticks} (refuses r e) q = absurd (false≢true q)
new_above {c = resume} (refuses r e) q = absurd (false≢true q)
new_above {c = request participant n} (refuses r e) q = absurd (false≢true q)
new_above {c = determine n verdict} (refuses r e) q = absurd (false≢true q)
new_above {c = roll prices} (accepts place room e t) q = absurd (false≢true q)
new_above {c = open_session} (accepts place room e t) q = absurd (false≢true q)
new_above {c = close_session} (accepts place room e t) q = absurd (false≢true q)
new_above {c = enter o} (accepts place room e t) q = omega arith
new_above {c = amend m} (accepts place room e t) q = absurd (false≢true q)
new_above {c = withdraw participant number} (accepts place room e t) q = absurd (false≢true q)
new_above {c = adjust n price} (accepts place room e t) q = absurd (false≢true q)
new_above {c = frenetic n ticks} (accepts place room e t) q = absurd (false≢true q)
new_above {c = resume} (accepts place room e t) q = absurd (false≢true q)
new_above {c = request participant n} (accepts place room e t) q = absurd (false≢true q)
new_above {c = determine n verdict} (accepts place room e t) q = absurd (false≢true q)

pub rising_numbers : {h : History} {w : World} → Reached h w → RisingNumbers h
rising_numbers (made w f) = tt
rising_numbers (then_called {h} {w} {w'} {time} {c} {a} before holds step) = (
  λ q. each_weaker (ToldUnder w) (λ f. number_told f.answer < number_told a) (λ f l. let n = new_above step q in omega (arith, l, n)) h (told_under before),
  rising_numbers before,
)
