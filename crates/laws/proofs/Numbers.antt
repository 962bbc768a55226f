-- Every place is free or holds an order, a number is of one order, and nobody trades with itself. Assumes nothing.
use Rattle.std.proofs.Common.{◌≡◌, ℕ, zero, suc, ◌+◌, ◌-◌, ◌<◌, ◌≤◌, Bool, true, false, eqb, ◌⊎◌, List, [], ◌∷◌, ◌++◌, map, length, get_or, set, None, Result, sym, refl, ap, ◌∙◌, subst, inl, inr, arith}
use Rattle.std.proofs.lemmas.Bool.{both_ways, cond_both, eqb-false, not-false}
use Rattle.book.specs.Walks.{row_left}
use Rattle.listing.specs.Changes.{Contents}
use Rattle.orders.specs.Closes.{expired, leaves}
use Rattle.orders.specs.Queue.{counted}
use Rattle.orders.specs.Questions.{stands}
use Rattle.orders.specs.Rows.{free}
use Rattle.orders.specs.declared.close.Close.{Close}
use Rattle.orders.specs.declared.row.OrderRow.{OrderRow}
use Rattle.tape.specs.Tapes.{marked, blank}
use Rattle.tape.specs.declared.row.TradeRow.{TradeRow}
use Rattle.terms.specs.Determinations.{mark_by}
use Rattle.terms.specs.Durations.{may_rest}
use Rattle.terms.specs.Sides.{opposite}
use Rattle.terms.specs.declared.halt.Halt.{Halt}
use Rattle.terms.specs.declared.halt.Halt.TheVariants.{Nothing, OneOption, WholeMarket}
use Rattle.terms.specs.declared.mark.Mark.{Mark}
use Rattle.terms.specs.declared.mark.Mark.TheVariants.{Considered}
use Rattle.terms.specs.declared.refusal.Refusal.{Refusal}
use Rattle.terms.specs.declared.side.Side.{Side}
use Rattle.terms.specs.declared.side.Side.TheVariants.{Buy, Sell}
use Rattle.rules.specs.Amending.{slot_in, side_in, repriced, changed_order, takes_stamp, stamp_after, arrives_again, after_arrival, after_change, after_amendment}
use Rattle.rules.specs.Arrivals.{Arrival, met, arrived, traded, remainder, halting, halt_in, by_side}
use Rattle.rules.specs.Calls.{Call, Answer, roll, open_session, close_session, enter, amend, withdraw, adjust, frenetic, resume, request, determine}
use Rattle.rules.specs.Entering.{entry}
use Rattle.rules.specs.Refusing.{fault}
use Rattle.rules.specs.Rules.{after, Chosen, close_in, Step, refuses, accepts}
use Rattle.rules.specs.Worlds.{World, sweep_in}
use Rattle.rules.specs.declared.amendment.Amendment.{Amendment}
use Rattle.rules.specs.declared.new_order.NewOrder.{NewOrder}
use Rattle.laws.specs.Book.{row_at, waits, Tidy, Numbered}
use Rattle.laws.specs.Histories.{History, Reached, made, then_called}
use Rattle.laws.specs.Quantities.{TwoOrders}
use Rattle.laws.specs.Words.{Each}
use Rattle.laws.proofs.Arrivals.{Lands, Fits, fits, rows_after, taken_most, new_row, lots_kept, lots_whole}
use Rattle.laws.proofs.FairRows.{Proper, stands_proper, stands_listed, stands_from, side_coded, duration_coded, reduced, reduced_proper}
use Rattle.laws.proofs.Fills.{taken_at, left_of}
use Rattle.laws.proofs.Found.{Found, found}
use Rattle.laws.proofs.Landing.{entry_lands, amend_lands}
use Rattle.laws.proofs.Passing.{EntryPassed, entry_passed, AmendmentPassed, amendment_passed, withdrawal_passed, limit_passed}
use Rattle.laws.proofs.Sums.{each_map}
use Rattle.laws.proofs.Tables.{waits_proper}
use Rattle.laws.proofs.Written.{row_set, row_expired, row_new}

-- free, or an order of a listed product
abbrev pub TidyRow : ℕ → OrderRow → Type 0
TidyRow n r = (r ≡ free) ⊎ (stands n r ≡ true)

left_tidy : (n : ℕ) (r : OrderRow) (m : ℕ) → m ≤ r.rest → TidyRow n r → TidyRow n (left_of r m)
left_tidy n r m l t =
    cond_both (eqb m 0) r (row_left r m) (TidyRow n) (λ e. t)
    (λ e. cond_both (eqb r.rest m) free (reduced r (r.rest - m)) (TidyRow n) (λ q. inl refl)
    (λ q. elim t [
      | inl f ↦ (let none : r.rest ≡ 0 = ap (λ x. x.rest) f in absurd (eqb-false m 0 e (omega (arith, none, l))))
      | inr s ↦ inr (stands_from n (reduced r (r.rest - m))
          (reduced_proper r (r.rest - m) (stands_proper n r s) (omega (arith, l, eqb-false r.rest m q)) (omega arith)) (stands_listed n r s))
    ]))

new_tidy : (n : ℕ) (a : Arrival) (rest : ℕ) → (0 < rest → stands n (remainder a rest) ≡ true) → TidyRow n (new_row a rest)
new_tidy n a rest h =
    cond_both (eqb rest 0) free (remainder a rest) (TidyRow n) (λ e. inl refl) (λ e. inr (h (omega (arith, eqb-false rest 0 e))))

abbrev Tidied : World → Type 0
Tidied w = Tidy w.products.count w.table

-- nothing more is left than was brought, and nothing of an order that trades whole

pub rest_most : (w : World) (a : Arrival) → (met w a).rest ≤ a.quantity
rest_most w a = go a.whole refl
  where
    go : (b : Bool) → a.whole ≡ b → (met w a).rest ≤ a.quantity
    go true e = omega (arith, (lots_whole w a e).0)
    go false e = omega (arith, lots_kept w a e)

pub rest_lasts : (w : World) (a : Arrival) → 0 < (met w a).rest → a.whole ≡ false
rest_lasts w a l = go a.whole refl
  where
    go : (b : Bool) → a.whole ≡ b → b ≡ false
    go true e = absurd (let z : ⊥ = omega (arith, (lots_whole w a e).0, l) in z)
    go false e = refl

-- how many products there are stays

halting_count : (h : Halt) (n : ℕ) (ps : Contents) → (halting h n ps).count ≡ ps.count
halting_count Nothing n ps = refl
halting_count OneOption n ps = refl
halting_count WholeMarket n ps = refl

arrived_tidy : (w : World) (a : Arrival) (i : ℕ) (table : List OrderRow) (room : ℕ) → Lands w a i table →
    (0 < (met w a).rest → stands w.products.count (remainder a (met w a).rest) ≡ true) → Tidied w → Tidied (arrived w a i table room)
unfolding arrived
arrived_tidy w a i table room l new h k =
    subst (λ n. TidyRow n (row_at (arrived w a i table room).table k)) (sym (halting_count (halt_in w a) a.product w.products))
    (elim (rows_after w a i table room l k) [
      | inl x ↦ subst (TidyRow w.products.count) (sym x.1) (new_tidy w.products.count a (met w a).rest new)
      | inr x ↦ subst (TidyRow w.products.count) (sym x.1)
          (left_tidy w.products.count (row_at w.table k) (taken_at k (met w a).fills) (taken_most w a k) (h k))
    ])

set_tidy : (n : ℕ) (table : List OrderRow) (p : ℕ) (r : OrderRow) → p < length (counted table) → TidyRow n r → Tidy n table → Tidy n (set table p r)
set_tidy n table p r l t h i =
    elim (row_set table p r l i) [
      | inl x ↦ subst (TidyRow n) (sym x.1) t
      | inr x ↦ subst (TidyRow n) (sym x.1) (h i)
    ]

expired_tidy : (n : ℕ) (close : Close) (table : List OrderRow) → Tidy n table → Tidy n (expired n close table)
expired_tidy n close table h i =
    subst (TidyRow n) (sym (row_expired n close table i))
    (cond_both (leaves n close (row_at table i)) free (row_at table i) (TidyRow n) (λ e. inl refl) (λ e. h i))

-- what is left of an entered order

entered_stands : (w : World) (time : ℕ) (o : NewOrder) → EntryPassed w time o → 0 < (met w (entry w time o)).rest →
    stands w.products.count (remainder (entry w time o) (met w (entry w time o)).rest) ≡ true
entered_stands w time o p l =
    stands_from w.products.count (remainder (entry w time o) (met w (entry w time o)).rest)
    (record {
      sided = side_coded o.side;
      lasting = duration_coded o.duration (not-false (may_rest o.duration) (rest_lasts w (entry w time o) l));
      price = limit_passed o.limit (sweep_in w o.side o.product) p.priced;
      some = l;
      most = omega (arith, rest_most w (entry w time o), p.quantity.1);
      somebody = p.participant.0;
      known = p.participant.1;
      numbered = omega arith;
      placed = omega arith;
    })
    p.listed

-- an amended order, as it arrives and as it rests

repriced_stands : (w : World) (m : Amendment) (time : ℕ) → AmendmentPassed w time m → 0 < (met w (repriced w m time)).rest →
    stands w.products.count (remainder (repriced w m time) (met w (repriced w m time)).rest) ≡ true
repriced_stands w m time p l =
    let f : Found w m.participant m.order = found w m.participant m.order p.owner in
    let q : Proper (slot_in w m.order).row = stands_proper w.products.count (slot_in w m.order).row f.stood in
    stands_from w.products.count (remainder (repriced w m time) (met w (repriced w m time)).rest)
    (record {
      sided = side_coded (side_in (slot_in w m.order).row.side);
      lasting = q.lasting;
      price = p.priced;
      some = l;
      most = omega (arith, rest_most w (repriced w m time), p.quantity.1);
      somebody = q.somebody;
      known = q.known;
      numbered = q.numbered;
      placed = omega arith;
    })
    (stands_listed w.products.count (slot_in w m.order).row f.stood)

changed_stands : (w : World) (m : Amendment) (time : ℕ) → AmendmentPassed w time m → stands w.products.count (changed_order w m) ≡ true
changed_stands w m time p =
    let f : Found w m.participant m.order = found w m.participant m.order p.owner in
    let q : Proper (slot_in w m.order).row = stands_proper w.products.count (slot_in w m.order).row f.stood in
    stands_from w.products.count (changed_order w m)
    (record {
      sided = q.sided;
      lasting = q.lasting;
      price = p.priced;
      some = p.quantity.0;
      most = p.quantity.1;
      somebody = q.somebody;
      known = q.known;
      numbered = q.numbered;
      placed = cond_both (takes_stamp w m) (w.state.stamp + 1) (slot_in w m.order).row.place (λ n. 1 ≤ n) (λ e. omega arith) (λ e. q.placed);
    })
    (stands_listed w.products.count (slot_in w m.order).row f.stood)

amended_tidy : (w : World) (m : Amendment) (time room : ℕ) → AmendmentPassed w time m → Tidied w → Tidied (after_amendment w m time room)
unfolding after_amendment
amended_tidy w m time room p h =
    let f : Found w m.participant m.order = found w m.participant m.order p.owner in
    cond_both (arrives_again w m) (after_arrival w m time room) (after_change w m time room) Tidied
    (λ e. arrived_tidy w (repriced w m time) (slot_in w m.order).index _ room (amend_lands w m time p.owner) (repriced_stands w m time p) h)
    (λ e. set_tidy w.products.count w.table (slot_in w m.order).index (changed_order w m) f.within (inr (changed_stands w m time p)) h)

after_tidy : (w : World) (time : ℕ) (c : Call) (place room : ℕ) → fault w time c ≡ None → Chosen w time c place room → Tidied w → Tidied (after w time c place room)
after_tidy w time (roll prices) place room e t h = h
after_tidy w time open_session place room e t h = h
after_tidy w time close_session place room e t h = expired_tidy w.products.count (close_in w) w.table h
after_tidy w time (enter o) place room e t h =
    let p : EntryPassed w time o = entry_passed w time o e in
    arrived_tidy w (entry w time o) place _ room (entry_lands w time o place h p.listed t.0) (entered_stands w time o p) h
after_tidy w time (amend m) place room e t h = amended_tidy w m time room (amendment_passed w time m e) h
after_tidy w time (withdraw participant number) place room e t h =
    let f : Found w participant number = found w participant number (withdrawal_passed w time participant number e) in
    set_tidy w.products.count w.table (slot_in w number).index free f.within (inl refl) h
after_tidy w time (adjust n price) place room e t h = h
after_tidy w time (frenetic n ticks) place room e t h = h
after_tidy w time resume place room e t h = h
after_tidy w time (request participant n) place room e t h = h
after_tidy w time (determine n verdict) place room e t h = h

step_tidy : (w : World) (time : ℕ) (c : Call) {a : Result Answer Refusal} {w' : World} → Step w time c a w' → Tidied w → Tidied w'
step_tidy w time c (refuses refusal e) h = h
step_tidy w time c (accepts place room e t) h = after_tidy w time c place room e t h

pub tidy : {h : History} {w : World} → Reached h w → Tidy w.products.count w.table
tidy (made w f) = λ i. inl (row_new w.table f.nobody_rests i)
tidy (then_called {w = w} {time = time} {c = c} before holds step) = step_tidy w time c step (tidy before)

-- a number is of one order

-- nothing rests that did not, and what rests kept its number
abbrev Less : OrderRow → OrderRow → Type 0
Less r r' = (r'.number ≤ r.number) × (0 < r'.rest → (r'.number ≡ r.number) × (0 < r.rest))

less_same : (r r' : OrderRow) → r' ≡ r → Less r r'
less_same r r' e = (omega (arith, ap (λ x. x.number) e), λ l. (ap (λ x. x.number) e, omega (arith, l, ap (λ x. x.rest) e)))

less_free : (r : OrderRow) → Less r free
less_free r = (omega arith, λ l. absurd (let z : ⊥ = omega (arith, l) in z))

less_left : (r : OrderRow) (m : ℕ) → Less r (left_of r m)
less_left r m =
    cond_both (eqb m 0) r (row_left r m) (Less r) (λ e. less_same r r refl)
    (λ e. cond_both (eqb r.rest m) free (reduced r (r.rest - m)) (Less r) (λ q. less_free r) (λ q. (omega arith, λ l. (refl, omega (arith, l)))))

-- the rows after: one is new, the others are what was there, or less
abbrev Rows : List OrderRow → List OrderRow → ℕ → OrderRow → Type 0
Rows t t' p new = (i : ℕ) → ((i ≡ p) × (row_at t' i ≡ new)) ⊎ ((i ≡ p → ⊥) × Less (row_at t i) (row_at t' i))

-- nobody else has the number
abbrev Alone : List OrderRow → ℕ → ℕ → Type 0
Alone t p n = (i : ℕ) → (i ≡ p → ⊥) → 0 < (row_at t i).rest → (row_at t i).number ≡ n → ⊥

numbered_next : (t t' : List OrderRow) (p last last' : ℕ) (new : OrderRow) → Rows t t' p new → last ≤ last' → new.number ≤ last' → (0 < new.rest → Alone t p new.number) →
    Numbered last t → Numbered last' t'
numbered_next t t' p last last' new rows l n alone h =
    record {
      given = λ i. elim (rows i) [
        | inl x ↦ omega (arith, ap (λ y. y.number) x.1)
        | inr x ↦ omega (arith, x.1.0, h.given i)
      ];
      apart = λ i j r s e. elim (rows i) [
        | inl x ↦ elim (rows j) [
          | inl y ↦ x.0 ∙ sym y.0
          | inr y ↦
              (let some : 0 < new.rest = omega (arith, r, ap (λ z. z.rest) x.1) in
              absurd (alone some j y.0 (y.1.1 s).1 (sym (y.1.1 s).0 ∙ sym e ∙ ap (λ z. z.number) x.1)))
        ]
        | inr x ↦ elim (rows j) [
          | inl y ↦
              (let some : 0 < new.rest = omega (arith, s, ap (λ z. z.rest) y.1) in
              absurd (alone some i x.0 (x.1.1 r).1 (sym (x.1.1 r).0 ∙ e ∙ ap (λ z. z.number) y.1)))
          | inr y ↦ h.apart i j (x.1.1 r).1 (y.1.1 s).1 (sym (x.1.1 r).0 ∙ e ∙ (y.1.1 s).0)
        ]
      ];
    }

numbered_less : (t t' : List OrderRow) (last : ℕ) → ((i : ℕ) → Less (row_at t i) (row_at t' i)) → Numbered last t → Numbered last t'
numbered_less t t' last less h =
    record {
      given = λ i. omega (arith, (less i).0, h.given i);
      apart = λ i j r s e. h.apart i j ((less i).1 r).1 ((less j).1 s).1 (sym ((less i).1 r).0 ∙ e ∙ ((less j).1 s).0);
    }

set_rows : (table : List OrderRow) (p : ℕ) (r : OrderRow) → p < length (counted table) → Rows table (set table p r) p r
set_rows table p r l i =
    elim (row_set table p r l i) [
      | inl x ↦ inl x
      | inr x ↦ inr (x.0, less_same (row_at table i) (row_at (set table p r) i) x.1)
    ]

abbrev Num : World → Type 0
Num w = Numbered w.state.stamp w.table

-- the found order rests, under its number
pub found_rests : (w : World) (participant number : ℕ) → Found w participant number → 0 < (row_at w.table (slot_in w number).index).rest
found_rests w participant number f =
    let p : Proper (slot_in w number).row = stands_proper w.products.count (slot_in w number).row f.stood in
    omega (arith, p.some, ap (λ r. r.rest) f.same)

-- the others have other numbers
pub alone_found : (w : World) (participant number : ℕ) → Found w participant number → Num w → Alone w.table (slot_in w number).index number
alone_found w participant number f h i d r e =
    d (h.apart i (slot_in w number).index r (found_rests w participant number f) (e ∙ sym (ap (λ r. r.number) f.same ∙ f.numbered)))

new_number : (a : Arrival) (rest : ℕ) → (new_row a rest).number ≤ a.number
new_number a rest = cond_both (eqb rest 0) free (remainder a rest) (λ r. r.number ≤ a.number) (λ e. omega arith) (λ e. omega arith)

new_alone : (t : List OrderRow) (p : ℕ) (a : Arrival) (rest : ℕ) → Alone t p a.number → 0 < (new_row a rest).rest → Alone t p (new_row a rest).number
new_alone t p a rest h =
    cond_both (eqb rest 0) free (remainder a rest) (λ r. 0 < r.rest → Alone t p r.number) (λ e l. absurd (let z : ⊥ = omega (arith, l) in z)) (λ e l. h)

arrived_num : (w : World) (a : Arrival) (i : ℕ) (table : List OrderRow) (room : ℕ) → Lands w a i table → a.place ≡ w.state.stamp + 1 → a.number ≤ w.state.stamp + 1 →
    Alone w.table i a.number → Num w → Num (arrived w a i table room)
unfolding arrived
arrived_num w a i table room l stamp n alone h =
    numbered_next w.table (arrived w a i table room).table i w.state.stamp a.place (new_row a (met w a).rest)
    (λ k. elim (rows_after w a i table room l k) [
      | inl x ↦ inl x
      | inr x ↦ inr (x.0, subst (Less (row_at w.table k)) (sym x.1) (less_left (row_at w.table k) (taken_at k (met w a).fills)))
    ])
    (omega (arith, stamp)) (omega (arith, stamp, n, new_number a (met w a).rest)) (new_alone w.table i a (met w a).rest alone) h

amended_num : (w : World) (m : Amendment) (time room : ℕ) → AmendmentPassed w time m → Num w → Num (after_amendment w m time room)
unfolding after_amendment
amended_num w m time room p h =
    let f : Found w m.participant m.order = found w m.participant m.order p.owner in
    let number : ℕ = (slot_in w m.order).row.number in
    let old : number ≤ w.state.stamp = omega (arith, ap (λ r. r.number) f.same, h.given (slot_in w m.order).index) in
    let alone : Alone w.table (slot_in w m.order).index number = λ i d r e. alone_found w m.participant m.order f h i d r (e ∙ f.numbered) in
    let grown : w.state.stamp ≤ stamp_after w m = cond_both (takes_stamp w m) (w.state.stamp + 1) w.state.stamp (λ n. w.state.stamp ≤ n) (λ e. omega arith) (λ e. omega arith) in
    cond_both (arrives_again w m) (after_arrival w m time room) (after_change w m time room) Num
    (λ e. arrived_num w (repriced w m time) (slot_in w m.order).index _ room (amend_lands w m time p.owner) refl (omega (arith, old)) alone h)
    (λ e. numbered_next w.table (set w.table (slot_in w m.order).index (changed_order w m)) (slot_in w m.order).index w.state.stamp (stamp_after w m) (changed_order w m)
    (set_rows w.table (slot_in w m.order).index (changed_order w m) f.within) grown (omega (arith, old, grown)) (λ l. alone) h)

after_num : (w : World) (time : ℕ) (c : Call) (place room : ℕ) → fault w time c ≡ None → Chosen w time c place room → Tidied w → Num w → Num (after w time c place room)
after_num w time (roll prices) place room e t d h = h
after_num w time open_session place room e t d h = h
after_num w time close_session place room e t d h =
    numbered_less w.table (expired w.products.count (close_in w) w.table) w.state.stamp
    (λ i. subst (Less (row_at w.table i)) (sym (row_expired w.products.count (close_in w) w.table i))
    (cond_both (leaves w.products.count (close_in w) (row_at w.table i)) free (row_at w.table i) (Less (row_at w.table i))
    (λ q. less_free (row_at w.table i)) (λ q. less_same (row_at w.table i) (row_at w.table i) refl))) h
after_num w time (enter o) place room e t d h =
    arrived_num w (entry w time o) place _ room (entry_lands w time o place d (entry_passed w time o e).listed t.0) refl (omega arith)
    (λ i k r q. omega (arith, q, h.given i)) h
after_num w time (amend m) place room e t d h = amended_num w m time room (amendment_passed w time m e) h
after_num w time (withdraw participant number) place room e t d h =
    let f : Found w participant number = found w participant number (withdrawal_passed w time participant number e) in
    numbered_next w.table (set w.table (slot_in w number).index free) (slot_in w number).index w.state.stamp w.state.stamp free
    (set_rows w.table (slot_in w number).index free f.within) (omega arith) (omega arith) (λ l. absurd (let z : ⊥ = omega (arith, l) in z)) h
after_num w time (adjust n price) place room e t d h = h
after_num w time (frenetic n ticks) place room e t d h = h
after_num w time resume place room e t d h = h
after_num w time (request participant n) place room e t d h = h
after_num w time (determine n verdict) place room e t d h = h

step_num : (w : World) (time : ℕ) (c : Call) {a : Result Answer Refusal} {w' : World} → Step w time c a w' → Tidied w → Num w → Num w'
step_num w time c (refuses refusal e) d h = h
step_num w time c (accepts place room e t) d h = after_num w time c place room e t d h

numbered_new : (last : ℕ) (table : List OrderRow) → ((i : ℕ) → row_at table i ≡ free) → Numbered last table
numbered_new last table z =
    record {
      given = λ i. omega (arith, ap (λ r. r.number) (z i));
      apart = λ i j r s e. let f : ⊥ = omega (arith, r, ap (λ r. r.rest) (z i)) in absurd f;
    }

pub numbered : {h : History} {w : World} → Reached h w → Numbered w.state.stamp w.table
numbered (made w f) = numbered_new w.state.stamp w.table (row_new w.table f.nobody_rests)
numbered (then_called {w = w} {time = time} {c = c} before holds step) = step_num w time c step (tidy before) (numbered before)

-- nobody trades with itself

abbrev Two : TradeRow → Type 0
Two t = t.buy ≡ t.sell → ⊥

by_side_apart : (s : Side) (m n : ℕ) → (n ≡ m → ⊥) → by_side s m n ≡ by_side s n m → ⊥
by_side_apart Buy m n d e = d (sym e)
by_side_apart Sell m n d e = d e

two_append : (xs ys : List TradeRow) → Each Two xs → Each Two ys → Each Two (xs ++ ys)
two_append [] ys g h = h
two_append (x ∷ xs) ys g h = (g.0, two_append xs ys g.1 h)

two_set : (xs : List TradeRow) (i : ℕ) (m : Mark) → Each Two xs → Each Two (set xs i (marked m (get_or xs i blank)))
two_set [] i m h = tt
two_set (x ∷ xs) zero m h = h
two_set (x ∷ xs) (suc i) m h = (h.0, two_set xs i m h.1)

arrived_two : (w : World) (a : Arrival) (i : ℕ) → waits (opposite a.side) a.product (row_at w.table i) ≡ false →
    Alone w.table i a.number → Each Two w.tape → Each Two (w.tape ++ map (traded w a) (met w a).fills)
arrived_two w a i off alone h =
    two_append w.tape _ h
    (each_map (Fits w a) Two (traded w a)
    (λ f g.
    let there : waits (opposite a.side) a.product (row_at w.table f.slot.index) ≡ true = subst (λ r. waits (opposite a.side) a.product r ≡ true) (sym g.same) g.waiting in
    let p : Proper (row_at w.table f.slot.index) = waits_proper (opposite a.side) a.product (row_at w.table f.slot.index) there in
    by_side_apart a.side a.number f.slot.row.number
    (λ e. alone f.slot.index
    (λ q. both_ways (waits (opposite a.side) a.product (row_at w.table i)) off (subst (λ k. waits (opposite a.side) a.product (row_at w.table k) ≡ true) q there))
    p.some (ap (λ r. r.number) g.same ∙ e)))
    (met w a).fills (fits w a))

amended_two : (w : World) (m : Amendment) (time room : ℕ) → AmendmentPassed w time m → Num w → Each Two w.tape → Each Two (after_amendment w m time room).tape
unfolding after_amendment arrived
amended_two w m time room p n h =
    let f : Found w m.participant m.order = found w m.participant m.order p.owner in
    cond_both (arrives_again w m) (after_arrival w m time room) (after_change w m time room) (λ v. Each Two v.tape)
    (λ e. arrived_two w (repriced w m time) (slot_in w m.order).index (amend_lands w m time p.owner).off
    (λ i d r e. alone_found w m.participant m.order f n i d r (e ∙ f.numbered)) h)
    (λ e. h)

after_two : (w : World) (time : ℕ) (c : Call) (place room : ℕ) → fault w time c ≡ None → Chosen w time c place room → Tidied w → Num w → Each Two w.tape → Each Two (after w time c place room).tape
unfolding arrived
after_two w time (roll prices) place room e t d n h = h
after_two w time open_session place room e t d n h = h
after_two w time close_session place room e t d n h = h
after_two w time (enter o) place room e t d n h =
    arrived_two w (entry w time o) place (entry_lands w time o place d (entry_passed w time o e).listed t.0).off (λ i k r q. omega (arith, q, n.given i)) h
after_two w time (amend m) place room e t d n h = amended_two w m time room (amendment_passed w time m e) n h
after_two w time (withdraw participant number) place room e t d n h = h
after_two w time (adjust k price) place room e t d n h = h
after_two w time (frenetic k ticks) place room e t d n h = h
after_two w time resume place room e t d n h = h
after_two w time (request participant k) place room e t d n h = two_set w.tape (k - 1) Considered h
after_two w time (determine k verdict) place room e t d n h = two_set w.tape (k - 1) (mark_by verdict) h

step_two : (w : World) (time : ℕ) (c : Call) {a : Result Answer Refusal} {w' : World} → Step w time c a w' → Tidied w → Num w → Each Two w.tape → Each Two w'.tape
step_two w time c (refuses refusal e) d n h = h
step_two w time c (accepts place room e t) d n h = after_two w time c place room e t d n h

pub two_orders : {h : History} {w : World} → Reached h w → TwoOrders w
two_orders (made w f) = subst (Each Two) (sym f.no_trades) tt
two_orders (then_called {w = w} {time = time} {c = c} before holds step) = step_two w time c step (tidy before) (numbered before) (two_orders before)
