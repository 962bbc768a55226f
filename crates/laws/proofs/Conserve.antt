-- No quantity of an order is lost, and none comes from nowhere. Assumes nothing.
use Rattle.std.proofs.Common.{◌≡◌, ℕ, suc, ◌+◌, ◌-◌, ◌≤◌, Bool, true, false, cond, ◌&&◌, eqb, leb, List, [], ◌∷◌, get_or, set, is_some, Some, None, Ok, Result, sym, refl, ap, ◌∙◌, subst, inl, inr, arith}
use Rattle.std.proofs.lemmas.Bool.{cond_both, cases_eq, eqb-true, ne_eqb, false≢true}
use Rattle.std.proofs.lemmas.Bool.Decides.{nat_tests}
use Rattle.book.specs.Sweeps.{lots_filled}
use Rattle.book.specs.Walks.{filled}
use Rattle.orders.specs.Closes.{expired, left_at, leaves, ends_if}
use Rattle.orders.specs.Queue.{counted}
use Rattle.orders.specs.Questions.{stands}
use Rattle.orders.specs.Rows.{free, duration_of}
use Rattle.orders.specs.declared.row.OrderRow.{OrderRow}
use Rattle.tape.specs.Tapes.{record_at, marked, blank}
use Rattle.terms.specs.Determinations.{mark_by}
use Rattle.terms.specs.declared.duration.Duration.{Duration}
use Rattle.terms.specs.declared.duration.Duration.TheVariants.{Session, Day, UntilCancelled}
use Rattle.terms.specs.declared.mark.Mark.TheVariants.{Considered}
use Rattle.terms.specs.declared.refusal.Refusal.{Refusal}
use Rattle.rules.specs.Amending.{slot_in, repriced, changed_order, arrives_again, after_arrival, after_change, after_amendment}
use Rattle.rules.specs.Arrivals.{Arrival, met}
use Rattle.rules.specs.Calls.{Call, Answer}
use Rattle.rules.specs.Calls.{roll, open_session, close_session, enter, amend, withdraw, adjust, frenetic, resume, request, determine}
use Rattle.rules.specs.Entering.{entry}
use Rattle.rules.specs.Refusing.{fault}
use Rattle.rules.specs.Rules.{after, answer, Chosen, close_in, Step, refuses, accepts}
use Rattle.rules.specs.Worlds.{World, ends_day}
use Rattle.rules.specs.declared.amendment.Amendment.{Amendment}
use Rattle.rules.specs.declared.new_order.NewOrder.{NewOrder}
use Rattle.laws.specs.Book.{row_at, rest_of, resting, Tidy, Numbered}
use Rattle.laws.specs.Histories.{History, Reached, made, then_called, Fresh, is_accepted}
use Rattle.laws.specs.Quantities.{has_to_leave, entered_by, increased_by, decreased_by, left_by, quantity_of, Conserved}
use Rattle.laws.specs.Words.{total, only, Each}
use Rattle.laws.proofs.Arrivals.{lots_same, lots_kept, lots_whole, conserves}
use Rattle.laws.proofs.FairRows.{stands_proper}
use Rattle.laws.proofs.Fills.{lots_in}
use Rattle.laws.proofs.Found.{Found, found}
use Rattle.laws.proofs.Landing.{entry_lands, amend_lands, place_was_free}
use Rattle.laws.proofs.Numbers.{TidyRow, tidy, numbered, alone_found}
use Rattle.laws.proofs.Passing.{EntryPassed, entry_passed, AmendmentPassed, amendment_passed, withdrawal_passed}
use Rattle.laws.proofs.Sums.{total_set, total_set_same, total_zero, total_map, only_add, only_zero}
use Rattle.laws.proofs.Tables.{counted_set}
use Rattle.laws.proofs.Written.{row_set, counted_expired, row_new}

-- what rests and what is on the tape under a number
abbrev booked : ℕ → World → ℕ
booked n w = total (quantity_of n) w.tape + resting n w.table

changed_by : (b : Bool) (old new : ℕ) → only b (new - old) + only b old ≡ only b (old - new) + only b new
changed_by true old new = omega arith
changed_by false old new = refl

pub each_at : {X : Type 0} (P : X → Type 0) (d : X) (xs : List X) → ((i : ℕ) → P (get_or xs i d)) → Each P xs
each_at P d [] h = tt
each_at P d (x ∷ xs) h = (h 0, each_at P d xs (λ i. h (suc i)))

total_split : {X : Type 0} (f g h : X → ℕ) (xs : List X) → Each (λ x. f x + g x ≡ h x) xs → total f xs + total g xs ≡ total h xs
total_split f g h [] e = refl
total_split f g h (x ∷ xs) e = omega (arith, e.0, total_split f g h xs e.1)

pub free_rest : (n : ℕ) → rest_of n free ≡ 0
free_rest n = only_zero (eqb 0 n)

-- an entered order: what traded, what rests, and what was killed

accounted : (w : World) (a : Arrival) → 1 ≤ a.quantity →
    only (a.whole && eqb (lots_filled (met w a).fills) 0) a.quantity + (lots_in (met w a).fills + (met w a).rest) ≡ a.quantity
accounted w a l = go a.whole refl
  where
    go : (b : Bool) → a.whole ≡ b → only (b && eqb (lots_filled (met w a).fills) 0) a.quantity + (lots_in (met w a).fills + (met w a).rest) ≡ a.quantity
    go false e = omega (arith, lots_kept w a e)
    go true e =
        elim (lots_whole w a e).1 [
          | inl x ↦
              (let none : lots_in (met w a).fills ≡ 0 = ap lots_in x.0 in
              let killed : eqb (lots_filled (met w a).fills) 0 ≡ true = ap (λ fs. eqb (lots_filled fs) 0) x.0 in
              rw killed (omega (arith, none, (lots_whole w a e).0)))
          | inr x ↦
              (let alive : eqb (lots_filled (met w a).fills) 0 ≡ false = ne_eqb (lots_filled (met w a).fills) 0 (λ q. omega (arith, q, lots_same (met w a).fills, x, l)) in
              rw alive (omega (arith, x, (lots_whole w a e).0)))
        ]

entered_conserves : (w : World) (time : ℕ) (o : NewOrder) (place room : ℕ) → fault w time (enter o) ≡ None → Chosen w time (enter o) place room →
    Tidy w.products.count w.table → (n : ℕ) →
    entered_by n w (Ok (answer w time (enter o))) (enter o) + booked n w
    ≡ left_by n w (Ok (answer w time (enter o))) (enter o) + booked n (after w time (enter o) place room)
entered_conserves w time o place room e t d n =
    let a : Arrival = entry w time o in
    let p : EntryPassed w time o = entry_passed w time o e in
    let b : Bool = eqb a.number n in
    let killed : ℕ = only (a.whole && eqb (lots_filled (met w a).fills) 0) a.quantity in
    let none : rest_of n (row_at w.table place) ≡ 0 = ap (rest_of n) (place_was_free w.products.count w.table place d t.0) ∙ free_rest n in
    let all : only b killed + only b (lots_in (met w a).fills + (met w a).rest) ≡ only b o.quantity =
    sym (only_add b killed (lots_in (met w a).fills + (met w a).rest)) ∙ ap (only b) (accounted w a p.quantity.0) in
    omega (arith, none, all, conserves w a place (filled (met w a).fills w.table) room (entry_lands w time o place d p.listed t.0) n)

-- the order of a number is all that rests under it

module _ (w : World) (participant number : ℕ) (f : Found w participant number) (h : Numbered w.state.stamp w.table) where
  abbrev place : ℕ
  place = (slot_in w number).index

  others : (k : ℕ) → rest_of number (row_at (set w.table place free) k) ≡ 0
  others k =
      elim (row_set w.table place free f.within k) [
        | inl x ↦ ap (rest_of number) x.1 ∙ free_rest number
        | inr x ↦ ap (rest_of number) x.1
            ∙ cond_both (eqb (row_at w.table k).number number) (row_at w.table k).rest 0 (λ m. m ≡ 0)
            (λ e. elim (cases_eq (row_at w.table k).rest 0) [
              | inl z ↦ z
              | inr z ↦ absurd (alone_found w participant number f h k x.0 (omega (arith, z)) (eqb-true (row_at w.table k).number number e))
            ])
            (λ e. refl)
      ]

  -- freed, it takes away what it held
  freed : (n : ℕ) → resting n (set w.table place free) + only (eqb number n) (slot_in w number).row.rest ≡ resting n w.table
  freed n =
      let same : rest_of n (row_at w.table place) ≡ only (eqb number n) (slot_in w number).row.rest =
      ap (rest_of n) f.same ∙ ap (λ m. only (eqb m n) (slot_in w number).row.rest) f.numbered in
      omega (
        arith,
        same,
        free_rest n,
        ap (total (rest_of n)) (counted_set w.table place free f.within),
        total_set (rest_of n) (counted w.table) place free free f.within,
      )

  pub alone_rests : (n : ℕ) → only (eqb number n) (resting n w.table) ≡ only (eqb number n) (slot_in w number).row.rest
  alone_rests n = go (eqb number n) refl
    where
      go : (b : Bool) → eqb number n ≡ b → only b (resting n w.table) ≡ only b (slot_in w number).row.rest
      go false e = refl
      go true e =
          let is : number ≡ n = eqb-true number n e in
          let none : resting n (set w.table place free) ≡ 0 =
          subst (λ m. resting m (set w.table place free) ≡ 0) is
          (total_zero (rest_of number) (counted (set w.table place free)) (each_at (λ r. rest_of number r ≡ 0) free (counted (set w.table place free)) others)) in
          let held : only (eqb number n) (slot_in w number).row.rest ≡ (slot_in w number).row.rest = ap (λ b. only b (slot_in w number).row.rest) e in
          omega (arith, none, held, freed n)

amended_conserves : (w : World) (m : Amendment) (time room : ℕ) → AmendmentPassed w time m → Numbered w.state.stamp w.table → (n : ℕ) →
    only (eqb m.order n) (m.quantity - resting n w.table) + booked n w
    ≡ only (eqb m.order n) (resting n w.table - m.quantity) + booked n (after_amendment w m time room)
unfolding after_amendment
amended_conserves w m time room p h n =
    let f : Found w m.participant m.order = found w m.participant m.order p.owner in
    let b : Bool = eqb m.order n in
    let i : ℕ = (slot_in w m.order).index in
    let r : OrderRow = (slot_in w m.order).row in
    let a : Arrival = repriced w m time in
    let same : rest_of n (row_at w.table i) ≡ only b r.rest = ap (rest_of n) f.same ∙ ap (λ k. only (eqb k n) r.rest) f.numbered in
    let own : only b (resting n w.table) ≡ only b r.rest = alone_rests w m.participant m.order f h n in
    let moves = changed_by b (resting n w.table) m.quantity in
    cond_both (arrives_again w m) (after_arrival w m time room) (after_change w m time room)
    (λ v. only b (m.quantity - resting n w.table) + booked n w ≡ only b (resting n w.table - m.quantity) + booked n v)
    (λ e.
    let brought : only (eqb a.number n) (lots_in (met w a).fills + (met w a).rest) ≡ only b m.quantity =
    ap (only (eqb a.number n)) (lots_kept w a refl) ∙ ap (λ k. only (eqb k n) m.quantity) f.numbered in
    omega (
      arith,
      same,
      own,
      moves,
      brought,
      conserves w a i (set (filled (met w a).fills w.table) i free) room (amend_lands w m time p.owner) n,
    ))
    (λ e.
    let new : rest_of n (changed_order w m) ≡ only b m.quantity = ap (λ k. only (eqb k n) m.quantity) f.numbered in
    omega (
      arith,
      same,
      own,
      moves,
      new,
      ap (total (rest_of n)) (counted_set w.table i (changed_order w m) f.within),
      total_set (rest_of n) (counted w.table) i (changed_order w m) free f.within,
    ))

-- a close: who has to leave does, and nobody else

leb_shift : (x y : ℕ) → leb (x - 1) y ≡ leb x (y + 1)
leb_shift x y = grind (arith, nat_tests)

and_true : (b : Bool) → b ≡ (b && true)
and_true true = refl
and_true false = refl

module _ (w : World) (entered date : ℕ) where
  abbrev due_to_leave : ℕ → Bool
  due_to_leave code =
      cond (eqb code 1) true
      (ends_day w.state.phase
      && cond (eqb code 2) true
      (cond (eqb code 3) (leb date w.state.day) (leb (entered + w.products.limit) (w.state.day + 1))))

  abbrev SameLeaving : ℕ → Type 0
  SameLeaving code = is_some (duration_of code date) ≡ true → ends_if (close_in w) entered (duration_of code date) ≡ due_to_leave code

  -- only an order until a date has one
  no_date : (d : Duration) (x : Bool) → ends_if (close_in w) entered (Some d) ≡ x → (b : Bool) → is_some (cond b (Some d) None) ≡ true → ends_if (close_in w) entered (cond b (Some d) None) ≡ x
  no_date d x h true s = h
  no_date d x h false s = absurd (false≢true s)

  nothing_rests : (b : Bool) → is_some {T = Duration} (cond b None None) ≡ true → ⊥
  nothing_rests true s = false≢true s
  nothing_rests false s = false≢true s

  other_code : (code : ℕ) → (code ≡ 1 → ⊥) → (code ≡ 2 → ⊥) → (code ≡ 3 → ⊥) → (code ≡ 4 → ⊥) → is_some (duration_of code date) ≡ true → ⊥
  other_code code n1 n2 n3 n4 s = nothing_rests (eqb date 0) (rw (ne_eqb code 3 n3, ne_eqb code 1 n1, ne_eqb code 2 n2, ne_eqb code 4 n4) at s)

  same_leaving : (code : ℕ) → SameLeaving code
  same_leaving code =
      elim (cases_eq code 1) [
        | inl e ↦ subst SameLeaving (sym e) (no_date Session true refl (eqb date 0))
        | inr n1 ↦ elim (cases_eq code 2) [
          | inl e ↦ subst SameLeaving (sym e) (no_date Day (ends_day w.state.phase && true) (and_true (ends_day w.state.phase)) (eqb date 0))
          | inr n2 ↦ elim (cases_eq code 3) [
            | inl e ↦ subst SameLeaving (sym e) (λ s. refl)
            | inr n3 ↦ elim (cases_eq code 4) [
              | inl e ↦ subst SameLeaving (sym e)
                  (no_date UntilCancelled (ends_day w.state.phase && leb (entered + w.products.limit) (w.state.day + 1))
                  (ap (λ b. ends_day w.state.phase && b) (leb_shift (entered + w.products.limit) w.state.day)) (eqb date 0))
              | inr n4 ↦ (λ s. absurd (other_code code n1 n2 n3 n4 s))
            ]
          ]
        ]
      ]

pub leaves_as_has_to : (w : World) (r : OrderRow) → stands w.products.count r ≡ true → leaves w.products.count (close_in w) r ≡ has_to_leave w r
leaves_as_has_to w r s =
    ap (λ b. b && ends_if (close_in w) r.entered (duration_of r.duration r.date)) s
    ∙ same_leaving w r.entered r.date r.duration (stands_proper w.products.count r s).lasting

-- what a row keeps, and what leaves
kept_and_gone : (n : ℕ) (b : Bool) (r : OrderRow) → rest_of n (cond b free r) + only b (rest_of n r) ≡ rest_of n r
kept_and_gone n true r = omega (arith, free_rest n)
kept_and_gone n false r = omega arith

kept_free : (n : ℕ) (b c : Bool) → rest_of n (cond b free free) + only c (rest_of n free) ≡ rest_of n free
kept_free n true true = omega (arith, free_rest n)
kept_free n true false = omega (arith, free_rest n)
kept_free n false true = omega (arith, free_rest n)
kept_free n false false = omega (arith, free_rest n)

row_closes : (w : World) (n : ℕ) (r : OrderRow) → TidyRow w.products.count r →
    rest_of n (left_at w.products.count (close_in w) r) + only (has_to_leave w r) (rest_of n r) ≡ rest_of n r
row_closes w n r (inl e) =
    subst (λ x. rest_of n (left_at w.products.count (close_in w) x) + only (has_to_leave w x) (rest_of n x) ≡ rest_of n x) (sym e)
    (kept_free n (leaves w.products.count (close_in w) free) (has_to_leave w free))
row_closes w n r (inr s) =
    subst (λ b. rest_of n (left_at w.products.count (close_in w) r) + only b (rest_of n r) ≡ rest_of n r) (leaves_as_has_to w r s)
    (kept_and_gone n (leaves w.products.count (close_in w) r) r)

closed_conserves : (w : World) → Tidy w.products.count w.table → (n : ℕ) →
    resting n (expired w.products.count (close_in w) w.table) + total (λ r. only (has_to_leave w r) (rest_of n r)) (counted w.table) ≡ resting n w.table
closed_conserves w d n =
    let left : OrderRow → OrderRow = left_at w.products.count (close_in w) in
    let kept : resting n (expired w.products.count (close_in w) w.table) ≡ total (λ r. rest_of n (left r)) (counted w.table) =
    ap (total (rest_of n)) (counted_expired w.products.count (close_in w) w.table) ∙ total_map (rest_of n) left (counted w.table) in
    omega (
      arith,
      kept,
      total_split (λ r. rest_of n (left r)) (λ r. only (has_to_leave w r) (rest_of n r)) (rest_of n) (counted w.table)
          (each_at (λ r. rest_of n (left r) + only (has_to_leave w r) (rest_of n r) ≡ rest_of n r) free (counted w.table) (λ i. row_closes w n (row_at w.table i) (d i))),
    )

after_conserves : (w : World) (time : ℕ) (c : Call) (place room : ℕ) → fault w time c ≡ None → Chosen w time c place room →
    Tidy w.products.count w.table → Numbered w.state.stamp w.table → (n : ℕ) →
    entered_by n w (Ok (answer w time c)) c + increased_by n w (Ok (answer w time c)) c + booked n w
    ≡ decreased_by n w (Ok (answer w time c)) c + left_by n w (Ok (answer w time c)) c + booked n (after w time c place room)
after_conserves w time (roll prices) place room e t d h n = omega arith
after_conserves w time open_session place room e t d h n = omega arith
after_conserves w time close_session place room e t d h n = omega (arith, closed_conserves w d n)
after_conserves w time (enter o) place room e t d h n = omega (arith, entered_conserves w time o place room e t d n)
after_conserves w time (amend m) place room e t d h n = omega (arith, amended_conserves w m time room (amendment_passed w time m e) h n)
after_conserves w time (withdraw participant number) place room e t d h n =
    let f : Found w participant number = found w participant number (withdrawal_passed w time participant number e) in
    omega (arith, freed w participant number f h n, alone_rests w participant number f h n)
after_conserves w time (adjust k price) place room e t d h n = omega arith
after_conserves w time (frenetic k ticks) place room e t d h n = omega arith
after_conserves w time resume place room e t d h n = omega arith
after_conserves w time (request participant k) place room e t d h n =
    omega (arith, total_set_same (quantity_of n) w.tape (k - 1) (marked Considered (record_at w.tape k)) blank refl)
after_conserves w time (determine k verdict) place room e t d h n =
    omega (arith, total_set_same (quantity_of n) w.tape (k - 1) (marked (mark_by verdict) (record_at w.tape k)) blank refl)

-- what an event did, if it was accepted
abbrev did : (World → Result Answer Refusal → Call → ℕ) → World → Result Answer Refusal → Call → ℕ
did f w a c = only (is_accepted a) (f w a c)

step_conserves : (w : World) (time : ℕ) (c : Call) {a : Result Answer Refusal} {w' : World} → Step w time c a w' →
    Tidy w.products.count w.table → Numbered w.state.stamp w.table → (n : ℕ) →
    did (entered_by n) w a c + did (increased_by n) w a c + booked n w ≡ did (decreased_by n) w a c + did (left_by n) w a c + booked n w'
step_conserves w time c (refuses refusal e) d h n = omega arith
step_conserves w time c (accepts place room e t) d h n = after_conserves w time c place room e t d h n

nothing_held : (w : World) → Fresh w → (n : ℕ) → booked n w ≡ 0
nothing_held w f n =
    let t : total (quantity_of n) w.tape ≡ 0 = ap (total (quantity_of n)) f.no_trades in
    let r : resting n w.table ≡ 0 =
    total_zero (rest_of n) (counted w.table)
    (each_at (λ r. rest_of n r ≡ 0) free (counted w.table) (λ i. ap (rest_of n) (row_new w.table f.nobody_rests i) ∙ free_rest n)) in
    omega (arith, t, r)

pub conserved : {h : History} {w : World} → Reached h w → Conserved h w
conserved (made w f) = λ n. omega (arith, nothing_held w f n)
conserved (then_called {w = w} {time = time} {c = c} before holds step) =
    λ n. omega (arith, conserved before n, step_conserves w time c step (tidy before) (numbered before) n)
