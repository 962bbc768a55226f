-- A record is cancelled by a determination of a case, and by nothing else; a case is asked for in time, of a price far enough from the market's. Assumes nothing.
use Rattle.std.proofs.Common.{◌≡◌, ℕ, zero, suc, ◌+◌, ◌-◌, ◌<◌, ◌≤◌, Bool, true, false, cond, ◌&&◌, eqb, leb, List, [], ◌∷◌, ◌++◌, map, length, get_or, set, None, Ok, Result, sym, refl, ap, ◌∙◌, subst, inl, inr, arith, get_or-set_other, get_or-set_same}
use Rattle.std.proofs.lemmas.Bool.{true≢false, cond_both, cases_Bool, cases_eq, cases_lt, and_from, eqb-true, leb-true, leb-false, le-leb, eq-eqb, ne_eqb}
use Rattle.book.specs.Walks.{Fill}
use Rattle.established.specs.Verdicts.{distance, verdict_on}
use Rattle.tape.specs.Tapes.{blank, on_tape, record_at, with_mark}
use Rattle.tape.specs.declared.row.TradeRow.{TradeRow}
use Rattle.terms.specs.Determinations.{mark_by}
use Rattle.terms.specs.Numbers.{mark_number}
use Rattle.terms.specs.declared.determination.Determination.{Determination}
use Rattle.terms.specs.declared.determination.Determination.TheVariants.{Upheld, Cancelled}
use Rattle.terms.specs.declared.refusal.Refusal.{Refusal}
use Rattle.terms.specs.declared.verdict.Verdict.TheVariants.{Within, Beyond}
use Rattle.rules.specs.Amending.{repriced}
use Rattle.rules.specs.Arrivals.{Arrival, met, arrived, traded}
use Rattle.rules.specs.Calls.{Call, Answer}
use Rattle.rules.specs.Calls.{roll, open_session, close_session, enter, amend, withdraw, adjust, frenetic, resume, request, determine}
use Rattle.rules.specs.Calls.{done, case_on}
use Rattle.rules.specs.Entering.{entry}
use Rattle.rules.specs.Refusing.{fault, participant_check, trade_check, side_check, mark_check, late_check, width_check, considered_check, may_be_taken_back}
use Rattle.rules.specs.Rules.{Step, refuses, accepts, after}
use Rattle.rules.specs.Worlds.{World, product_of, established_in}
use Rattle.laws.specs.Cases.{Further, InTime, Bustable, CancelledRightly}
use Rattle.laws.specs.Histories.{Event, event, History, Reached, made, then_called, Holds, cases, verdicts, spent, hands_out, same_verdict}
use Rattle.laws.specs.Trading.{puts, WellMade}
use Rattle.laws.specs.Words.{only, count, Each}
use Rattle.laws.proofs.Passing.{passed, passed_own, passed_time, unless_passed}
use Rattle.laws.proofs.Sums.{each_weaker}
use Rattle.laws.proofs.Tapes.{Grows, plain, within_tape, still_on, amended_tape, step_grows}
use Rattle.laws.proofs.Times.{written}

-- a mark, and how many cases were handed out, how many upheld, how many cancelled
data State (m c u x : ℕ) : Type 0 where
  standing : m ≡ 0 → c ≡ 0 → u ≡ 0 → x ≡ 0 → State m c u x
  considering : m ≡ 1 → c ≡ 1 → u ≡ 0 → x ≡ 0 → State m c u x
  upholding : m ≡ 2 → c ≡ 1 → u ≡ 1 → x ≡ 0 → State m c u x
  cancelling : m ≡ 3 → c ≡ 1 → u ≡ 0 → x ≡ 1 → State m c u x

same_state : {m c u x m' c' u' x' : ℕ} → m' ≡ m → c' ≡ c → u' ≡ u → x' ≡ x → State m c u x → State m' c' u' x'
same_state p q r s (standing a b c d) = standing (p ∙ a) (q ∙ b) (r ∙ c) (s ∙ d)
same_state p q r s (considering a b c d) = considering (p ∙ a) (q ∙ b) (r ∙ c) (s ∙ d)
same_state p q r s (upholding a b c d) = upholding (p ∙ a) (q ∙ b) (r ∙ c) (s ∙ d)
same_state p q r s (cancelling a b c d) = cancelling (p ∙ a) (q ∙ b) (r ∙ c) (s ∙ d)

-- the mark of a number; no record has the number 0
abbrev mark_at : List TradeRow → ℕ → ℕ
mark_at tape k = cond (eqb k 0) 0 (record_at tape k).mark

mark_on : (tape : List TradeRow) (k : ℕ) → 1 ≤ k → mark_at tape k ≡ (record_at tape k).mark
mark_on tape k l = rw (ne_eqb k 0 (λ e. let z : ⊥ = omega arith in z))

marked_below : (tape : List TradeRow) (i : ℕ) → 0 < (get_or tape i blank).mark → i < length tape
marked_below [] i h = let z : ⊥ = omega arith in absurd z
marked_below (t ∷ tape) zero h = omega arith
marked_below (t ∷ tape) (suc i) h = omega (arith, marked_below tape i h)

-- a number that has a mark is one of a record
marked_in : (tape : List TradeRow) (k : ℕ) → 0 < mark_at tape k → (on_tape tape k ≡ true) × (mark_at tape k ≡ (record_at tape k).mark)
marked_in tape k h =
    elim (cases_eq k 0) [
      | inl e ↦ (let zero_mark : mark_at tape k ≡ 0 = rw (eq-eqb k 0 e) in let z : ⊥ = omega (arith, h, zero_mark) in absurd z)
      | inr n ↦
          (let some : 1 ≤ k = omega arith in
          let same = mark_on tape k some in
          let l = marked_below tape (k - 1) (omega (arith, h, same)) in
          (and_from (leb 1 k) (leb k (length tape)) (le-leb 1 k some) (le-leb k (length tape) (omega (arith, l, some))), same))
    ]

abbrev state : History → World → ℕ → Type 0
state h w k = State (mark_at w.tape k) (cases k h) (verdicts Upheld k h) (verdicts Cancelled k h)

unmarked_new : (w : World) (a : Arrival) (fs : List Fill) (i : ℕ) → (get_or (map (traded w a) fs) i blank).mark ≡ 0
unmarked_new w a [] i = refl
unmarked_new w a (f ∷ fs) zero = refl
unmarked_new w a (f ∷ fs) (suc i) = unmarked_new w a fs i

mark_append : (tape new : List TradeRow) → ((i : ℕ) → (get_or new i blank).mark ≡ 0) → (i : ℕ) → (get_or (tape ++ new) i blank).mark ≡ (get_or tape i blank).mark
mark_append [] new h i = h i
mark_append (t ∷ tape) new h zero = refl
mark_append (t ∷ tape) new h (suc i) = mark_append tape new h i

marks_append : (w : World) (a : Arrival) (fs : List Fill) (k : ℕ) → mark_at (w.tape ++ map (traded w a) fs) k ≡ mark_at w.tape k
marks_append w a fs k = ap (cond (eqb k 0) 0) (mark_append w.tape (map (traded w a) fs) (unmarked_new w a fs) (k - 1))

-- a step that leaves the marks, and is about no case
quiet : (h : History) (w w' : World) (k n₁ n₂ n₃ : ℕ) → mark_at w'.tape k ≡ mark_at w.tape k →
    n₁ ≡ 0 → n₂ ≡ 0 → n₃ ≡ 0 → state h w k →
    State (mark_at w'.tape k) (n₁ + cases k h) (n₂ + verdicts Upheld k h) (n₃ + verdicts Cancelled k h)
quiet h w w' k n₁ n₂ n₃ m a b c s = same_state m (omega arith) (omega arith) (omega arith) s

further_from : (price other width : ℕ) → width < distance price other → Further width price other
further_from price other width l =
    elim (cases_lt price other) [
      | inl b ↦ inr (omega arith)
      | inr b ↦ inl (omega arith)
    ]

beyond_far : (price established no_bust : ℕ) → may_be_taken_back (verdict_on price established no_bust) ≡ true → no_bust < distance price established
beyond_far price established no_bust =
    cond_both (leb (distance price established) no_bust) Within Beyond (λ v. may_be_taken_back v ≡ true → no_bust < distance price established)
    (λ e o. absurd (true≢false (sym o))) (λ e o. leb-false (distance price established) no_bust e)

-- the price lies further from the market's than the no-bust ticks, as it was written
abbrev pub Far : TradeRow → Type 0
Far t = Further t.no_bust t.price t.established

-- what a request is accepted for
pub record Right (w : World) (time n : ℕ) : Type 0 where
  pub on : on_tape w.tape n ≡ true
  pub unmarked : (record_at w.tape n).mark ≡ 0
  pub not_late : time ≤ (record_at w.tape n).time + 300
  pub far : Far (record_at w.tape n)

pub right : (w : World) (time participant n : ℕ) → fault w time (request participant n) ≡ None → Right w time n
right w time participant n e =
    let t : TradeRow = record_at w.tape n in
    let p₀ = passed (participant_check participant) (trade_check w n ∷ side_check t participant n ∷ mark_check t ∷ late_check t time ∷ width_check t ∷ []) (passed_own w time (request participant n) e) in
    let p₁ = passed (trade_check w n) (side_check t participant n ∷ mark_check t ∷ late_check t time ∷ width_check t ∷ []) p₀.1 in
    let p₂ = passed (side_check t participant n) (mark_check t ∷ late_check t time ∷ width_check t ∷ []) p₁.1 in
    let p₃ = passed (mark_check t) (late_check t time ∷ width_check t ∷ []) p₂.1 in
    let p₄ = passed (late_check t time) (width_check t ∷ []) p₃.1 in
    let p₅ = passed (width_check t) [] p₄.1 in
    record {
      on = unless_passed (on_tape w.tape n) _ p₁.0;
      unmarked = eqb-true t.mark 0 (unless_passed (eqb t.mark 0) _ p₃.0);
      not_late = leb-true time (t.time + 300) (unless_passed (leb time (t.time + 300)) _ p₄.0);
      far = further_from t.price t.established t.no_bust
          (beyond_far t.price t.established t.no_bust (unless_passed (may_be_taken_back (verdict_on t.price t.established t.no_bust)) _ p₅.0));
    }

-- what a determination is accepted for
pub found_record : (w : World) (time n : ℕ) (v : Determination) → fault w time (determine n v) ≡ None → on_tape w.tape n ≡ true
found_record w time n v e =
    unless_passed (on_tape w.tape n) _
    (passed (trade_check w n) (considered_check (record_at w.tape n) ∷ []) (passed_own w time (determine n v) e)).0

mark_same : (tape : List TradeRow) (n m k : ℕ) → k ≡ n → on_tape tape n ≡ true → mark_at (set tape (n - 1) (with_mark m (record_at tape n))) k ≡ m
mark_same tape n m k e on =
    let l = within_tape tape n on in
    let tape' : List TradeRow = set tape (n - 1) (with_mark m (record_at tape n)) in
    subst (λ j. mark_at tape' j ≡ m) (sym e)
    (mark_on tape' n l.0 ∙ ap (λ x. x.mark) (get_or-set_same tape (n - 1) (with_mark m (record_at tape n)) blank (omega (arith, l.0, l.1))))

mark_other : (tape : List TradeRow) (n m k : ℕ) → (k ≡ n → ⊥) → 1 ≤ n → mark_at (set tape (n - 1) (with_mark m (record_at tape n))) k ≡ mark_at tape k
mark_other tape n m k d l =
    elim (cases_eq k 0) [
      | inl e ↦ rw (eq-eqb k 0 e)
      | inr z ↦
          ap (cond (eqb k 0) 0)
          (ap (λ x. x.mark) (get_or-set_other tape (n - 1) (k - 1) (with_mark m (record_at tape n)) blank (λ e. d (omega arith))))
    ]

request_state : (h : History) (w : World) (time participant n : ℕ) (a : Answer) (w' : World) → Right w time n → (k : ℕ) →
    w'.tape ≡ set w.tape (n - 1) (with_mark 1 (record_at w.tape n)) →
    state h w k → state (event w time (request participant n) (Ok a) w' ∷ h) w' k
request_state h w time participant n a w' g k t s =
    let l = within_tape w.tape n g.on in
    elim (cases_eq k n) [
      | inl e ↦
          let one : only (eqb n k) 1 ≡ 1 = rw (eq-eqb n k (sym e)) in
          let was : mark_at w.tape k ≡ 0 = subst (λ j. mark_at w.tape j ≡ 0) (sym e) (mark_on w.tape n l.0 ∙ g.unmarked) in
          let m : mark_at w'.tape k ≡ 1 = ap (λ tp. mark_at tp k) t ∙ mark_same w.tape n 1 k e g.on in
          elim s [
            | standing a b c d ↦ considering m (omega (arith, one, b)) (omega (arith, c)) (omega (arith, d))
            | considering a b c d ↦ (let z : ⊥ = omega (arith, a, was) in absurd z)
            | upholding a b c d ↦ (let z : ⊥ = omega (arith, a, was) in absurd z)
            | cancelling a b c d ↦ (let z : ⊥ = omega (arith, a, was) in absurd z)
          ]
      | inr d ↦
          quiet h w w' k (only (eqb n k) 1) 0 0 (ap (λ tp. mark_at tp k) t ∙ mark_other w.tape n 1 k d l.0)
          (rw (ne_eqb n k (λ q. d (sym q)))) refl refl s
    ]

determined : (v : Determination) (b : Bool) (m c u x : ℕ) → b ≡ true → m ≡ mark_number (mark_by v) → c ≡ 1 → u ≡ 0 → x ≡ 0 →
    State m (0 + c) (only (b && same_verdict Upheld v) 1 + u) (only (b && same_verdict Cancelled v) 1 + x)
determined v false m c u x t p q r s = absurd (true≢false (sym t))
determined Upheld true m c u x t p q r s = upholding p (omega arith) (omega arith) (omega arith)
determined Cancelled true m c u x t p q r s = cancelling p (omega arith) (omega arith) (omega arith)

determine_state : (h : History) (w : World) (time n : ℕ) (a : Answer) (v : Determination) (w' : World) → on_tape w.tape n ≡ true → Holds h (determine n v) → (k : ℕ) →
    w'.tape ≡ set w.tape (n - 1) (with_mark (mark_number (mark_by v)) (record_at w.tape n)) →
    state h w k → state (event w time (determine n v) (Ok a) w' ∷ h) w' k
determine_state h w time n a v w' on o k t s =
    elim (cases_eq k n) [
      | inl e ↦
          let held : verdicts Upheld k h + verdicts Cancelled k h < cases k h = subst (λ j. spent j h < cases j h) (sym e) o in
          elim s [
            | standing a b c d ↦ (let z : ⊥ = omega (arith, b, held) in absurd z)
            | considering a b c d ↦
                (let m : mark_at w'.tape k ≡ mark_number (mark_by v) = ap (λ tp. mark_at tp k) t ∙ mark_same w.tape n (mark_number (mark_by v)) k e on in
                determined v (eqb n k) (mark_at w'.tape k) (cases k h) (verdicts Upheld k h) (verdicts Cancelled k h) (eq-eqb n k (sym e)) m b c d)
            | upholding a b c d ↦ (let z : ⊥ = omega (arith, b, c, d, held) in absurd z)
            | cancelling a b c d ↦ (let z : ⊥ = omega (arith, b, c, d, held) in absurd z)
          ]
      | inr d ↦
          let off : eqb n k ≡ false = ne_eqb n k (λ q. d (sym q)) in
          quiet h w w' k 0 (only (eqb n k && same_verdict Upheld v) 1) (only (eqb n k && same_verdict Cancelled v) 1)
          (ap (λ tp. mark_at tp k) t ∙ mark_other w.tape n (mark_number (mark_by v)) k d (within_tape w.tape n on).0) refl (rw off) (rw off) s
    ]

step_state : (h : History) {w : World} {time : ℕ} {c : Call} {a : Result Answer Refusal} {w' : World} → Step w time c a w' → Holds h c →
    (k : ℕ) → state h w k → state (event w time c a w' ∷ h) w' k
unfolding arrived
step_state h {w} (refuses refusal e) o k s = quiet h w w k 0 0 0 refl refl refl refl s
step_state h {w} {time} {c = roll prices} (accepts place room e t) o k s = quiet h w (after w time (roll prices) place room) k 0 0 0 refl refl refl refl s
step_state h {w} {time} {c = open_session} (accepts place room e t) o k s = quiet h w (after w time open_session place room) k 0 0 0 refl refl refl refl s
step_state h {w} {time} {c = close_session} (accepts place room e t) o k s = quiet h w (after w time close_session place room) k 0 0 0 refl refl refl refl s
step_state h {w} {time} {c = enter x} (accepts place room e t) o k s =
    quiet h w (after w time (enter x) place room) k 0 0 0 (marks_append w (entry w time x) (met w (entry w time x)).fills k) refl refl refl s
step_state h {w} {time} {c = amend m} (accepts place room e t) o k s =
    quiet h w (after w time (amend m) place room) k 0 0 0
    (amended_tape w m time room (λ tape. mark_at tape k ≡ mark_at w.tape k) (marks_append w (repriced w m time) (met w (repriced w m time)).fills k) refl)
    refl refl refl s
step_state h {w} {time} {c = withdraw participant number} (accepts place room e t) o k s = quiet h w (after w time (withdraw participant number) place room) k 0 0 0 refl refl refl refl s
step_state h {w} {time} {c = adjust n price} (accepts place room e t) o k s = quiet h w (after w time (adjust n price) place room) k 0 0 0 refl refl refl refl s
step_state h {w} {time} {c = frenetic n ticks} (accepts place room e t) o k s = quiet h w (after w time (frenetic n ticks) place room) k 0 0 0 refl refl refl refl s
step_state h {w} {time} {c = resume} (accepts place room e t) o k s = quiet h w (after w time resume place room) k 0 0 0 refl refl refl refl s
step_state h {w} {time} {c = request participant n} (accepts place room e t) o k s =
    request_state h w time participant n (case_on n) (after w time (request participant n) place room) (right w time participant n e) k refl s
step_state h {w} {time} {c = determine n v} (accepts place room e t) o k s =
    determine_state h w time n done v (after w time (determine n v) place room) (found_record w time n v e) o k refl s

states : {h : History} {w : World} → Reached h w → (k : ℕ) → state h w k
states (made w f) k = standing (ap (λ tp. mark_at tp k) f.no_trades ∙ cond_both (eqb k 0) 0 0 (λ n. n ≡ 0) (λ e. refl) (λ e. refl)) refl refl refl
states (then_called {h} before holds step) k = step_state h step holds k (states before k)

-- the requests: each was right, of a record that is on the tape
abbrev Asked : ℕ → List TradeRow → Event → Type 0
Asked k tape e = hands_out k e ≡ true → (on_tape tape k ≡ true) × InTime (record_at tape k) e × Far (record_at tape k)

asked_kept : (k : ℕ) (tape tape' : List TradeRow) → Grows tape tape' → (h : History) → Each (Asked k tape) h → Each (Asked k tape') h
asked_kept k tape tape' g h =
    each_weaker (Asked k tape) (Asked k tape')
    (λ e a o.
    let r = a o in
    let l = within_tape tape k r.0 in
    let same : plain (record_at tape k) ≡ plain (record_at tape' k) = g.stays (k - 1) (omega (arith, l.0, l.1)) in
    (still_on tape tape' g k r.0, subst (λ t. InTime t e) same r.1, subst Far same r.2)) h

asked_now : {w : World} {time : ℕ} {c : Call} {a : Result Answer Refusal} {w' : World} → ((i : ℕ) → (get_or w.tape i blank).time ≤ w.state.time) →
    Step w time c a w' → (k : ℕ) → Asked k w.tape (event w time c a w')
asked_now d (refuses refusal e) k o = absurd (true≢false (sym o))
asked_now {c = roll prices} d (accepts place room e t) k o = absurd (true≢false (sym o))
asked_now {c = open_session} d (accepts place room e t) k o = absurd (true≢false (sym o))
asked_now {c = close_session} d (accepts place room e t) k o = absurd (true≢false (sym o))
asked_now {c = enter x} d (accepts place room e t) k o = absurd (true≢false (sym o))
asked_now {c = amend m} d (accepts place room e t) k o = absurd (true≢false (sym o))
asked_now {c = withdraw participant number} d (accepts place room e t) k o = absurd (true≢false (sym o))
asked_now {c = adjust n price} d (accepts place room e t) k o = absurd (true≢false (sym o))
asked_now {c = frenetic n ticks} d (accepts place room e t) k o = absurd (true≢false (sym o))
asked_now {c = resume} d (accepts place room e t) k o = absurd (true≢false (sym o))
asked_now {w} {time} {c = request participant n} d (accepts place room e t) k o =
    let g : Right w time n = right w time participant n e in
    let early : (record_at w.tape n).time ≤ time = omega (arith, d (n - 1), passed_time w time (request participant n) e) in
    subst (λ j. (on_tape w.tape j ≡ true) × (((record_at w.tape j).time ≤ time) × (time ≤ (record_at w.tape j).time + 300)) × Far (record_at w.tape j))
    (eqb-true n k o) (g.on, (early, g.not_late), g.far)
asked_now {c = determine n v} d (accepts place room e t) k o = absurd (true≢false (sym o))

asked : {h : History} {w : World} → Reached h w → (k : ℕ) → Each (Asked k w.tape) h
asked (made w f) k = tt
asked (then_called {h} {w} {w'} {time} {c} {a} before holds step) k =
    asked_kept k w.tape w'.tape (step_grows step) (event w time c a w' ∷ h) (asked_now (written before) step k, asked before k)

pub in_time : {h : History} {w : World} → Reached h w → (k : ℕ) → Each (λ e. hands_out k e ≡ true → InTime (record_at w.tape k) e) h
in_time {h} {w} r k = each_weaker (Asked k w.tape) (λ e. hands_out k e ≡ true → InTime (record_at w.tape k) e) (λ e f o. (f o).1) h (asked r k)

pub cancelled_since : {h : History} {w : World} → Reached h w → (k : ℕ) → on_tape w.tape k ≡ true → (record_at w.tape k).mark ≡ 3 → 0 < verdicts Cancelled k h
cancelled_since {h} {w} r k on m =
    let is : mark_at w.tape k ≡ 3 = mark_on w.tape k (within_tape w.tape k on).0 ∙ m in
    elim (states r k) [
      | standing a b c d ↦ (let z : ⊥ = omega (arith, a, is) in absurd z)
      | considering a b c d ↦ (let z : ⊥ = omega (arith, a, is) in absurd z)
      | upholding a b c d ↦ (let z : ⊥ = omega (arith, a, is) in absurd z)
      | cancelling a b c d ↦ omega (arith, d)
    ]

pub since_cancelled : {h : History} {w : World} → Reached h w → (k : ℕ) → 0 < verdicts Cancelled k h → (on_tape w.tape k ≡ true) × ((record_at w.tape k).mark ≡ 3)
since_cancelled {h} {w} r k l =
    elim (states r k) [
      | standing a b c d ↦ (let z : ⊥ = omega (arith, d, l) in absurd z)
      | considering a b c d ↦ (let z : ⊥ = omega (arith, d, l) in absurd z)
      | upholding a b c d ↦ (let z : ⊥ = omega (arith, d, l) in absurd z)
      | cancelling a b c d ↦ (let i = marked_in w.tape k (omega (arith, a)) in (i.0, sym i.1 ∙ a))
    ]

pub one_case : {h : History} {w : World} → Reached h w → (k : ℕ) → 0 < verdicts Cancelled k h → cases k h ≡ 1
one_case r k l =
    elim (states r k) [
      | standing a b c d ↦ (let z : ⊥ = omega (arith, d, l) in absurd z)
      | considering a b c d ↦ (let z : ⊥ = omega (arith, d, l) in absurd z)
      | upholding a b c d ↦ (let z : ⊥ = omega (arith, d, l) in absurd z)
      | cancelling a b c d ↦ b
    ]

-- a trade that a case was handed out on lies far from the market's price

some_of : {X : Type 0} (p : X → Bool) (Q : Type 0) (xs : List X) → Each (λ x. p x ≡ true → Q) xs → 0 < count p xs → Q
some_of p Q [] h l = let z : ⊥ = omega arith in absurd z
some_of p Q (x ∷ xs) h l =
    elim (cases_Bool (p x)) [
      | inl e ↦ h.0 e
      | inr e ↦ some_of p Q xs h.1 (let none : only (p x) 1 ≡ 0 = rw e in omega (arith, none, l))
    ]

far_case : {h : History} {w : World} → Reached h w → (k : ℕ) → 0 < cases k h → Far (record_at w.tape k)
far_case {h} {w} r k l =
    some_of (hands_out k) (Far (record_at w.tape k)) h
    (each_weaker (Asked k w.tape) (λ e. hands_out k e ≡ true → Far (record_at w.tape k)) (λ e f o. (f o).2) h (asked r k)) l

bustable : (e : Event) (t : TradeRow) → WellMade e t → Far t → Bustable t e
bustable e t m f =
    let back = sym m.product in
    let market : t.established ≡ established_in e.before e.time t.product =
    m.market_price ∙ ap (established_in e.before e.time) back in
    let width : t.no_bust ≡ (product_of e.before t.product).listed.no_bust =
    m.no_bust ∙ ap (λ n. (product_of e.before n).listed.no_bust) back in
    subst (λ n. Further n t.price (established_in e.before e.time t.product)) width
    (subst (λ p. Further t.no_bust t.price p) market f)

pub beyond_from : (h : History) (w : World) → Reached h w → ((k : ℕ) → Each (λ e. puts k e ≡ true → WellMade e (record_at w.tape k)) h) →
    (k : ℕ) → 0 < cases k h → Each (λ e. puts k e ≡ true → Bustable (record_at w.tape k) e) h
beyond_from h w r g k l =
    each_weaker (λ e. puts k e ≡ true → WellMade e (record_at w.tape k)) (λ e. puts k e ≡ true → Bustable (record_at w.tape k) e)
    (λ e m o. bustable e (record_at w.tape k) (m o) (far_case r k l)) h (g k)

pub cancelled_rightly : {h : History} {w : World} → Reached h w → ((k : ℕ) → Each (λ e. puts k e ≡ true → WellMade e (record_at w.tape k)) h) → CancelledRightly h w
cancelled_rightly {h} {w} r g =
    record {
      cancelled_since = cancelled_since r;
      since_cancelled = since_cancelled r;
      one_case = one_case r;
      in_time = in_time r;
      beyond = beyond_from h w r g;
    }
