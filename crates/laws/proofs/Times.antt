-- Times of accepted calls never fall, and no record is later than the market's time. Assumes nothing.
use Rattle.std.proofs.Common.{◌≡◌, ℕ, zero, suc, ◌-◌, ◌≤◌, true, List, [], ◌∷◌, ◌++◌, map, get_or, set, Result, sym, refl, ap, subst, arith}
use Rattle.std.proofs.lemmas.Bool.{true≢false, cond_both}
use Rattle.book.specs.Walks.{Fill}
use Rattle.tape.specs.Tapes.{blank, with_mark}
use Rattle.tape.specs.declared.row.TradeRow.{TradeRow}
use Rattle.terms.specs.Determinations.{mark_by}
use Rattle.terms.specs.Numbers.{mark_number}
use Rattle.terms.specs.declared.refusal.Refusal.{Refusal}
use Rattle.rules.specs.Amending.{after_amendment, after_arrival, after_change, arrives_again, repriced}
use Rattle.rules.specs.Arrivals.{Arrival, met, arrived, traded}
use Rattle.rules.specs.Calls.{Call, Answer}
use Rattle.rules.specs.Calls.{roll, open_session, close_session, enter, amend, withdraw, adjust, frenetic, resume, request, determine}
use Rattle.rules.specs.Entering.{entry}
use Rattle.rules.specs.Rules.{Step, refuses, accepts, after}
use Rattle.rules.specs.Worlds.{World}
use Rattle.rules.specs.declared.amendment.Amendment.{Amendment}
use Rattle.laws.specs.Histories.{Event, event, History, Reached, made, then_called, is_accepted}
use Rattle.laws.specs.Laws.{Judged, RisingTimes}
use Rattle.laws.specs.Words.{Each}
use Rattle.laws.proofs.Passing.{passed_time}
use Rattle.laws.proofs.Sums.{each_weaker}
use Rattle.laws.proofs.Tapes.{plain_mark, amended_tape}

-- the calls are judged as the rules say

judged_step : {w : World} {time : ℕ} {c : Call} {a : Result Answer Refusal} {w' : World} → Step w time c a w' → Judged (event w time c a w') a
judged_step (refuses refusal e) = (e, refl)
judged_step (accepts place room e t) = e

pub judged : {h : History} {w : World} → Reached h w → Each (λ e. Judged e e.answer) h
judged (made w f) = tt
judged (then_called before holds step) = (judged_step step, judged before)

-- an accepted call's time is the market's from then on

amended_time : (w : World) (m : Amendment) (time room : ℕ) → (after_amendment w m time room).state.time ≡ time
unfolding after_amendment arrived
amended_time w m time room =
    cond_both (arrives_again w m) (after_arrival w m time room) (after_change w m time room) (λ v. v.state.time ≡ time) (λ e. refl) (λ e. refl)

pub after_time : (w : World) (time : ℕ) (c : Call) (place room : ℕ) → (after w time c place room).state.time ≡ time
unfolding arrived
after_time w time (roll prices) place room = refl
after_time w time open_session place room = refl
after_time w time close_session place room = refl
after_time w time (enter o) place room = refl
after_time w time (amend m) place room = amended_time w m time room
after_time w time (withdraw participant number) place room = refl
after_time w time (adjust n price) place room = refl
after_time w time (frenetic n ticks) place room = refl
after_time w time resume place room = refl
after_time w time (request participant n) place room = refl
after_time w time (determine n verdict) place room = refl

-- the market's time never falls
pub time_rises : {w : World} {time : ℕ} {c : Call} {a : Result Answer Refusal} {w' : World} → Step w time c a w' → w.state.time ≤ w'.state.time
time_rises (refuses refusal e) = omega arith
time_rises {w} {time} {c} (accepts place room e t) = omega (arith, passed_time w time c e, after_time w time c place room)

-- an accepted call is not before the time that it found, and leaves its own
abbrev Dated : World → Event → Type 0
Dated w e = is_accepted e.answer ≡ true → e.time ≤ w.state.time

dated_now : {w : World} {time : ℕ} {c : Call} {a : Result Answer Refusal} {w' : World} → Step w time c a w' → Dated w' (event w time c a w')
dated_now (refuses refusal e) o = absurd (true≢false (sym o))
dated_now {w} {time} {c} (accepts place room e t) o = omega (arith, after_time w time c place room)

found_earlier : {w : World} {time : ℕ} {c : Call} {a : Result Answer Refusal} {w' : World} → Step w time c a w' → is_accepted a ≡ true → w.state.time ≤ time
found_earlier (refuses refusal e) o = absurd (true≢false (sym o))
found_earlier {w} {time} {c} (accepts place room e t) o = passed_time w time c e

dated : {h : History} {w : World} → Reached h w → Each (Dated w) h
dated (made w f) = tt
dated (then_called {h} {w} {w'} before holds step) =
    (dated_now step, each_weaker (Dated w) (Dated w') (λ e d o. let l = d o in omega (arith, l, time_rises step)) h (dated before))

pub timely : {h : History} {w : World} → Reached h w → RisingTimes h
timely (made w f) = tt
timely (then_called {h} {w} {w'} {time} before holds step) = (
  λ o. each_weaker (Dated w) (λ f. is_accepted f.answer ≡ true → f.time ≤ time)
      (λ f d q. let l = d q in omega (arith, l, found_earlier step o)) h (dated before),
  timely before,
)

-- no record is later than the market's time

abbrev pub WrittenBy : ℕ → List TradeRow → Type 0
WrittenBy time tape = (i : ℕ) → (get_or tape i blank).time ≤ time

written_new : (w : World) (a : Arrival) (fs : List Fill) → WrittenBy a.time (map (traded w a) fs)
written_new w a [] i = omega arith
written_new w a (f ∷ fs) zero = omega arith
written_new w a (f ∷ fs) (suc i) = written_new w a fs i

written_append : (time : ℕ) (tape new : List TradeRow) → WrittenBy time tape → WrittenBy time new → WrittenBy time (tape ++ new)
written_append time [] new g h i = h i
written_append time (t ∷ tape) new g h zero = g zero
written_append time (t ∷ tape) new g h (suc i) = written_append time tape new (λ j. g (suc j)) h i

written_mark : (time : ℕ) (tape : List TradeRow) (j m : ℕ) → WrittenBy time tape → WrittenBy time (set tape j (with_mark m (get_or tape j blank)))
written_mark time tape j m g i = let same = ap (λ r. r.time) (plain_mark tape j m i) in omega (arith, g i, same)

written_later : (time time' : ℕ) (tape : List TradeRow) → time ≤ time' → WrittenBy time tape → WrittenBy time' tape
written_later time time' tape l g i = omega (arith, g i)

written_after : (w : World) (time : ℕ) (c : Call) (place room : ℕ) → WrittenBy time w.tape → WrittenBy time (after w time c place room).tape
unfolding arrived
written_after w time (roll prices) place room g = g
written_after w time open_session place room g = g
written_after w time close_session place room g = g
written_after w time (enter o) place room g = written_append time w.tape _ g (written_new w (entry w time o) (met w (entry w time o)).fills)
written_after w time (amend m) place room g =
    amended_tape w m time room (WrittenBy time) (written_append time w.tape _ g (written_new w (repriced w m time) (met w (repriced w m time)).fills)) g
written_after w time (withdraw participant number) place room g = g
written_after w time (adjust n price) place room g = g
written_after w time (frenetic n ticks) place room g = g
written_after w time resume place room g = g
written_after w time (request participant n) place room g = written_mark time w.tape (n - 1) 1 g
written_after w time (determine n verdict) place room g = written_mark time w.tape (n - 1) (mark_number (mark_by verdict)) g

written_step : {w : World} {time : ℕ} {c : Call} {a : Result Answer Refusal} {w' : World} → Step w time c a w' →
    WrittenBy w.state.time w.tape → WrittenBy w'.state.time w'.tape
written_step (refuses refusal e) g = g
written_step {w} {time} {c} (accepts place room e t) g =
    subst (λ n. WrittenBy n (after w time c place room).tape) (sym (after_time w time c place room))
    (written_after w time c place room (written_later w.state.time time w.tape (passed_time w time c e) g))

pub written : {h : History} {w : World} → Reached h w → WrittenBy w.state.time w.tape
written (made w f) i = let none = ap (λ tape. (get_or tape i blank).time) f.no_trades in omega (arith, none)
written (then_called before holds step) i = written_step step (written before) i
