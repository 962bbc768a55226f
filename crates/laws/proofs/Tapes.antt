-- The tape only grows, and of a record only the mark changes. Assumes nothing.
use Rattle.std.proofs.Common.{◌≡◌, ℕ, zero, suc, ◌-◌, ◌<◌, ◌≤◌, true, leb, List, [], ◌∷◌, ◌++◌, map, length, get_or, set, Result, sym, refl, ap, arith, length-append, length-set}
use lib.ListN.{get_or-append}
use Rattle.std.proofs.lemmas.Bool.{cond_both, and_parts, and_from, leb-true, le-leb}
use Rattle.orders.specs.declared.row.OrderRow.{OrderRow}
use Rattle.tape.specs.Tapes.{blank, on_tape, with_mark}
use Rattle.tape.specs.declared.row.TradeRow.{TradeRow}
use Rattle.terms.specs.Determinations.{mark_by}
use Rattle.terms.specs.Numbers.{mark_number}
use Rattle.terms.specs.declared.refusal.Refusal.{Refusal}
use Rattle.rules.specs.Amending.{after_amendment, after_arrival, after_change, arrives_again, repriced}
use Rattle.rules.specs.Arrivals.{Arrival, met, arrived, traded}
use Rattle.rules.specs.Calls.{Call, Answer}
use Rattle.rules.specs.Calls.{roll, open_session, close_session, enter, amend, withdraw, adjust, frenetic, resume, request, determine}
use Rattle.rules.specs.Rules.{Step, refuses, accepts}
use Rattle.rules.specs.Worlds.{World}
use Rattle.rules.specs.declared.amendment.Amendment.{Amendment}

-- a record without its mark
abbrev pub plain : TradeRow → TradeRow
plain r = with_mark 0 r

-- the place of a record that is on the tape
pub within_tape : (tape : List TradeRow) (n : ℕ) → on_tape tape n ≡ true → (1 ≤ n) × (n ≤ length tape)
within_tape tape n e =
    let p = and_parts (leb 1 n) (leb n (length tape)) e in (leb-true 1 n p.0, leb-true n (length tape) p.1)

-- the records before stay, but for their marks
pub record Grows (tape tape' : List TradeRow) : Type 0 where
  pub longer : length tape ≤ length tape'
  pub stays : (i : ℕ) → i < length tape → plain (get_or tape i blank) ≡ plain (get_or tape' i blank)

pub still_on : (tape tape' : List TradeRow) → Grows tape tape' → (k : ℕ) → on_tape tape k ≡ true → on_tape tape' k ≡ true
still_on tape tape' g k on =
    let l = within_tape tape k on in
    and_from (leb 1 k) (leb k (length tape')) (le-leb 1 k l.0) (le-leb k (length tape') (omega (arith, l.1, g.longer)))

pub grows_same : (tape : List TradeRow) → Grows tape tape
grows_same tape = record { longer = omega arith; stays = λ k l. refl }

pub grows_append : (tape new : List TradeRow) → Grows tape (tape ++ new)
grows_append tape new =
    record {
      longer = omega (arith, length-append tape new);
      stays = λ k l. ap plain (sym (get_or-append tape new blank k l));
    }

-- a mark is all that a mark changes
pub plain_mark : (tape : List TradeRow) (j m i : ℕ) → plain (get_or tape i blank) ≡ plain (get_or (set tape j (with_mark m (get_or tape j blank))) i blank)
plain_mark [] j m i = refl
plain_mark (t ∷ tape) zero m zero = refl
plain_mark (t ∷ tape) zero m (suc i) = refl
plain_mark (t ∷ tape) (suc j) m zero = refl
plain_mark (t ∷ tape) (suc j) m (suc i) = plain_mark tape j m i

pub grows_mark : (tape : List TradeRow) (j m : ℕ) → Grows tape (set tape j (with_mark m (get_or tape j blank)))
grows_mark tape j m =
    record {
      longer = omega (arith, length-set tape j (with_mark m (get_or tape j blank)));
      stays = λ k l. plain_mark tape j m k;
    }

-- the tape that an order leaves which arrived
pub arrived_tape : (w : World) (a : Arrival) (i : ℕ) (table : List OrderRow) (room : ℕ) → (arrived w a i table room).tape ≡ w.tape ++ map (traded w a) (met w a).fills
unfolding arrived
arrived_tape w a i table room = refl

-- an amendment's tape
pub amended_tape : (w : World) (m : Amendment) (time room : ℕ) → (P : List TradeRow → Type 0) →
    P (w.tape ++ map (traded w (repriced w m time)) (met w (repriced w m time)).fills) →
    P w.tape → P (after_amendment w m time room).tape
unfolding after_amendment arrived
amended_tape w m time room P x y =
    cond_both (arrives_again w m) (after_arrival w m time room) (after_change w m time room) (λ v. P v.tape) (λ e. x) (λ e. y)

pub step_grows : {w : World} {time : ℕ} {c : Call} {a : Result Answer Refusal} {w' : World} → Step w time c a w' → Grows w.tape w'.tape
unfolding arrived
step_grows {w} (refuses refusal e) = grows_same w.tape
step_grows {w} {c = roll prices} (accepts place room e t) = grows_same w.tape
step_grows {w} {c = open_session} (accepts place room e t) = grows_same w.tape
step_grows {w} {c = close_session} (accepts place room e t) = grows_same w.tape
step_grows {w} {c = enter o} (accepts place room e t) = grows_append w.tape _
step_grows {w} {time} {c = amend m} (accepts place room e t) =
    amended_tape w m time room (Grows w.tape) (grows_append w.tape _) (grows_same w.tape)
step_grows {w} {c = withdraw participant number} (accepts place room e t) = grows_same w.tape
step_grows {w} {c = adjust n price} (accepts place room e t) = grows_same w.tape
step_grows {w} {c = frenetic n ticks} (accepts place room e t) = grows_same w.tape
step_grows {w} {c = resume} (accepts place room e t) = grows_same w.tape
step_grows {w} {c = request participant n} (accepts place room e t) = grows_mark w.tape (n - 1) 1
step_grows {w} {c = determine n verdict} (accepts place room e t) = grows_mark w.tape (n - 1) (mark_number (mark_by verdict))
