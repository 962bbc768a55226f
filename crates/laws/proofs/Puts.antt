-- Each record was put on the tape by just one event. Assumes nothing.
use Rattle.std.proofs.Common.{◌≡◌, ℕ, ◌+◌, ◌≤◌, true, ◌&&◌, ltb, leb, length, ap, ◌∙◌, arith}
use Rattle.std.proofs.lemmas.Bool.Decides.{nat_tests}
use Rattle.tape.specs.Tapes.{on_tape}
use Rattle.rules.specs.Worlds.{World}
use Rattle.laws.specs.Histories.{History, Reached, made, then_called}
use Rattle.laws.specs.Trading.{puts}
use Rattle.laws.specs.Words.{only, count}
use Rattle.laws.proofs.Tapes.{step_grows}

once_none : (n k : ℕ) → n ≡ 0 → 0 ≡ only (leb 1 k && leb k n) 1
once_none n k e = grind (arith, nat_tests)

once_more : (n n' k c : ℕ) → n ≤ n' → c ≡ only (leb 1 k && leb k n) 1 → only (ltb n k && leb k n') 1 + c ≡ only (leb 1 k && leb k n') 1
once_more n n' k c l e = grind (arith, nat_tests)

-- the events that put a number are one where a record has it, else none
pub put_count : {h : History} {w : World} → Reached h w → (k : ℕ) → count (puts k) h ≡ only (on_tape w.tape k) 1
put_count (made w f) k = once_none (length w.tape) k (ap length f.no_trades)
put_count (then_called {w} {w'} before holds step) k =
    once_more (length w.tape) (length w'.tape) k _ (step_grows step).longer (put_count before k)

pub put_once : {h : History} {w : World} → Reached h w → (k : ℕ) → on_tape w.tape k ≡ true → count (puts k) h ≡ 1
put_once r k on = put_count r k ∙ (rw on)
