-- What a tape in memory answers to each call. Assumes nothing.
use Rattle.std.proofs.Common.{◌≡◌, ℕ, suc, ◌+◌, ◌-◌, ◌<◌, ◌≤◌, true, false, leb, ◌≢◌, ◌⊎◌, length, refl, ap, ⊎_elim, arith}
use Rattle.std.proofs.lemmas.Bool.{and_from, and_left, and_right, and_parts, le-leb, lt-leb, cases_eq, cases_lt}
use Rattle.terms.specs.Numbers.{mark_number}
use Rattle.terms.specs.declared.mark.Mark.{Mark}
use Rattle.terms.specs.declared.mark.Mark.TheVariants.{Stands, Considered, Upheld, Cancelled}
use Rattle.tape.proofs.Memory.{length_placed, get_or_placed, latest_placed}
use Rattle.tape.specs.Placed.{placed, FairPlaces, RisingPlaces}
use Rattle.tape.specs.Ranges.{last_mark}
use Rattle.tape.specs.Rows.{fair}
use Rattle.tape.specs.Tapes.{blank, on_tape, record_at, marked, latest}
use Rattle.tape.specs.declared.row.TradeRow.{TradeRow}

module _ (at : ℕ → TradeRow) (used n : ℕ) where
  pub on_placed : 1 ≤ n → n ≤ used → on_tape (placed at used) n ≡ true
  on_placed low high =
      and_from (leb 1 n) (leb n (length (placed at used))) (le-leb 1 n low) (le-leb n (length (placed at used)) (omega (arith, length_placed at used)))

  pub off_placed : (n < 1) ⊎ (used < n) → on_tape (placed at used) n ≡ false
  off_placed out =
      ⊎_elim
      (λ (low : n < 1). and_left (leb 1 n) (leb n (length (placed at used))) (lt-leb 1 n low))
      (λ (high : used < n).
      and_right (leb 1 n) (leb n (length (placed at used))) (lt-leb n (length (placed at used)) (omega (arith, length_placed at used))))
      out

  pub record_placed : 1 ≤ n → n ≤ used → record_at (placed at used) n ≡ at (n - 1)
  record_placed low high = get_or_placed at used (n - 1) blank (omega arith)

mark_low : (m : Mark) → leb (mark_number m) last_mark ≡ true
mark_low Stands = refl
mark_low Considered = refl
mark_low Upheld = refl
mark_low Cancelled = refl

-- a mark is no part of what makes the other numbers fair
pub fair_marked : (r : TradeRow) (m : Mark) → fair r ≡ true → fair (marked m r) ≡ true
unfolding fair
fair_marked r m h = and_from (leb (mark_number m) last_mark) _ (mark_low m) (and_parts (leb r.mark last_mark) _ h).1

module _ (at at' : ℕ → TradeRow) (used : ℕ) where
  pub fair_push : FairPlaces at used → ((k : ℕ) → k < used → at' k ≡ at k) → fair (at' used) ≡ true → FairPlaces at' (used + 1)
  fair_push all below here k lt =
      ⊎_elim
      (λ (l : k < used). rw (below k l) (all k l))
      (λ (ge : used ≤ k). let e : k ≡ used = omega arith in rw e here)
      (cases_lt k used)

  pub rising_push : RisingPlaces at used → ((k : ℕ) → k < used → at' k ≡ at k) → latest (placed at used) ≤ (at' used).time → RisingPlaces at' (used + 1)
  rising_push all below last k lt =
      let l : k < used = omega arith in
      ⊎_elim
      (λ (m : suc k < used). rw (below k l, below (suc k) m) (all k m))
      (λ (ge : used ≤ suc k).
      let e : suc k ≡ used = omega arith in
      let f : k ≡ used - 1 = omega arith in
      let g : latest (placed at used) ≡ (at (used - 1)).time = latest_placed at used (omega arith) in
      rw (below k l, e, f) (omega arith))
      (cases_lt (suc k) used)

  pub fair_set : (i : ℕ) → FairPlaces at used → ((k : ℕ) → k ≢ i → at' k ≡ at k) → fair (at' i) ≡ true → FairPlaces at' used
  fair_set i all others here k lt =
      ⊎_elim
      (λ (e : k ≡ i). rw e here)
      (λ (ne : k ≡ i → ⊥). rw (others k ne) (all k lt))
      (cases_eq k i)

  pub rising_set : (i : ℕ) → RisingPlaces at used → ((k : ℕ) → k ≢ i → at' k ≡ at k) → (at' i).time ≡ (at i).time → RisingPlaces at' used
  rising_set i all others here k lt = rw (times k, times (suc k)) (all k lt)
    where
      times : (k : ℕ) → (at' k).time ≡ (at k).time
      times k =
          ⊎_elim
          (λ (e : k ≡ i). rw e here)
          (λ (ne : k ≡ i → ⊥). ap (λ (r : TradeRow). r.time) (others k ne))
          (cases_eq k i)
