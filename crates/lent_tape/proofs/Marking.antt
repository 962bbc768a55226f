-- What marking the record at a place does to the places in use. Assumes nothing.
use Rattle.std.proofs.Common.{◌≡◌, ℕ, ◌+◌, ◌-◌, ◌<◌, ◌≤◌, refl, ap, sym, ◌∙◌, get_or, set, arith}
use Rattle.lent_tape.specs.Places.{Writes}
use Rattle.tape.proofs.Calls.{fair_marked, fair_set, rising_set}
use Rattle.tape.proofs.Memory.{get_or_placed, placed_set}
use Rattle.tape.specs.Placed.{placed, FairPlaces, RisingPlaces}
use Rattle.tape.specs.Tapes.{blank, marked, record_at}
use Rattle.tape.specs.declared.row.TradeRow.{TradeRow}
use Rattle.terms.specs.declared.mark.Mark.{Mark}

module _ {S : Type 0} (size : S → ℕ) (at : S → ℕ → TradeRow) (used k : ℕ) (m : Mark) (before after : S) (w : Writes size at before k (marked m (at before k)) after) (lt : k < used) (within : used ≤ size before) where
  pub fair_marking : FairPlaces (at before) used → FairPlaces (at after) used
  fair_marking all = fair_set (at before) (at after) used k all w.others (rw (w.here (omega arith)) (fair_marked (at before k) m (all k lt)))

  pub rising_marking : RisingPlaces (at before) used → RisingPlaces (at after) used
  rising_marking all = rising_set (at before) (at after) used k all w.others (rw (w.here (omega arith)) refl)

  pub placed_marking : (n : ℕ) → n ≡ k + 1 → placed (at after) used ≡ set (placed (at before) used) (n - 1) (marked m (record_at (placed (at before) used) n))
  placed_marking n is =
      let e : k ≡ n - 1 = omega arith in
      let old : get_or (placed (at before) used) k blank ≡ at before k = get_or_placed (at before) used k blank lt in
      rw (← e) (placed_set (at before) (at after) used k (marked m (get_or (placed (at before) used) k blank)) lt w.others (w.here (omega arith) ∙ ap (marked m) (sym old)))
