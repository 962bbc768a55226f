-- A walk neither makes nor loses a lot. Assumes nothing.
use Rattle.std.proofs.Common.{◌≡◌, ℕ, ◌+◌, ◌-◌, min, Bool, true, false, cond, not, ◌&&◌, eqb, List, [], ◌∷◌, ◌++◌, map, length, is_some, Some, None, Option, refl, ap, ◌∙◌, arith}
use Rattle.std.proofs.lemmas.List.Sums.{sum_by-cons}
use Rattle.std.proofs.lemmas.Bool.{cond_both, ne_eqb}
use Rattle.limits.specs.Ranges.{tradeable}
use Rattle.orders.specs.Queue.{Slot}
use Rattle.orders.specs.declared.row.OrderRow.{OrderRow}
use Rattle.tape.specs.declared.row.TradeRow.{TradeRow}
use Rattle.terms.specs.Checked.{lots_left}
use Rattle.terms.specs.declared.quantity.Quantity.{Quantity}
use Rattle.book.specs.Sweeps.{due, killed, lots_filled, takes, Made}
use Rattle.book.specs.Walks.{Fill, Walk, stop, fill_of, fill_then, walk, filled, trade_by}
use Rattle.book.specs.declared.arriving.Arriving.{Arriving}
use Rattle.book.specs.declared.outcome.Swept.{Swept}

abbrev pub Conserves : ℕ → Walk → Type 0
Conserves q w = lots_filled w.fills + w.rest ≡ q

stopped : (q : ℕ) (halted : Bool) → Conserves q (stop q halted)
stopped q halted = omega arith

filled_on : (q : ℕ) (e : Slot) (w : Walk) → Conserves (q - min q e.row.rest) w → Conserves q (fill_then (fill_of e (min q e.row.rest)) w)
filled_on q e w h = omega (arith, h, sum_by-cons (λ (f : Fill). f.quantity) (fill_of e (min q e.row.rest)) w.fills)

pub walk_conserves : (reaches : ℕ → ℕ → Bool) (lo hi limit q : ℕ) (es : List Slot) → Conserves q (walk reaches lo hi limit q es)
walk_conserves reaches lo hi limit q [] = stopped q false
walk_conserves reaches lo hi limit q (e ∷ es) =
    let on = filled_on q e (walk reaches lo hi limit (q - min q e.row.rest) es) (walk_conserves reaches lo hi limit (q - min q e.row.rest) es) in
    cond_both (eqb q 0) _ _ (Conserves q) (λ a. stopped q false)
    (λ a. cond_both (reaches limit e.row.price) _ _ (Conserves q)
    (λ b. cond_both (tradeable lo hi e.row.price) _ _ (Conserves q) (λ c. on) (λ c. stopped q true))
    (λ b. stopped q false))

-- something is left exactly where its lots are not 0
pub some_left : (o : Option Quantity) → is_some o ≡ not (eqb (lots_left o) 0)
some_left None = refl
some_left (Some q) = rw (ne_eqb q.lots 0 (λ z. omega (arith, q.some)))

-- a walk with fills was not killed
pub not_killed : (whole : Bool) (w : Walk) (trades : ℕ) → trades ≡ length (due whole w).fills → (trades ≡ 0 → ⊥) → due whole w ≡ w
not_killed whole w trades e n = go (whole && not (eqb w.rest 0)) refl
  where
    go : (b : Bool) → (whole && not (eqb w.rest 0)) ≡ b → due whole w ≡ w
    go true h = absurd (n (e ∙ ap length (ap (λ b. (cond b killed w).fills) h)))
    go false h = ap (λ b. cond b killed w) h

module _ {T : Type 0} (records : T → List TradeRow) (space : T → ℕ) (code : ℕ) (a : Arriving) (w : Walk) (table : List OrderRow) (tape : T) (answer : Swept) where
  pub made_run : (q : ℕ) (table' : List OrderRow) (tape' : T) → Conserves q w → takes (space tape) (records tape) a.order.time (length w.fills) ≡ true → table' ≡ filled w.fills table → records tape' ≡ records tape ++ map (trade_by code a) w.fills → answer.traded ≡ q - lots_left answer.rest → lots_left answer.rest ≡ w.rest → answer.trades ≡ length w.fills → answer.halted ≡ w.halted → Made records space code a w table tape answer table' tape'
  made_run q table' tape' conserves fits reduced written traded rest trades halted =
      record { fits = fits; reduced = reduced; written = written; traded = omega (arith, conserves, traded, rest); rest = rest; trades = trades; halted = halted }
