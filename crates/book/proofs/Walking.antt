-- One step of a walk, and what a sweep keeps. Assumes nothing.
use Rattle.std.proofs.Common.{◌≡◌, ℕ, ◌+◌, ◌-◌, min, Bool, true, false, eqb, ◌⊎◌, List, [], ◌∷◌, ◌++◌, map, length, set, Some, sym, refl, ap, ◌∙◌, subst, inl, inr, append_assoc, arith, MatchOption}
use Rattle.std.proofs.lemmas.List.{append-nil}
use Rattle.std.proofs.lemmas.Bool.{cond_both, eq-eqb, ne_eqb, cases_eq}
use Rattle.limits.specs.Ranges.{tradeable}
use Rattle.orders.proofs.Gone.{tail, parts, gone_first}
use Rattle.orders.proofs.Heads.{part}
use Rattle.orders.specs.Queue.{Slot, slot, head, counted, rests}
use Rattle.orders.specs.Rows.{fair, free}
use Rattle.orders.specs.declared.row.OrderRow.{OrderRow}
use Rattle.tape.specs.declared.row.TradeRow.{TradeRow}
use Rattle.book.specs.Sweeps.{RoomLeft}
use Rattle.book.specs.Walks.{Fill, Walk, stop, fill_of, fill_then, walk, row_left, filled}

module _ (reaches : ℕ → ℕ → Bool) (lo hi limit : ℕ) where
  pub walk_none : (q : ℕ) (es : List Slot) → q ≡ 0 → walk reaches lo hi limit q es ≡ stop q false
  walk_none q [] z = refl
  walk_none q (e ∷ es) z = rw (eq-eqb q 0 z)

  pub walk_nothing : (q : ℕ) (es : List Slot) → MatchOption (head es) (Unit {0}) (λ a. reaches limit a.row.price ≡ false) → walk reaches lo hi limit q es ≡ stop q false
  walk_nothing q [] h = refl
  walk_nothing q (e ∷ es) h = cond_both (eqb q 0) _ _ (λ w. w ≡ stop q false) (λ z. refl) (λ n. rw h)

  pub walk_outside : (q : ℕ) (es : List Slot) → (q ≡ 0 → ⊥) → MatchOption (head es) ⊥ (λ a. (reaches limit a.row.price ≡ true) × (tradeable lo hi a.row.price ≡ false)) → walk reaches lo hi limit q es ≡ stop q true
  walk_outside q [] n h = absurd h
  walk_outside q (e ∷ es) n h = rw (ne_eqb q 0 n, h.0, h.1)

  pub walk_fill : (q : ℕ) (es : List Slot) (e : Slot) → head es ≡ Some e → (q ≡ 0 → ⊥) → reaches limit e.row.price ≡ true → tradeable lo hi e.row.price ≡ true → walk reaches lo hi limit q es ≡ fill_then (fill_of e (min q e.row.rest)) (walk reaches lo hi limit (q - min q e.row.rest) (tail es))
  walk_fill q es e h n r o = rw (parts es e h, ne_eqb q 0 n, r, o)

  -- after a fill of the first order the rest of the walk goes down the new table's queue
  pub walk_on : (lt : Slot → Slot → Bool) (p : Slot → Bool) → ((k : ℕ) → p (slot k free) ≡ false) → (q m : ℕ) (rows : List OrderRow) (e : Slot) → head (part lt p 0 (counted rows)) ≡ Some e → m ≡ min q e.row.rest → walk reaches lo hi limit (q - m) (tail (part lt p 0 (counted rows))) ≡ walk reaches lo hi limit (q - m) (part lt p 0 (counted (set rows e.index (row_left e.row m))))
  walk_on lt p nobody q m rows e h s = go (cases_eq e.row.rest m)
    where
      go : (e.row.rest ≡ m) ⊎ (e.row.rest ≡ m → ⊥) → walk reaches lo hi limit (q - m) (tail (part lt p 0 (counted rows))) ≡ walk reaches lo hi limit (q - m) (part lt p 0 (counted (set rows e.index (row_left e.row m))))
      go (inl z) = rw (eq-eqb e.row.rest m z) (ap (walk reaches lo hi limit (q - m)) (gone_first lt p nobody rows e (sym h)))
      go (inr z) = walk_none (q - m) _ (omega arith) ∙ sym (walk_none (q - m) _ (omega arith))

-- w is left of the walk w0 that began with the table t0 and the records s0
pub record Going (trade : Fill → TradeRow) (w0 : Walk) (t0 : List OrderRow) (s0 : List TradeRow) (w : Walk) (t : List OrderRow) (s : List TradeRow) (n : ℕ) : Type 0 where
  pub table : filled w.fills t ≡ filled w0.fills t0
  pub tape : s ++ map trade w.fills ≡ s0 ++ map trade w0.fills
  pub rest : w.rest ≡ w0.rest
  pub halted : w.halted ≡ w0.halted
  pub trades : n + length w.fills ≡ length w0.fills

module _ {trade : Fill → TradeRow} {w0 : Walk} {t0 : List OrderRow} {s0 : List TradeRow} where
  pub going_none : Going trade w0 t0 s0 w0 t0 s0 0
  going_none = record { table = refl; tape = refl; rest = refl; halted = refl; trades = omega arith }

  pub going_more : (f : Fill) (v : Walk) (t : List OrderRow) (s : List TradeRow) (n : ℕ) → Going trade w0 t0 s0 (fill_then f v) t s n → Going trade w0 t0 s0 v (set t f.slot.index (row_left f.slot.row f.quantity)) (s ++ trade f ∷ []) (n + 1)
  going_more f v t s n k =
      record {
        table = k.table;
        tape = append_assoc s (trade f ∷ []) (map trade v.fills) ∙ k.tape;
        rest = k.rest;
        halted = k.halted;
        trades = omega (arith, k.trades);
      }

  pub going_end : (w : Walk) (q : ℕ) (h : Bool) (t : List OrderRow) (s : List TradeRow) (n before after : ℕ) → Going trade w0 t0 s0 w t s n → RoomLeft before n after → w ≡ stop q h → record { table : t ≡ filled w0.fills t0; tape : s ≡ s0 ++ map trade w0.fills; room : RoomLeft before (length w0.fills) after; trades : n ≡ length w0.fills; rest : q ≡ w0.rest; halted : h ≡ w0.halted }
  going_end w q h t s n before after k room e =
      let j : Going trade w0 t0 s0 (stop q h) t s n = subst (λ (v : Walk). Going trade w0 t0 s0 v t s n) e k in
      record { table = j.table; tape = sym (append-nil s) ∙ j.tape; room = (room.0, omega (arith, j.trades, room.1)); trades = omega (arith, j.trades); rest = j.rest; halted = j.halted }

  pub going_on : (w v : Walk) (f : Fill) (t : List OrderRow) (s r : List TradeRow) (n : ℕ) → Going trade w0 t0 s0 w t s n → w ≡ fill_then f v → r ≡ s ++ trade f ∷ [] → Going trade w0 t0 s0 v (set t f.slot.index (row_left f.slot.row f.quantity)) r (n + 1)
  going_on w v f t s r n k e x =
      let j : Going trade w0 t0 s0 (fill_then f v) t s n = subst (λ (v : Walk). Going trade w0 t0 s0 v t s n) e k in
      subst (λ (r : List TradeRow). Going trade w0 t0 s0 v (set t f.slot.index (row_left f.slot.row f.quantity)) r (n + 1)) (sym x) (going_more f v t s n j)

-- the first order of the queue is filled, and the walk goes on down the new table's queue with what is left
pub step : (reaches : ℕ → ℕ → Bool) (lo hi limit : ℕ) (lt : Slot → Slot → Bool) (p : Slot → Bool) → ((k : ℕ) → p (slot k free) ≡ false) → (q m left : ℕ) (rows : List OrderRow) (e : Slot) → head (part lt p 0 (counted rows)) ≡ Some e → (q ≡ 0 → ⊥) → reaches limit e.row.price ≡ true → tradeable lo hi e.row.price ≡ true → m ≡ min q e.row.rest → left ≡ q - m → walk reaches lo hi limit q (part lt p 0 (counted rows)) ≡ fill_then (fill_of e m) (walk reaches lo hi limit left (part lt p 0 (counted (set rows e.index (row_left e.row m)))))
step reaches lo hi limit lt p nobody q m left rows e h n r o s l =
    walk_fill reaches lo hi limit q (part lt p 0 (counted rows)) e h n r o
    ∙ ap (λ (k : ℕ). fill_then (fill_of e k) (walk reaches lo hi limit (q - k) (tail (part lt p 0 (counted rows))))) (sym s)
    ∙ ap (fill_then (fill_of e m)) (walk_on reaches lo hi limit lt p nobody q m rows e h s)
    ∙ ap (λ (k : ℕ). fill_then (fill_of e m) (walk reaches lo hi limit k (part lt p 0 (counted (set rows e.index (row_left e.row m)))))) (sym l)

-- w is left of the walk w0 after n fills
pub record Left (w0 w : Walk) (n : ℕ) : Type 0 where
  pub rest : w.rest ≡ w0.rest
  pub halted : w.halted ≡ w0.halted
  pub trades : n + length w.fills ≡ length w0.fills

pub left_on : (w0 w v : Walk) (f : Fill) (n : ℕ) → Left w0 w n → w ≡ fill_then f v → Left w0 v (n + 1)
left_on w0 w v f n k e =
    let j : Left w0 (fill_then f v) n = subst (λ (x : Walk). Left w0 x n) e k in
    record { rest = j.rest; halted = j.halted; trades = omega (arith, j.trades) }

pub left_end : (w0 w : Walk) (q : ℕ) (h : Bool) (n : ℕ) → Left w0 w n → w ≡ stop q h → record { trades : n ≡ length w0.fills; rest : q ≡ w0.rest; halted : h ≡ w0.halted }
left_end w0 w q h n k e =
    let j : Left w0 (stop q h) n = subst (λ (x : Walk). Left w0 x n) e k in
    record { trades = omega (arith, j.trades); rest = j.rest; halted = j.halted }

-- the first order is filled, and the walk goes on down the rest with what is left
pub step_down : (reaches : ℕ → ℕ → Bool) (lo hi limit q left : ℕ) (es ds : List Slot) (e : Slot) → head es ≡ Some e → (q ≡ 0 → ⊥) → reaches limit e.row.price ≡ true → tradeable lo hi e.row.price ≡ true → left ≡ q - min q e.row.rest → ds ≡ tail es → walk reaches lo hi limit q es ≡ fill_then (fill_of e (min q e.row.rest)) (walk reaches lo hi limit left ds)
step_down reaches lo hi limit q left es ds e h n r o s d =
    walk_fill reaches lo hi limit q es e h n r o
    ∙ ap (λ (k : ℕ). fill_then (fill_of e (min q e.row.rest)) (walk reaches lo hi limit k (tail es))) (sym s)
    ∙ ap (λ (l : List Slot). fill_then (fill_of e (min q e.row.rest)) (walk reaches lo hi limit left l)) (sym d)

-- no order rests in a free place
pub nobody_free : (code product k : ℕ) → rests code product (slot k free) ≡ false
unfolding fair
nobody_free code product k = refl
