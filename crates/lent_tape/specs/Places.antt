-- Places of memory, counted from 0, that hold a record each. Assumes nothing.
use Rattle.std.specs.Prelude.{◌≡◌, ℕ, ◌<◌, ◌≤◌, ◌≢◌, cond, Some, None, Option, nat_lt}
use Rattle.tape.specs.declared.row.TradeRow.{TradeRow}

-- the record at a place; none past the last place
abbrev pub record_if : ℕ → (ℕ → TradeRow) → ℕ → Option TradeRow
record_if size at k = cond (nat_lt k size) (Some (at k)) None

module _ {S : Type 0} (size : S → ℕ) (at : S → ℕ → TradeRow) where
  -- the place holds the record and every other place what it held; past the last place nothing changes
  pub record Writes (before : S) (k : ℕ) (r : TradeRow) (after : S) : Type 0 where
    pub sized : size after ≡ size before
    pub here : k < size before → at after k ≡ r
    pub others : (j : ℕ) → j ≢ k → at after j ≡ at before j
    pub past : size before ≤ k → at after k ≡ at before k
