-- The last trade of a product on a day. Assumes nothing.
use Rattle.std.specs.Prelude.{◌≡◌, ℕ, ◌+◌, ◌<◌, Bool, true, false, cond, ◌&&◌, List, [], ◌∷◌, Some, None, Option, ◌==◌}
use Rattle.tape.specs.Tapes.{on_tape, record_at}
use Rattle.tape.specs.declared.last.LastTrade.{LastTrade}
use Rattle.tape.specs.declared.row.TradeRow.{TradeRow}

abbrev pub of_day : ℕ → ℕ → TradeRow → Bool
of_day product day r = r.product == product && r.day == day

abbrev pub last_from : (TradeRow → Bool) → ℕ → Option ℕ → List TradeRow → Option ℕ
last_from test n found [] = found
last_from test n found (r ∷ rows) = last_from test (n + 1) (cond (test r) (Some n) found) rows

-- the number of the last record of a product on a day
abbrev pub last_of : ℕ → ℕ → List TradeRow → Option ℕ
last_of product day rows = last_from (of_day product day) 1 None rows

-- that record's number and price, as they are told
abbrev pub TellsLast : ℕ → ℕ → List TradeRow → Option LastTrade → Type 0
TellsLast product day rows None = last_of product day rows ≡ None
TellsLast product day rows (Some last) =
    (last_of product day rows ≡ Some last.number) × (last.price.ticks ≡ (record_at rows last.number).price)

-- the same without counting: it is of the product and the day, and none that follows it is
abbrev pub IsLast : ℕ → ℕ → List TradeRow → Option LastTrade → Type 0
IsLast product day rows None = (k : ℕ) → on_tape rows k ≡ true → of_day product day (record_at rows k) ≡ false
IsLast product day rows (Some last) =
    (on_tape rows last.number ≡ true) × (of_day product day (record_at rows last.number) ≡ true) × ((k : ℕ) → last.number < k → on_tape rows k ≡ true → of_day product day (record_at rows k) ≡ false)
