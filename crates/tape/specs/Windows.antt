-- The records just before a time, and what they add up to. Assumes nothing.
use Rattle.std.specs.Prelude.{ℕ, ◌+◌, ◌*◌, Bool, ◌&&◌, List, sum_by, filter, ◌==◌, nat_le}
use Rattle.tape.specs.declared.row.TradeRow.{TradeRow}

abbrev pub window_seconds : ℕ
window_seconds = 60

abbrev pub in_window : ℕ → ℕ → TradeRow → Bool
in_window product time r = r.product == product && nat_le time (r.time + window_seconds)

-- the records of a product that are at most a window older than the time
abbrev pub window : ℕ → ℕ → List TradeRow → List TradeRow
window product time rows = filter (in_window product time) rows

abbrev pub worth : TradeRow → ℕ
worth r = r.price * r.quantity

-- price times quantity, over all records
abbrev pub turnover : List TradeRow → ℕ
turnover rows = sum_by worth rows

abbrev pub volume : List TradeRow → ℕ
volume rows = sum_by (λ r. r.quantity) rows
