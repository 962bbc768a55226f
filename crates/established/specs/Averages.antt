-- Step 1: the average over the trades of the window. Assumes nothing.
use Rattle.std.specs.Prelude.{ℕ, ◌/◌, cond, List, Some, None, Option, nat_lt}
use Rattle.tape.specs.Windows.{window, turnover, volume}
use Rattle.tape.specs.declared.row.TradeRow.{TradeRow}
use Rattle.terms.specs.declared.price.Price.{Price}

abbrev pub ticks_of : Price → ℕ
ticks_of price = price.ticks

-- price times quantity over quantity, rounded down
abbrev pub average : List TradeRow → ℕ
average trades = turnover trades / volume trades

-- where there are trades
abbrev pub average_if : List TradeRow → Option ℕ
average_if trades = cond (nat_lt 0 (volume trades)) (Some (average trades)) None

abbrev pub recent_average : List TradeRow → ℕ → ℕ → Option ℕ
recent_average records product time = average_if (window product time records)
