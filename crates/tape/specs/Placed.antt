-- A tape in memory: what stands at each place, counted from 0, and how many of the places are in use. Assumes nothing.
use Rattle.std.specs.Prelude.{◌≡◌, ℕ, suc, ◌<◌, ◌≤◌, true, List, map}
use Rattle.std.specs.List.{range_with_len}
use Rattle.tape.specs.Rows.{fair}
use Rattle.tape.specs.declared.row.TradeRow.{TradeRow}

-- the records of the places in use
abbrev pub placed : (ℕ → TradeRow) → ℕ → List TradeRow
placed at used = map at (range_with_len 0 used)

abbrev pub FairPlaces : (ℕ → TradeRow) → ℕ → Type 0
FairPlaces at used = (k : ℕ) → k < used → fair (at k) ≡ true

abbrev pub RisingPlaces : (ℕ → TradeRow) → ℕ → Type 0
RisingPlaces at used = (k : ℕ) → suc k < used → (at k).time ≤ (at (suc k)).time
