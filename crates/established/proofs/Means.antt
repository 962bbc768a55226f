-- An average of prices is a price. Assumes nothing.
use Rattle.std.proofs.Common.{◌≡◌, ℕ, ◌*◌, ◌≤◌, true, List, [], ◌∷◌, All, arith}
use native.Mathlib.Nat.{div-le_of_le-mul}
use Rattle.std.proofs.lemmas.Grind.{common_steps}
use Rattle.std.proofs.lemmas.Nat.{mul-le}
use Rattle.std.proofs.lemmas.List.Elements.{All-head, All-tail, All-filter, All-weaker}
use Rattle.std.proofs.lemmas.List.Sums.{sum_by-cons}
use Rattle.tape.specs.Rows.{fair}
use Rattle.tape.specs.Tapes.{Fair}
use Rattle.tape.specs.Windows.{in_window, window, worth, turnover, volume}
use Rattle.tape.specs.declared.row.TradeRow.{TradeRow}
use Rattle.terms.specs.Ranges.{highest_price}
use Rattle.established.specs.Averages.{average}

fair_price : (r : TradeRow) → fair r ≡ true → r.price ≤ highest_price
unfolding fair
fair_price r h = grind (arith, common_steps)

turnover_most : (rows : List TradeRow) → All (λ r. r.price ≤ highest_price) rows → turnover rows ≤ volume rows * highest_price
turnover_most [] a = omega arith
turnover_most (r ∷ rows) a =
    let more = turnover_most rows (All-tail (λ x. x.price ≤ highest_price) r rows a) in
    let one = mul-le r.price r.quantity highest_price r.quantity (All-head (λ x. x.price ≤ highest_price) r rows a) (omega arith) in
    omega (arith, sum_by-cons worth r rows, sum_by-cons (λ x. x.quantity) r rows)

-- over any fair records
pub average_priced : (records : List TradeRow) (product time : ℕ) → Fair records → average (window product time records) ≤ highest_price
average_priced records product time all =
    let priced = All-weaker (λ r. fair r ≡ true) (λ r. r.price ≤ highest_price) fair_price records all in
    div-le_of_le-mul _ (turnover_most _ (All-filter (in_window product time) (λ r. r.price ≤ highest_price) records priced))
