-- Walking a tape back from its last record: what one record adds, and where the walk may stop. Assumes nothing.
use Rattle.std.proofs.Common.{◌≡◌, ℕ, suc, ◌+◌, ◌-◌, ◌*◌, ◌<◌, ◌≤◌, Bool, true, false, cond, eqb, leb, List, [], ◌∷◌, ◌++◌, length, get_or, take, Some, None, All, sum_by, filter, Option, sym, refl, ap, ◌∙◌, add-zero, zero-add, arith}
use Rattle.std.proofs.lemmas.Nat.{mul-le}
use Rattle.std.proofs.lemmas.List.Elements.{filter_more, All-head, All-tail, All-from_get_or, All-filter, All-weaker}
use Rattle.std.proofs.lemmas.List.{take_more, length-take-le, get_or-take}
use Rattle.std.proofs.lemmas.List.Sums.{sum_by-append, sum_by-le, length-filter, count_by-le-length}
use Rattle.std.proofs.lemmas.Bool.{and_parts, and_from, and_left, and_right, lt-leb, le-leb, leb-true, eq-eqb, ne_eqb}
use Rattle.terms.specs.Ranges.{highest_price, largest_quantity}
use Rattle.tape.proofs.Times.{rising_at}
use Rattle.tape.specs.Days.{of_day, last_from, last_of}
use Rattle.tape.specs.Ranges.{last_mark, last_product, most_records}
use Rattle.tape.specs.Rows.{fair, lies}
use Rattle.tape.specs.Tapes.{blank, Fair, Rising, Found}
use Rattle.tape.specs.Trades.{row_of}
use Rattle.tape.specs.Windows.{in_window, window, window_seconds, worth, turnover, volume}
use Rattle.tape.specs.declared.row.TradeRow.{TradeRow}
use Rattle.tape.specs.declared.trade.Trade.{Trade}

one_kept : (b : Bool) (f : TradeRow → ℕ) (r : TradeRow) → sum_by f (cond b (r ∷ []) []) ≡ cond b (f r) 0
one_kept true f r = zero-add (f r)
one_kept false f r = refl

-- the last of n records is the first that the walk meets
pub back_more : (f : TradeRow → ℕ) (test : TradeRow → Bool) (rows : List TradeRow) (n : ℕ) → 0 < n → n ≤ length rows → sum_by f (filter test (take n rows)) ≡ sum_by f (filter test (take (n - 1) rows)) + cond (test (get_or rows (n - 1) blank)) (f (get_or rows (n - 1) blank)) 0
back_more f test rows n some in' =
    let e : n ≡ n - 1 + 1 = omega arith in
    let r = get_or rows (n - 1) blank in
    ap (λ (k : ℕ). sum_by f (filter test (take k rows))) e
    ∙ ap (sum_by f) (filter_more test rows (n - 1) blank (omega arith))
    ∙ sum_by-append f (filter test (take (n - 1) rows)) (cond (test r) (r ∷ []) [])
    ∙ ap (λ (k : ℕ). sum_by f (filter test (take (n - 1) rows)) + k) (one_kept (test r) f r)

module _ (f : TradeRow → ℕ) (product time : ℕ) (rows : List TradeRow) (n : ℕ) (trade : Trade) (some : 0 < n) (in' : n ≤ length rows) (found : Found rows n trade) where
  at_trade : sum_by f (window product time (take n rows)) ≡ sum_by f (window product time (take (n - 1) rows)) + cond (in_window product time (row_of trade)) (f (row_of trade)) 0
  at_trade =
      back_more f (in_window product time) rows n some in'
      ∙ ap (λ (r : TradeRow). sum_by f (window product time (take (n - 1) rows)) + cond (in_window product time r) (f r) 0) (sym found.same)

  pub back_taken : trade.product ≡ product → time ≤ trade.time + window_seconds → sum_by f (window product time (take n rows)) ≡ sum_by f (window product time (take (n - 1) rows)) + f (row_of trade)
  back_taken same late =
      let e : in_window product time (row_of trade) ≡ true =
      and_from (eqb trade.product product) (leb time (trade.time + window_seconds)) (eq-eqb trade.product product same) (le-leb time (trade.time + window_seconds) late) in
      at_trade ∙ ap (λ (b : Bool). sum_by f (window product time (take (n - 1) rows)) + cond b (f (row_of trade)) 0) e

  pub back_passed : (trade.product ≡ product → ⊥) → sum_by f (window product time (take n rows)) ≡ sum_by f (window product time (take (n - 1) rows))
  back_passed other =
      let e : in_window product time (row_of trade) ≡ false =
      and_left (eqb trade.product product) (leb time (trade.time + window_seconds)) (ne_eqb trade.product product other) in
      at_trade ∙ ap (λ (b : Bool). sum_by f (window product time (take (n - 1) rows)) + cond b (f (row_of trade)) 0) e ∙ add-zero (sum_by f (window product time (take (n - 1) rows)))

kept_none : (test : TradeRow → Bool) (rows : List TradeRow) → All (λ r. test r ≡ false) rows → filter test rows ≡ []
kept_none test [] h = refl
kept_none test (r ∷ rows) h =
    rw (All-head (λ r. test r ≡ false) r rows h) (kept_none test rows (All-tail (λ r. test r ≡ false) r rows h))

-- where one record is too old, so is each before it
pub back_done : (product time : ℕ) (rows : List TradeRow) (n : ℕ) → Rising rows → 0 < n → n ≤ length rows → (trade : Trade) → Found rows n trade → trade.time + window_seconds < time → window product time (take n rows) ≡ []
back_done product time rows n rises some in' trade found early =
    let old : trade.time ≡ (get_or rows (n - 1) blank).time = ap (λ (r : TradeRow). r.time) found.same in
    kept_none (in_window product time) (take n rows)
    (All-from_get_or (λ r. in_window product time r ≡ false) (take n rows) blank
    (λ i lt.
    let l : i < n = omega (arith, length-take-le n rows in') in
    let e : get_or (take n rows) i blank ≡ get_or rows i blank = get_or-take n rows i blank l in
    let before : (get_or rows i blank).time ≤ (get_or rows (n - 1) blank).time = rising_at rows i (n - 1) rises (omega arith) (omega arith) in
    rw e (and_right (eqb (get_or rows i blank).product product) (leb time ((get_or rows i blank).time + window_seconds)) (lt-leb time ((get_or rows i blank).time + window_seconds) (omega arith)))))

fair_quantity : (r : TradeRow) → fair r ≡ true → r.quantity ≤ largest_quantity
unfolding fair
fair_quantity r h =
    let a = (and_parts (leb r.mark last_mark) _ h).1 in
    let b = (and_parts (leb r.product last_product) _ a).1 in
    let c = (and_parts (leb r.price highest_price) _ b).1 in
    let d = (and_parts (lies 1 largest_quantity r.quantity) _ c).0 in
    leb-true r.quantity largest_quantity (and_parts (leb 1 r.quantity) (leb r.quantity largest_quantity) d).1

fair_price : (r : TradeRow) → fair r ≡ true → r.price ≤ highest_price
unfolding fair
fair_price r h =
    let a = (and_parts (leb r.mark last_mark) _ h).1 in
    let b = (and_parts (leb r.product last_product) _ a).1 in
    leb-true r.price highest_price (and_parts (leb r.price highest_price) _ b).0

few_kept : (test : TradeRow → Bool) (rows : List TradeRow) → length (filter test rows) ≤ length rows
few_kept test rows = omega (arith, length-filter test rows, count_by-le-length test rows)

kept_sum_le : (f : TradeRow → ℕ) (m : ℕ) (test : TradeRow → Bool) (rows : List TradeRow) → All (λ r. f r ≤ m) rows → length rows ≤ most_records → sum_by f (filter test rows) ≤ most_records * m
kept_sum_le f m test rows each few =
    let a = sum_by-le f m (filter test rows) (All-filter test (λ r. f r ≤ m) rows each) in
    let b = mul-le (length (filter test rows)) m most_records m (omega (arith, few_kept test rows)) (omega arith) in
    omega arith

-- no sum over a window leaves its type
pub turnover_bound : (product time : ℕ) (rows : List TradeRow) → Fair rows → length rows ≤ most_records → turnover (window product time rows) ≤ most_records * (highest_price * largest_quantity)
turnover_bound product time rows all few =
    kept_sum_le worth (highest_price * largest_quantity) (in_window product time) rows
    (All-weaker (λ r. fair r ≡ true) (λ r. worth r ≤ highest_price * largest_quantity) (λ r h. mul-le r.price r.quantity highest_price largest_quantity (fair_price r h) (fair_quantity r h)) rows all)
    few

pub volume_bound : (product time : ℕ) (rows : List TradeRow) → Fair rows → length rows ≤ most_records → volume (window product time rows) ≤ most_records * largest_quantity
volume_bound product time rows all few =
    kept_sum_le (λ r. r.quantity) largest_quantity (in_window product time) rows
    (All-weaker (λ r. fair r ≡ true) (λ r. r.quantity ≤ largest_quantity) fair_quantity rows all)
    few

last_push_from : (test : TradeRow → Bool) (n : ℕ) (found : Option ℕ) (rows : List TradeRow) (r : TradeRow) → last_from test n found (rows ++ r ∷ []) ≡ cond (test r) (Some (n + length rows)) (last_from test n found rows)
last_push_from test n found [] r = rw add-zero refl
last_push_from test n found (x ∷ rows) r =
    let e : n + 1 + length rows ≡ n + suc (length rows) = omega arith in
    last_push_from test (n + 1) (cond (test x) (Some n) found) rows r
    ∙ ap (λ (k : ℕ). cond (test r) (Some k) (last_from test (n + 1) (cond (test x) (Some n) found) rows)) e

pub last_more : (product day : ℕ) (rows : List TradeRow) (n : ℕ) → 0 < n → n ≤ length rows → last_of product day (take n rows) ≡ cond (of_day product day (get_or rows (n - 1) blank)) (Some n) (last_of product day (take (n - 1) rows))
last_more product day rows n some in' =
    let e : n ≡ n - 1 + 1 = omega arith in
    let f : 1 + length (take (n - 1) rows) ≡ n = omega (arith, length-take-le (n - 1) rows (omega arith)) in
    let r = get_or rows (n - 1) blank in
    ap (λ (k : ℕ). last_of product day (take k rows)) e
    ∙ ap (last_of product day) (take_more rows (n - 1) blank (omega arith))
    ∙ last_push_from (of_day product day) 1 None (take (n - 1) rows) r
    ∙ ap (λ (k : ℕ). cond (of_day product day r) (Some k) (last_of product day (take (n - 1) rows))) f

-- what a walk over a window uses
pub ruleset window_steps = (back_taken, back_passed, back_done, turnover_bound, volume_bound)
