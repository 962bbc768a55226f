-- Times that never fall, and the last of them. Assumes nothing.
use Rattle.std.proofs.Common.{◌≡◌, ℕ, zero, suc, ◌+◌, ◌<◌, ◌≤◌, List, [], ◌∷◌, ◌++◌, length, get_or, take, All, sym, refl, ap, ◌∙◌, arith}
use Rattle.std.proofs.lemmas.List.Elements.{All-nil, All-cons, All-get_or, All-weaker}
use Rattle.std.proofs.lemmas.List.{take_all, take_more}
use Rattle.tape.specs.Tapes.{blank, latest_since, latest, Rising}
use Rattle.tape.specs.declared.row.TradeRow.{TradeRow}

latest_push_since : (time : ℕ) (rows : List TradeRow) (r : TradeRow) → latest_since time (rows ++ r ∷ []) ≡ r.time
latest_push_since time [] r = refl
latest_push_since time (x ∷ rows) r = latest_push_since x.time rows r

pub latest_push : (rows : List TradeRow) (r : TradeRow) → latest (rows ++ r ∷ []) ≡ r.time
latest_push rows r = latest_push_since 0 rows r

-- the last record's time, by its place
pub latest_at : (rows : List TradeRow) (n : ℕ) (d : TradeRow) → n + 1 ≡ length rows → latest rows ≡ (get_or rows n d).time
latest_at rows n d e =
    ap latest (sym (take_all (n + 1) rows (omega arith)) ∙ take_more rows n d (omega arith)) ∙ latest_push (take n rows) (get_or rows n d)

-- between any two records, by their places
pub rising_at : (rows : List TradeRow) (i j : ℕ) → Rising rows → i ≤ j → j < length rows → (get_or rows i blank).time ≤ (get_or rows j blank).time
rising_at [] i j h le lt = absurd (omega arith)
rising_at (r ∷ rows) zero zero h le lt = omega arith
rising_at (r ∷ rows) zero (suc j) h le lt = All-get_or (λ later. r.time ≤ later.time) rows j blank (omega arith) h.0
rising_at (r ∷ rows) (suc i) zero h le lt = absurd (omega arith)
rising_at (r ∷ rows) (suc i) (suc j) h le lt = rising_at rows i j h.1 (omega arith) (omega arith)

later_all : (time : ℕ) (rows : List TradeRow) → Rising rows → (0 < length rows → time ≤ (get_or rows 0 blank).time) → All (λ later. time ≤ later.time) rows
later_all time [] h first = All-nil (λ later. time ≤ later.time)
later_all time (r ∷ rows) h first =
    let f : time ≤ r.time = first (omega arith) in
    All-cons (λ later. time ≤ later.time) r rows f (All-weaker (λ later. r.time ≤ later.time) (λ later. time ≤ later.time) (λ later le. omega arith) rows h.0)

-- it is enough that no time is above the next one
pub rising_from_next : (rows : List TradeRow) → ((k : ℕ) → suc k < length rows → (get_or rows k blank).time ≤ (get_or rows (suc k) blank).time) → Rising rows
rising_from_next [] next = tt
rising_from_next (r ∷ rows) next =
    let rest = rising_from_next rows (λ k lt. next (suc k) (omega arith)) in
    (later_all r.time rows rest (λ some. next 0 (omega arith)), rest)
