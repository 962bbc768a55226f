-- A tape in memory keeps what a tape promises: what a write at one place does to its records. Assumes nothing.
use Rattle.std.proofs.Common.{◌≡◌, ℕ, suc, ◌+◌, ◌-◌, ◌<◌, true, ◌≢◌, List, [], ◌∷◌, ◌++◌, length, get_or, set, sym, ap, ◌∙◌, ⊎_elim, arith, length-set}
use Rattle.std.proofs.lemmas.List.FromFn.{length-map-range_with_len, get_or-map-range_with_len, map-range_with_len_more}
use Rattle.std.proofs.lemmas.List.Elements.{All-from_get_or}
use Rattle.std.proofs.lemmas.List.{same_lists, get_or-set_same, get_or-set_other}
use Rattle.std.proofs.lemmas.Bool.{cases_eq}
use Rattle.tape.proofs.Times.{latest_at, rising_from_next}
use Rattle.tape.specs.Placed.{placed, FairPlaces, RisingPlaces}
use Rattle.tape.specs.Rows.{fair}
use Rattle.tape.specs.Tapes.{blank, latest, Fair, Rising}
use Rattle.tape.specs.declared.row.TradeRow.{TradeRow}

pub length_placed : (at : ℕ → TradeRow) (n : ℕ) → length (placed at n) ≡ n
length_placed at n = length-map-range_with_len at 0 n

pub get_or_placed : (at : ℕ → TradeRow) (n k : ℕ) (d : TradeRow) → k < n → get_or (placed at n) k d ≡ at k
get_or_placed at n k d lt = get_or-map-range_with_len at 0 n k k d lt (omega arith)

pub fair_placed : (at : ℕ → TradeRow) (n : ℕ) → FairPlaces at n → Fair (placed at n)
fair_placed at n h =
    All-from_get_or (λ r. fair r ≡ true) (placed at n) blank
    (λ k lt. let l : k < n = omega (arith, length_placed at n) in rw (get_or_placed at n k blank l) (h k l))

pub rising_placed : (at : ℕ → TradeRow) (n : ℕ) → RisingPlaces at n → Rising (placed at n)
rising_placed at n h =
    rising_from_next (placed at n)
    (λ k lt.
    let l : suc k < n = omega (arith, length_placed at n) in
    let m : k < n = omega arith in
    rw (get_or_placed at n k blank m, get_or_placed at n (suc k) blank l) (h k l))

pub placed_same : (at at' : ℕ → TradeRow) (n : ℕ) → ((k : ℕ) → k < n → at' k ≡ at k) → placed at' n ≡ placed at n
placed_same at at' n h =
    same_lists (placed at' n) (placed at n) (length_placed at' n ∙ sym (length_placed at n))
    (λ k d lt.
    let l : k < n = omega (arith, length_placed at' n) in
    get_or_placed at' n k d l ∙ h k l ∙ sym (get_or_placed at n k d l))

-- one more record, written at the first place that was not in use
pub placed_push : (at at' : ℕ → TradeRow) (n : ℕ) (r : TradeRow) → ((k : ℕ) → k < n → at' k ≡ at k) → at' n ≡ r → placed at' (n + 1) ≡ placed at n ++ r ∷ []
placed_push at at' n r h e =
    map-range_with_len_more at' 0 n n (omega arith) ∙ ap (λ (xs : List TradeRow). xs ++ at' n ∷ []) (placed_same at at' n h) ∙ ap (λ (x : TradeRow). placed at n ++ x ∷ []) e

-- another record at a place that is in use
pub placed_set : (at at' : ℕ → TradeRow) (n i : ℕ) (r : TradeRow) → i < n → ((k : ℕ) → k ≢ i → at' k ≡ at k) → at' i ≡ r → placed at' n ≡ set (placed at n) i r
placed_set at at' n i r lt h e =
    let long : length (placed at n) ≡ n = length_placed at n in
    same_lists (placed at' n) (set (placed at n) i r) (length_placed at' n ∙ sym long ∙ sym (length-set (placed at n) i r))
    (λ k d l.
    let m : k < n = omega (arith, length_placed at' n) in
    ⊎_elim
    (λ (here : k ≡ i).
    get_or_placed at' n k d m ∙ ap at' here ∙ e ∙ sym (rw here (get_or-set_same (placed at n) i r d (omega arith))))
    (λ (other : k ≡ i → ⊥).
    get_or_placed at' n k d m ∙ h k other ∙ sym (get_or-set_other (placed at n) i k r d other ∙ get_or_placed at n k d m))
    (cases_eq k i))

pub latest_placed : (at : ℕ → TradeRow) (n : ℕ) → 0 < n → latest (placed at n) ≡ (at (n - 1)).time
latest_placed at n some =
    latest_at (placed at n) (n - 1) blank (omega (arith, length_placed at n)) ∙ ap (λ (r : TradeRow). r.time) (get_or_placed at n (n - 1) blank (omega arith))
