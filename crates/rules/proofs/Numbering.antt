-- The checks of each call are numbered as told, and their numbers rise. Assumes nothing.
use Rattle.std.proofs.Common.{◌≡◌, ℕ, Bool, true, false, ◌&&◌, eqb, leb, List, [], ◌∷◌, map, length, Some, None, Option, sym, refl, ap}
use Rattle.std.specs.List.{range_with_len}
use Rattle.std.proofs.lemmas.Bool.{and_parts, leb-true}
use Rattle.listing.specs.Changes.{all_prices, Contents}
use Rattle.rules.specs.Held.{settle_check}
use Rattle.orders.specs.declared.row.OrderRow.{OrderRow}
use Rattle.terms.specs.Checks.{unless, earliest}
use Rattle.terms.specs.Refusals.{refusal_number}
use Rattle.terms.specs.declared.duration.Duration.{Duration}
use Rattle.terms.specs.declared.duration.Duration.TheVariants.{Now, Session, Day, Until, UntilCancelled}
use Rattle.terms.specs.declared.field.Field.TheVariants.{Price as the_price, Settlements}
use Rattle.terms.specs.declared.price.Price.{Price}
use Rattle.terms.specs.declared.refusal.Refusal.{Refusal}
use Rattle.terms.specs.declared.refusal.Refusal.TheVariants.{OutOfRange}
use Rattle.terms.specs.declared.side.Side.{Side}
use Rattle.rules.specs.Amending.{order_in, side_in, new_price}
use Rattle.rules.specs.Calls.{Call, roll, open_session, close_session, enter, amend, withdraw, adjust, frenetic, resume, request, determine}
use Rattle.rules.specs.Numbers.{check_numbers, Rising, Numbered, Told}
use Rattle.rules.specs.Refusing.{checks, limit_check, date_check, limit_held, amended_limit, crossed_check}
use Rattle.rules.specs.Worlds.{World, sweep_in}

abbrev number_in : ℕ → Option Refusal → ℕ
number_in n None = n
number_in n (Some refusal) = refusal_number refusal

none : (n : ℕ) → Numbered n None
none n r e = sym (ap (number_in n) e)

one : (b : Bool) (refusal : Refusal) → Numbered (refusal_number refusal) (unless b refusal)
one true refusal = none (refusal_number refusal)
one false refusal = λ r e. sym (ap (number_in 0) e)

-- of checks that all have one number
first : (n : ℕ) (check : Option Refusal) (later : List (Option Refusal)) → Numbered n check → Numbered n (earliest later) → Numbered n (earliest (check ∷ later))
first n None later h k = k
first n (Some refusal) later h k = h

limit_told : (limit : Option ℕ) → Numbered 8 (limit_check limit)
limit_told None = none 8
limit_told (Some price) = one _ _

date_told : (day : ℕ) (duration : Duration) → Numbered 8 (date_check day duration)
date_told day Now = none 8
date_told day Session = none 8
date_told day Day = none 8
date_told day (Until date) = one _ _
date_told day UntilCancelled = none 8

held_told : (side : Side) (limit : Option ℕ) (sweep : Price) → Numbered 11 (limit_held side limit sweep)
held_told side None sweep = none 11
held_told side (Some price) sweep = one _ _

crossed_told : (table : List OrderRow) (products : List ℕ) → Numbered 16 (earliest (map (crossed_check table) products))
crossed_told table [] = none 16
crossed_told table (n ∷ products) = first 16 (crossed_check table n) (map (crossed_check table) products) (one _ _) (crossed_told table products)

settled_told : (ps : Contents) (prices : List ℕ) → Numbered 8 (settle_check ps prices)
settled_told ps prices =
    let count : Option Refusal = unless (eqb (length prices) ps.count) (OutOfRange Settlements) in
    first 8 (unless (all_prices prices) (OutOfRange the_price)) (count ∷ []) (one _ _) (first 8 count [] (one _ _) (none 8))

pub told : (w : World) (time : ℕ) (c : Call) → Told (check_numbers c) (checks w time c)
told w time (roll prices) = (one _ _, (one _ _, (settled_told w.products prices, (one _ _, tt))))
told w time open_session = (one _ _, (one _ _, (crossed_told w.table (range_with_len 0 w.products.count), tt)))
told w time close_session = (one _ _, (one _ _, tt))
told w time (enter o) = (one _ _, (one _ _, (one _ _, (limit_told o.limit, (one _ _, (one _ _, (date_told w.state.day o.duration, (one _ _, (held_told o.side o.limit _, (one _ _, (one _ _, (one _ _, tt))))))))))))
told w time (amend m) = (one _ _, (one _ _, (one _ _, (one _ _, (one _ _, (one _ _, (held_told (side_in (order_in w m.order).side) (amended_limit (new_price w m) m.price) (sweep_in w (side_in (order_in w m.order).side) (order_in w m.order).product), (one _ _, (one _ _, tt)))))))))
told w time (withdraw participant number) = (one _ _, (one _ _, (one _ _, (one _ _, tt))))
told w time (adjust n price) = (one _ _, (one _ _, (one _ _, tt)))
told w time (frenetic n ticks) = (one _ _, (one _ _, (one _ _, tt)))
told w time resume = (one _ _, (one _ _, (crossed_told w.table (range_with_len 0 w.products.count), tt)))
told w time (request participant n) = (one _ _, (one _ _, (one _ _, (one _ _, (one _ _, (one _ _, (one _ _, tt)))))))
told w time (determine n verdict) = (one _ _, (one _ _, (one _ _, tt)))

abbrev rises : List ℕ → Bool
rises [] = true
rises (m ∷ []) = true
rises (m ∷ n ∷ numbers) = leb m n && rises (n ∷ numbers)

so_rising : (numbers : List ℕ) → rises numbers ≡ true → Rising numbers
so_rising [] e = tt
so_rising (m ∷ []) e = tt
so_rising (m ∷ n ∷ numbers) e = let p = and_parts (leb m n) (rises (n ∷ numbers)) e in (leb-true m n p.0, so_rising (n ∷ numbers) p.1)

all_rise : (c : Call) → rises (check_numbers c) ≡ true
all_rise (roll prices) = refl
all_rise open_session = refl
all_rise close_session = refl
all_rise (enter o) = refl
all_rise (amend m) = refl
all_rise (withdraw participant number) = refl
all_rise (adjust n price) = refl
all_rise (frenetic n ticks) = refl
all_rise resume = refl
all_rise (request participant n) = refl
all_rise (determine n verdict) = refl

pub rising : (c : Call) → Rising (check_numbers c)
rising c = so_rising (check_numbers c) (all_rise c)
