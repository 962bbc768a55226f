-- Step 2: what the last trade of the day tells. Assumes nothing.
use Rattle.std.specs.Prelude.{ℕ, Bool, cond, List, Option, nat_le}
use Rattle.std.specs.Option.{option_map}
use Rattle.listing.specs.declared.product.Product.{Product}
use Rattle.tape.specs.Days.{last_of}
use Rattle.tape.specs.Tapes.{record_at}
use Rattle.tape.specs.declared.row.TradeRow.{TradeRow}

-- the product was adjusted after trade n: the tape held that trade already
abbrev pub adjusted_since : Product → ℕ → Bool
adjusted_since p n = nat_le n p.adjusted

-- the trade's price, or the reference price where an adjustment came later
abbrev pub worth_since : Product → List TradeRow → ℕ → ℕ
worth_since p records n = cond (adjusted_since p n) p.reference (record_at records n).price

abbrev pub last_worth : Product → List TradeRow → ℕ → ℕ → Option ℕ
last_worth p records product day = option_map (worth_since p records) (last_of product day records)
