-- Which numbers make an order, and what the codes in a place of the table mean. Assumes nothing.
use Rattle.std.specs.Prelude.{ℕ, Bool, cond, ◌&&◌, is_some, Some, None, Option, ◌==◌, nat_le}
use Rattle.terms.specs.Ranges.{highest_price, largest_quantity, last_participant}
use Rattle.terms.specs.declared.duration.Duration.{Duration}
use Rattle.terms.specs.declared.duration.Duration.TheVariants.{Now, Session, Day, Until, UntilCancelled}
use Rattle.terms.specs.declared.side.Side.{Side}
use Rattle.terms.specs.declared.side.Side.TheVariants.{Buy, Sell}
use Rattle.orders.specs.declared.row.OrderRow.{OrderRow}

abbrev pub side_code : Side → ℕ
side_code Buy = 0
side_code Sell = 1

abbrev pub side_of : ℕ → Option Side
side_of code = cond (code == 0) (Some Buy) (cond (code == 1) (Some Sell) None)

abbrev pub duration_code : Duration → ℕ
duration_code Now = 0
duration_code Session = 1
duration_code Day = 2
duration_code (Until date) = 3
duration_code UntilCancelled = 4

abbrev pub duration_date : Duration → ℕ
duration_date Now = 0
duration_date Session = 0
duration_date Day = 0
duration_date (Until date) = date
duration_date UntilCancelled = 0

-- a duration that can rest; only an order until a date has one
abbrev pub duration_of : ℕ → ℕ → Option Duration
duration_of code date =
    cond (code == 3) (Some (Until date))
    (cond (date == 0)
    (cond (code == 1) (Some Session) (cond (code == 2) (Some Day) (cond (code == 4) (Some UntilCancelled) None)))
    None)

-- every number is in its range
unfoldable pub fair : OrderRow → Bool
fair r =
    is_some (side_of r.side) && is_some (duration_of r.duration r.date) && nat_le r.price highest_price
    && (nat_le 1 r.rest && nat_le r.rest largest_quantity)
    && (nat_le 1 r.participant && nat_le r.participant last_participant)
    && nat_le 1 r.number && nat_le 1 r.place

-- what a place holds when no order does
abbrev pub free : OrderRow
free =
    record {
      number = 0;
      place = 0;
      product = 0;
      side = 0;
      price = 0;
      rest = 0;
      participant = 0;
      duration = 0;
      date = 0;
      entered = 0;
    }
