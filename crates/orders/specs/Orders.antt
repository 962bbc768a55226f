-- An order as the numbers of its place. Assumes nothing.
use Rattle.std.specs.Prelude.{◌≡◌, ℕ, true, false, Some, None, Option}
use Rattle.orders.specs.Rows.{fair, side_code, duration_code, duration_date}
use Rattle.orders.specs.declared.order.Order.{Order}
use Rattle.orders.specs.declared.row.OrderRow.{OrderRow}

abbrev pub row_of : Order → OrderRow
row_of o =
    record {
      number = o.number.number;
      place = o.place.number;
      product = o.product;
      side = side_code o.side;
      price = o.price.ticks;
      rest = o.rest.lots;
      participant = o.participant.number;
      duration = duration_code o.duration;
      date = duration_date o.duration;
      entered = o.entered;
    }

-- the same order at a new place in time, a new price, and with so much of it left
abbrev pub come_back_row : OrderRow → ℕ → ℕ → ℕ → OrderRow
come_back_row row place price rest =
    record {
      number = row.number;
      place = place;
      product = row.product;
      side = row.side;
      price = price;
      rest = rest;
      participant = row.participant;
      duration = row.duration;
      date = row.date;
      entered = row.entered;
    }

-- fair numbers, and no others, are an order, which has just these numbers
abbrev pub Checks : OrderRow → Option Order → Type 0
Checks r None = fair r ≡ false
Checks r (Some o) = (fair r ≡ true) × (row_of o ≡ r)
