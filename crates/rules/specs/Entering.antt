-- An order is entered. Assumes nothing.
use Rattle.std.specs.Prelude.{ℕ, ◌+◌, not, Some, None, Option}
use Rattle.book.specs.Walks.{filled}
use Rattle.orders.specs.Rows.{duration_code, duration_date}
use Rattle.terms.specs.Durations.{may_rest}
use Rattle.rules.specs.Arrivals.{Arrival, met, arrived}
use Rattle.rules.specs.Worlds.{World, sweep_in}
use Rattle.rules.specs.declared.new_order.NewOrder.{NewOrder}

-- a market order is a limit order at its sweep price
abbrev pub limit_or : Option ℕ → ℕ → ℕ
limit_or None sweep = sweep
limit_or (Some ticks) sweep = ticks

-- it takes the next stamp as its number and its place
abbrev pub entry : World → ℕ → NewOrder → Arrival
entry w time o =
    record {
      time = time;
      product = o.product;
      side = o.side;
      limit = limit_or o.limit (sweep_in w o.side o.product).ticks;
      quantity = o.quantity;
      whole = not (may_rest o.duration);
      number = w.state.stamp + 1;
      place = w.state.stamp + 1;
      participant = o.participant;
      duration = duration_code o.duration;
      date = duration_date o.duration;
      entered = w.state.day;
    }

-- which free place it fills, and how much room the tape then has, is open
abbrev pub after_entry : World → ℕ → NewOrder → ℕ → ℕ → World
after_entry w time o place room =
    arrived w (entry w time o) place (filled (met w (entry w time o)).fills w.table) room
