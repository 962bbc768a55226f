-- An order comes to rest: in which free place is open, and no more. Assumes nothing.
use Rattle.std.specs.Prelude.{◌≡◌, ℕ, List, Ok, Err, Result, slice_set}
use Rattle.orders.specs.Orders.{row_of}
use Rattle.orders.specs.Questions.{FreePlace}
use Rattle.orders.specs.declared.full.TableFull.{TableFull}
use Rattle.orders.specs.declared.order.Order.{Order}
use Rattle.orders.specs.declared.row.OrderRow.{OrderRow}

abbrev pub ComesToRest : ℕ → Order → List OrderRow → Result ℕ TableFull → List OrderRow → Type 0
ComesToRest products order before (Ok i) after = FreePlace products before (Ok i) × (after ≡ slice_set before i (row_of order))
ComesToRest products order before (Err full) after = FreePlace products before (Err full) × (after ≡ before)
