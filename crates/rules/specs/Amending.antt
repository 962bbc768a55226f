-- A resting order is amended or withdrawn. Assumes nothing.
use Rattle.std.specs.Prelude.{ℕ, ◌+◌, Bool, false, cond, not, ◌&&◌, ◌||◌, List, [], Some, None, Option, ◌==◌, nat_lt, slice_set}
use Rattle.book.specs.Walks.{Fill, filled}
use Rattle.orders.specs.Queue.{Slot, slot}
use Rattle.orders.specs.Questions.{order_numbered}
use Rattle.orders.specs.Rows.{free}
use Rattle.orders.specs.declared.row.OrderRow.{OrderRow}
use Rattle.terms.specs.declared.halt.Halt.TheVariants.{Nothing}
use Rattle.terms.specs.declared.side.Side.{Side}
use Rattle.terms.specs.declared.side.Side.TheVariants.{Buy, Sell}
use Rattle.rules.specs.Arrivals.{Arrival, met, arrived, receipt_for}
use Rattle.rules.specs.Worlds.{World, world, state_of, at_time, is_open}
use Rattle.rules.specs.declared.amendment.Amendment.{Amendment}
use Rattle.rules.specs.Receipts.{Receipt}

-- the place of the order of a number, if one rests
abbrev pub place_of : World → ℕ → Option Slot
place_of w number = order_numbered w.products.count number w.table

abbrev pub slot_or_none : Option Slot → Slot
slot_or_none None = slot 0 free
slot_or_none (Some a) = a

unfoldable pub slot_in : World → ℕ → Slot
slot_in w number = slot_or_none (place_of w number)

-- the order of a number, as it rests
abbrev pub order_in : World → ℕ → OrderRow
order_in w number = (slot_in w number).row

abbrev pub belongs : ℕ → Option Slot → Bool
belongs participant None = false
belongs participant (Some a) = a.row.participant == participant

-- an order of this number rests for the participant
abbrev pub rests_for : World → ℕ → ℕ → Bool
rests_for w participant number = belongs participant (place_of w number)

abbrev pub side_in : ℕ → Side
side_in code = cond (code == 0) Buy Sell

module _ (w : World) (m : Amendment) where
  abbrev pub amended_order : OrderRow
  amended_order = order_in w m.order

  abbrev pub new_price : Bool
  new_price = not (m.price == amended_order.price)

  abbrev pub larger : Bool
  larger = nat_lt amended_order.rest m.quantity

  -- a new price and an increase give up the place; a decrease keeps it
  abbrev pub takes_stamp : Bool
  takes_stamp = new_price || larger

  -- with a new price, in an open product, it arrives like an entry
  abbrev pub arrives_again : Bool
  arrives_again = new_price && is_open w amended_order.product

  abbrev pub stamp_after : ℕ
  stamp_after = cond takes_stamp (w.state.stamp + 1) w.state.stamp

  -- as it arrives: under its own number, for what it still is
  abbrev pub repriced : ℕ → Arrival
  repriced time =
      record {
        time = time;
        product = amended_order.product;
        side = side_in amended_order.side;
        limit = m.price;
        quantity = m.quantity;
        whole = false;
        number = amended_order.number;
        place = w.state.stamp + 1;
        participant = amended_order.participant;
        duration = amended_order.duration;
        date = amended_order.date;
        entered = amended_order.entered;
      }

  -- the trades that it makes
  abbrev pub amended_fills : ℕ → List Fill
  amended_fills time = cond arrives_again (met w (repriced time)).fills []

  -- as it rests where it does not arrive
  abbrev pub changed_order : OrderRow
  changed_order =
      record {
        number = amended_order.number;
        place = cond takes_stamp (w.state.stamp + 1) amended_order.place;
        product = amended_order.product;
        side = amended_order.side;
        price = m.price;
        rest = m.quantity;
        participant = amended_order.participant;
        duration = amended_order.duration;
        date = amended_order.date;
        entered = amended_order.entered;
      }

  -- it leaves its place, and what is left of it comes back there
  abbrev pub after_arrival : ℕ → ℕ → World
  after_arrival time room =
      arrived w (repriced time) (slot_in w m.order).index
      (slice_set (filled (met w (repriced time)).fills w.table) (slot_in w m.order).index free) room

  abbrev pub after_change : ℕ → ℕ → World
  after_change time room =
      world
      (state_of w.state.phase w.state.day time stamp_after w.state.halted)
      w.products
      w.tells
      (slice_set w.table (slot_in w m.order).index changed_order)
      w.tape
      room

  unfoldable pub after_amendment : ℕ → ℕ → World
  after_amendment time room = cond arrives_again (after_arrival time room) (after_change time room)

  abbrev pub changed_receipt : Receipt
  changed_receipt = record { number = amended_order.number; traded = 0; rest = m.quantity; trades = 0; halt = Nothing }

  unfoldable pub amended_receipt : ℕ → Receipt
  amended_receipt time = cond arrives_again (receipt_for w (repriced time)) changed_receipt

-- its place is free from now on
abbrev pub after_withdrawal : World → ℕ → ℕ → World
after_withdrawal w time number =
    world (at_time time w.state) w.products w.tells (slice_set w.table (slot_in w number).index free) w.tape w.room
