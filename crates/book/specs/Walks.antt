-- Going down a queue: the fills, what is left, and whether the walk halted. Assumes nothing.
use Rattle.std.specs.Prelude.{ℕ, ◌-◌, min, Bool, true, false, cond, List, [], ◌∷◌, ◌==◌, slice_set}
use Rattle.limits.specs.Ranges.{tradeable}
use Rattle.limits.specs.declared.range.Range.{Range}
use Rattle.orders.specs.Queue.{Slot, queue}
use Rattle.orders.specs.Rows.{free}
use Rattle.orders.specs.declared.row.OrderRow.{OrderRow}
use Rattle.tape.specs.declared.row.TradeRow.{TradeRow}
use Rattle.book.specs.declared.arriving.Arriving.{Arriving}
use Rattle.book.specs.declared.incoming.Incoming.{Incoming}

-- a resting order, where it stands, and how much of it trades
pub record Fill : Type 0 where
  pub slot : Slot
  pub quantity : ℕ

pub record Walk : Type 0 where
  pub fills : List Fill
  pub rest : ℕ
  pub halted : Bool

abbrev pub stop : ℕ → Bool → Walk
stop q halted = record { fills = []; rest = q; halted = halted }

abbrev pub fill_of : Slot → ℕ → Fill
fill_of a m = record { slot = a; quantity = m }

abbrev pub fill_then : Fill → Walk → Walk
fill_then f w = record { fills = f ∷ w.fills; rest = w.rest; halted = w.halted }

-- down the queue while quantity is left and the limit reaches the resting price;
-- a match outside low to high is not made, and halts
abbrev pub walk : (ℕ → ℕ → Bool) → ℕ → ℕ → ℕ → ℕ → List Slot → Walk
walk reaches low high limit q [] = stop q false
walk reaches low high limit q (a ∷ rest) =
    cond (q == 0) (stop q false)
    (cond (reaches limit a.row.price)
    (cond (tradeable low high a.row.price)
    (fill_then (fill_of a (min q a.row.rest)) (walk reaches low high limit (q - min q a.row.rest) rest))
    (stop q true))
    (stop q false))

-- what a place holds once m of its order is filled
abbrev pub row_left : OrderRow → ℕ → OrderRow
row_left r m =
    cond (r.rest == m) free
    (record {
      number = r.number;
      place = r.place;
      product = r.product;
      side = r.side;
      price = r.price;
      rest = r.rest - m;
      participant = r.participant;
      duration = r.duration;
      date = r.date;
      entered = r.entered;
    })

-- the table once the fills are made
abbrev pub filled : List Fill → List OrderRow → List OrderRow
filled [] table = table
filled (f ∷ fills) table = filled fills (slice_set table f.slot.index (row_left f.slot.row f.quantity))

-- the record of a fill: code is that of the resting side, 0 for buys
abbrev pub trade_by : ℕ → Arriving → Fill → TradeRow
trade_by code a f =
    record {
      product = a.order.product;
      time = a.order.time;
      price = f.slot.row.price;
      quantity = f.quantity;
      buy = cond (code == 0) f.slot.row.number a.number.number;
      sell = cond (code == 0) a.number.number f.slot.row.number;
      buyer = cond (code == 0) f.slot.row.participant a.order.participant.number;
      seller = cond (code == 0) a.order.participant.number f.slot.row.participant;
      established = a.order.established.ticks;
      no_bust = a.order.no_bust;
      mark = 0;
      day = a.order.day;
    }

-- an arriving order against the queue of a side, inside two price ends
abbrev pub matching : (ℕ → ℕ → Bool) → ℕ → (OrderRow → OrderRow → Bool) → Incoming → Range → List OrderRow → Walk
matching reaches code first o range table =
    walk reaches range.low.ticks range.high.ticks o.limit.ticks o.quantity.lots (queue code first o.product table)
