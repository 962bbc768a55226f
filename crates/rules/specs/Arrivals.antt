-- An order arrives in its product's book: what it meets, what it trades, what it leaves. Assumes nothing.
use Rattle.std.specs.Prelude.{ℕ, Bool, true, false, cond, ◌||◌, List, ◌++◌, map, length, nat_le}
use Rattle.book.specs.Entries.{settled}
use Rattle.book.specs.Sweeps.{due, lots_filled}
use Rattle.book.specs.Walks.{Fill, Walk, walk}
use Rattle.listing.specs.Changes.{with_halt, Contents}
use Rattle.rules.specs.Held.{with_product, product_in}
use Rattle.listing.specs.declared.kind.Kind.{Kind}
use Rattle.listing.specs.declared.kind.Kind.TheVariants.{Future, Option as AnOption}
use Rattle.orders.specs.Queue.{Slot, queue, higher_first, lower_first}
use Rattle.orders.specs.Rows.{side_code}
use Rattle.orders.specs.declared.row.OrderRow.{OrderRow}
use Rattle.tape.specs.declared.row.TradeRow.{TradeRow}
use Rattle.terms.specs.declared.halt.Halt.{Halt}
use Rattle.terms.specs.declared.halt.Halt.TheVariants.{Nothing, OneOption, WholeMarket}
use Rattle.terms.specs.declared.side.Side.{Side}
use Rattle.terms.specs.declared.side.Side.TheVariants.{Buy, Sell}
use Rattle.rules.specs.Worlds.{World, world, state_of, product_of, range_in, established_in}
use Rattle.rules.specs.Receipts.{Receipt}

-- an order on its way into the book
pub record Arrival : Type 0 where
  pub time : ℕ
  pub product : ℕ
  pub side : Side
  pub limit : ℕ
  pub quantity : ℕ
  -- it trades whole or not at all
  pub whole : Bool
  pub number : ℕ
  -- where it stands in time: the stamp that it takes
  pub place : ℕ
  pub participant : ℕ
  -- how long what is left of it may rest
  pub duration : ℕ
  pub date : ℕ
  pub entered : ℕ

-- a limit reaches a resting price
abbrev pub reaches : Side → ℕ → ℕ → Bool
reaches Buy limit price = nat_le price limit
reaches Sell limit price = nat_le limit price

-- the queue that an order of a side meets
abbrev pub facing : Side → ℕ → List OrderRow → List Slot
facing Buy n table = queue 1 lower_first n table
facing Sell n table = queue 0 higher_first n table

unfoldable pub met : World → Arrival → Walk
met w a =
    due a.whole
    (walk (reaches a.side) (range_in w a.product).low.ticks (range_in w a.product).high.ticks a.limit a.quantity
    (facing a.side a.product w.table))

abbrev pub by_side : Side → ℕ → ℕ → ℕ
by_side Buy x y = x
by_side Sell x y = y

-- the record of a fill: the established market price is that before the call
abbrev pub traded : World → Arrival → Fill → TradeRow
traded w a f =
    record {
      product = a.product;
      time = a.time;
      price = f.slot.row.price;
      quantity = f.quantity;
      buy = by_side a.side a.number f.slot.row.number;
      sell = by_side a.side f.slot.row.number a.number;
      buyer = by_side a.side a.participant f.slot.row.participant;
      seller = by_side a.side f.slot.row.participant a.participant;
      established = established_in w a.time a.product;
      no_bust = (product_of w a.product).listed.no_bust;
      mark = 0;
      day = w.state.day;
    }

-- what is left of it rests at its price
abbrev pub remainder : Arrival → ℕ → OrderRow
remainder a rest =
    record {
      number = a.number;
      place = a.place;
      product = a.product;
      side = side_code a.side;
      price = a.limit;
      rest = rest;
      participant = a.participant;
      duration = a.duration;
      date = a.date;
      entered = a.entered;
    }

-- a future halts the whole market, an option only itself
abbrev pub halt_by : Kind → Bool → Halt
halt_by Future halted = cond halted WholeMarket Nothing
halt_by (AnOption right strike underlying) halted = cond halted OneOption Nothing

abbrev pub halt_in : World → Arrival → Halt
halt_in w a = halt_by (product_of w a.product).listed.kind (met w a).halted

abbrev pub halts_market : Halt → Bool
halts_market Nothing = false
halts_market OneOption = false
halts_market WholeMarket = true

abbrev pub halting : Halt → ℕ → Contents → Contents
halting Nothing n ps = ps
halting OneOption n ps = with_product ps n (with_halt true (product_in ps n))
halting WholeMarket n ps = ps

-- the order has arrived: what is left of it rests at an index of the table that its fills left
unfoldable pub arrived : World → Arrival → ℕ → List OrderRow → ℕ → World
arrived w a i table room =
    world
    (state_of w.state.phase w.state.day a.time a.place (halts_market (halt_in w a) || w.state.halted))
    (halting (halt_in w a) a.product w.products)
    w.tells
    (settled (remainder a) i (met w a).rest table)
    (w.tape ++ map (traded w a) (met w a).fills)
    room

abbrev pub receipt_for : World → Arrival → Receipt
receipt_for w a =
    record {
      number = a.number;
      traded = lots_filled (met w a).fills;
      rest = (met w a).rest;
      trades = length (met w a).fills;
      halt = halt_in w a;
    }
