-- An order at the desk: its checks, and what it comes in as. Assumes nothing.
use Rattle.std.specs.Prelude.{◌≡◌, ℕ, ◌≤◌, Bool, not, ◌&&◌, List, [], ◌∷◌, Some, None, Ok, Err, Option, Result, nat_le}
use Rattle.std.proofs.Common.{arith}
use Rattle.std.specs.Option.{option_map}
use Rattle.book.specs.Entries.{EntersFrom}
use Rattle.book.specs.declared.incoming.Incoming.{Incoming}
use Rattle.book.specs.declared.outcome.Receipt.{Receipt}
use Rattle.console.specs.declared.command.Order.{Order}
use Rattle.limits.specs.Ranges.{tradeable_range}
use Rattle.limits.specs.Sweeps.{anchor_price, sweep_price, limit_held}
use Rattle.orders.specs.Questions.{best_facing}
use Rattle.orders.specs.declared.row.OrderRow.{OrderRow}
use Rattle.tape.specs.Ranges.{last_product, widest_no_bust}
use Rattle.tape.specs.declared.row.TradeRow.{TradeRow}
use Rattle.terms.specs.Checked.{price_at, quantity_at, participant_at}
use Rattle.terms.specs.Checks.{unless, earliest}
use Rattle.terms.specs.Ranges.{highest_price, largest_quantity, last_participant}
use Rattle.terms.specs.declared.field.Field.TheVariants.{Price as the_price, Quantity as the_quantity, Participant as the_participant}
use Rattle.terms.specs.declared.participant.Participant.{Participant}
use Rattle.terms.specs.declared.price.Price.{Price}
use Rattle.terms.specs.declared.quantity.Quantity.{Quantity}
use Rattle.terms.specs.declared.refusal.Refusal.{Refusal}
use Rattle.terms.specs.declared.refusal.Refusal.TheVariants.{NotListed, OutOfRange, Halted}
use Rattle.terms.specs.declared.side.Side.{Side}
use Rattle.desk.specs.declared.desk.Desk.{Desk}
use Rattle.desk.specs.declared.desk.Product.{Product}

abbrev pub sweep_of : Product → Side → List OrderRow → Price
sweep_of product side table = sweep_price side (anchor_price (best_facing side 0 table) product.reference) product.sweep

-- a market order is a limit order at its sweep price
abbrev pub entry_price : Option ℕ → Price → Price
entry_price None sweep = sweep
entry_price (Some ticks) sweep = price_at ticks

abbrev pub limit_check : Option ℕ → Option Refusal
limit_check None = None
limit_check (Some ticks) = unless (nat_le ticks highest_price) (OutOfRange the_price)

pub small_product : 0 ≤ last_product
small_product = omega arith

pub small_width : 0 ≤ widest_no_bust
small_width = omega arith

-- its trades are written with the reference price, at time 0 of day 0
abbrev pub incoming_of : Product → Order → Price → Quantity → Participant → Incoming
incoming_of product order limit quantity participant =
    record {
      side = order.side;
      product = 0;
      participant = participant;
      limit = limit;
      quantity = quantity;
      duration = order.duration;
      time = 0;
      day = 0;
      established = product.reference;
      no_bust = 0;
      listed = small_product;
      narrow = small_width;
    }

-- what may stop an order at the desk, in the order in which it is tested
abbrev pub desk_checks : Product → Bool → List OrderRow → Order → List (Option Refusal)
desk_checks product halted table order =
    limit_check order.limit
    ∷ unless (nat_le 1 order.quantity && nat_le order.quantity largest_quantity) (OutOfRange the_quantity)
    ∷ unless (nat_le 1 order.participant && nat_le order.participant last_participant) (OutOfRange the_participant)
    ∷ unless (not halted) (Halted 0)
    ∷ limit_held order.side (option_map price_at order.limit) (sweep_of product order.side table) ∷ []

abbrev pub comes_in : Product → List OrderRow → Order → Incoming
comes_in product table order =
    incoming_of product order (entry_price order.limit (sweep_of product order.side table)) (quantity_at order.quantity) (participant_at order.participant)

-- the number of the order is the last one given, and it may have halted the desk
abbrev pub after_entry : Desk → Result (Receipt Bool) Refusal → Desk
after_entry desk (Ok receipt) = record { product = desk.product; stamp = receipt.number; halted = receipt.halt }
after_entry desk (Err refusal) = desk

module _ {T : Type 0} (records : T → List TradeRow) (space : T → ℕ) where
  -- refused at the desk, with nothing changed
  pub record TurnedDown (refusal : Refusal) (desk : Desk) (table : List OrderRow) (tape : T) (r : Result (Receipt Bool) Refusal) (desk' : Desk) (table' : List OrderRow) (tape' : T) : Type 0 where
    pub told : r ≡ Err refusal
    pub same_desk : desk' ≡ desk
    pub same_table : table' ≡ table
    pub same_tape : tape' ≡ tape

  -- it comes to the book
  pub record ComesToBook (product : Product) (order : Order) (desk : Desk) (table : List OrderRow) (tape : T) (r : Result (Receipt Bool) Refusal) (desk' : Desk) (table' : List OrderRow) (tape' : T) : Type 0 where
    pub enters : EntersFrom records space 1 desk.stamp order.side (comes_in product table order) (tradeable_range product.reference.ticks product.daily) table tape r table' tape'
    pub leaves : desk' ≡ after_entry desk r

  abbrev pub ByChecks : Option Refusal → Product → Order → Desk → List OrderRow → T → Result (Receipt Bool) Refusal → Desk → List OrderRow → T → Type 0
  ByChecks (Some refusal) product order desk table tape r desk' table' tape' = TurnedDown refusal desk table tape r desk' table' tape'
  ByChecks None product order desk table tape r desk' table' tape' = ComesToBook product order desk table tape r desk' table' tape'

  abbrev pub DeskEnters : Option Product → Order → Desk → List OrderRow → T → Result (Receipt Bool) Refusal → Desk → List OrderRow → T → Type 0
  DeskEnters None order desk table tape r desk' table' tape' = TurnedDown (NotListed 0) desk table tape r desk' table' tape'
  DeskEnters (Some product) order desk table tape r desk' table' tape' =
      ByChecks (earliest (desk_checks product desk.halted table order)) product order desk table tape r desk' table' tape'
