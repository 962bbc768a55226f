-- An order that came to the book arrives as the rule says. Assumes nothing.
use Rattle.std.proofs.Common.{◌≡◌, ℕ, ◌+◌, ◌<◌, Bool, cond, not, eqb, ltb, List, [], ◌∷◌, ◌++◌, map, length, Some, None, Ok, Err, Option, Result, sym, refl, ap, ◌∙◌, subst, arith}
use Rattle.std.proofs.lemmas.Bool.{lt-ltb}
use Rattle.book.specs.Entries.{Enters, EntersFrom, arriving_as, settled, SomePlace}
use Rattle.book.specs.Sweeps.{RoomLeft, due, lots_filled}
use Rattle.book.specs.Walks.{Fill, Walk, walk, matching, filled, trade_by}
use Rattle.book.specs.declared.arriving.Arriving.{Arriving}
use Rattle.book.specs.declared.incoming.Incoming.{Incoming}
use Rattle.book.specs.declared.outcome.Receipt.{Receipt}
use Rattle.limits.specs.declared.range.Range.{Range}
use Rattle.orders.specs.Queue.{Slot, queue, higher_first, lower_first}
use Rattle.orders.specs.Rows.{duration_code, duration_date}
use Rattle.orders.specs.declared.row.OrderRow.{OrderRow}
use Rattle.rules.specs.Arrivals.{Arrival, met, traded, remainder, reaches, facing, by_side}
use Rattle.rules.specs.Refusing.{place_check, tape_check, next_check}
use Rattle.listing.specs.Changes.{Contents}
use Rattle.rules.specs.Worlds.{World, world, range_in, product_of, established_in}
use Rattle.rules.specs.declared.state.State.{State}
use Rattle.tape.specs.declared.row.TradeRow.{TradeRow}
use Rattle.terms.specs.Checks.{earliest, unless}
use Rattle.terms.specs.Durations.{may_rest}
use Rattle.terms.specs.declared.refusal.Refusal.{Refusal}
use Rattle.terms.specs.declared.refusal.Refusal.TheVariants.{NotListed}
use Rattle.terms.specs.declared.right.Right.{Right}
use Rattle.terms.specs.declared.side.Side.{Side}
use Rattle.terms.specs.declared.side.Side.TheVariants.{Buy, Sell}
use Rattle.entering.specs.Entries.{plain}

-- the orders that an order of a side meets: their code, and which of them comes first
abbrev pub code_met : Side → ℕ
code_met Buy = 1
code_met Sell = 0

abbrev pub first_met : Side → OrderRow → OrderRow → Bool
first_met Buy = lower_first
first_met Sell = higher_first

facing_is : (side : Side) (n : ℕ) (table : List OrderRow) → queue (code_met side) (first_met side) n table ≡ facing side n table
facing_is Buy n table = refl
facing_is Sell n table = refl

of_side : (side : Side) (x y : ℕ) → cond (eqb (code_met side) 0) x y ≡ by_side side y x
of_side Buy x y = refl
of_side Sell x y = refl

-- over the queue of a side, as the book has it
enters_by : {T : Type 0} (records : T → List TradeRow) (space : T → ℕ) (products stamp : ℕ) (side : Side) (i : Incoming) (range : Range) (table : List OrderRow) (tape : T) (r : Result (Receipt Bool) Refusal) (table' : List OrderRow) (tape' : T) →
    EntersFrom records space products stamp side i range table tape r table' tape' →
    Enters (reaches side) (code_met side) (first_met side) records space products stamp i range table tape r table' tape'
enters_by records space products stamp Buy i range table tape r table' tape' h = h
enters_by records space products stamp Sell i range table tape r table' tape' h = h

-- an arriving order in plain numbers: what it meets and trades is what the rule's arrival does
module _ (w : World) (a : Arriving) (whole : Bool) (number place entered : ℕ) where
  abbrev pub in_numbers : Arrival
  in_numbers =
      record {
        time = a.order.time;
        product = a.order.product;
        side = a.order.side;
        limit = a.order.limit.ticks;
        quantity = a.order.quantity.lots;
        whole = whole;
        number = number;
        place = place;
        participant = a.order.participant.number;
        duration = duration_code a.order.duration;
        date = duration_date a.order.duration;
        entered = entered;
      }

  abbrev pub walked : Range → Walk
  walked range = due whole (matching (reaches a.order.side) (code_met a.order.side) (first_met a.order.side) a.order range w.table)

  pub walked_is : (range : Range) → range ≡ range_in w a.order.product → walked range ≡ met w in_numbers
  unfolding met
  walked_is range e =
      ap walked e
      ∙ ap (λ (q : List Slot). due whole (walk (reaches a.order.side) (range_in w a.order.product).low.ticks (range_in w a.order.product).high.ticks a.order.limit.ticks a.order.quantity.lots q))
      (facing_is a.order.side a.order.product w.table)

  pub record Recorded : Type 0 where
    pub numbered : a.number.number ≡ number
    pub worth : a.order.established.ticks ≡ established_in w a.order.time a.order.product
    pub width : a.order.no_bust ≡ (product_of w a.order.product).listed.no_bust
    pub today : a.order.day ≡ w.state.day

  pub record_is : Recorded → (f : Fill) → trade_by (code_met a.order.side) a f ≡ traded w in_numbers f
  record_is r f =
      let side = a.order.side in
      let buy = of_side side f.slot.row.number a.number.number ∙ ap (λ (n : ℕ). by_side side n f.slot.row.number) r.numbered in
      let sell = of_side side a.number.number f.slot.row.number ∙ ap (by_side side f.slot.row.number) r.numbered in
      λ j. record {
        product = a.order.product;
        time = a.order.time;
        price = f.slot.row.price;
        quantity = f.quantity;
        buy = buy j;
        sell = sell j;
        buyer = of_side side f.slot.row.participant a.order.participant.number j;
        seller = of_side side a.order.participant.number f.slot.row.participant j;
        established = r.worth j;
        no_bust = r.width j;
        mark = 0;
        day = r.today j;
      }

-- a walk is made: what is answered, and what stands after it
pub record Arrives (w : World) (b : Arrival) (v : Walk) (index : ℕ) (left : List OrderRow → List OrderRow) (r : Receipt Bool) (table' : List OrderRow) (tape' : List TradeRow) (room' : ℕ) : Type 0 where
  pub number_is : r.number ≡ b.number
  pub traded_is : r.traded ≡ lots_filled v.fills
  pub rest_is : r.rest ≡ v.rest
  pub trades_is : r.trades ≡ length v.fills
  pub halted_is : r.halt ≡ v.halted
  pub room : RoomLeft w.room (length v.fills) room'
  pub table_is : table' ≡ settled (remainder b) index v.rest (left (filled v.fills w.table))
  pub tape_is : tape' ≡ w.tape ++ map (traded w b) v.fills

-- the checks that the book makes: no place, no room, no stamp
abbrev pub back_checks : World → Arrival → Walk → List (Option Refusal)
back_checks w b v = place_check w ∷ tape_check w b.time (length v.fills) ∷ next_check w.state.stamp ∷ []

-- an accepted order, in the rule's words
pub record Entered (w : World) (b : Arrival) (v : Walk) (r : Receipt Bool) (table' : List OrderRow) (tape' : List TradeRow) (room' : ℕ) : Type 0 where
  pub passes : earliest (back_checks w b v) ≡ None
  pub place : ℕ
  pub free_before : SomePlace w.products.count w.table place
  pub arrives : Arrives w b v place (λ table. table) r table' tape' room'

-- the book's first check has passed before
listed_first : (n count : ℕ) (cs : List (Option Refusal)) → n < count → earliest (unless (ltb n count) (NotListed n) ∷ cs) ≡ earliest cs
listed_first n count cs h = rw (lt-ltb n count h)

module _ {T : Type 0} (records : T → List TradeRow) (space : T → ℕ) (s : State) (ps : Contents) (tells : Right → ℕ → ℕ → ℕ) (table : List OrderRow) (tape : T) (i : Incoming) (range : Range) (listed : i.product < ps.count) where
  abbrev here : World
  here = world s ps tells table (records tape) (space tape)

  abbrev coming : Arrival
  coming = plain i (s.stamp + 1)

  abbrev planned : Walk
  planned = walked here (arriving_as i (s.stamp + 1)) (not (may_rest i.duration)) (s.stamp + 1) (s.stamp + 1) i.day range

  module _ (ranged : range ≡ range_in here i.product) where
    walk_is : planned ≡ met here coming
    walk_is = walked_is here (arriving_as i (s.stamp + 1)) (not (may_rest i.duration)) (s.stamp + 1) (s.stamp + 1) i.day range ranged

    pub turned_down : (e : Refusal) (table' : List OrderRow) (tape' : T) → EntersFrom records space ps.count s.stamp i.side i range table tape (Err e) table' tape' →
        (earliest (back_checks here coming (met here coming)) ≡ Some e) × (table' ≡ table) × (tape' ≡ tape)
    turned_down e table' tape' h =
        let t = enters_by records space ps.count s.stamp i.side i range table tape (Err e) table' tape' h in
        (subst (λ (v : Walk). earliest (back_checks here coming v) ≡ Some e) walk_is (sym (listed_first i.product ps.count (back_checks here coming planned) listed) ∙ t.0), t.1, t.2)

    pub taken_in : i.established.ticks ≡ established_in here i.time i.product → i.no_bust ≡ (product_of here i.product).listed.no_bust → i.day ≡ s.day →
        (r : Receipt Bool) (table' : List OrderRow) (tape' : T) → EntersFrom records space ps.count s.stamp i.side i range table tape (Ok r) table' tape' → RoomLeft (space tape) r.trades (space tape') →
        Entered here coming (met here coming) r table' (records tape') (space tape')
    taken_in worth width today r table' tape' h room =
        let a = arriving_as i (s.stamp + 1) in
        let numbered : a.number.number ≡ s.stamp + 1 = omega arith in
        let t = enters_by records space ps.count s.stamp i.side i range table tape (Ok r) table' tape' h in
        let e = t.1 in
        let same = record_is here a (not (may_rest i.duration)) (s.stamp + 1) (s.stamp + 1) i.day (record { numbered = numbered; worth = worth; width = width; today = today }) in
        subst (λ (v : Walk). Entered here coming v r table' (records tape') (space tape')) walk_is
        (record {
          passes = sym (listed_first i.product ps.count (back_checks here coming planned) listed) ∙ t.0;
          place = e.place;
          free_before = e.free_before;
          arrives = record {
            number_is = e.number;
            traded_is = e.traded;
            rest_is = e.rest;
            trades_is = e.trades;
            halted_is = e.halted;
            room = subst (λ (n : ℕ). RoomLeft (space tape) n (space tape')) e.trades room;
            table_is = e.reduced ∙ ap (λ (k : ℕ). settled (remainder coming) e.place k (filled planned.fills table)) e.rest;
            tape_is = e.written ∙ (λ j. records tape ++ map (λ f. same f j) planned.fills);
          };
        })
