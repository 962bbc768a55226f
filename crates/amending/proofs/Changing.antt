-- An amendment is a step by its rule: changed in place, or come back to the book. Assumes nothing.
use Rattle.std.proofs.Common.{◌≡◌, ℕ, ◌+◌, Bool, true, false, cond, not, ◌&&◌, ◌||◌, eqb, ltb, List, [], ◌∷◌, ◌++◌, map, length, set, Some, None, Ok, Err, Option, Result, sym, refl, ap, ◌∙◌, subst, arith}
use Rattle.std.proofs.lemmas.Bool.{and_parts}
use Rattle.std.specs.Option.{unwrap_or, MatchOption}
use Rattle.book.specs.Entries.{settled}
use Rattle.book.specs.Receipts.{with_halt}
use Rattle.book.specs.Sweeps.{RoomLeft}
use Rattle.book.specs.Walks.{Fill, Walk, filled}
use Rattle.book.specs.declared.arriving.Arriving.{Arriving}
use Rattle.book.specs.declared.outcome.Receipt.{Receipt}
use Rattle.book.specs.declared.outcome.Swept.{Swept}
use Rattle.limits.specs.declared.range.Range.{Range}
use Rattle.listing.specs.Changes.{Contents}
use Rattle.orders.specs.Orders.{row_of, come_back_row}
use Rattle.orders.specs.Queue.{Slot, slot_of}
use Rattle.orders.specs.Rows.{free, duration_code, duration_date}
use Rattle.orders.specs.declared.row.OrderRow.{OrderRow}
use Rattle.returning.specs.Returns.{ComesBack, ComesBackFrom}
use Rattle.rules.specs.Amending.{slot_in, side_in, order_in, new_price, larger, takes_stamp, arrives_again, repriced, amended_fills, changed_order, after_amendment, amended_receipt}
use Rattle.rules.specs.Arrivals.{Arrival, met, remainder, arrived, halt_by, halting, halts_market, receipt_for, reaches}
use Rattle.rules.specs.Calls.{amend, received}
use Rattle.rules.specs.Refusing.{fault, tape_check, next_check}
use Rattle.rules.specs.Rules.{Step}
use Rattle.rules.specs.Worlds.{World, world, state_of, in_session, is_open, product_of, range_in, established_in}
use Rattle.rules.specs.declared.amendment.Amendment.{Amendment}
use Rattle.rules.specs.declared.state.State.{State}
use Rattle.tape.specs.declared.row.TradeRow.{TradeRow}
use Rattle.terms.specs.Checked.{lots_left}
use Rattle.terms.specs.Checks.{earliest, first_of, unless}
use Rattle.terms.specs.Stamps.{last_stamp, stamp_at}
use Rattle.terms.specs.declared.stamp.Stamp.{Stamp}
use Rattle.terms.specs.declared.halt.Halt.{Halt}
use Rattle.terms.specs.declared.halt.Halt.TheVariants.{Nothing}
use Rattle.terms.specs.declared.refusal.Refusal.{Refusal}
use Rattle.terms.specs.declared.refusal.Refusal.TheVariants.{Exhausted}
use Rattle.terms.specs.declared.right.Right.{Right}
use Rattle.terms.specs.declared.side.Side.{Side}
use Rattle.terms.specs.declared.side.Side.TheVariants.{Buy, Sell}
use Rattle.amending.specs.Amendments.{early_checks, Amends, ArrivesAs}
use Rattle.amending.specs.declared.amended.Terms.{Terms}
use Rattle.amending.specs.declared.amended.Amended.{Amended}
use Rattle.entering.proofs.Arrived.{Arrives, code_met, first_met, in_numbers, walked, walked_is, record_is}
use Rattle.entering.proofs.Steps.{step_accepted, step_arrived}
use Rattle.amending.proofs.Owned.{side_read, slot_found, alone}
use Rattle.entering.proofs.Fronts.{all_passed}
use Rattle.market.proofs.Passed.{price_ticks, quantity_lots}
use Rattle.market.proofs.Ways.{earlier_fails, later_is}

-- over the queue of a side, as it is told of an order that comes back
back_by : {T : Type 0} (records : T → List TradeRow) (space : T → ℕ) (stamp : ℕ) (side : Side) (index : ℕ) (row : OrderRow) (r : Arriving) (range : Range) (table : List OrderRow) (tape : T) (a : Result Swept Refusal) (table' : List OrderRow) (tape' : T) →
    ComesBackFrom records space stamp side index row r range table tape a table' tape' → ComesBack (reaches side) (code_met side) (first_met side) records space stamp index row r range table tape a table' tape'
back_by records space stamp Buy index row r range table tape a table' tape' h = h
back_by records space stamp Sell index row r range table tape a table' tape' h = h

-- the checks that the book makes: no room, no stamp
abbrev pub back_checks : World → Arrival → Walk → List (Option Refusal)
back_checks w b v = tape_check w b.time (length v.fills) ∷ next_check w.state.stamp ∷ []

-- what came back, as it is told of an order that is entered
abbrev pub told_of : Arriving → Swept → Receipt Bool
told_of r s = record { number = r.number.number; traded = s.traded; rest = lots_left s.rest; trades = s.trades; halt = s.halted }

module _ {T : Type 0} (records : T → List TradeRow) (space : T → ℕ) (s : State) (ps : Contents) (tells : Right → ℕ → ℕ → ℕ) (table : List OrderRow) (tape : T) (time : ℕ) (a : Amended) (r : Arriving) (range : Range) where
  abbrev here : World
  here = world s ps tells table (records tape) (space tape)

  -- the order in plain numbers
  abbrev pub back : Arrival
  back = in_numbers here r false r.number.number (s.stamp + 1) a.entry.order.entered

  module _ (came : ArrivesAs here time a r) (ranged : range ≡ range_in here r.order.product) where
    walk_is : walked here r false r.number.number (s.stamp + 1) a.entry.order.entered range ≡ met here back
    walk_is = walked_is here r false r.number.number (s.stamp + 1) a.entry.order.entered range ranged

    by_side : (o : Result Swept Refusal) (table' : List OrderRow) (tape' : T) → ComesBackFrom records space s.stamp a.entry.order.side a.entry.index (row_of a.entry.order) r range table tape o table' tape' →
        ComesBack (reaches r.order.side) (code_met r.order.side) (first_met r.order.side) records space s.stamp a.entry.index (row_of a.entry.order) r range table tape o table' tape'
    by_side o table' tape' h =
        back_by records space s.stamp r.order.side a.entry.index (row_of a.entry.order) r range table tape o table' tape'
        (subst (λ (side : Side). ComesBackFrom records space s.stamp side a.entry.index (row_of a.entry.order) r range table tape o table' tape') (sym came.side) h)

    same_row : (rest : ℕ) → come_back_row (row_of a.entry.order) (s.stamp + 1) r.order.limit.ticks rest ≡ remainder back rest
    same_row rest = cc

    pub turned_back : (f : Refusal) (table' : List OrderRow) (tape' : T) → ComesBackFrom records space s.stamp a.entry.order.side a.entry.index (row_of a.entry.order) r range table tape (Err f) table' tape' →
        (earliest (back_checks here back (met here back)) ≡ Some f) × (table' ≡ table) × (tape' ≡ tape)
    turned_back f table' tape' h =
        let t = by_side (Err f) table' tape' h in
        (subst (λ (v : Walk). earliest (back_checks here back v) ≡ Some f) walk_is t.0, t.1, t.2)

    pub taken_back : (o : Swept) (table' : List OrderRow) (tape' : T) → ComesBackFrom records space s.stamp a.entry.order.side a.entry.index (row_of a.entry.order) r range table tape (Ok o) table' tape' →
        (earliest (back_checks here back (met here back)) ≡ None) × Arrives here back (met here back) a.entry.index (λ t. set t a.entry.index free) (told_of r o) table' (records tape') (space tape')
    taken_back o table' tape' h =
        let t = by_side (Ok o) table' tape' h in
        let c = t.1 in
        let v = walked here r false r.number.number (s.stamp + 1) a.entry.order.entered range in
        let worth : r.order.established.ticks ≡ established_in here r.order.time r.order.product = came.worth ∙ sym (λ j. established_in here (came.at j) (came.product j)) in
        let width : r.order.no_bust ≡ (product_of here r.order.product).listed.no_bust = came.width ∙ ap (λ (n : ℕ). (product_of here n).listed.no_bust) (sym came.product) in
        let same = record_is here r false r.number.number (s.stamp + 1) a.entry.order.entered (record { numbered = refl; worth = worth; width = width; today = came.today }) in
        subst (λ (v : Walk). (earliest (back_checks here back v) ≡ None) × Arrives here back v a.entry.index (λ t. set t a.entry.index free) (told_of r o) table' (records tape') (space tape')) walk_is (
          t.0,
          record {
            number_is = refl;
            traded_is = c.traded;
            rest_is = c.rest;
            trades_is = c.trades;
            halted_is = c.halted;
            room = c.room;
            table_is = c.reduced ∙ (λ j. settled (λ rest. same_row rest j) a.entry.index v.rest (set (filled v.fills table) a.entry.index free));
            tape_is = c.written ∙ (λ j. records tape ++ map (λ f. same f j) v.fills);
          },
        )

-- an order that came back found a stamp, and one that is changed in place takes one if it must
pub stamp_given : (takes : Bool) (stamp : Option Stamp) (last n : ℕ) → stamp ≡ cond takes (Some (stamp_at (last + 1))) None → MatchOption stamp (n ≡ last) (λ s. n ≡ s.number) → n ≡ cond takes (last + 1) last
stamp_given true stamp last n e h = omega (arith, subst (λ (o : Option Stamp). MatchOption o (n ≡ last) (λ s. n ≡ s.number)) e h)
stamp_given false stamp last n e h = subst (λ (o : Option Stamp). MatchOption o (n ≡ last) (λ s. n ≡ s.number)) e h

pub place_given : (takes : Bool) (stamp : Option Stamp) (last : ℕ) (place : Stamp) → stamp ≡ cond takes (Some (stamp_at (last + 1))) None → (unwrap_or stamp place).number ≡ cond takes (last + 1) place.number
place_given true stamp last place e = ap (λ (o : Option Stamp). (unwrap_or o place).number) e ∙ omega arith
place_given false stamp last place e = ap (λ (o : Option Stamp). (unwrap_or o place).number) e

-- the checks of its trades and its stamp
abbrev late_checks : World → ℕ → Amendment → List (Option Refusal)
late_checks w time m =
    tape_check w time (length (amended_fills w m time)) ∷ unless (not (takes_stamp w m) || ltb w.state.stamp last_stamp) Exhausted ∷ []

pub amend_stopped : (w : World) (time : ℕ) (m : Amendment) (e : Refusal) → earliest (early_checks w time m) ≡ Some e → fault w time (amend m) ≡ Some e
amend_stopped w time m e f = earlier_fails (early_checks w time m) (late_checks w time m) e f

module _ (w : World) (time : ℕ) (m : Amendment) (a : Amended) (may : Amends w time m a) where
  is : slot_in w m.order ≡ slot_of a.entry
  is = slot_found w m.order (slot_of a.entry) may.found

  price : a.terms.price.ticks ≡ m.price
  price = ap (λ (x : Terms). x.price.ticks) may.terms ∙ price_ticks m.price (all_passed (early_checks w time m) may.passes).1.1.0

  quantity : a.terms.quantity.lots ≡ m.quantity
  quantity = ap (λ (x : Terms). x.quantity.lots) may.terms ∙ quantity_lots m.quantity (all_passed (early_checks w time m) may.passes).1.1.1.0

  pub again_is : (not (eqb a.terms.price.ticks a.entry.order.price.ticks) && (in_session w.state.phase && not (w.state.halted || a.product.halted))) ≡ arrives_again w m
  again_is =
      (λ j. not (eqb (price j) a.entry.order.price.ticks) && (in_session w.state.phase && not (w.state.halted || (may.product j).halted)))
      ∙ ap (λ (x : Slot). not (eqb m.price x.row.price) && is_open w x.row.product) (sym is)

  pub takes_is : (not (eqb a.terms.price.ticks a.entry.order.price.ticks) || ltb a.entry.order.rest.lots a.terms.quantity.lots) ≡ takes_stamp w m
  takes_is =
      (λ j. not (eqb (price j) a.entry.order.price.ticks) || ltb a.entry.order.rest.lots (quantity j))
      ∙ ap (λ (x : Slot). not (eqb m.price x.row.price) || ltb x.row.rest m.quantity) (sym is)

  late : (o : Option Refusal) → earliest (late_checks w time m) ≡ o → fault w time (amend m) ≡ o
  late o f = later_is (early_checks w time m) (late_checks w time m) may.passes ∙ f

  -- it is changed in place
  module _ (off : arrives_again w m ≡ false) where
    no_fills : amended_fills w m time ≡ []
    no_fills = rw off

    stamp_only : earliest (late_checks w time m) ≡ unless (not (takes_stamp w m) || ltb w.state.stamp last_stamp) Exhausted
    stamp_only =
        ap (λ (fs : List Fill). first_of (tape_check w time (length fs)) (first_of (unless (not (takes_stamp w m) || ltb w.state.stamp last_stamp) Exhausted) None)) no_fills
        ∙ alone (unless (not (takes_stamp w m) || ltb w.state.stamp last_stamp) Exhausted)

    pub change_refused : (r : Refusal) → unless (not (takes_stamp w m) || ltb w.state.stamp last_stamp) Exhausted ≡ Some r → fault w time (amend m) ≡ Some r
    change_refused r f = late (Some r) (stamp_only ∙ f)

    pub change_accepted : unless (not (takes_stamp w m) || ltb w.state.stamp last_stamp) Exhausted ≡ None → (stamp place : ℕ) (table' : List OrderRow) →
        stamp ≡ cond (takes_stamp w m) (w.state.stamp + 1) w.state.stamp → place ≡ cond (takes_stamp w m) (w.state.stamp + 1) a.entry.order.place.number →
        table' ≡ set w.table a.entry.index (come_back_row (row_of a.entry.order) place a.terms.price.ticks a.terms.quantity.lots) →
        Step w time (amend m) (Ok (received (record { number = a.entry.order.number.number; traded = 0; rest = a.terms.quantity.lots; trades = 0; halt = Nothing })))
        (world (state_of w.state.phase w.state.day time stamp w.state.halted) w.products w.tells table' w.tape w.room)
    unfolding after_amendment amended_receipt
    change_accepted f stamp place table' stamp_is place_is table_is =
        let table : table' ≡ set w.table (slot_in w m.order).index (changed_order w m) =
        table_is
        ∙ (λ j. set w.table a.entry.index (come_back_row (row_of a.entry.order) (place_is j) (price j) (quantity j)))
        ∙ ap (λ (x : Slot). set w.table x.index (come_back_row x.row (cond (takes_stamp w m) (w.state.stamp + 1) x.row.place) m.price m.quantity)) (sym is) in
        step_accepted w time (amend m) _ _ 0 w.room
        (late None (stamp_only ∙ f))
        (subst (λ (fs : List Fill). RoomLeft w.room (length fs) w.room) (sym no_fills) (omega arith, omega arith))
        (rw off (λ j. received (record { number = (sym is j).row.number; traded = 0; rest = quantity j; trades = 0; halt = Nothing })))
        (rw off (λ j. world (state_of w.state.phase w.state.day time (stamp_is j) w.state.halted) w.products w.tells (table j) w.tape w.room))

  -- it comes back to the book
  module _ (on : arrives_again w m ≡ true) where
    the_fills : amended_fills w m time ≡ (met w (repriced w m time)).fills
    the_fills = rw on

    takes_one : takes_stamp w m ≡ true
    takes_one = ap (λ b. b || larger w m) (and_parts (new_price w m) (is_open w (order_in w m.order).product) on).0

    both : earliest (late_checks w time m) ≡ earliest (back_checks w (repriced w m time) (met w (repriced w m time)))
    both =
        (λ j. first_of (tape_check w time (length (the_fills j))) (first_of (unless (not (takes_one j) || ltb w.state.stamp last_stamp) Exhausted) None))

    module _ (r : Arriving) (came : ArrivesAs w time a r) where
      abbrev arrival : Arrival
      arrival = in_numbers w r false r.number.number (w.state.stamp + 1) a.entry.order.entered

      -- it is the rule's arrival
      repriced_is : arrival ≡ repriced w m time
      repriced_is =
          (λ j. record {
            time = came.at j;
            product = came.product j;
            side = (came.side ∙ sym (side_read a.entry.order.side)) j;
            limit = (ap (λ p. p.ticks) came.limit ∙ price) j;
            quantity = (ap (λ q. q.lots) came.quantity ∙ quantity) j;
            whole = false;
            number = (came.number j).number;
            place = w.state.stamp + 1;
            participant = (came.participant j).number;
            duration = duration_code (came.duration j);
            date = duration_date (came.duration j);
            entered = a.entry.order.entered;
          })
          ∙ ap (λ (x : Slot). record {
            time = time;
            product = x.row.product;
            side = side_in x.row.side;
            limit = m.price;
            quantity = m.quantity;
            whole = false;
            number = x.row.number;
            place = w.state.stamp + 1;
            participant = x.row.participant;
            duration = x.row.duration;
            date = x.row.date;
            entered = x.row.entered;
          }) (sym is)

      passing : (o : Option Refusal) → earliest (back_checks w arrival (met w arrival)) ≡ o → fault w time (amend m) ≡ o
      passing o f = late o (both ∙ subst (λ (x : Arrival). earliest (back_checks w x (met w x)) ≡ o) repriced_is f)

      pub back_refused : (f : Refusal) → earliest (back_checks w arrival (met w arrival)) ≡ Some f → fault w time (amend m) ≡ Some f
      back_refused f = passing (Some f)

      pub back_accepted : (s : Swept) (h : Halt) (s' : State) (ps' : Contents) (table' : List OrderRow) (tape' : List TradeRow) (room' : ℕ) → earliest (back_checks w arrival (met w arrival)) ≡ None →
          Arrives w arrival (met w arrival) a.entry.index (λ t. set t a.entry.index free) (told_of r s) table' tape' room' → h ≡ halt_by (product_of w a.entry.order.product).listed.kind s.halted →
          s' ≡ state_of w.state.phase w.state.day time (w.state.stamp + 1) (halts_market h || w.state.halted) → ps' ≡ halting h a.entry.order.product w.products →
          Step w time (amend m) (Ok (received (with_halt (told_of r s) h))) (world s' ps' w.tells table' tape' room')
      unfolding after_amendment amended_receipt
      back_accepted s h s' ps' table' tape' room' passes arrives halt state products =
          step_arrived w time (amend m) arrival 0 a.entry.index (λ t. set t a.entry.index free) (told_of r s) h s' ps' table' tape' room'
          (passing None passes)
          (subst (λ (fs : List Fill). RoomLeft w.room (length fs) room') (sym (the_fills ∙ ap (λ (x : Arrival). (met w x).fills) (sym repriced_is))) arrives.room)
          (rw on (ap (λ (x : Arrival). received (receipt_for w x)) (sym repriced_is)))
          (rw on (λ j. arrived w (sym repriced_is j) (is j).index (set (filled (met w (sym repriced_is j)).fills w.table) (is j).index free) room'))
          arrives
          (halt ∙ ap (λ (n : ℕ). halt_by (product_of w n).listed.kind s.halted) (sym came.product))
          (state ∙ ap (λ (t : ℕ). state_of w.state.phase w.state.day t (w.state.stamp + 1) (halts_market h || w.state.halted)) (sym came.at))
          (products ∙ ap (λ (n : ℕ). halting h n w.products) (sym came.product))
