-- Each record was put on the tape by an event that matched as the rules ask. Assumes nothing.
use Rattle.std.proofs.Common.{◌≡◌, ℕ, zero, suc, ◌-◌, ◌<◌, ◌≤◌, Bool, true, false, cond, not, eqb, ltb, leb, ◌⊎◌, List, [], ◌∷◌, ◌++◌, map, length, get_or, set, is_some, Some, None, Ok, Err, Result, sym, refl, ap, ◌∙◌, subst, inl, inr, le_of_suc-le-suc, not-suc-le-zero, arith, length-set}
use Rattle.std.proofs.lemmas.Bool.{false≢true, cond_both, and_parts, or_parts, leb-true, ltb-true, eqb-true, not-true}
use Rattle.book.specs.Walks.{filled}
use Rattle.listing.specs.Product.{ticks_in_force}
use Rattle.orders.specs.Rows.{fair, free, side_of, side_code}
use Rattle.orders.specs.declared.row.OrderRow.{OrderRow}
use Rattle.tape.specs.Tapes.{blank, record_at, marked}
use Rattle.tape.specs.declared.row.TradeRow.{TradeRow}
use Rattle.terms.specs.Determinations.{mark_by}
use Rattle.terms.specs.Sides.{opposite}
use Rattle.terms.specs.declared.mark.Mark.TheVariants.{Considered}
use Rattle.terms.specs.declared.phase.Phase.{Phase}
use Rattle.terms.specs.declared.phase.Phase.TheVariants.{Closed, BeforeNight, NightSession, BeforeDay, DaySession}
use Rattle.terms.specs.declared.refusal.Refusal.{Refusal}
use Rattle.terms.specs.declared.side.Side.{Side}
use Rattle.terms.specs.declared.side.Side.TheVariants.{Buy, Sell}
use Rattle.rules.specs.Amending.{slot_in, order_in, side_in, new_price, arrives_again, repriced, after_arrival, after_change, after_amendment, amended_receipt}
use Rattle.rules.specs.Arrivals.{Arrival, met, arrived, traded, by_side, receipt_for}
use Rattle.rules.specs.Calls.{Call, Answer}
use Rattle.rules.specs.Calls.{roll, open_session, close_session, enter, amend, withdraw, adjust, frenetic, resume, request, determine, received}
use Rattle.rules.specs.Entering.{entry}
use Rattle.rules.specs.Refusing.{fault, limit_held, amended_limit}
use Rattle.rules.specs.Rules.{Step, refuses, accepts, after, answer, Chosen}
use Rattle.rules.specs.Worlds.{World, in_session, is_halted, is_open, product_of, sweep_in}
use Rattle.rules.specs.declared.amendment.Amendment.{Amendment}
use Rattle.rules.specs.declared.new_order.NewOrder.{NewOrder}
use Rattle.rules.specs.Receipts.{Receipt}
use Rattle.laws.specs.Arriving.{Open, Arriver, arriver, Arrives, enters, amends}
use Rattle.laws.specs.Book.{row_at, waits, Within, Before, Tidy}
use Rattle.laws.specs.Histories.{Event, event, History, Reached, made, then_called}
use Rattle.laws.specs.Trading.{puts, WellMade}
use Rattle.laws.specs.Words.{Each}
use Rattle.laws.proofs.Anchors.{within_trans, anchor_of, the_anchor, sweeps_from, limit_within, price_within, own_price, ticks_in_force_are, in_range}
use Rattle.laws.proofs.Arrivals.{Lands, Fits, fits, InTurn, in_turn}
use Rattle.laws.proofs.FairRows.{proper, stands_fair, stands_listed}
use Rattle.laws.proofs.Found.{Found, found}
use Rattle.laws.proofs.Landing.{entry_lands, amend_lands}
use Rattle.laws.proofs.Numbers.{tidy}
use Rattle.laws.proofs.Passing.{EntryPassed, entry_passed, AmendmentPassed, amendment_passed}
use Rattle.laws.proofs.Priced.{Sound, sound}
use Rattle.laws.proofs.Sums.{each_weaker, each_both, each_map}
use Rattle.laws.proofs.Tapes.{plain, Grows, step_grows, arrived_tape}

-- a session runs, and nothing is halted

session_runs : (p : Phase) → in_session p ≡ true → (p ≡ NightSession) ⊎ (p ≡ DaySession)
session_runs Closed e = absurd (false≢true e)
session_runs BeforeNight e = absurd (false≢true e)
session_runs NightSession e = inl refl
session_runs BeforeDay e = absurd (false≢true e)
session_runs DaySession e = inr refl

pub open_from : (w : World) (n : ℕ) → in_session w.state.phase ≡ true → is_halted w n ≡ false → Open w n
open_from w n s h =
    let p = or_parts w.state.halted (product_of w n).halted h in
    record { runs = session_runs w.state.phase s; market = p.0; product = p.1 }

-- a trade between an order that arrives and one that waited

not_above : (s : Side) (limit price own : ℕ) → Within s limit price → own ≡ price → price ≤ by_side s limit own
not_above Buy limit price own w e = w
not_above Sell limit price own w e = omega (arith, e)

not_below : (s : Side) (limit price own : ℕ) → Within s limit price → own ≡ price → by_side s own limit ≤ price
not_below Buy limit price own w e = omega (arith, e)
not_below Sell limit price own w e = w

well : (w : World) (a : Arrival) (c : Call) (n : Result Answer Refusal) (i : ℕ) (table : List OrderRow) (room : ℕ) → Lands w a i table →
    Arrives w c n (arriver a.product a.side a.limit a.number a.participant) → Open w a.product →
    Sound (product_of w a.product) → Within a.side (sweep_in w a.side a.product).ticks a.limit →
    Each (λ t. WellMade (event w a.time c n (arrived w a i table room)) (plain t)) (map (traded w a) (met w a).fills)
well w a c n i table room lands arr is_open low sweeps =
    each_map (λ f. Fits w a f × InTurn w a (arrived w a i table room).table f) (λ t. WellMade (event w a.time c n (arrived w a i table room)) (plain t))
    (traded w a)
    (λ f g.
    let h = g.0 in
    let s : Side = a.side in
    let k : ℕ = f.slot.index in
    let same : row_at w.table k ≡ f.slot.row = h.same in
    let price : (row_at w.table k).price ≡ f.slot.row.price = ap (λ r. r.price) same in
    let range = in_range w a.product f.slot.row.price low.reference h.inside in
    record {
      who = arriver a.product s a.limit a.number a.participant;
      arrives = arr;
      product = refl;
      was_open = is_open;
      place = k;
      waited = subst (λ r. waits (opposite s) a.product r ≡ true) (sym same) h.waiting;
      the_buy = ap (λ r. by_side s a.number r.number) (sym same);
      the_sell = ap (λ r. by_side s r.number a.number) (sym same);
      the_buyer = ap (λ r. by_side s a.participant r.participant) (sym same);
      the_seller = ap (λ r. by_side s r.participant a.participant) (sym same);
      not_above_the_buy = not_above s a.limit f.slot.row.price (row_at w.table k).price h.reached price;
      not_below_the_sell = not_below s a.limit f.slot.row.price (row_at w.table k).price h.reached price;
      daily = ticks_in_force (product_of w a.product);
      in_force = ticks_in_force_are (product_of w a.product) low.widened;
      not_below_the_range = range.0;
      not_above_the_range = range.1;
      swept_from = (anchor_of w s a.product).ticks;
      anchor = the_anchor w s a.product low.reference;
      within_the_sweep = sweeps_from w s a.product f.slot.row.price (within_trans s (sweep_in w s a.product).ticks a.limit f.slot.row.price sweeps h.reached);
      in_turn = λ j t b. g.1 j t (subst (λ r. Before (opposite s) (row_at w.table j) r) same b);
      at_the_time = refl;
      on_the_day = refl;
      market_price = refl;
      no_bust = refl;
    })
    (met w a).fills
    (each_both (Fits w a) (InTurn w a (arrived w a i table room).table) (met w a).fills (fits w a) (in_turn w a i table room lands))

-- the record of a number

each_trade : (P : TradeRow → Type 0) (xs : List TradeRow) → Each P xs → (i : ℕ) → i < length xs → P (get_or xs i blank)
each_trade P [] h i l = absurd (not-suc-le-zero l)
each_trade P (x ∷ xs) h zero l = h.0
each_trade P (x ∷ xs) h (suc i) l = each_trade P xs h.1 i (le_of_suc-le-suc l)

new_trade : (P : TradeRow → Type 0) (tape xs : List TradeRow) → Each P xs → (i : ℕ) → length tape ≤ i → i < length (tape ++ xs) → P (get_or (tape ++ xs) i blank)
new_trade P [] xs h i l u = each_trade P xs h i u
new_trade P (t ∷ tape) xs h zero l u = absurd (not-suc-le-zero l)
new_trade P (t ∷ tape) xs h (suc i) l u = new_trade P tape xs h i (le_of_suc-le-suc l) (le_of_suc-le-suc u)

abbrev Made : ℕ → List TradeRow → Event → Type 0
Made k tape e = puts k e ≡ true → (k - 1 < length tape) × WellMade e (plain (record_at tape k))

made_kept : (k : ℕ) (tape tape' : List TradeRow) → Grows tape tape' → (h : History) → Each (Made k tape) h → Each (Made k tape') h
made_kept k tape tape' g h =
    each_weaker (Made k tape) (Made k tape')
    (λ e m p. let r = m p in (omega (arith, r.0, g.longer), subst (WellMade e) (g.stays (k - 1) r.0) r.1)) h

put_where : (k : ℕ) (e : Event) → puts k e ≡ true → (length e.before.tape < k) × (k ≤ length e.after.tape)
put_where k e p =
    let q = and_parts (ltb (length e.before.tape) k) (leb k (length e.after.tape)) p in
    (ltb-true (length e.before.tape) k q.0, leb-true k (length e.after.tape) q.1)

-- an event that puts nothing on the tape
none : (e : Event) → length e.after.tape ≡ length e.before.tape → (k : ℕ) → Made k e.after.tape e
none e same k p = let q = put_where k e p in let z : ⊥ = omega (arith, same, q.0, q.1) in absurd z

-- an event whose order arrived
some : (e : Event) (new : List TradeRow) → e.after.tape ≡ e.before.tape ++ new → Each (λ t. WellMade e (plain t)) new → (k : ℕ) → Made k e.after.tape e
some e new is h k p =
    let q = put_where k e p in
    let u : k - 1 < length e.after.tape = omega (arith, q.0, q.1) in (
      u,
      subst (λ tape. WellMade e (plain (record_at tape k))) (sym is)
          (new_trade (λ t. WellMade e (plain t)) e.before.tape new h (k - 1) (omega (arith, q.0)) (subst (λ tape. k - 1 < length tape) is u)),
    )

-- an entry

entry_made : (w : World) (time : ℕ) (o : NewOrder) (place room : ℕ) → EntryPassed w time o → Chosen w time (enter o) place room →
    Tidy w.products.count w.table → Sound (product_of w o.product) → (k : ℕ) →
    Made k (after w time (enter o) place room).tape (event w time (enter o) (Ok (answer w time (enter o))) (after w time (enter o) place room))
entry_made w time o place room p t td low k =
    let a : Arrival = entry w time o in
    let table : List OrderRow = filled (met w a).fills w.table in
    let l = limit_within o.side o.limit (sweep_in w o.side o.product) p.priced p.swept in
    some (event w time (enter o) (Ok (answer w time (enter o))) (after w time (enter o) place room)) (map (traded w a) (met w a).fills)
    (arrived_tape w a place table room)
    (well w a (enter o) (Ok (answer w time (enter o))) place table room
    (entry_lands w time o place td p.listed t.0)
    (enters o (receipt_for w a) a.limit (own_price w o o.limit low.reference))
    (open_from w o.product p.session p.not_halted)
    low l) k

-- an amendment

pub code_side : (r : OrderRow) → fair r ≡ true → r.side ≡ side_code (side_in r.side)
code_side r h = known r.side (proper r h).sided
  where
    known : (code : ℕ) → is_some (side_of code) ≡ true → code ≡ side_code (side_in code)
    known code e = go (eqb code 0) (eqb code 1) (λ t. eqb-true code 0 t) (λ t. eqb-true code 1 t) e
      where
        go : (a b : Bool) → (a ≡ true → code ≡ 0) → (b ≡ true → code ≡ 1) → is_some (cond a (Some Buy) (cond b (Some Sell) None)) ≡ true → code ≡ side_code (cond a Buy Sell)
        go true b f g e = f refl
        go false true f g e = g refl
        go false false f g e = absurd (false≢true e)

pub amends_as : (w : World) (m : Amendment) (r : Receipt) → Found w m.participant m.order →
    Arrives w (amend m) (Ok (received r))
    (arriver (order_in w m.order).product (side_in (order_in w m.order).side) m.price (order_in w m.order).number (order_in w m.order).participant)
amends_as w m r f =
    let i : ℕ = (slot_in w m.order).index in
    let x : OrderRow = (slot_in w m.order).row in
    let s : Side = side_in x.side in
    let same : row_at w.table i ≡ x = f.same in
    let fine : fair x ≡ true = stands_fair w.products.count x f.stood in
    let number : (row_at w.table i).number ≡ m.order = ap (λ y. y.number) same ∙ f.numbered in
    let owner : (row_at w.table i).participant ≡ m.participant = ap (λ y. y.participant) same ∙ f.owned in
    let code : (row_at w.table i).side ≡ side_code s = ap (λ y. y.side) same ∙ code_side x fine in
    let some : 0 < (row_at w.table i).rest = subst (λ (y : OrderRow). 0 < y.rest) (sym same) (proper x fine).some in
    let A : Arriver → Type 0 = Arrives w (amend m) (Ok (received r)) in
    subst (λ (p : ℕ). A (arriver x.product s m.price x.number p)) (sym f.owned)
    (subst (λ (n : ℕ). A (arriver x.product s m.price n m.participant)) (sym f.numbered)
    (subst (λ (y : OrderRow). A (arriver y.product s m.price m.order m.participant)) same
    (amends m r i s some number owner code)))

amend_made : (w : World) (time : ℕ) (m : Amendment) (room : ℕ) → AmendmentPassed w time m →
    ((n : ℕ) → n < w.products.count → Sound (product_of w n)) → (k : ℕ) →
    Made k (after_amendment w m time room).tape (event w time (amend m) (Ok (received (amended_receipt w m time))) (after_amendment w m time room))
unfolding after_amendment
amend_made w time m room p low k =
    let a : Arrival = repriced w m time in
    let n : Result Answer Refusal = Ok (received (amended_receipt w m time)) in
    let f : Found w m.participant m.order = found w m.participant m.order p.owner in
    let x : OrderRow = (slot_in w m.order).row in
    let s : Side = side_in x.side in
    let v₁ : World = after_arrival w m time room in
    let v₂ : World = after_change w m time room in
    let table : List OrderRow = set (filled (met w a).fills w.table) (slot_in w m.order).index free in
    let listed : x.product < w.products.count =
    stands_listed w.products.count x f.stood in
    cond_both (arrives_again w m) v₁ v₂ (λ v. Made k v.tape (event w time (amend m) n v))
    (λ t.
    let q = and_parts (new_price w m) (is_open w x.product) t in
    let o = and_parts (in_session w.state.phase) (not (is_halted w x.product)) q.1 in
    let held : limit_held s (Some m.price) (sweep_in w s x.product) ≡ None =
    subst (λ (b : Bool). limit_held s (amended_limit b m.price) (sweep_in w s x.product) ≡ None) q.0 p.swept in
    some (event w time (amend m) n v₁) (map (traded w a) (met w a).fills) (arrived_tape w a (slot_in w m.order).index table room)
    (well w a (amend m) n (slot_in w m.order).index table room
    (amend_lands w m time p.owner)
    (amends_as w m (amended_receipt w m time) f)
    (open_from w x.product o.0 (not-true (is_halted w x.product) o.1))
    (low x.product listed)
    (price_within s m.price (sweep_in w s x.product) p.priced held)) k)
    (λ t. none (event w time (amend m) n v₂) refl k)

-- any event

after_made : (w : World) (time : ℕ) (c : Call) (place room : ℕ) → fault w time c ≡ None → Chosen w time c place room →
    Tidy w.products.count w.table → ((n : ℕ) → n < w.products.count → Sound (product_of w n)) → (k : ℕ) →
    Made k (after w time c place room).tape (event w time c (Ok (answer w time c)) (after w time c place room))
after_made w time (roll prices) place room e t td low k = none _ refl k
after_made w time open_session place room e t td low k = none _ refl k
after_made w time close_session place room e t td low k = none _ refl k
after_made w time (enter o) place room e t td low k =
    let p = entry_passed w time o e in entry_made w time o place room p t td (low o.product p.listed) k
after_made w time (amend m) place room e t td low k = amend_made w time m room (amendment_passed w time m e) low k
after_made w time (withdraw participant number) place room e t td low k = none _ refl k
after_made w time (adjust n price) place room e t td low k = none _ refl k
after_made w time (frenetic n ticks) place room e t td low k = none _ refl k
after_made w time resume place room e t td low k = none _ refl k
after_made w time (request participant n) place room e t td low k =
    none (event w time (request participant n) (Ok (answer w time (request participant n))) (after w time (request participant n) place room))
    (length-set w.tape (n - 1) (marked Considered (record_at w.tape n))) k
after_made w time (determine n verdict) place room e t td low k =
    none (event w time (determine n verdict) (Ok (answer w time (determine n verdict))) (after w time (determine n verdict) place room))
    (length-set w.tape (n - 1) (marked (mark_by verdict) (record_at w.tape n))) k

made_now : (w : World) (time : ℕ) (c : Call) {a : Result Answer Refusal} {w' : World} → Step w time c a w' →
    Tidy w.products.count w.table → ((n : ℕ) → n < w.products.count → Sound (product_of w n)) → (k : ℕ) →
    Made k w'.tape (event w time c a w')
made_now w time c (refuses r e) td low k = none (event w time c (Err r) w) refl k
made_now w time c (accepts place room e t) td low k = after_made w time c place room e t td low k

all_made : {h : History} {w : World} → Reached h w → (k : ℕ) → Each (Made k w.tape) h
all_made (made w f) k = tt
all_made (then_called {h = h} {w = w} {w' = w'} {time = time} {c = c} before holds step) k =
    (made_now w time c step (tidy before) (sound before) k, made_kept k w.tape w'.tape (step_grows step) h (all_made before k))

-- whatever its mark
remarked : (e : Event) (t : TradeRow) → WellMade e (plain t) → WellMade e t
remarked e t m =
    record {
      who = m.who;
      arrives = m.arrives;
      product = m.product;
      was_open = m.was_open;
      place = m.place;
      waited = m.waited;
      the_buy = m.the_buy;
      the_sell = m.the_sell;
      the_buyer = m.the_buyer;
      the_seller = m.the_seller;
      not_above_the_buy = m.not_above_the_buy;
      not_below_the_sell = m.not_below_the_sell;
      daily = m.daily;
      in_force = m.in_force;
      not_below_the_range = m.not_below_the_range;
      not_above_the_range = m.not_above_the_range;
      swept_from = m.swept_from;
      anchor = m.anchor;
      within_the_sweep = m.within_the_sweep;
      in_turn = m.in_turn;
      at_the_time = m.at_the_time;
      on_the_day = m.on_the_day;
      market_price = m.market_price;
      no_bust = m.no_bust;
    }

pub well_made : {h : History} {w : World} → Reached h w → (k : ℕ) → Each (λ e. puts k e ≡ true → WellMade e (record_at w.tape k)) h
well_made {h} {w} r k =
    each_weaker (Made k w.tape) (λ e. puts k e ≡ true → WellMade e (record_at w.tape k))
    (λ e m p. remarked e (record_at w.tape k) (m p).1) h (all_made r k)
