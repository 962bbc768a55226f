-- What an accepted call passed: each of its checks, by name. Assumes nothing.
use Rattle.std.proofs.Common.{◌≡◌, ℕ, ◌<◌, ◌≤◌, Bool, true, false, not, ◌&&◌, ltb, leb, List, [], ◌∷◌, Some, None, Option, refl, ap}
use Rattle.std.proofs.lemmas.Bool.{true≢false, and_parts, leb-true, ltb-true, not-true}
use Rattle.listing.specs.Changes.{Contents}
use Rattle.rules.specs.Held.{listed_check}
use Rattle.terms.specs.Checks.{unless, earliest}
use Rattle.terms.specs.declared.field.Field.TheVariants.{Price as the_price, Quantity as the_quantity, Participant as the_participant}
use Rattle.terms.specs.declared.price.Price.{Price}
use Rattle.terms.specs.declared.refusal.Refusal.{Refusal}
use Rattle.terms.specs.declared.refusal.Refusal.TheVariants.{TimeFell, WrongPhase, NotListed, OutOfRange, Halted, NotResting}
use Rattle.rules.specs.Amending.{rests_for, order_in, side_in, new_price}
use Rattle.rules.specs.Calls.{Call, enter, amend, withdraw}
use Rattle.rules.specs.Entering.{limit_or}
use Rattle.rules.specs.Refusing.{fault, checks, own_checks, time_check, phase_check, price_check, limit_check, quantity_check, participant_check, halt_check, owner_check, limit_held, amended_limit}
use Rattle.rules.specs.Worlds.{World, in_session, is_halted, sweep_in}
use Rattle.rules.specs.declared.amendment.Amendment.{Amendment}
use Rattle.rules.specs.declared.new_order.NewOrder.{NewOrder}
use Rattle.laws.specs.Words.{Each}

abbrev is_some : Option Refusal → Bool
is_some None = false
is_some (Some r) = true

pub some_none : (r : Refusal) → Some r ≡ None → ⊥
some_none r e = true≢false (ap is_some e)

pub passed : (c : Option Refusal) (cs : List (Option Refusal)) → earliest (c ∷ cs) ≡ None → (c ≡ None) × (earliest cs ≡ None)
passed None cs e = (refl, e)
passed (Some r) cs e = absurd (some_none r e)

pub unless_passed : (b : Bool) (r : Refusal) → unless b r ≡ None → b ≡ true
unless_passed true r e = refl
unless_passed false r e = absurd (some_none r e)

-- the time check, which every call has first, and the checks that follow
pub passed_time : (w : World) (time : ℕ) (c : Call) → fault w time c ≡ None → w.state.time ≤ time
passed_time w time c e =
    leb-true w.state.time time
    (unless_passed (leb w.state.time time) (TimeFell w.state.time) (passed (time_check w time) (own_checks w time c) e).0)

pub passed_own : (w : World) (time : ℕ) (c : Call) → fault w time c ≡ None → earliest (own_checks w time c) ≡ None
passed_own w time c e = (passed (time_check w time) (own_checks w time c) e).1

-- all of a list of checks
pub all_passed : (cs : List (Option Refusal)) → earliest cs ≡ None → Each (λ c. c ≡ None) cs
all_passed [] e = tt
all_passed (c ∷ cs) e = let p = passed c cs e in (p.0, all_passed cs p.1)

-- each check by itself

pub phase_passed : (w : World) (runs : Bool) → phase_check w runs ≡ None → runs ≡ true
phase_passed w runs e = unless_passed runs (WrongPhase w.state.phase) e

pub listed_passed : (ps : Contents) (n : ℕ) → listed_check ps n ≡ None → n < ps.count
listed_passed ps n e = ltb-true n ps.count (unless_passed (ltb n ps.count) (NotListed n) e)

pub price_passed : (price : ℕ) → price_check price ≡ None → price ≤ 1000000
price_passed price e = leb-true price 1000000 (unless_passed (leb price 1000000) (OutOfRange the_price) e)

pub quantity_passed : (q : ℕ) → quantity_check q ≡ None → (1 ≤ q) × (q ≤ 1000000)
quantity_passed q e =
    let p = and_parts (leb 1 q) (leb q 1000000) (unless_passed (leb 1 q && leb q 1000000) (OutOfRange the_quantity) e) in
    (leb-true 1 q p.0, leb-true q 1000000 p.1)

pub participant_passed : (n : ℕ) → participant_check n ≡ None → (1 ≤ n) × (n ≤ 999)
participant_passed n e =
    let p = and_parts (leb 1 n) (leb n 999) (unless_passed (leb 1 n && leb n 999) (OutOfRange the_participant) e) in
    (leb-true 1 n p.0, leb-true n 999 p.1)

pub halt_passed : (w : World) (n : ℕ) → halt_check w n ≡ None → is_halted w n ≡ false
halt_passed w n e = not-true (is_halted w n) (unless_passed (not (is_halted w n)) (Halted n) e)

pub owner_passed : (w : World) (participant number : ℕ) → owner_check w participant number ≡ None → rests_for w participant number ≡ true
owner_passed w participant number e = unless_passed (rests_for w participant number) (NotResting number) e

-- the price of an order, given or swept to
pub limit_passed : (limit : Option ℕ) (sweep : Price) → limit_check limit ≡ None → limit_or limit sweep.ticks ≤ 1000000
limit_passed None sweep e = sweep.within
limit_passed (Some price) sweep e = price_passed price e

-- what an entry passed
pub record EntryPassed (w : World) (time : ℕ) (o : NewOrder) : Type 0 where
  pub session : in_session w.state.phase ≡ true
  pub listed : o.product < w.products.count
  pub priced : limit_check o.limit ≡ None
  pub quantity : (1 ≤ o.quantity) × (o.quantity ≤ 1000000)
  pub participant : (1 ≤ o.participant) × (o.participant ≤ 999)
  pub not_halted : is_halted w o.product ≡ false
  pub swept : limit_held o.side o.limit (sweep_in w o.side o.product) ≡ None

pub entry_passed : (w : World) (time : ℕ) (o : NewOrder) → fault w time (enter o) ≡ None → EntryPassed w time o
entry_passed w time o e =
    let p = all_passed (checks w time (enter o)) e in
    record {
      session = phase_passed w (in_session w.state.phase) p.1.0;
      listed = listed_passed w.products o.product p.1.1.0;
      priced = p.1.1.1.0;
      quantity = quantity_passed o.quantity p.1.1.1.1.0;
      participant = participant_passed o.participant p.1.1.1.1.1.0;
      not_halted = halt_passed w o.product p.1.1.1.1.1.1.1.0;
      swept = p.1.1.1.1.1.1.1.1.0;
    }

-- what an amendment passed
pub record AmendmentPassed (w : World) (time : ℕ) (m : Amendment) : Type 0 where
  pub priced : m.price ≤ 1000000
  pub quantity : (1 ≤ m.quantity) × (m.quantity ≤ 1000000)
  pub owner : rests_for w m.participant m.order ≡ true
  pub swept : limit_held (side_in (order_in w m.order).side) (amended_limit (new_price w m) m.price) (sweep_in w (side_in (order_in w m.order).side) (order_in w m.order).product) ≡ None

pub amendment_passed : (w : World) (time : ℕ) (m : Amendment) → fault w time (amend m) ≡ None → AmendmentPassed w time m
amendment_passed w time m e =
    let p = all_passed (checks w time (amend m)) e in
    record {
      priced = price_passed m.price p.1.1.0;
      quantity = quantity_passed m.quantity p.1.1.1.0;
      owner = owner_passed w m.participant m.order p.1.1.1.1.1.0;
      swept = p.1.1.1.1.1.1.0;
    }

-- what a withdrawal passed
pub withdrawal_passed : (w : World) (time participant number : ℕ) → fault w time (withdraw participant number) ≡ None → rests_for w participant number ≡ true
withdrawal_passed w time participant number e = owner_passed w participant number (all_passed (checks w time (withdraw participant number)) e).1.1.1.0
