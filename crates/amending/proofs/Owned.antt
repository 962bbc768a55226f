-- The order of a number stands in a listed product, and its side is read back from its code. Assumes nothing.
use Rattle.std.proofs.Common.{Option, None, Ok, ◌++◌, ◌≡◌, ℕ, ◌<◌, Bool, true, false, cond, not, eqb, ltb, List, [], ◌∷◌, Some, filter, sym, refl, ap, ◌∙◌, arith}
use Rattle.std.specs.Bool.{then_some}
use Rattle.std.specs.Option.{option_map}
use Rattle.limits.specs.Sweeps.{limit_held as held_to_sweep}
use Rattle.terms.specs.Checked.{price_at}
use Rattle.std.proofs.lemmas.Bool.{and_parts, ltb-true}
use Rattle.orders.specs.Queue.{Slot, slot_of, slots, counted, head}
use Rattle.orders.specs.Questions.{has_number, stands, order_numbered}
use Rattle.orders.specs.Rows.{fair, side_code}
use Rattle.orders.specs.declared.order.Entry.{Entry}
use Rattle.orders.specs.declared.row.OrderRow.{OrderRow}
use Rattle.rules.specs.Amending.{slot_in, slot_or_none, place_of, side_in}
use Rattle.rules.specs.Refusing.{limit_held, amended_limit, owner_check}
use Rattle.rules.specs.Worlds.{World, sweep_in}
use Rattle.rules.specs.declared.amendment.Amendment.{Amendment}
use Rattle.terms.specs.declared.price.Price.{Price}
use Rattle.terms.specs.declared.side.Side.{Side}
use Rattle.terms.specs.declared.side.Side.TheVariants.{Buy, Sell}
use Rattle.rules.specs.Owners.{OwnOrder}
use Rattle.terms.specs.Checks.{answered, earliest, first_of, unless}
use Rattle.terms.specs.declared.refusal.Refusal.{Refusal}
use Rattle.terms.specs.declared.refusal.Refusal.TheVariants.{NotResting}
use Rattle.amending.specs.Amendments.{call_checks, terms_checks, terms_as, early_checks, sweep_check_of}
use Rattle.amending.specs.declared.amended.Terms.{Terms}
use Rattle.entering.proofs.Fronts.{all_passed}
use Rattle.market.proofs.Passed.{price_ticks}
use Rattle.market.proofs.Ways.{passes_with, later_is}

kept_either : (p : Slot → Bool) (x : Slot) (xs : List Slot) (a : Slot) (b : Bool) → p x ≡ b → (head (filter p xs) ≡ Some a → p a ≡ true) → head (cond b (x ∷ filter p xs) (filter p xs)) ≡ Some a → p a ≡ true
kept_either p x xs a true h later e = let same : x ≡ a = cc in ap p (sym same) ∙ h
kept_either p x xs a false h later e = later e

first_kept : (p : Slot → Bool) (xs : List Slot) (a : Slot) → head (filter p xs) ≡ Some a → p a ≡ true
first_kept p [] a e = absurd (let z : ◌≡◌ {A = ℕ} 0 1 = cc in let y : ⊥ = omega arith in y)
first_kept p (x ∷ xs) a e = kept_either p x xs a (p x) refl (first_kept p xs a) e

pub stands_listed : (products number : ℕ) (table : List OrderRow) (a : Slot) → order_numbered products number table ≡ Some a → a.row.product < products
stands_listed products number table a e =
    let numbered = first_kept (has_number products number) (slots 0 (counted table)) a e in
    let stood = (and_parts (stands products a.row) (eqb a.row.number number) numbered).0 in
    ltb-true a.row.product products (and_parts (fair a.row) (ltb a.row.product products) stood).1

pub has_the_number : (products number : ℕ) (table : List OrderRow) (a : Slot) → order_numbered products number table ≡ Some a → eqb a.row.number number ≡ true
has_the_number products number table a e =
    (and_parts (stands products a.row) (eqb a.row.number number) (first_kept (has_number products number) (slots 0 (counted table)) a e)).1

pub slot_found : (w : World) (number : ℕ) (a : Slot) → place_of w number ≡ Some a → slot_in w number ≡ a
unfolding slot_in
slot_found w number a e = ap slot_or_none e

pub side_read : (side : Side) → side_in (side_code side) ≡ side
side_read Buy = refl
side_read Sell = refl

-- the price, if it is new
new_is : (new : Bool) (price : ℕ) → then_some new (price_at price) ≡ option_map price_at (amended_limit new price)
new_is true price = refl
new_is false price = refl

-- a new price against the sweep price, as the rule has it
pub held_as : (w : World) (m : Amendment) (e : Entry) (price sweep : Price) (limit : Option Price) → slot_in w m.order ≡ slot_of e → price ≡ price_at m.price → price.ticks ≡ m.price →
    limit ≡ then_some (not (eqb price.ticks e.order.price.ticks)) price → sweep ≡ sweep_in w e.order.side e.order.product → held_to_sweep e.order.side limit sweep ≡ sweep_check_of w m
held_as w m e price sweep limit is made ticks told swept =
    let limit' = told ∙ (λ j. then_some (not (eqb (ticks j) e.order.price.ticks)) (made j)) ∙ new_is (not (eqb m.price e.order.price.ticks)) m.price in
    (λ j. held_to_sweep e.order.side (limit' j) (swept j))
    ∙ ap (λ (side : Side). limit_held side (amended_limit (not (eqb m.price e.order.price.ticks)) m.price) (sweep_in w side e.order.product)) (sym (side_read e.order.side))
    ∙ ap (λ (a : Slot). limit_held (side_in a.row.side) (amended_limit (not (eqb m.price a.row.price)) m.price) (sweep_in w (side_in a.row.side) a.row.product)) (sym is)

pub alone : (o : Option Refusal) → first_of o None ≡ o
alone None = refl
alone (Some r) = refl

-- once its own numbers passed and the order is its owner's, the sweep price alone may stop it
pub early_is : (w : World) (time : ℕ) (m : Amendment) (e : Entry) (t : Terms) (limit : Option Price) (sweep : Price) → Ok t ≡ answered (earliest (call_checks w time ++ terms_checks m)) (terms_as m) →
    OwnOrder w.products.count w.table m.participant m.order (Ok e) → limit ≡ then_some (not (eqb t.price.ticks e.order.price.ticks)) t.price → sweep ≡ sweep_in w e.order.side e.order.product →
    earliest (early_checks w time m) ≡ held_to_sweep e.order.side limit sweep
early_is w time m e t limit sweep asked own told swept =
    let first = passes_with _ _ _ asked in
    let made = ap (λ (x : Terms). x.price) first.1 in
    let ticks = ap (λ (p : Price). p.ticks) made ∙ price_ticks m.price (all_passed (call_checks w time ++ terms_checks m) first.0).1.1.0 in
    later_is (call_checks w time ++ terms_checks m) (owner_check w m.participant m.order ∷ sweep_check_of w m ∷ []) first.0
    ∙ ap (λ b. first_of (unless b (NotResting m.order)) (first_of (sweep_check_of w m) None)) own.0
    ∙ alone (sweep_check_of w m)
    ∙ sym (held_as w m e t.price sweep limit (slot_found w m.order (slot_of e) own.1) made ticks told swept)
