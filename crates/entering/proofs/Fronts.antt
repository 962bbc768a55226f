-- An entry that nothing stopped comes in with the numbers that it brought. Assumes nothing.
use Rattle.std.proofs.Common.{◌≡◌, ℕ, ◌+◌, ◌<◌, ◌≤◌, not, leb, List, [], ◌∷◌, ◌++◌, Some, None, Ok, Err, Option, refl, ap, ◌∙◌, arith}
use Rattle.std.proofs.lemmas.Bool.{leb-true, ltb-true, and_parts, not-false}
use Rattle.std.specs.Option.{option_map, unwrap_or}
use Rattle.listing.specs.Changes.{contents}
use Rattle.listing.specs.Entries.{ticks_fit, kind_fits}
use Rattle.listing.specs.Product.{entries}
use Rattle.rules.specs.Held.{product_in, listed_check}
use Rattle.listing.specs.declared.products.Products.{Products}
use Rattle.orders.specs.Rows.{duration_code, duration_date}
use Rattle.rules.specs.Arrivals.{Arrival}
use Rattle.rules.specs.Entering.{entry, limit_or}
use Rattle.rules.specs.Refusing.{limit_check}
use Rattle.rules.specs.Worlds.{World, product_of, sweep_in}
use Rattle.rules.specs.declared.new_order.NewOrder.{NewOrder}
use Rattle.established.specs.Established.{Moment, established as landed}
use Rattle.rules.proofs.Prices.{same_price}
use Rattle.rules.specs.Worth.{established}
use Rattle.terms.specs.Checked.{price_at}
use Rattle.terms.specs.Ranges.{highest_price}
use Rattle.terms.specs.declared.right.Right.{Right}
use Rattle.terms.specs.Checks.{answered, earliest}
use Rattle.terms.specs.Durations.{may_rest}
use Rattle.terms.specs.declared.price.Price.{Price}
use Rattle.terms.specs.declared.refusal.Refusal.{Refusal}
use Rattle.listing.specs.declared.product.Product.{Product}
use Rattle.entering.specs.declared.admitted.Numbers.{Numbers}
use Rattle.entering.specs.Entries.{front_checks, place_checks, number_checks, trading_checks, numbers_as, admitted_as}
use Rattle.entering.specs.declared.admitted.Admitted.{Admitted}
use Rattle.market.proofs.Passed.{passed, unless_passed, price_ticks, quantity_lots, participant_number}
use Rattle.market.proofs.Ways.{fails_with, passes_with, earlier_fails, later_is}

abbrev pub AllPass : List (Option Refusal) → Type 0
AllPass [] = Unit {0}
AllPass (c ∷ cs) = (c ≡ None) × AllPass cs

pub all_passed : (cs : List (Option Refusal)) → earliest cs ≡ None → AllPass cs
all_passed [] e = tt
all_passed (c ∷ cs) e = let p = passed c (earliest cs) e in (p.0, all_passed cs p.1)

-- of checks in two parts, a failure of the first answers
pub earlier_answers : {A B : Type 0} (xs ys : List (Option Refusal)) (v : A) (w : B) (e : Refusal) → Err e ≡ answered (earliest xs) v → answered (earliest (xs ++ ys)) w ≡ Err e
earlier_answers xs ys v w e h = ap (λ o. answered o w) (earlier_fails xs ys e (fails_with _ v e h))

-- and once the first passed, the second answers
pub later_answers : {A B : Type 0} (xs ys : List (Option Refusal)) (v x : A) (w : B) → Ok x ≡ answered (earliest xs) v → answered (earliest (xs ++ ys)) w ≡ answered (earliest ys) w
later_answers xs ys v x w h = ap (λ o. answered o w) (later_is xs ys (passes_with _ v x h).0)

-- an entry whose place and numbers passed may be stopped by a halt or the sweep price alone
pub trading_left : (w : World) (time : ℕ) (o : NewOrder) (p : Product) (n : Numbers) → Ok p ≡ answered (earliest (place_checks w time o)) (product_of w o.product) → Ok n ≡ answered (earliest (number_checks w.state.day o)) (numbers_as o) →
    answered (earliest (front_checks w time o)) (admitted_as w o) ≡ answered (earliest (trading_checks w o)) (admitted_as w o)
trading_left w time o p n placed numbered =
    let a = place_checks w time o in
    let b = number_checks w.state.day o in
    let d = trading_checks w o in
    later_answers a (b ++ d) _ _ (admitted_as w o) placed ∙ later_answers b d _ _ (admitted_as w o) numbered

pub listed_below : (ps : Products) (n : ℕ) → listed_check (contents ps) n ≡ None → n < ps.count
listed_below ps n e = ltb-true n ps.count (unless_passed _ _ e)

-- a listed product's no-bust ticks
pub no_bust_fits : (ps : Products) (n : ℕ) → n < ps.count → (product_in (contents ps) n).listed.no_bust ≤ 100000
no_bust_fits ps n h =
    let whole = not-false _ (ps.sound n h) in
    let ticks = (and_parts (ticks_fit (entries ps.rows n)) (kind_fits (entries ps.rows) n (entries ps.rows n).kind) whole).0 in
    leb-true _ _ (and_parts _ (leb (entries ps.rows n).no_bust 100000) ticks).1

-- the established price that was told of a listed product
pub worth_told : (ps : Products) (m : Moment) (tells : Right → ℕ → ℕ → ℕ) (n : ℕ) (p : Price) → Ok p ≡ answered (listed_check (contents ps) n) (price_at (landed ps m tells n)) →
    (n < ps.count → landed ps m tells n ≤ highest_price) → n < ps.count → p.ticks ≡ established (contents ps) m tells n
worth_told ps m tells n p told whole listed =
    ap (λ (p : Price). p.ticks) (passes_with _ _ p told).1 ∙ omega (arith, whole listed) ∙ same_price ps m tells n

limit_is : (limit : Option ℕ) (sweep : Price) → limit_check limit ≡ None → (unwrap_or (option_map price_at limit) sweep).ticks ≡ limit_or limit sweep.ticks
limit_is None sweep e = refl
limit_is (Some ticks) sweep e = price_ticks ticks e

-- in plain numbers it is the rule's arrival
pub comes_in_as : (w : World) (time : ℕ) (o : NewOrder) (a : Admitted) → earliest (front_checks w time o) ≡ None → a ≡ admitted_as w o →
    ◌≡◌ {A = Arrival}
    (record {
      time = time;
      product = o.product;
      side = o.side;
      limit = a.limit.ticks;
      quantity = a.quantity.lots;
      whole = not (may_rest o.duration);
      number = w.state.stamp + 1;
      place = w.state.stamp + 1;
      participant = a.participant.number;
      duration = duration_code o.duration;
      date = duration_date o.duration;
      entered = w.state.day;
    })
    (entry w time o)
comes_in_as w time o a f is =
    let c = all_passed (front_checks w time o) f in
    let limit = ap (λ (x : Admitted). x.limit.ticks) is ∙ limit_is o.limit (sweep_in w o.side o.product) c.1.1.1.0 in
    let quantity = ap (λ (x : Admitted). x.quantity.lots) is ∙ quantity_lots o.quantity c.1.1.1.1.0 in
    let participant = ap (λ (x : Admitted). x.participant.number) is ∙ participant_number o.participant c.1.1.1.1.1.0 in
    λ j. record {
      time = time;
      product = o.product;
      side = o.side;
      limit = limit j;
      quantity = quantity j;
      whole = not (may_rest o.duration);
      number = w.state.stamp + 1;
      place = w.state.stamp + 1;
      participant = participant j;
      duration = duration_code o.duration;
      date = duration_date o.duration;
      entered = w.state.day;
    }
