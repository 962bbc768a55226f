-- The sweep price and the tradeable range, in the laws' own words. Assumes nothing.
use Rattle.std.proofs.Common.{◌≡◌, ℕ, ◌+◌, ◌-◌, ◌≤◌, true, false, not, leb, List, [], ◌∷◌, Some, None, Option, sym, refl, ap, subst, inl, inr, arith}
use Rattle.std.specs.Option.{option_map, unwrap_or}
use Rattle.std.proofs.lemmas.Bool.{and_parts, leb-true, ltb-false, not-true}
use Rattle.limits.specs.Ranges.{tradeable}
use Rattle.limits.specs.Sweeps.{anchor_price, beyond}
use Rattle.listing.specs.Product.{ticks_in_force}
use Rattle.listing.specs.declared.product.Product.{Product}
use Rattle.orders.specs.Queue.{Slot, slot, head}
use Rattle.orders.specs.Questions.{slot_price}
use Rattle.orders.specs.declared.row.OrderRow.{OrderRow}
use Rattle.terms.specs.Checked.{price_at}
use Rattle.terms.specs.Sides.{opposite}
use Rattle.terms.specs.declared.price.Price.{Price}
use Rattle.terms.specs.declared.refusal.Refusal.TheVariants.{BeyondSweep}
use Rattle.terms.specs.declared.side.Side.{Side}
use Rattle.terms.specs.declared.side.Side.TheVariants.{Buy, Sell}
use Rattle.rules.specs.Entering.{limit_or}
use Rattle.rules.specs.Refusing.{limit_check, limit_held}
use Rattle.orders.specs.Questions.{best_facing}
use Rattle.rules.specs.Worlds.{World, product_of, range_in, sweep_in}
use Rattle.rules.specs.declared.new_order.NewOrder.{NewOrder}
use Rattle.laws.specs.Arriving.{InForce, Anchor, best, none_waits, Sweeps, Furthest, OwnPrice}
use Rattle.laws.specs.Book.{row_at, waits, Within}
use Rattle.laws.specs.Words.{Each}
use Rattle.laws.proofs.Passing.{unless_passed, price_passed}
use Rattle.laws.proofs.Priced.{AboveZero}
use Rattle.laws.proofs.Queues.{line, Stood, stood, each_in, Ranked, ranked, first_of, first_within}
use Rattle.laws.proofs.Sums.{each_weaker}
use Rattle.laws.proofs.Tables.{waits_proper}

-- the price of an order that rests exists
pub waits_price : (side : Side) (n : ℕ) (r : OrderRow) → waits side n r ≡ true → r.price ≤ 1000000
waits_price side n r h = (waits_proper side n r h).price

pub within_itself : (s : Side) (a : ℕ) → Within s a a
within_itself Buy a = omega arith
within_itself Sell a = omega arith

pub within_trans : (s : Side) (a b c : ℕ) → Within s a b → Within s b c → Within s a c
within_trans Buy a b c p q = omega arith
within_trans Sell a b c p q = omega arith

-- the anchor

abbrev pub anchor_of : World → Side → ℕ → Price
anchor_of w side n = anchor_price (best_facing side n w.table) (price_at (product_of w n).reference)

abbrev from_line : World → ℕ → List Slot → Price
from_line w n xs = anchor_price (option_map slot_price (head xs)) (price_at (product_of w n).reference)

anchored : (w : World) (s : Side) (n : ℕ) (xs : List Slot) → (product_of w n).reference ≤ 1000000 →
    Ranked (opposite s) xs → Each (Stood (opposite s) n w.table) xs →
    ((P : Slot → Type 0) → Each P xs → (k : ℕ) → waits (opposite s) n (row_at w.table k) ≡ true → P (slot k (row_at w.table k))) →
    Anchor w s n (from_line w n xs).ticks
anchored w s n [] l o h f = subst (Anchor w s n) (let e : (product_of w n).reference ≡ (price_at (product_of w n).reference).ticks = omega (arith, l) in e) (none_waits (λ j t. f (λ x. ⊥) tt j t))
anchored w s n (x ∷ xs) l o h f =
    let i : ℕ = x.index in
    let same : row_at w.table i ≡ x.row = h.0.same in
    let t : waits (opposite s) n (row_at w.table i) ≡ true = subst (λ r. waits (opposite s) n r ≡ true) (sym same) h.0.waiting in
    let price : (row_at w.table i).price ≡ x.row.price = ap (λ r. r.price) same in
    let low : x.row.price ≤ 1000000 = waits_price (opposite s) n x.row h.0.waiting in
    let cut_same : (row_at w.table i).price ≡ (price_at x.row.price).ticks = omega (arith, price, low) in
    subst (Anchor w s n) cut_same
    (best i t
    (λ j k. subst (λ (p : ℕ). Within (opposite s) p (row_at w.table j).price) (sym price)
    (f (λ z. Within (opposite s) x.row.price z.row.price) (
      within_itself (opposite s) x.row.price,
      each_weaker (λ y. first_of (opposite s) y.row x.row ≡ false) (λ z. Within (opposite s) x.row.price z.row.price)
          (λ y g. first_within (opposite s) x.row y.row g) xs o.0,
    )
    j k)))

facing_same : (w : World) (s : Side) (n : ℕ) → from_line w n (line (opposite s) n w.table) ≡ anchor_of w s n
facing_same w Buy n = refl
facing_same w Sell n = refl

pub the_anchor : (w : World) (s : Side) (n : ℕ) → (product_of w n).reference ≤ 1000000 → Anchor w s n (anchor_of w s n).ticks
the_anchor w s n l =
    subst (λ (p : Price). Anchor w s n p.ticks) (facing_same w s n)
    (anchored w s n (line (opposite s) n w.table) l (ranked (opposite s) n w.table) (stood (opposite s) n w.table)
    (λ P h k t. each_in P (opposite s) n w.table h k t))

-- not beyond the sweep price

pub sweeps_from : (w : World) (s : Side) (n price : ℕ) → Within s (sweep_in w s n).ticks price →
    Sweeps s (anchor_of w s n).ticks (product_of w n).listed.sweep price
sweeps_from w Buy n price h = (omega (arith, h), omega (arith, h))
sweeps_from w Sell n price h = omega (arith, h, (anchor_of w Sell n).within)

pub furthest : (w : World) (s : Side) (n : ℕ) → Furthest s (anchor_of w s n).ticks (product_of w n).listed.sweep (sweep_in w s n).ticks
furthest w Buy n = omega arith
furthest w Sell n = omega (arith, (anchor_of w Sell n).within)

-- a price that passed
pub price_within : (s : Side) (price : ℕ) (sweep : Price) → price ≤ 1000000 → limit_held s (Some price) sweep ≡ None → Within s sweep.ticks price
price_within Buy price sweep l e =
    omega (
      arith,
      l,
      ltb-false sweep.ticks (price_at price).ticks
          (not-true (beyond Buy (price_at price) sweep) (unless_passed (not (beyond Buy (price_at price) sweep)) (BeyondSweep sweep) e)),
    )
price_within Sell price sweep l e =
    omega (
      arith,
      l,
      ltb-false (price_at price).ticks sweep.ticks
          (not-true (beyond Sell (price_at price) sweep) (unless_passed (not (beyond Sell (price_at price) sweep)) (BeyondSweep sweep) e)),
    )

-- a limit that passed, or the sweep price of a market order
pub limit_within : (s : Side) (limit : Option ℕ) (sweep : Price) → limit_check limit ≡ None → limit_held s limit sweep ≡ None →
    Within s sweep.ticks (limit_or limit sweep.ticks)
limit_within s None sweep e h = within_itself s sweep.ticks
limit_within s (Some price) sweep e h = price_within s price sweep (price_passed price e) h

pub own_price : (w : World) (o : NewOrder) (limit : Option ℕ) → (product_of w o.product).reference ≤ 1000000 →
    OwnPrice w o limit (limit_or limit (sweep_in w o.side o.product).ticks)
own_price w o None l = ((anchor_of w o.side o.product).ticks, the_anchor w o.side o.product l, furthest w o.side o.product)
own_price w o (Some price) l = refl

-- the tradeable range

pub ticks_in_force_are : (p : Product) → AboveZero p.frenetic → InForce p (ticks_in_force p)
ticks_in_force_are p set = go p.frenetic refl
  where
    go : (frenetic : Option ℕ) → p.frenetic ≡ frenetic → InForce p (unwrap_or frenetic p.listed.daily)
    go None e = inl (e, refl)
    go (Some ticks) e = inr (set ticks e, e)

pub in_range : (w : World) (n price : ℕ) → (product_of w n).reference ≤ 1000000 →
    tradeable (range_in w n).low.ticks (range_in w n).high.ticks price ≡ true →
    ((product_of w n).reference ≤ price + ticks_in_force (product_of w n)) × (price ≤ (product_of w n).reference + ticks_in_force (product_of w n))
in_range w n price l e =
    let t : ℕ = ticks_in_force (product_of w n) in
    let r : ℕ = (product_of w n).reference in
    let p = and_parts (leb (range_in w n).low.ticks price) (leb price (range_in w n).high.ticks) e in
    let low : (price_at (r - t)).ticks ≤ price = leb-true (range_in w n).low.ticks price p.0 in
    let high : price ≤ (price_at (r + t)).ticks = leb-true price (range_in w n).high.ticks p.1 in
    span r t price l low high
  where
    span : (r t price : ℕ) → r ≤ 1000000 → (price_at (r - t)).ticks ≤ price → price ≤ (price_at (r + t)).ticks → (r ≤ price + t) × (price ≤ r + t)
    span r t price l low high = (omega arith, omega arith)
