-- While a product is open, each buy that rests is below each sell that rests. Assumes nothing.
use Rattle.std.proofs.Common.{◌≡◌, ℕ, zero, suc, ◌+◌, ◌-◌, ◌<◌, ◌≤◌, Bool, true, false, not, ◌&&◌, eqb, ◌⊎◌, List, [], ◌∷◌, map, length, set, None, Option, Result, sym, refl, ap, ◌∙◌, subst, subst₂, inl, inr, le_of_suc-le-suc, not-suc-le-zero, arith}
use Rattle.std.specs.List.{range_with_len}
use Rattle.std.specs.Option.{option_map}
use Rattle.std.proofs.lemmas.Bool.{true≢false, false≢true, both_ways, cond_both, and_from, and_cases, or_parts, or_from, cases_eq, cases_lt, eqb-true, eq-eqb, leb-false, not-true, not-false, not_from_false}
use Rattle.book.specs.Walks.{row_left, filled}
use Rattle.listing.specs.Changes.{with_halt, with_reference, with_frenetic, Contents}
use Rattle.listing.specs.Entries.{is_future}
use Rattle.listing.specs.Product.{product_at}
use Rattle.rules.specs.Held.{product_in}
use Rattle.listing.specs.declared.kind.Kind.{Kind}
use Rattle.listing.specs.declared.kind.Kind.TheVariants.{Future, Option as AnOption}
use Rattle.listing.specs.declared.product.Product.{Product}
use Rattle.orders.specs.Queue.{Slot, slot, head, counted}
use Rattle.orders.specs.Questions.{slot_price, crosses, best_buy, best_sell, stands}
use Rattle.orders.specs.Rows.{fair, free, side_code}
use Rattle.orders.specs.declared.row.OrderRow.{OrderRow}
use Rattle.terms.specs.Sides.{opposite}
use Rattle.terms.specs.declared.halt.Halt.{Halt}
use Rattle.terms.specs.declared.halt.Halt.TheVariants.{Nothing, OneOption, WholeMarket}
use Rattle.terms.specs.declared.phase.Phase.{Phase}
use Rattle.terms.specs.declared.phase.Phase.TheVariants.{Closed, BeforeNight, NightSession, BeforeDay, DaySession}
use Rattle.terms.specs.declared.refusal.Refusal.{Refusal}
use Rattle.terms.specs.declared.refusal.Refusal.TheVariants.{Crossed}
use Rattle.terms.specs.declared.side.Side.{Side}
use Rattle.terms.specs.declared.side.Side.TheVariants.{Buy, Sell}
use Rattle.rules.specs.Amending.{slot_in, new_price, arrives_again, repriced, changed_order, after_arrival, after_change, after_amendment}
use Rattle.rules.specs.Arrivals.{Arrival, met, arrived, remainder, halt_by, halt_in, halts_market, halting}
use Rattle.rules.specs.Calls.{Call, Answer, roll, open_session, close_session, enter, amend, withdraw, adjust, frenetic, resume, request, determine}
use Rattle.rules.specs.Entering.{entry}
use Rattle.rules.specs.Refusing.{fault, checks, crossed_check, crossing_check}
use Rattle.rules.specs.Rules.{Step, refuses, accepts, after, Chosen}
use Rattle.rules.specs.Worlds.{World, in_session, next_phase, is_halted, is_open, product_of}
use Rattle.rules.specs.declared.amendment.Amendment.{Amendment}
use Rattle.laws.specs.Arriving.{Open}
use Rattle.laws.specs.Book.{row_at, waits, Within, Tidy, Uncrossed}
use Rattle.laws.specs.Histories.{History, Reached, made, then_called}
use Rattle.laws.specs.Words.{Each}
use Rattle.laws.proofs.Anchors.{waits_price}
use Rattle.laws.proofs.Arrivals.{Lands, new_row, rows_after, clear}
use Rattle.laws.proofs.FairRows.{stands_fair, stands_listed, reduced}
use Rattle.laws.proofs.Fills.{taken_at, left_of}
use Rattle.laws.proofs.Found.{Found, found}
use Rattle.laws.proofs.Landing.{free_off, entry_lands, amend_lands}
use Rattle.laws.proofs.Numbers.{tidy}
use Rattle.laws.proofs.Passing.{all_passed, unless_passed, phase_passed, entry_passed, AmendmentPassed, amendment_passed, withdrawal_passed}
use Rattle.laws.proofs.Queues.{line, Stood, stood, each_in, Ranked, ranked, first_of, first_within}
use Rattle.laws.proofs.Sums.{each_weaker}
use Rattle.laws.proofs.Tables.{row_same, row_other, waits_rest, waits_side, waits_product}

-- what waits after waited before, at the same price
abbrev Keeps : ℕ → OrderRow → OrderRow → Type 0
Keeps n r r' = (s : Side) → waits s n r' ≡ true → (waits s n r ≡ true) × (r'.price ≡ r.price)

uncrossed_kept : (n : ℕ) (t t' : List OrderRow) → ((i : ℕ) → Keeps n (row_at t i) (row_at t' i)) → Uncrossed n t → Uncrossed n t'
uncrossed_kept n t t' k u i j b s =
    let p = k i Buy b in
    let q = k j Sell s in
    omega (arith, p.1, q.1, u i j p.0 q.0)

uncrossed_set : (n : ℕ) (t : List OrderRow) (p : ℕ) (r : OrderRow) → p < length (counted t) → Keeps n (row_at t p) r → Uncrossed n t → Uncrossed n (set t p r)
uncrossed_set n t p r l k =
    uncrossed_kept n t (set t p r)
    (λ i. elim (cases_eq i p) [
      | inl e ↦ subst (λ (j : ℕ). Keeps n (row_at t j) (row_at (set t p r) j)) (sym e) (subst (Keeps n (row_at t p)) (sym (row_same t p r l)) k)
      | inr d ↦ subst (Keeps n (row_at t i)) (sym (row_other t p i r l d)) (λ s h. (h, refl))
    ])

waits_from : (s : Side) (n : ℕ) (r : OrderRow) → fair r ≡ true → r.side ≡ side_code s → r.product ≡ n → waits s n r ≡ true
waits_from s n r f d p =
    and_from (fair r) (eqb r.side (side_code s) && eqb r.product n) f
    (and_from (eqb r.side (side_code s)) (eqb r.product n)
    (eq-eqb r.side (side_code s) d) (eq-eqb r.product n p))

-- the best prices of the two queues apart, the product is not crossed

apart_queues : (n : ℕ) (t : List OrderRow) (bs ss : List Slot) → crosses (option_map slot_price (head bs)) (option_map slot_price (head ss)) ≡ false →
    ((P : Slot → Type 0) → Each P bs → (k : ℕ) → waits Buy n (row_at t k) ≡ true → P (slot k (row_at t k))) →
    ((P : Slot → Type 0) → Each P ss → (k : ℕ) → waits Sell n (row_at t k) ≡ true → P (slot k (row_at t k))) →
    Each (Stood Buy n t) bs → Each (Stood Sell n t) ss → Ranked Buy bs → Ranked Sell ss → Uncrossed n t
apart_queues n t [] ss c f g m m' o o' i j b s = absurd (f (λ x. ⊥) tt i b)
apart_queues n t (x ∷ xs) [] c f g m m' o o' i j b s = absurd (g (λ x. ⊥) tt j s)
apart_queues n t (x ∷ xs) (y ∷ ys) c f g m m' o o' i j b s =
    let low : (row_at t i).price ≤ x.row.price =
    f (λ z. z.row.price ≤ x.row.price)
    (omega arith, each_weaker (λ z. first_of Buy z.row x.row ≡ false) (λ z. z.row.price ≤ x.row.price) (λ z e. first_within Buy x.row z.row e) xs o.0) i b in
    let up : y.row.price ≤ (row_at t j).price =
    g (λ z. y.row.price ≤ z.row.price)
    (omega arith, each_weaker (λ z. first_of Sell z.row y.row ≡ false) (λ z. y.row.price ≤ z.row.price) (λ z e. first_within Sell y.row z.row e) ys o'.0) j s in
    let bound : x.row.price ≤ 1000000 = waits_price Buy n x.row m.0.waiting in
    let bound' : y.row.price ≤ 1000000 = waits_price Sell n y.row m'.0.waiting in
    omega (arith, low, up, bound, bound', leb-false (slot_price y).ticks (slot_price x).ticks c)

uncrossed_from : (n : ℕ) (t : List OrderRow) → crosses (best_buy n t) (best_sell n t) ≡ false → Uncrossed n t
uncrossed_from n t c =
    apart_queues n t (line Buy n t) (line Sell n t) c (λ P h k e. each_in P Buy n t h k e) (λ P h k e. each_in P Sell n t h k e)
    (stood Buy n t) (stood Sell n t) (ranked Buy n t) (ranked Sell n t)

each_counted : (P : ℕ → Type 0) (f : ℕ → Option Refusal) → ((k : ℕ) → f k ≡ None → P k) → (a n : ℕ) → Each (λ c. c ≡ None) (map f (range_with_len a n)) → (k : ℕ) → k < n → P (a + k)
each_counted P f g a zero h k l = absurd (not-suc-le-zero l)
each_counted P f g a (suc n) h zero l = subst P (omega arith) (g a h.0)
each_counted P f g a (suc n) h (suc k) l = subst P (omega arith) (each_counted P f g (a + 1) n h.1 k (le_of_suc-le-suc l))

-- nobody waits in a product that is not listed
nobody : (count : ℕ) (t : List OrderRow) → Tidy count t → (n : ℕ) → count ≤ n → (s : Side) (i : ℕ) → waits s n (row_at t i) ≡ true → ⊥
nobody count t td n l s i h =
    elim (td i) [
      | inl e ↦ both_ways (waits s n (row_at t i)) (ap (waits s n) e ∙ free_off s n) h
      | inr st ↦ (let z : ⊥ = omega (
        arith,
        l,
        waits_product s n (row_at t i) h,
        stands_listed count (row_at t i) st,
      ) in z)
    ]

checked_apart : (w : World) → Tidy w.products.count w.table → crossing_check w ≡ None → (n : ℕ) → Uncrossed n w.table
checked_apart w td e n =
    elim (cases_lt n w.products.count) [
      | inl l ↦ subst (λ (k : ℕ). Uncrossed k w.table) (omega arith)
          (each_counted (λ k. Uncrossed k w.table) (crossed_check w.table)
          (λ k c. uncrossed_from k w.table (not-true (crosses (best_buy k w.table) (best_sell k w.table))
          (unless_passed (not (crosses (best_buy k w.table) (best_sell k w.table))) (Crossed k) c)))
          0 w.products.count (all_passed (map (crossed_check w.table) (range_with_len 0 w.products.count)) e) n l)
      | inr l ↦ (λ i j b s. absurd (nobody w.products.count w.table td n l Buy i b))
    ]

-- what is left of a row that waited

left_kept : (count n : ℕ) (r : OrderRow) (m : ℕ) → (r ≡ free) ⊎ (stands count r ≡ true) → Keeps n r (left_of r m)
left_kept count n r m td s =
    let K : OrderRow → Type 0 = λ x. waits s n x ≡ true → (waits s n r ≡ true) × (x.price ≡ r.price) in
    cond_both (eqb m 0) r (row_left r m) K (λ e h. (h, refl))
    (λ e. cond_both (eqb r.rest m) free (reduced r (r.rest - m)) K (λ q h. absurd (both_ways (waits s n free) (free_off s n) h))
    (λ q h. elim td [
      | inl f ↦ (let z : ⊥ = omega (arith, waits_rest s n (reduced r (r.rest - m)) h, ap (λ (x : OrderRow). x.rest) f) in absurd z)
      | inr st ↦ (waits_from s n r (stands_fair count r st) (waits_side s n (reduced r (r.rest - m)) h) (waits_product s n (reduced r (r.rest - m)) h), refl)
    ]))

-- the order that arrived, where it rests
pub record RestsNew (a : Arrival) (n : ℕ) (s : Side) (rest price : ℕ) : Type 0 where
  pub some : 0 < rest
  pub side : side_code a.side ≡ side_code s
  pub product : a.product ≡ n
  pub price_is : price ≡ a.limit

new_waits : (a : Arrival) (n : ℕ) (s : Side) (rest : ℕ) → waits s n (new_row a rest) ≡ true → RestsNew a n s rest (new_row a rest).price
new_waits a n s rest =
    cond_both (eqb rest 0) free (remainder a rest) (λ x. waits s n x ≡ true → RestsNew a n s rest x.price)
    (λ e h. absurd (both_ways (waits s n free) (free_off s n) h))
    (λ e h. record {
      some = waits_rest s n (remainder a rest) h;
      side = waits_side s n (remainder a rest) h;
      product = waits_product s n (remainder a rest) h;
      price_is = refl;
    })

side_same : (s t : Side) → side_code s ≡ side_code t → s ≡ t
side_same Buy Buy e = refl
side_same Buy Sell e = let z : ⊥ = omega (arith, e) in absurd z
side_same Sell Buy e = let z : ⊥ = omega (arith, e) in absurd z
side_same Sell Sell e = refl

-- the order that arrived does not cross the book

module _ (w : World) (a : Arrival) (i : ℕ) (table : List OrderRow) (room : ℕ) (lands : Lands w a i table) (td : Tidy w.products.count w.table) (n : ℕ) where
  abbrev book : List OrderRow
  book = (arrived w a i table room).table

  abbrev New : Side → ℕ → Type 0
  New s k = (k ≡ i) × RestsNew a n s (met w a).rest (row_at book k).price

  abbrev Old : Side → ℕ → Type 0
  Old s k = (k ≡ i → ⊥) × (waits s n (row_at w.table k) ≡ true) × ((row_at book k).price ≡ (row_at w.table k).price)

  either : (s : Side) (k : ℕ) → waits s n (row_at book k) ≡ true → New s k ⊎ Old s k
  either s k h =
      elim (rows_after w a i table room lands k) [
        | inl p ↦ inl (
          p.0,
          subst (λ (x : OrderRow). RestsNew a n s (met w a).rest x.price) (sym p.1)
              (new_waits a n s (met w a).rest (subst (λ (x : OrderRow). waits s n x ≡ true) p.1 h)),
        )
        | inr p ↦ (let q = left_kept w.products.count n (row_at w.table k) (taken_at k (met w a).fills) (td k) s (subst (λ (x : OrderRow). waits s n x ≡ true) p.1 h) in
            inr (p.0, q.0, ap (λ (x : OrderRow). x.price) p.1 ∙ q.1))
      ]

  clear_of : (met w a).halted ≡ false → 0 < (met w a).rest → (s : Side) → a.side ≡ s → a.product ≡ n →
      (k : ℕ) → (k ≡ i → ⊥) → waits (opposite s) n (row_at book k) ≡ true → Within s a.limit (row_at w.table k).price → ⊥
  clear_of m r s e p k d t h =
      clear w a i table room lands m r k d
      (subst₂ (λ (x : Side) (y : ℕ). waits (opposite x) y (row_at book k) ≡ true) (sym e) (sym p) t)
      (subst (λ (x : Side). Within x a.limit (row_at w.table k).price) (sym e) h)

  pub arrived_uncrossed : (a.product ≡ n → (met w a).halted ≡ false) → Uncrossed n w.table → Uncrossed n book
  arrived_uncrossed m u x y b s =
      elim (either Buy x b) [
        | inl p ↦ elim (either Sell y s) [
          | inl q ↦ (let z : ⊥ = omega (arith, p.1.side, q.1.side) in absurd z)
          | inr q ↦ (
              let far : (row_at w.table y).price ≤ a.limit → ⊥ = clear_of (m p.1.product) p.1.some Buy (side_same a.side Buy p.1.side) p.1.product y q.0 s in
              omega (arith, far, p.1.price_is, q.2))
        ]
        | inr p ↦ elim (either Sell y s) [
          | inl q ↦ (
              let far : a.limit ≤ (row_at w.table x).price → ⊥ = clear_of (m q.1.product) q.1.some Sell (side_same a.side Sell q.1.side) q.1.product x p.0 b in
              omega (arith, far, q.1.price_is, p.2))
          | inr q ↦ omega (arith, u x y p.1 q.1, p.2, q.2)
        ]
      ]

-- an arrival that halts leaves its product not open

set_halt_off : (rows : List Product) (p k : ℕ) (x : Product) → x.halted ≡ true → (product_at (set rows p x) k).halted ≡ false → (product_at rows k).halted ≡ false
set_halt_off [] p k x t h = h
set_halt_off (r ∷ rows) zero zero x t h = absurd (both_ways x.halted h t)
set_halt_off (r ∷ rows) zero (suc k) x t h = h
set_halt_off (r ∷ rows) (suc p) zero x t h = h
set_halt_off (r ∷ rows) (suc p) (suc k) x t h = set_halt_off rows p k x t h

halting_off : (h : Halt) (p : ℕ) (ps : Contents) (k : ℕ) → (product_in (halting h p ps) k).halted ≡ false → (product_in ps k).halted ≡ false
halting_off Nothing p ps k e = e
halting_off OneOption p ps k e = set_halt_off ps.rows p k (with_halt true (product_in ps p)) refl e
halting_off WholeMarket p ps k e = e

-- what is no future is one of the rows
pub option_there : (rows : List Product) (p : ℕ) (x : Product) → is_future (product_at rows p).listed.kind ≡ false → product_at (set rows p x) p ≡ x
option_there [] p x e = absurd (true≢false e)
option_there (r ∷ rows) zero x e = refl
option_there (r ∷ rows) (suc p) x e = option_there rows p x e

halts_told : (ps : Contents) (p : ℕ) (kind : Kind) (halted : Bool) → (product_in ps p).listed.kind ≡ kind →
    halts_market (halt_by kind halted) ≡ false → (product_in (halting (halt_by kind halted) p ps) p).halted ≡ false → halted ≡ false
halts_told ps p Future true e m h = absurd (true≢false m)
halts_told ps p Future false e m h = refl
halts_told ps p (AnOption right strike underlying) true e m h =
    absurd (both_ways (product_at (set ps.rows p (with_halt true (product_in ps p))) p).halted h
    (ap (λ (x : Product). x.halted) (option_there ps.rows p (with_halt true (product_in ps p)) (ap is_future e))))
halts_told ps p (AnOption right strike underlying) false e m h = refl

arrived_open : (w : World) (a : Arrival) (i : ℕ) (table : List OrderRow) (room n : ℕ) → Open (arrived w a i table room) n → Open w n × (a.product ≡ n → (met w a).halted ≡ false)
unfolding arrived
arrived_open w a i table room n o =
    let p = or_parts (halts_market (halt_in w a)) w.state.halted o.market in (
      record { runs = o.runs; market = p.1; product = halting_off (halt_in w a) a.product w.products n o.product },
      λ e. halts_told w.products a.product (product_of w a.product).listed.kind (met w a).halted refl p.0
          (subst (λ (k : ℕ). (product_in (halting (halt_in w a) a.product w.products) k).halted ≡ false) (sym e) o.product),
    )

-- the law at one world

abbrev Clear : World → Type 0
Clear w = (n : ℕ) → Open w n → Uncrossed n w.table

arrived_clear : (w : World) (a : Arrival) (i : ℕ) (table : List OrderRow) (room : ℕ) → Lands w a i table → Tidy w.products.count w.table → Clear w → Clear (arrived w a i table room)
arrived_clear w a i table room lands td u n o =
    let p = arrived_open w a i table room n o in
    arrived_uncrossed w a i table room lands td n p.1 (u n p.0)

runs_session : (p : Phase) → (p ≡ NightSession) ⊎ (p ≡ DaySession) → in_session p ≡ true
runs_session p (inl e) = ap in_session e
runs_session p (inr e) = ap in_session e

pub is_open_since : (w : World) (n : ℕ) → Open w n → is_open w n ≡ true
is_open_since w n o =
    and_from (in_session w.state.phase) (not (is_halted w n)) (runs_session w.state.phase o.runs)
    (not_from_false (is_halted w n) (or_from w.state.halted (product_of w n).halted o.market o.product))

amend_clear : (w : World) (time : ℕ) (m : Amendment) (room : ℕ) → AmendmentPassed w time m → Tidy w.products.count w.table → Clear w → Clear (after_amendment w m time room)
unfolding after_amendment
amend_clear w time m room p td u =
    let f : Found w m.participant m.order = found w m.participant m.order p.owner in
    let i : ℕ = (slot_in w m.order).index in
    let x : OrderRow = (slot_in w m.order).row in
    let r : OrderRow = changed_order w m in
    cond_both (arrives_again w m) (after_arrival w m time room) (after_change w m time room) Clear
    (λ e. arrived_clear w (repriced w m time) i (set (filled (met w (repriced w m time)).fills w.table) i free) room (amend_lands w m time p.owner) td u)
    (λ e n o.
    let before : Open w n = record { runs = o.runs; market = o.market; product = o.product } in
    uncrossed_set n w.table i r f.within
    (subst (λ (y : OrderRow). Keeps n y r) (sym f.same)
    (λ s h.
    let product : x.product ≡ n = waits_product s n r h in
    let price : m.price ≡ x.price =
    elim (and_cases (new_price w m) (is_open w x.product) e) [
      | inl k ↦ eqb-true m.price x.price (not-false (eqb m.price x.price) k)
      | inr k ↦ absurd (both_ways (is_open w x.product) k (subst (λ (j : ℕ). is_open w j ≡ true) (sym product) (is_open_since w n before)))
    ] in
    (waits_from s n x (stands_fair w.products.count x f.stood) (waits_side s n r h) product, price)))
    (u n before))

closing : (p : Phase) → in_session p ≡ true → in_session (next_phase p) ≡ true → ⊥
closing Closed e h = false≢true e
closing BeforeNight e h = false≢true e
closing NightSession e h = false≢true h
closing BeforeDay e h = false≢true e
closing DaySession e h = false≢true h

-- a change of a product that leaves its halt
pub halt_kept : (rows : List Product) (p k : ℕ) (x : Product) → x.halted ≡ (product_at rows p).halted → (product_at (set rows p x) k).halted ≡ (product_at rows k).halted
halt_kept [] p k x e = refl
halt_kept (r ∷ rows) zero zero x e = e
halt_kept (r ∷ rows) zero (suc k) x e = refl
halt_kept (r ∷ rows) (suc p) zero x e = refl
halt_kept (r ∷ rows) (suc p) (suc k) x e = halt_kept rows p k x e

after_clear : (w : World) (time : ℕ) (c : Call) (place room : ℕ) → fault w time c ≡ None → Chosen w time c place room → Tidy w.products.count w.table → Clear w → Clear (after w time c place room)
after_clear w time (roll prices) place room e t td u n o = absurd (false≢true (runs_session BeforeNight o.runs))
after_clear w time open_session place room e t td u n o = checked_apart w td (all_passed (checks w time open_session) e).1.1.0 n
after_clear w time close_session place room e t td u n o =
    absurd (closing w.state.phase (phase_passed w (in_session w.state.phase) (all_passed (checks w time close_session) e).1.0)
    (runs_session (next_phase w.state.phase) o.runs))
after_clear w time (enter x) place room e t td u n o =
    let p = entry_passed w time x e in
    arrived_clear w (entry w time x) place (filled (met w (entry w time x)).fills w.table) room (entry_lands w time x place td p.listed t.0) td u n o
after_clear w time (amend m) place room e t td u n o = amend_clear w time m room (amendment_passed w time m e) td u n o
after_clear w time (withdraw participant number) place room e t td u n o =
    let f : Found w participant number = found w participant number (withdrawal_passed w time participant number e) in
    uncrossed_set n w.table (slot_in w number).index free f.within
    (λ s h. absurd (both_ways (waits s n free) (free_off s n) h)) (u n (record { runs = o.runs; market = o.market; product = o.product }))
after_clear w time (adjust k price) place room e t td u n o =
    u n (record {
      runs = o.runs;
      market = o.market;
      product = sym (halt_kept w.products.rows k n (with_reference price (length w.tape) (product_of w k)) refl) ∙ o.product;
    })
after_clear w time (frenetic k ticks) place room e t td u n o =
    u n (record {
      runs = o.runs;
      market = o.market;
      product = sym (halt_kept w.products.rows k n (with_frenetic ticks (product_of w k)) refl) ∙ o.product;
    })
after_clear w time resume place room e t td u n o = checked_apart w td (all_passed (checks w time resume) e).1.1.0 n
after_clear w time (request participant k) place room e t td u n o = u n (record { runs = o.runs; market = o.market; product = o.product })
after_clear w time (determine k verdict) place room e t td u n o = u n (record { runs = o.runs; market = o.market; product = o.product })

step_clear : (w : World) (time : ℕ) (c : Call) {a : Result Answer Refusal} {w' : World} → Step w time c a w' → Tidy w.products.count w.table → Clear w → Clear w'
step_clear w time c (refuses r e) td u = u
step_clear w time c (accepts place room e t) td u = after_clear w time c place room e t td u

pub uncrossed : {h : History} {w : World} → Reached h w → (n : ℕ) → Open w n → Uncrossed n w.table
uncrossed (made w f) n o =
    absurd (both_ways (in_session w.state.phase) (ap (λ s. in_session s.phase) f.starts) (runs_session w.state.phase o.runs))
uncrossed (then_called {w = w} {time = time} {c = c} before holds step) n o = step_clear w time c step (tidy before) (uncrossed before) n o
