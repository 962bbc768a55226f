-- A product that was found is listed, and keeps the rules. Assumes nothing.
use Rattle.std.proofs.Common.{◌≡◌, ℕ, ◌<◌, ◌≤◌, Bool, true, false, ◌&&◌, ltb, Ok, sym, refl, ap, ◌∙◌, arith}
use Rattle.std.proofs.lemmas.Bool.{ltb-true, lt-ltb, leb-true, and_parts, not-false, false≢true}
use Rattle.terms.specs.Checked.{price_at}
use Rattle.terms.specs.Checks.{unless, answered}
use Rattle.terms.specs.Ranges.{highest_price}
use Rattle.terms.specs.declared.price.Price.{Price}
use Rattle.terms.specs.declared.refusal.Refusal.TheVariants.{NotListed}
use Rattle.terms.specs.declared.right.Right.{Right}
use Rattle.listing.specs.Entries.{is_future, ticks_fit, kind_fits}
use Rattle.listing.specs.Product.{entries}
use Rattle.listing.specs.Questions.{product_in, listed_check}
use Rattle.listing.specs.declared.kind.Kind.{Kind}
use Rattle.listing.specs.declared.kind.Kind.TheVariants.{Future, Option as AnOption}
use Rattle.listing.specs.declared.product.Product.{Product}
use Rattle.listing.specs.declared.products.Products.{Products}

-- a product below the count is answered
pub listed_answers : {V : Type 0} (ps : Products) (n : ℕ) (answer : V) → n < ps.count → answered (listed_check ps n) answer ≡ Ok answer
listed_answers ps n answer h = rw (lt-ltb n ps.count h)

-- and only such a one is
pub listed_if : {V : Type 0} (ps : Products) (n : ℕ) (v answer : V) → Ok v ≡ answered (listed_check ps n) answer → (n < ps.count) × (v ≡ answer)
listed_if {V} ps n v answer e = go (ltb n ps.count) refl e
  where
    go : (b : Bool) → ltb n ps.count ≡ b → Ok v ≡ answered (unless b (NotListed n)) answer → (n < ps.count) × (v ≡ answer)
    go true h k = (ltb-true _ _ h, cc)
    go false h k = absurd (let z : ◌≡◌ {A = ℕ} 0 1 = cc in omega arith)

-- its reference is a price
pub reference_is : (ps : Products) (n : ℕ) → n < ps.count → (price_at (product_in ps n).reference).ticks ≡ (product_in ps n).reference
reference_is ps n h = omega (arith, ps.priced n h)

pub reference_found : (ps : Products) (n : ℕ) (p : Product) (price : Price) → n < ps.count → p ≡ product_in ps n → price ≡ price_at p.reference → price.ticks ≡ (product_in ps n).reference
reference_found ps n p price h same e =
    ap (λ (x : Price). x.ticks) e ∙ ap (λ (x : Product). (price_at x.reference).ticks) same ∙ reference_is ps n h

-- an option that is listed: its strike is a price, its underlying is a future with a smaller number
pub record OptionKeeps (ps : Products) (n strike underlying : ℕ) : Type 0 where
  pub strike_is : strike ≤ highest_price
  pub smaller : underlying < n
  pub future : (product_in ps underlying).listed.kind ≡ Future

future_if : (kind : Kind) → is_future kind ≡ true → kind ≡ Future
future_if Future e = refl
future_if (AnOption right strike underlying) e = absurd (false≢true e)

pub option_keeps : (ps : Products) (n : ℕ) (right : Right) (strike underlying : ℕ) → n < ps.count → (product_in ps n).listed.kind ≡ AnOption right strike underlying → OptionKeeps ps n strike underlying
option_keeps ps n right strike underlying h e =
    let whole = not-false _ (ps.sound n h) in
    let kept : kind_fits (entries ps.rows) n (AnOption right strike underlying) ≡ true =
    ap (kind_fits (entries ps.rows) n) (sym e) ∙ (and_parts (ticks_fit (entries ps.rows n)) _ whole).1 in
    let parts = and_parts (ltb underlying n && is_future (product_in ps underlying).listed.kind) _ kept in
    let first = and_parts (ltb underlying n) _ parts.0 in
    record {
      strike_is = leb-true _ _ parts.1;
      smaller = ltb-true _ _ first.0;
      future = future_if _ first.1;
    }
