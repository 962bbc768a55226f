-- Every listed product's reference price is a price that exists, and frenetic ticks that are set are above 0. Assumes nothing.
use Rattle.std.proofs.Common.{◌≡◌, ℕ, zero, suc, ◌<◌, ◌≤◌, Bool, true, false, cond, eqb, leb, List, [], ◌∷◌, length, set, Some, None, Option, Result, sym, ap, refl, subst, inl, inr, le_of_suc-le-suc, not-suc-le-zero, arith, get_or-set_other}
use Rattle.std.proofs.lemmas.Bool.{cond_both, cases_eq, and_parts, leb-true, eqb-true, eqb-false}
use Rattle.std.proofs.lemmas.Option.{none-some}
use Rattle.std.specs.Option.{unwrap_or}
use Rattle.listing.specs.Changes.{with_reference, with_frenetic, with_halt, frenetic_of, lifted, settled, all_prices, Contents}
use Rattle.rules.specs.Held.{with_product, settle_check, product_in}
use Rattle.listing.specs.Entries.{unlisted}
use Rattle.listing.specs.Product.{product_at, fresh}
use Rattle.listing.specs.declared.product.Product.{Product}
use Rattle.terms.specs.Checks.{unless}
use Rattle.terms.specs.declared.field.Field.TheVariants.{Settlements, Price as the_price}
use Rattle.terms.specs.declared.halt.Halt.{Halt}
use Rattle.terms.specs.declared.halt.Halt.TheVariants.{Nothing, OneOption, WholeMarket}
use Rattle.terms.specs.declared.refusal.Refusal.{Refusal}
use Rattle.terms.specs.declared.refusal.Refusal.TheVariants.{OutOfRange}
use Rattle.rules.specs.Amending.{arrives_again, after_arrival, after_change, after_amendment, repriced}
use Rattle.rules.specs.Arrivals.{arrived, halting, halt_in}
use Rattle.rules.specs.Calls.{Call, Answer, roll, open_session, close_session, enter, amend, withdraw, adjust, frenetic, resume, request, determine}
use Rattle.rules.specs.Entering.{entry}
use Rattle.rules.specs.Refusing.{fault, checks}
use Rattle.rules.specs.Rules.{Step, refuses, accepts, after}
use Rattle.rules.specs.Worlds.{World, product_of}
use Rattle.laws.specs.Histories.{History, Reached, made, then_called}
use Rattle.laws.proofs.Passing.{all_passed, unless_passed, price_passed}

abbrev pub AboveZero : Option ℕ → Type 0
AboveZero ticks = (n : ℕ) → ticks ≡ Some n → 0 < n

pub record Sound (p : Product) : Type 0 where
  pub reference : p.reference ≤ 1000000
  pub widened : AboveZero p.frenetic

abbrev pub Priced : Contents → Type 0
Priced ps = (k : ℕ) → k < ps.count → Sound (product_in ps k)

not_set : AboveZero None
not_set ticks e = absurd (none-some ticks e)

set_above : (b : Bool) (n : ℕ) → (b ≡ false → 0 < n) → AboveZero (cond b None (Some n))
set_above true n above ticks e = not_set ticks e
set_above false n above ticks e = subst (λ k. 0 < k) (ap (λ o. unwrap_or o 0) e) (above refl)

frenetic_set : (ticks : ℕ) → AboveZero (frenetic_of ticks)
frenetic_set ticks = set_above (eqb ticks 0) ticks (λ f. let d = eqb-false ticks 0 f in omega (arith, d))

-- a product written over
pub set_keeps : (P : Product → Type 0) (rows : List Product) (n k : ℕ) (x : Product) → P x → P (product_at rows k) → P (product_at (set rows n x) k)
set_keeps P [] n k x p q = q
set_keeps P (r ∷ rows) zero zero x p q = p
set_keeps P (r ∷ rows) zero (suc k) x p q = q
set_keeps P (r ∷ rows) (suc n) zero x p q = q
set_keeps P (r ∷ rows) (suc n) (suc k) x p q = set_keeps P rows n k x p q

set_priced : (ps : Contents) (n : ℕ) (x : Product) → (n < ps.count → Sound x) → Priced ps → Priced (with_product ps n x)
set_priced ps n x h p k l =
    elim (cases_eq k n) [
      | inl e ↦ set_keeps Sound ps.rows n k x (h (subst (λ j. j < ps.count) e l)) (p k l)
      | inr d ↦ subst Sound (sym (get_or-set_other ps.rows n k x (fresh unlisted) d)) (p k l)
    ]

-- the halts lifted
pub lifted_reference : (n : ℕ) (rows : List Product) (k : ℕ) → (product_at (lifted n rows) k).reference ≡ (product_at rows k).reference
lifted_reference zero rows k = refl
lifted_reference (suc n) [] k = refl
lifted_reference (suc n) (r ∷ rows) zero = refl
lifted_reference (suc n) (r ∷ rows) (suc k) = lifted_reference n rows k

lifted_frenetic : (n : ℕ) (rows : List Product) (k : ℕ) → (product_at (lifted n rows) k).frenetic ≡ (product_at rows k).frenetic
lifted_frenetic zero rows k = refl
lifted_frenetic (suc n) [] k = refl
lifted_frenetic (suc n) (r ∷ rows) zero = refl
lifted_frenetic (suc n) (r ∷ rows) (suc k) = lifted_frenetic n rows k

-- the settlement prices taken over
settled_reference : (prices : List ℕ) (rows : List Product) (k : ℕ) → all_prices prices ≡ true → k < length prices → (product_at (settled prices rows) k).reference ≤ 1000000
settled_reference [] rows k e l = absurd (not-suc-le-zero l)
settled_reference (price ∷ prices) [] k e l = omega arith
settled_reference (price ∷ prices) (r ∷ rows) zero e l = leb-true price 1000000 (and_parts (leb price 1000000) (all_prices prices) e).0
settled_reference (price ∷ prices) (r ∷ rows) (suc k) e l =
    settled_reference prices rows k (and_parts (leb price 1000000) (all_prices prices) e).1 (le_of_suc-le-suc l)

settled_frenetic : (prices : List ℕ) (rows : List Product) (k : ℕ) → (product_at (settled prices rows) k).frenetic ≡ (product_at rows k).frenetic
settled_frenetic [] rows k = refl
settled_frenetic (price ∷ prices) [] k = refl
settled_frenetic (price ∷ prices) (r ∷ rows) zero = refl
settled_frenetic (price ∷ prices) (r ∷ rows) (suc k) = settled_frenetic prices rows k

halting_priced : (h : Halt) (n : ℕ) (ps : Contents) → Priced ps → Priced (halting h n ps)
halting_priced Nothing n ps p = p
halting_priced OneOption n ps p = set_priced ps n (with_halt true (product_in ps n)) (λ l. record { reference = (p n l).reference; widened = (p n l).widened }) p
halting_priced WholeMarket n ps p = p

settle_passed : (ps : Contents) (prices : List ℕ) → settle_check ps prices ≡ None → (all_prices prices ≡ true) × (length prices ≡ ps.count)
settle_passed ps prices e =
    let p = all_passed (unless (all_prices prices) (OutOfRange the_price) ∷ unless (eqb (length prices) ps.count) (OutOfRange Settlements) ∷ []) e in (
      unless_passed (all_prices prices) (OutOfRange the_price) p.0,
      eqb-true (length prices) ps.count (unless_passed (eqb (length prices) ps.count) (OutOfRange Settlements) p.1.0),
    )

after_priced : (w : World) (time : ℕ) (c : Call) (place room : ℕ) → fault w time c ≡ None → Priced w.products → Priced (after w time c place room).products
unfolding arrived after_amendment
after_priced w time (roll prices) place room e p =
    let s = settle_passed w.products prices (all_passed (checks w time (roll prices)) e).1.1.0 in
    λ k l.
    record {
      reference = settled_reference prices w.products.rows k s.0 (omega (arith, s.1, l));
      widened = subst AboveZero (sym (settled_frenetic prices w.products.rows k)) (p k l).widened;
    }
after_priced w time open_session place room e p = p
after_priced w time close_session place room e p = p
after_priced w time (enter o) place room e p = halting_priced (halt_in w (entry w time o)) o.product w.products p
after_priced w time (amend m) place room e p =
    cond_both (arrives_again w m) (after_arrival w m time room) (after_change w m time room) (λ v. Priced v.products)
    (λ t. halting_priced (halt_in w (repriced w m time)) (repriced w m time).product w.products p) (λ t. p)
after_priced w time (withdraw participant number) place room e p = p
after_priced w time (adjust n price) place room e p =
    set_priced w.products n (with_reference price (length w.tape) (product_of w n))
    (λ l. record { reference = price_passed price (all_passed (checks w time (adjust n price)) e).1.1.0; widened = (p n l).widened }) p
after_priced w time (frenetic n ticks) place room e p =
    set_priced w.products n (with_frenetic ticks (product_of w n)) (λ l. record { reference = (p n l).reference; widened = frenetic_set ticks }) p
after_priced w time resume place room e p =
    λ k l.
    record {
      reference = subst (λ x. x ≤ 1000000) (sym (lifted_reference w.products.count w.products.rows k)) (p k l).reference;
      widened = subst AboveZero (sym (lifted_frenetic w.products.count w.products.rows k)) (p k l).widened;
    }
after_priced w time (request participant n) place room e p = p
after_priced w time (determine n verdict) place room e p = p

pub step_priced : (w : World) (time : ℕ) (c : Call) {a : Result Answer Refusal} {w' : World} → Step w time c a w' → Priced w.products → Priced w'.products
step_priced w time c (refuses r e) p = p
step_priced w time c (accepts place room e t) p = after_priced w time c place room e p

pub sound : {h : History} {w : World} → Reached h w → (k : ℕ) → k < w.products.count → Sound (product_of w k)
sound (made w f) = λ k l. subst Sound (sym (f.listed k l)) (record { reference = omega arith; widened = not_set })
sound (then_called {w = w} {time = time} {c = c} before holds step) = step_priced w time c step (sound before)

pub priced : {h : History} {w : World} → Reached h w → (k : ℕ) → k < w.products.count → (product_of w k).reference ≤ 1000000
priced before k l = (sound before k l).reference
