-- All products changed, one after another. Assumes nothing.
use Rattle.std.proofs.Common.{◌≡◌, ℕ, zero, suc, ◌+◌, ◌<◌, ◌≤◌, true, false, List, [], ◌∷◌, length, get_or, take, set, refl, ap, ◌∙◌, add-one, arith}
use Rattle.std.proofs.lemmas.Bool.{and_parts, leb-true}
use Rattle.terms.specs.Ranges.{highest_price}
use Rattle.listing.specs.Changes.{Contents, with_rows, with_halt, lifted, settled_at, settled, all_prices}
use Rattle.listing.specs.Product.{product_at}
use Rattle.listing.specs.declared.product.Product.{Product}
use Rattle.listing.specs.declared.products.Products.{Products}

lifted-suc : (rows : List Product) (n : ℕ) → set (lifted n rows) n (with_halt false (product_at (lifted n rows) n)) ≡ lifted (suc n) rows
lifted-suc [] zero = refl
lifted-suc [] (suc n) = refl
lifted-suc (p ∷ rows) zero = refl
lifted-suc (p ∷ rows) (suc n) = ap (λ (l : List Product). with_halt false p ∷ l) (lifted-suc rows n)

-- one product more
pub lifted_more : (before : Products) (now' : Contents) (n : ℕ) → now' ≡ with_rows before (lifted n before.rows) →
    record { rows = set now'.rows n (with_halt false (product_at now'.rows n)); count = now'.count; limit = now'.limit } ≡ with_rows before (lifted (n + 1) before.rows)
lifted_more before now' n e =
    ap (λ (x : Contents). record { rows = set x.rows n (with_halt false (product_at x.rows n)); count = x.count; limit = x.limit }) e
    ∙ ap (with_rows before) (lifted-suc before.rows n ∙ rw add-one)

settled-suc : (prices : List ℕ) (rows : List Product) (n : ℕ) → n < length prices → set (settled (take n prices) rows) n (settled_at (get_or prices n 0) (product_at (settled (take n prices) rows) n)) ≡ settled (take (suc n) prices) rows
settled-suc [] rows n h = absurd (let z : ⊥ = omega arith in z)
settled-suc (x ∷ prices) [] zero h = refl
settled-suc (x ∷ prices) [] (suc n) h = refl
settled-suc (x ∷ prices) (p ∷ rows) zero h = refl
settled-suc (x ∷ prices) (p ∷ rows) (suc n) h = ap (λ (k : List Product). settled_at x p ∷ k) (settled-suc prices rows n (omega arith))

-- one price more
pub settled_more : (before : Products) (now' : Contents) (prices : List ℕ) (n : ℕ) → n < length prices → now' ≡ with_rows before (settled (take n prices) before.rows) →
    record { rows = set now'.rows n (settled_at (get_or prices n 0) (product_at now'.rows n)); count = now'.count; limit = now'.limit } ≡ with_rows before (settled (take (n + 1) prices) before.rows)
settled_more before now' prices n h e =
    ap (λ (x : Contents). record { rows = set x.rows n (settled_at (get_or prices n 0) (product_at x.rows n)); count = x.count; limit = x.limit }) e
    ∙ ap (with_rows before) (settled-suc prices before.rows n h ∙ rw add-one)

-- each of them is a price
pub price_among : (prices : List ℕ) (n : ℕ) → all_prices prices ≡ true → n < length prices → get_or prices n 0 ≤ highest_price
price_among [] n a h = absurd (let z : ⊥ = omega arith in z)
price_among (x ∷ prices) zero a h = leb-true _ _ (and_parts _ (all_prices prices) a).0
price_among (x ∷ prices) (suc n) a h = price_among prices n (and_parts _ (all_prices prices) a).1 (omega arith)
