-- Products are known by what they hold. Assumes nothing.
use Rattle.std.proofs.Common.{◌≡◌, ℕ, ◌<◌, ◌≤◌, true, false}
use mathlib.Core.Path.{PathP, to_path_p}
use mathlib.Core.Bool.{Bool-set}
use native.Mathlib.Bridge.{le_prop}
use Rattle.terms.specs.Ranges.{highest_price}
use Rattle.listing.specs.Changes.{contents}
use Rattle.listing.specs.Entries.{at_fault}
use Rattle.listing.specs.Product.{entries, frenetic_fits, product_at}
use Rattle.listing.specs.Ranges.{most_products, longest_limit}
use Rattle.listing.specs.declared.products.Products.{Products}

-- a fact of each number below a bound is known by being one of each
each_same : (n : ℕ) (P : ℕ → Type 0) → ((k : ℕ) (p q : P k) → p ≡ q) → (f g : (k : ℕ) → k < n → P k) → f ≡ g
each_same n P same f g = λ i k h. same k (f k h) (g k h) i

pub products_same : (a b : Products) → contents a ≡ contents b → a ≡ b
products_same a b e =
    λ i.
    record {
      rows = (e i).rows;
      count = (e i).count;
      limit = (e i).limit;
      some = some_at i;
      few = few_at i;
      lasting = lasting_at i;
      brief = brief_at i;
      sound = sound_at i;
      priced = priced_at i;
      widened = widened_at i;
    }
  where
    some_at : PathP (λ i. 1 ≤ (e i).count) a.some b.some
    some_at = to_path_p (λ i. 1 ≤ (e i).count) (le_prop _ b.some)

    few_at : PathP (λ i. (e i).count ≤ most_products) a.few b.few
    few_at = to_path_p (λ i. (e i).count ≤ most_products) (le_prop _ b.few)

    lasting_at : PathP (λ i. 1 ≤ (e i).limit) a.lasting b.lasting
    lasting_at = to_path_p (λ i. 1 ≤ (e i).limit) (le_prop _ b.lasting)

    brief_at : PathP (λ i. (e i).limit ≤ longest_limit) a.brief b.brief
    brief_at = to_path_p (λ i. (e i).limit ≤ longest_limit) (le_prop _ b.brief)

    sound_at : PathP (λ i. (k : ℕ) → k < (e i).count → at_fault (entries (e i).rows) k ≡ false) a.sound b.sound
    sound_at = to_path_p (λ i. (k : ℕ) → k < (e i).count → at_fault (entries (e i).rows) k ≡ false) (each_same b.count (λ k. at_fault (entries b.rows) k ≡ false) (λ k. Bool-set _ _) _ b.sound)

    priced_at : PathP (λ i. (k : ℕ) → k < (e i).count → (product_at (e i).rows k).reference ≤ highest_price) a.priced b.priced
    priced_at = to_path_p (λ i. (k : ℕ) → k < (e i).count → (product_at (e i).rows k).reference ≤ highest_price) (each_same b.count (λ k. (product_at b.rows k).reference ≤ highest_price) (λ k. le_prop) _ b.priced)

    widened_at : PathP (λ i. (k : ℕ) → k < (e i).count → frenetic_fits (product_at (e i).rows k).listed.daily (product_at (e i).rows k).frenetic ≡ true) a.widened b.widened
    widened_at = to_path_p (λ i. (k : ℕ) → k < (e i).count → frenetic_fits (product_at (e i).rows k).listed.daily (product_at (e i).rows k).frenetic ≡ true) (each_same b.count (λ k. frenetic_fits (product_at b.rows k).listed.daily (product_at b.rows k).frenetic ≡ true) (λ k. Bool-set _ _) _ b.widened)
