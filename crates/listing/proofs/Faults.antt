-- Whether an entry is at fault depends on it and on those below. Assumes nothing.
use Rattle.std.proofs.Common.{◌≡◌, ℕ, ◌<◌, ◌≤◌, Bool, true, false, not, ◌&&◌, ltb, leb, List, map, length, take, sym, refl, ap, ◌∙◌, arith, get_or-take}
use Rattle.std.proofs.lemmas.List.{get_or-map, length-take}
use Rattle.std.proofs.lemmas.Bool.{ltb-true}
use Rattle.terms.specs.Ranges.{highest_price}
use Rattle.listing.specs.Entries.{unlisted, listed_at, is_future, ticks_fit, kind_fits, at_fault}
use Rattle.listing.specs.Product.{fresh, product_at, entries}
use Rattle.listing.specs.declared.entry.Listed.{Listed}
use Rattle.listing.specs.declared.kind.Kind.{Kind}
use Rattle.listing.specs.declared.kind.Kind.TheVariants.{Future, Option as AnOption}
use Rattle.listing.specs.declared.product.Product.{Product}

module _ (f g : ℕ → Listed) (n : ℕ) (below : (k : ℕ) → k < n → f k ≡ g k) where
  kind_same : (kind : Kind) → kind_fits f n kind ≡ kind_fits g n kind
  kind_same Future = refl
  kind_same (AnOption right strike underlying) = go (ltb underlying n) (λ e. below underlying (ltb-true _ _ e))
    where
      go : (b : Bool) → (b ≡ true → f underlying ≡ g underlying) → (b && is_future (f underlying).kind && leb strike highest_price) ≡ (b && is_future (g underlying).kind && leb strike highest_price)
      go true e = ap (λ (l : Listed). is_future l.kind && leb strike highest_price) (e refl)
      go false e = refl

  pub fault_same : f n ≡ g n → at_fault f n ≡ at_fault g n
  fault_same e = ap (λ (l : Listed). not (ticks_fit l && kind_fits f n l.kind)) e ∙ ap (λ (b : Bool). not (ticks_fit (g n) && b)) (kind_same (g n).kind)

-- what stands in the front of a table made from a listing
pub made_at : (rows : List Product) (listing : List Listed) (n k : ℕ) → n ≤ length listing → take n rows ≡ map fresh (take n listing) → k < n → product_at rows k ≡ fresh (listed_at listing k)
made_at rows listing n k whole e h =
    sym (get_or-take n rows k (fresh unlisted) h)
    ∙ ap (λ (l : List Product). product_at l k) e
    ∙ get_or-map fresh (take n listing) k unlisted (fresh unlisted) (simp length-take (omega arith))
    ∙ ap fresh (get_or-take n listing k unlisted h)

pub made_fault : (rows : List Product) (listing : List Listed) (n k : ℕ) → n ≤ length listing → take n rows ≡ map fresh (take n listing) → k < n → at_fault (entries rows) k ≡ at_fault (listed_at listing) k
made_fault rows listing n k whole e h =
    let same : (j : ℕ) → j < n → entries rows j ≡ listed_at listing j = λ j l. ap (λ (p : Product). p.listed) (made_at rows listing n j whole e l) in
    fault_same (entries rows) (listed_at listing) k (λ j l. same j (omega arith)) (same k h)
