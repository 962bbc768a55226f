-- The established market price over products is that over what they hold. Assumes nothing.
use Rattle.std.proofs.Common.{◌≡◌, ℕ, refl, ap}
use Rattle.established.specs.Established.{Moment, established_from, established_spot as landed_spot, established_future as landed_future, established_as as landed_as, established as landed}
use Rattle.listing.specs.Changes.{contents}
use Rattle.listing.specs.declared.kind.Kind.{Kind}
use Rattle.listing.specs.declared.kind.Kind.TheVariants.{Future, Option as AnOption}
use Rattle.listing.specs.declared.products.Products.{Products}
use Rattle.rules.specs.Held.{product_in}
use Rattle.rules.specs.Worth.{established_spot, established_future, established_as, established}
use Rattle.terms.specs.declared.right.Right.{Right}

pub same_spot : (ps : Products) (m : Moment) → landed_spot ps m ≡ established_spot (contents ps) m
unfolding landed_spot established_spot
same_spot ps m = refl

pub same_future : (ps : Products) (m : Moment) (n : ℕ) → landed_future ps m n ≡ established_future (contents ps) m n
unfolding landed_spot established_spot landed_future established_future
same_future ps m n = refl

same_as : (ps : Products) (m : Moment) (tells : Right → ℕ → ℕ → ℕ) (n : ℕ) (kind : Kind) → landed_as ps m tells n kind ≡ established_as (contents ps) m tells n kind
same_as ps m tells n Future = same_future ps m n
same_as ps m tells n (AnOption right strike underlying) =
    ap (λ (price : ℕ). established_from m n (product_in (contents ps) n) (tells right strike price)) (same_future ps m underlying)

pub same_price : (ps : Products) (m : Moment) (tells : Right → ℕ → ℕ → ℕ) (n : ℕ) → landed ps m tells n ≡ established (contents ps) m tells n
unfolding landed established
same_price ps m tells n = same_as ps m tells n (product_in (contents ps) n).listed.kind
