-- What an option is worth. Assumes nothing.
use Rattle.std.proofs.Common.{◌≡◌, ℕ, sym, ap}
use Rattle.listing.specs.Questions.{product_in}
use Rattle.listing.specs.declared.kind.Kind.{Kind}
use Rattle.listing.specs.declared.kind.Kind.TheVariants.{Future}
use Rattle.listing.specs.declared.products.Products.{Products}
use Rattle.terms.specs.declared.right.Right.{Right}
use Rattle.established.specs.Established.{Moment, option_worth, established_as, established}

module _ (ps : Products) (m : Moment) (tells : Right → ℕ → ℕ → ℕ) where
  -- an option's worth is told of the whole established price of its underlying
  pub worth_of_option : (right : Right) (strike underlying : ℕ) → (product_in ps underlying).listed.kind ≡ Future → option_worth ps m tells right strike underlying ≡ tells right strike (established ps m tells underlying)
  unfolding established
  worth_of_option right strike underlying e = ap (λ (k : Kind). tells right strike (established_as ps m tells underlying k)) (sym e)
