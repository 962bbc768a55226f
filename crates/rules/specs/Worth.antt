-- The established market price over what products hold, by the same parts as over products. Assumes nothing.
use Rattle.std.specs.Prelude.{ℕ, cond, ◌==◌}
use Rattle.established.specs.Established.{Moment, carried, established_from}
use Rattle.listing.specs.Changes.{Contents}
use Rattle.listing.specs.declared.kind.Kind.{Kind}
use Rattle.listing.specs.declared.kind.Kind.TheVariants.{Future, Option as AnOption}
use Rattle.terms.specs.declared.right.Right.{Right}
use Rattle.rules.specs.Held.{product_in}

module _ (ps : Contents) (m : Moment) where
  -- product 0
  unfoldable pub established_spot : ℕ
  established_spot = established_from m 0 (product_in ps 0) (product_in ps 0).reference

  -- another future without a trade
  abbrev pub month_worth : ℕ → ℕ
  month_worth n = carried established_spot (product_in ps n).reference (product_in ps 0).reference

  unfoldable pub established_future : ℕ → ℕ
  established_future n = cond (n == 0) established_spot (established_from m n (product_in ps n) (month_worth n))

  module _ (tells : Right → ℕ → ℕ → ℕ) where
    -- an option without a trade
    abbrev pub option_worth : Right → ℕ → ℕ → ℕ
    option_worth right strike underlying = tells right strike (established_future underlying)

    abbrev pub established_as : ℕ → Kind → ℕ
    established_as n Future = established_future n
    established_as n (AnOption right strike underlying) =
        established_from m n (product_in ps n) (option_worth right strike underlying)

    unfoldable pub established : ℕ → ℕ
    established n = established_as n (product_in ps n).listed.kind
