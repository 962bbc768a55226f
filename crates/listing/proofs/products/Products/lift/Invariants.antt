use Rattle.std.proofs.Common.{◌≡◌}
use Rattle.listing.specs.Changes.{contents, with_rows, lifted}
use Rattle.listing.proofs.products.Products.lift.Given as goal

abbrev pub invariant-loop-n : goal.invariant-loop-n
invariant-loop-n l = contents l.self ≡ with_rows l.initial.self (lifted l.n l.initial.self.rows)
