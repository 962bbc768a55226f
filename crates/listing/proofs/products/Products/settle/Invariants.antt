use Rattle.std.proofs.Common.{◌≡◌, take}
use Rattle.listing.specs.Changes.{contents, with_rows, settled}
use Rattle.listing.proofs.products.Products.settle.Given as goal

abbrev pub invariant-loop-n : goal.invariant-loop-n
invariant-loop-n l = contents l.self ≡ with_rows l.initial.self (settled (take l.n l.prices) l.initial.self.rows)
