use Rattle.std.proofs.Common.{◌≡◌, map, length, take}
use Rattle.listing.specs.Listings.{SoundBelow}
use Rattle.listing.specs.Product.{fresh}
use Rattle.listing.proofs.products.Products.new.Given as goal

abbrev pub invariant-loop-n : goal.invariant-loop-n
invariant-loop-n l = record {
  sound : SoundBelow l.listing l.n;
  made : take l.n l.rows ≡ map fresh (take l.n l.listing);
  whole : length l.rows ≡ 32;
}
