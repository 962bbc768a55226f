-- Which listings make a market's products, and what these are. Assumes nothing.
use Rattle.std.specs.Prelude.{◌≡◌, ℕ, ◌<◌, ◌≤◌, true, false, ◌⊎◌, List, map, length, take, Ok, Err, Result}
use Rattle.terms.specs.declared.malformed.Malformed.{Malformed}
use Rattle.terms.specs.declared.malformed.Malformed.TheVariants.{Count, DayLimit, Entry}
use Rattle.listing.specs.Entries.{listed_at, at_fault}
use Rattle.listing.specs.Product.{fresh}
use Rattle.listing.specs.Ranges.{most_products, longest_limit}
use Rattle.listing.specs.declared.entry.Listed.{Listed}
use Rattle.listing.specs.declared.product.Product.{Product}
use Rattle.listing.specs.declared.products.Products.{Products}

-- the products in the order of their numbers
abbrev pub products_of : Products → List Product
products_of ps = take ps.count ps.rows

pub record Counted (listing : List Listed) : Type 0 where
  pub some : 1 ≤ length listing
  pub few : length listing ≤ most_products

pub record Limited (limit : ℕ) : Type 0 where
  pub lasting : 1 ≤ limit
  pub brief : limit ≤ longest_limit

-- no entry below n is at fault
abbrev pub SoundBelow : List Listed → ℕ → Type 0
SoundBelow listing n = (k : ℕ) → k < n → at_fault (listed_at listing) k ≡ false

-- the listing and the limit keep their rules, and the products are just those listed, each as a market starts with it
pub record Lists (listing : List Listed) (limit : ℕ) (ps : Products) : Type 0 where
  pub counted : Counted listing
  pub limited : Limited limit
  pub sound : SoundBelow listing (length listing)
  pub products : products_of ps ≡ map fresh listing
  pub days : ps.limit ≡ limit

-- entry n is the lowest at fault
pub record LowestFault (listing : List Listed) (limit n : ℕ) : Type 0 where
  pub counted : Counted listing
  pub limited : Limited limit
  pub there : n < length listing
  pub fault : at_fault (listed_at listing) n ≡ true
  pub lowest : SoundBelow listing n

-- the answer to a listing: first its count, then the day limit, then the lowest entry at fault
abbrev pub Made : List Listed → ℕ → Result Products Malformed → Type 0
Made listing limit (Ok ps) = Lists listing limit ps
Made listing limit (Err Count) = (length listing < 1) ⊎ (most_products < length listing)
Made listing limit (Err DayLimit) = Counted listing × ((limit < 1) ⊎ (longest_limit < limit))
Made listing limit (Err (Entry n)) = LowestFault listing limit n
