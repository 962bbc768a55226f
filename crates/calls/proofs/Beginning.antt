-- A market just made is fresh. Assumes nothing.
use Rattle.std.proofs.Common.{◌≡◌, ℕ, zero, suc, ◌<◌, List, [], ◌∷◌, map, get_or, Ok, Err, Result, sym, refl, ap, ◌∙◌, subst}
use Rattle.std.proofs.lemmas.List.{get_or-take}
use Rattle.laws.proofs.All.{all_laws}
use Rattle.laws.specs.Histories.{NewProducts, Reached, made}
use Rattle.laws.specs.Words.{Each}
use Rattle.listing.specs.Changes.{contents}
use Rattle.listing.specs.Entries.{unlisted, listed_at}
use Rattle.listing.specs.Listings.{Lists}
use Rattle.rules.specs.Held.{product_in}
use Rattle.listing.specs.Product.{fresh}
use Rattle.listing.specs.declared.entry.Listed.{Listed}
use Rattle.listing.specs.declared.product.Product.{Product}
use Rattle.listing.specs.declared.products.Products.{Products}
use Rattle.market.specs.Makes.{emptied, Makes}
use Rattle.market.specs.declared.market.Market.{Market}
use Rattle.orders.specs.Rows.{free}
use Rattle.orders.specs.declared.row.OrderRow.{OrderRow}
use Rattle.rules.specs.Worlds.{World, world}
use Rattle.terms.specs.declared.refusal.Refusal.{Refusal}
use Rattle.terms.specs.declared.right.Right.{Right}
use Rattle.calls.specs.Begins.{Begins}

all_free : (table : List OrderRow) → Each (λ r. r ≡ free) (emptied table)
all_free [] = tt
all_free (r ∷ rows) = (refl, all_free rows)

mapped : (listing : List Listed) (k : ℕ) → get_or (map fresh listing) k (fresh unlisted) ≡ fresh (get_or listing k unlisted)
mapped [] k = refl
mapped (e ∷ rest) zero = refl
mapped (e ∷ rest) (suc k) = mapped rest k

-- each product is as it was listed
product_is : (listing : List Listed) (limit : ℕ) (ps : Products) → Lists listing limit ps → (k : ℕ) → k < ps.count → product_in (contents ps) k ≡ fresh (listed_at listing k)
product_is listing limit ps l k h =
    sym (get_or-take ps.count ps.rows k (fresh unlisted) h)
    ∙ ap (λ (rows : List Product). get_or rows k (fresh unlisted)) l.products
    ∙ mapped listing k

new_products : (listing : List Listed) (limit : ℕ) (ps : Products) → Lists listing limit ps → NewProducts (contents ps)
new_products listing limit ps l k h =
    let is = product_is listing limit ps l k h in
    is ∙ sym (ap (λ (p : Product). fresh p.listed) is)

pub begins : {M : Type 0} (tells : M → Right → ℕ → ℕ → ℕ) (listing : List Listed) (limit : ℕ) (model : M) (table table' : List OrderRow) (r : Result (Market M) (Refusal × M)) →
    Makes listing limit model table r table' → Begins tells r table'
begins tells listing limit model table table' (Ok m) h =
    λ room.
    let w : World = world m.state (contents m.products) (tells m.model) table' [] room in
    let reached : Reached [] w =
    made w (record {
      starts = h.0.starts;
      listed = new_products listing limit m.products h.0.lists;
      nobody_rests = subst (Each (λ r. r ≡ free)) (sym h.1) (all_free table);
      no_trades = refl;
    }) in
    (reached, (λ k. refl), all_laws reached)
begins tells listing limit model table table' (Err back) h = tt
