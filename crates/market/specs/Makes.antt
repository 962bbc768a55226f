-- A market is made. Assumes nothing.
use Rattle.std.specs.Prelude.{◌≡◌, ℕ, false, List, map, Ok, Err, Result}
use Rattle.listing.specs.Listings.{Lists, Made}
use Rattle.listing.specs.declared.entry.Listed.{Listed}
use Rattle.orders.specs.Rows.{free}
use Rattle.orders.specs.declared.row.OrderRow.{OrderRow}
use Rattle.rules.specs.Worlds.{state_of}
use Rattle.terms.specs.declared.malformed.Malformed.{Malformed}
use Rattle.terms.specs.declared.phase.Phase.TheVariants.{Closed}
use Rattle.terms.specs.declared.refusal.Refusal.{Refusal}
use Rattle.terms.specs.declared.refusal.Refusal.TheVariants.{Malformed as malformed}
use Rattle.market.specs.declared.market.Market.{Market}

-- every place of a table free, those that do not count too
abbrev pub emptied : List OrderRow → List OrderRow
emptied table = map (λ (r : OrderRow). free) table

-- just the products listed, closed on day 0 at time 0, no stamp given and nothing halted
pub record NewMarket {M : Type 0} (listing : List Listed) (limit : ℕ) (model : M) (market : Market M) : Type 0 where
  pub lists : Lists listing limit market.products
  pub starts : market.state ≡ state_of Closed 0 0 0 false
  pub prices_by : market.model ≡ model

-- why the listing is refused, as the products tell it
pub record Faulty (listing : List Listed) (limit : ℕ) (refusal : Refusal) : Type 0 where
  pub fault : Malformed
  pub told : refusal ≡ malformed fault
  pub made : Made listing limit (Err fault)

-- a new market on an emptied table; or a refusal that hands the model back and leaves the table
abbrev pub Makes : {M : Type 0} → List Listed → ℕ → M → List OrderRow → Result (Market M) (Refusal × M) → List OrderRow → Type 0
Makes listing limit model table (Ok market) table' = NewMarket listing limit model market × (table' ≡ emptied table)
Makes listing limit model table (Err back) table' = Faulty listing limit back.0 × (back.1 ≡ model) × (table' ≡ table)
