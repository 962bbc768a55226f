-- A market just made begins every history. Assumes nothing.
use Rattle.std.specs.Prelude.{ℕ, List, [], Ok, Err, Result}
use Rattle.laws.specs.Histories.{Reached}
use Rattle.laws.specs.Laws.{Laws}
use Rattle.listing.specs.Changes.{contents}
use Rattle.market.specs.declared.market.Market.{Market}
use Rattle.orders.specs.declared.row.OrderRow.{OrderRow}
use Rattle.rules.specs.Worlds.{world}
use Rattle.terms.specs.declared.refusal.Refusal.{Refusal}
use Rattle.terms.specs.declared.right.Right.{Right}
use Rattle.calls.specs.Keeping.{Kept}

-- on an empty tape it is reached by the empty history, with no case kept, and every law holds
abbrev pub Begins : {M : Type 0} → (M → Right → ℕ → ℕ → ℕ) → Result (Market M) (Refusal × M) → List OrderRow → Type 0
Begins tells (Ok m) table =
    (room : ℕ) →
    Reached [] (world m.state (contents m.products) (tells m.model) table [] room)
    × Kept [] [] × Laws [] (world m.state (contents m.products) (tells m.model) table [] room)
Begins tells (Err back) table = Unit {0}
