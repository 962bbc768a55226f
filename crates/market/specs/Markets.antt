-- A market, its order table and its tape as the world of a call, and what a call's contract says of them. Assumes nothing.
use Rattle.std.specs.Prelude.{◌≡◌, ℕ, List, [], Result}
use Rattle.listing.specs.Changes.{contents}
use Rattle.orders.specs.declared.row.OrderRow.{OrderRow}
use Rattle.tape.specs.declared.row.TradeRow.{TradeRow}
use Rattle.terms.specs.Checks.{answered, left_by}
use Rattle.terms.specs.declared.refusal.Refusal.{Refusal}
use Rattle.terms.specs.declared.right.Right.{Right}
use Rattle.rules.specs.Calls.{Call, Answer}
use Rattle.rules.specs.Refusing.{fault}
use Rattle.rules.specs.Rules.{answer, after}
use Rattle.rules.specs.Worlds.{World, world}
use Rattle.listing.specs.declared.products.Products.{Products}
use Rattle.rules.specs.declared.state.State.{State}
use Rattle.market.specs.declared.market.Market.{Market}

abbrev pub world_of : {M T : Type 0} → (M → Right → ℕ → ℕ → ℕ) → (T → List TradeRow) → (T → ℕ) → Market M → List OrderRow → T → World
world_of tells records space m table tape =
    world m.state (contents m.products) (tells m.model) table (records tape) (space tape)

-- the same without model and tape, of which many checks know nothing
abbrev pub bare : State → Products → List OrderRow → World
bare s ps table = world s (contents ps) (λ right strike underlying. 0) table [] 0

-- the state alone
abbrev pub bare_state : State → World
bare_state s = world s (record { rows = []; count = 0; limit = 0 }) (λ right strike underlying. 0) [] [] 0

-- the answer is the earliest check that fails, or the rule's answer; what stands then is what stood, or what the rule says
pub record Follows (w : World) (time : ℕ) (c : Call) (r : Result Answer Refusal) (w' : World) : Type 0 where
  pub answers : r ≡ answered (fault w time c) (answer w time c)
  pub leaves : w' ≡ left_by (fault w time c) w (after w time c 0 0)
