-- What a case is refused for. Assumes nothing.
use Rattle.std.specs.Prelude.{◌≡◌, ℕ, List, [], ◌∷◌, Ok, Err, Option, Result}
use Rattle.listing.specs.Changes.{Contents}
use Rattle.rules.specs.Calls.{Answer, determine, done}
use Rattle.rules.specs.Refusing.{side_check, mark_check, late_check, width_check, fault}
use Rattle.rules.specs.Worlds.{World, world}
use Rattle.rules.specs.declared.state.State.{State}
use Rattle.tape.specs.declared.row.TradeRow.{TradeRow}
use Rattle.terms.specs.declared.determination.Determination.{Determination}
use Rattle.terms.specs.declared.refusal.Refusal.{Refusal}
use Rattle.cases.specs.declared.case.Case.{Case}

-- on the trade itself
abbrev pub case_checks : TradeRow → ℕ → ℕ → ℕ → List (Option Refusal)
case_checks r number participant time =
    side_check r participant number ∷ mark_check r ∷ late_check r time ∷ width_check r ∷ []

abbrev pub no_products : Contents
no_products = record { rows = []; count = 0; limit = 0 }

-- a market's state beside its tape
abbrev pub beside : State → List TradeRow → World
beside s tape = world s no_products (λ right strike underlying. 0) [] tape 0

abbrev pub determination_fault : State → List TradeRow → ℕ → ℕ → Determination → Option Refusal
determination_fault s tape time number verdict = fault (beside s tape) time (determine number verdict)

-- a determination as it is answered; the case beside a refusal is the one that came
abbrev pub told_back : Result (Unit {0}) (Refusal × Case) → Result Answer Refusal
told_back (Ok u) = Ok done
told_back (Err back) = Err back.0

abbrev pub HandsBack : Case → Result (Unit {0}) (Refusal × Case) → Type 0
HandsBack case (Ok u) = Unit {0}
HandsBack case (Err back) = back.1 ≡ case
