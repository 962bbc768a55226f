-- What a call of any kind leaves and answers, and the laws of every history that it goes on. Assumes nothing.
use Rattle.std.specs.Prelude.{◌≡◌, ℕ, List, ◌∷◌, Ok, Err, Result, ◌≢◌}
use Rattle.laws.specs.Histories.{History, Reached, event}
use Rattle.laws.specs.Laws.{Laws}
use Rattle.laws.specs.Words.{Each}
use Rattle.rules.specs.Calls.{Call, Answer as RuleAnswer, request, determine}
use Rattle.rules.specs.Rules.{Step}
use Rattle.rules.specs.Worlds.{World}
use Rattle.terms.specs.declared.determination.Determination.{Determination}
use Rattle.terms.specs.declared.refusal.Refusal.{Refusal}
use Rattle.calls.specs.Keeping.{Kept, kept_after}
use Rattle.calls.specs.Made.{answer_of}
use Rattle.calls.specs.declared.call.Answer.{Answer}
use Rattle.calls.specs.declared.call.Undone.{Undone}
use Rattle.calls.specs.declared.call.Undone.TheVariants.{Refused, NoCase, NoMemory}

-- every history by which what the call found was reached goes on with it, and every law holds of the longer one
abbrev pub GoesOn : World → ℕ → Call → Result RuleAnswer Refusal → World → List ℕ → List ℕ → Type 0
GoesOn w time c r w' kept kept' =
    (h : History) → Reached h w → Kept h kept →
    Reached (event w time c r w' ∷ h) w' × Kept (event w time c r w' ∷ h) kept' × Laws (event w time c r w' ∷ h) w'

pub record Heard (w : World) (time : ℕ) (c : Call) (kept : List ℕ) (r : Result RuleAnswer Refusal) (w' : World) (kept' : List ℕ) : Type 0 where
  pub rule : Step w time c r w'
  -- a case goes in last, and the first on its trade comes out
  pub cases : kept' ≡ kept_after c r kept
  pub goes_on : GoesOn w time c r w' kept kept'

-- no case on this trade is kept: no call is made
pub record Caseless (w : World) (c : Call) (kept : List ℕ) (trade : ℕ) (w' : World) (kept' : List ℕ) : Type 0 where
  pub verdict : Determination
  pub asked : c ≡ determine trade verdict
  pub missing : Each (λ k. k ≢ trade) kept
  pub same : w' ≡ w
  pub cases : kept' ≡ kept

-- no memory for another case: no call is made
pub record Unkept (w : World) (c : Call) (kept : List ℕ) (w' : World) (kept' : List ℕ) : Type 0 where
  pub participant : ℕ
  pub trade : ℕ
  pub asked : c ≡ request participant trade
  pub same : w' ≡ w
  pub cases : kept' ≡ kept

-- a refused call is heard too, and is part of the history
abbrev pub Applied : World → ℕ → Call → List ℕ → Result Answer Undone → World → List ℕ → Type 0
Applied w time c kept (Ok answer) w' kept' = Heard w time c kept (Ok (answer_of answer)) w' kept'
Applied w time c kept (Err (Refused refusal)) w' kept' = Heard w time c kept (Err refusal) w' kept'
Applied w time c kept (Err (NoCase trade)) w' kept' = Caseless w c kept trade w' kept'
Applied w time c kept (Err NoMemory) w' kept' = Unkept w c kept w' kept'
