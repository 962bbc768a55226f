-- The eleven calls, and what each is answered once accepted. Assumes nothing.
use Rattle.std.specs.Prelude.{ℕ, List, Ok, Err, Result}
use Rattle.terms.specs.declared.determination.Determination.{Determination}
use Rattle.terms.specs.declared.refusal.Refusal.{Refusal}
use Rattle.rules.specs.declared.amendment.Amendment.{Amendment}
use Rattle.rules.specs.declared.new_order.NewOrder.{NewOrder}
use Rattle.rules.specs.Receipts.{Receipt}

-- each comes at a time, which stands beside it
pub data Call : Type 0 where
  -- one settlement price for each product
  roll : (prices : List ℕ) → Call
  open_session : Call
  close_session : Call
  enter : (order : NewOrder) → Call
  amend : (amendment : Amendment) → Call
  withdraw : (participant number : ℕ) → Call
  adjust : (product price : ℕ) → Call
  frenetic : (product ticks : ℕ) → Call
  resume : Call
  request : (participant trade : ℕ) → Call
  -- of the case on this trade
  determine : (trade : ℕ) → (verdict : Determination) → Call

pub data Answer : Type 0 where
  done : Answer
  -- so many orders left at the close
  removed : (orders : ℕ) → Answer
  received : (receipt : Receipt) → Answer
  -- the order left with so much
  left_with : (quantity : ℕ) → Answer
  -- a case on this trade is handed out
  case_on : (trade : ℕ) → Answer

-- what a call itself returns, as an answer
abbrev pub told : {A : Type 0} → (A → Answer) → Result A Refusal → Result Answer Refusal
told name (Ok answer) = Ok (name answer)
told name (Err refusal) = Err refusal
