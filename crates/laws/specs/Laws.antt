-- The laws of every history, and what a market that refuses everything would not keep. Assumes nothing.
use Rattle.std.specs.Prelude.{◌≡◌, ◌≤◌, true, [], ◌∷◌, Some, None, Ok, Err, Result}
use Rattle.terms.specs.declared.refusal.Refusal.{Refusal}
use Rattle.rules.specs.Calls.{Answer}
use Rattle.rules.specs.Refusing.{fault}
use Rattle.rules.specs.Worlds.{World}
use Rattle.laws.specs.Book.{Tidy, Numbered}
use Rattle.laws.specs.Cases.{CancelledRightly}
use Rattle.laws.specs.Halting.{HaltedRightly}
use Rattle.laws.specs.Histories.{Event, History, Reached, is_accepted}
use Rattle.laws.specs.Keeping.{Placed, RowsKept, ToldRightly, RisingNumbers}
use Rattle.laws.specs.Quantities.{Conserved, TwoOrders}
use Rattle.laws.specs.Trading.{TradedWell}
use Rattle.laws.specs.Words.{Each}

-- accepted exactly when no check fails; else the earliest is told, and nothing changes
abbrev pub Judged : Event → Result Answer Refusal → Type 0
Judged e (Ok a) = fault e.before e.time e.call ≡ None
Judged e (Err refusal) = (fault e.before e.time e.call ≡ Some refusal) × (e.after ≡ e.before)

-- times of accepted calls never fall
abbrev pub RisingTimes : History → Type 0
RisingTimes [] = Unit {0}
RisingTimes (e ∷ h) = (is_accepted e.answer ≡ true → Each (λ f. is_accepted f.answer ≡ true → f.time ≤ e.time) h) × RisingTimes h

pub record Laws (h : History) (w : World) : Type 0 where
  -- A
  pub traded_well : TradedWell h w
  -- B
  pub conserved : Conserved h w
  pub two_orders : TwoOrders w
  -- C
  pub cancelled_rightly : CancelledRightly h w
  -- the table
  pub tidy : Tidy w.products.count w.table
  pub numbered : Numbered w.state.stamp w.table
  pub placed : Placed w
  pub kept_rows : Each RowsKept h
  pub rising_numbers : RisingNumbers h
  -- halts
  pub halted_rightly : Each HaltedRightly h
  -- the calls
  pub judged : Each (λ e. Judged e e.answer) h
  pub timely : RisingTimes h
  pub told_counts : Each ToldRightly h

abbrev pub LawsHold : Type 0
LawsHold = (h : History) (w : World) → Reached h w → Laws h w
