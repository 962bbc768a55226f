-- Histories: what was called, from the making of a market on. Assumes nothing.
use Rattle.std.specs.Prelude.{◌≡◌, ℕ, ◌+◌, ◌<◌, Bool, true, false, ◌&&◌, List, [], ◌∷◌, Ok, Err, Result, ◌==◌}
use Rattle.listing.specs.Changes.{Contents}
use Rattle.listing.specs.Product.{fresh}
use Rattle.rules.specs.Held.{product_in}
use Rattle.orders.specs.Rows.{free}
use Rattle.terms.specs.declared.determination.Determination.{Determination}
use Rattle.terms.specs.declared.determination.Determination.TheVariants.{Upheld, Cancelled}
use Rattle.terms.specs.declared.phase.Phase.TheVariants.{Closed}
use Rattle.terms.specs.declared.refusal.Refusal.{Refusal}
use Rattle.rules.specs.Calls.{Call, Answer, roll, open_session, close_session, enter, amend, withdraw, adjust, frenetic, resume, request, determine}
use Rattle.rules.specs.Rules.{Step}
use Rattle.rules.specs.Worlds.{World, state_of}
use Rattle.laws.specs.Words.{count, Each}

-- what a call found, when it came, what it was answered, and what it left
pub record Event : Type 0 where
  pub before : World
  pub time : ℕ
  pub call : Call
  pub answer : Result Answer Refusal
  pub after : World

abbrev pub event : World → ℕ → Call → Result Answer Refusal → World → Event
event w time c a w' = record { before = w; time = time; call = c; answer = a; after = w' }

-- newest first
abbrev pub History : Type 0
History = List Event

abbrev pub is_accepted : Result Answer Refusal → Bool
is_accepted (Ok a) = true
is_accepted (Err refusal) = false

-- a request for a case on this trade
abbrev pub asks_for : ℕ → Call → Bool
asks_for k (roll prices) = false
asks_for k open_session = false
asks_for k close_session = false
asks_for k (enter o) = false
asks_for k (amend m) = false
asks_for k (withdraw participant number) = false
asks_for k (adjust n price) = false
asks_for k (frenetic n ticks) = false
asks_for k resume = false
asks_for k (request participant n) = n == k
asks_for k (determine n verdict) = false

abbrev pub same_verdict : Determination → Determination → Bool
same_verdict Upheld Upheld = true
same_verdict Upheld Cancelled = false
same_verdict Cancelled Upheld = false
same_verdict Cancelled Cancelled = true

-- a determination of the case on this trade
abbrev pub decides : Determination → ℕ → Call → Bool
decides d k (roll prices) = false
decides d k open_session = false
decides d k close_session = false
decides d k (enter o) = false
decides d k (amend m) = false
decides d k (withdraw participant number) = false
decides d k (adjust n price) = false
decides d k (frenetic n ticks) = false
decides d k resume = false
decides d k (request participant n) = false
decides d k (determine n verdict) = n == k && same_verdict d verdict

-- a case on this trade was handed out by the event
abbrev pub hands_out : ℕ → Event → Bool
hands_out k e = is_accepted e.answer && asks_for k e.call

-- the case on this trade was so determined by the event
abbrev pub determines : Determination → ℕ → Event → Bool
determines d k e = is_accepted e.answer && decides d k e.call

abbrev pub cases : ℕ → History → ℕ
cases k h = count (hands_out k) h

abbrev pub verdicts : Determination → ℕ → History → ℕ
verdicts d k h = count (determines d k) h

-- cases that came back
abbrev pub spent : ℕ → History → ℕ
spent k h = verdicts Upheld k h + verdicts Cancelled k h

-- a case is determined only by who holds it: it was handed out, and is not spent
abbrev pub Holds : History → Call → Type 0
Holds h (roll prices) = Unit {0}
Holds h open_session = Unit {0}
Holds h close_session = Unit {0}
Holds h (enter o) = Unit {0}
Holds h (amend m) = Unit {0}
Holds h (withdraw participant number) = Unit {0}
Holds h (adjust n price) = Unit {0}
Holds h (frenetic n ticks) = Unit {0}
Holds h resume = Unit {0}
Holds h (request participant n) = Unit {0}
Holds h (determine n verdict) = spent n h < cases n h

-- each product as a market starts with it
abbrev pub NewProducts : Contents → Type 0
NewProducts ps = (k : ℕ) → k < ps.count → product_in ps k ≡ fresh (product_in ps k).listed

-- a market just made, on its table and an empty tape
pub record Fresh (w : World) : Type 0 where
  pub starts : w.state ≡ state_of Closed 0 0 0 false
  pub listed : NewProducts w.products
  pub nobody_rests : Each (λ r. r ≡ free) w.table
  pub no_trades : w.tape ≡ []

pub data Reached : History → World → Type 0 where
  made : (w : World) → Fresh w → Reached [] w
  then_called : {h : History} {w w' : World} {time : ℕ} {c : Call} {a : Result Answer Refusal} →
      Reached h w → Holds h c → Step w time c a w' → Reached (event w time c a w' ∷ h) w'

-- there is a history whose first trade was asked about and cancelled
abbrev pub CanCancel : Type 0
CanCancel = (h : History) × (w : World) × Reached h w × (0 < verdicts Cancelled 1 h)
