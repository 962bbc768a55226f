-- The halting law: a call halts exactly when its next match lies outside the tradeable range. Assumes nothing.
use Rattle.std.specs.Prelude.{◌≡◌, ℕ, ◌+◌, ◌<◌, true, ◌⊎◌, Ok, Err, Result, ◌≢◌}
use Rattle.listing.specs.declared.kind.Kind.{Kind}
use Rattle.listing.specs.declared.kind.Kind.TheVariants.{Future, Option as AnOption}
use Rattle.listing.specs.declared.product.Product.{Product}
use Rattle.terms.specs.Sides.{opposite}
use Rattle.terms.specs.declared.halt.Halt.{Halt}
use Rattle.terms.specs.declared.halt.Halt.TheVariants.{Nothing, OneOption, WholeMarket}
use Rattle.terms.specs.declared.refusal.Refusal.{Refusal}
use Rattle.rules.specs.Calls.{Call, Answer}
use Rattle.rules.specs.Calls.{roll, open_session, close_session, enter, amend, withdraw, adjust, frenetic, resume, request, determine}
use Rattle.rules.specs.Calls.{done, removed, received, left_with, case_on}
use Rattle.rules.specs.Worlds.{World, product_of}
use Rattle.rules.specs.declared.amendment.Amendment.{Amendment}
use Rattle.laws.specs.Arriving.{Open, InForce, Arriver, Arrives}
use Rattle.laws.specs.Book.{row_at, waits, Within, Before}
use Rattle.laws.specs.Histories.{Event}

-- a price is further than the daily ticks from the reference price
abbrev pub Outside : Product → ℕ → ℕ → Type 0
Outside p daily price = (price + daily < p.reference) ⊎ (p.reference + daily < price)

-- the market is halted after the event only if it was before, and so is a product
abbrev pub MarketStays : Event → Type 0
MarketStays e = e.after.state.halted ≡ true → e.before.state.halted ≡ true

abbrev pub ProductStays : Event → ℕ → Type 0
ProductStays e n = (product_of e.after n).halted ≡ true → (product_of e.before n).halted ≡ true

-- nothing was halted by the event
abbrev pub NoHalt : Event → Type 0
NoHalt e = MarketStays e × ((n : ℕ) → ProductStays e n)

-- a future's halt is the whole market's, an option's only its own
abbrev pub HaltsAs : Kind → Event → ℕ → Halt → Type 0
HaltsAs Future e n halt = (halt ≡ WholeMarket) × (e.after.state.halted ≡ true) × ((k : ℕ) → ProductStays e k)
HaltsAs (AnOption right strike underlying) e n halt =
    (halt ≡ OneOption) × ((product_of e.after n).halted ≡ true) × MarketStays e × ((k : ℕ) → (k ≢ n) → ProductStays e k)

-- the order rested at another price
abbrev pub NewPrice : World → Amendment → Type 0
NewPrice w m =
    (i : ℕ) → 0 < (row_at w.table i).rest → (row_at w.table i).number ≡ m.order → (row_at w.table i).price ≢ m.price

-- an order meets the book when it is entered, and when it is amended to a new price in an open product
abbrev pub Meets : World → Arriver → Call → Type 0
Meets w who (roll prices) = ⊥
Meets w who open_session = ⊥
Meets w who close_session = ⊥
Meets w who (enter o) = Unit {0}
Meets w who (amend m) = Open w who.product × NewPrice w m
Meets w who (withdraw participant number) = ⊥
Meets w who (adjust n price) = ⊥
Meets w who (frenetic n ticks) = ⊥
Meets w who resume = ⊥
Meets w who (request participant n) = ⊥
Meets w who (determine n verdict) = ⊥

-- something is left of the order, and what it would trade with next lies outside the range
pub record Stopped (e : Event) (rest : ℕ) (halt : Halt) : Type 0 where
  pub who : Arriver
  pub arrives : Arrives e.before e.call e.answer who
  pub meets : Meets e.before who e.call
  pub was_open : Open e.before who.product
  pub some : 0 < rest
  -- the order that it would trade with: it waits, its price is reached, and nobody that waits comes before it
  pub place : ℕ
  pub waiting : waits (opposite who.side) who.product (row_at e.after.table place) ≡ true
  pub reached : Within who.side who.price (row_at e.after.table place).price
  pub first : (j : ℕ) → waits (opposite who.side) who.product (row_at e.after.table j) ≡ true →
      Before (opposite who.side) (row_at e.after.table j) (row_at e.after.table place) → ⊥
  -- but not at a price of the range
  pub daily : ℕ
  pub in_force : InForce (product_of e.before who.product) daily
  pub outside : Outside (product_of e.before who.product) daily (row_at e.after.table place).price
  pub halted : HaltsAs (product_of e.before who.product).listed.kind e who.product halt

-- nothing was halted; if something is left of an order that met the book, nobody waits that it reaches
pub record WentOn (e : Event) (rest : ℕ) : Type 0 where
  pub no_halt : NoHalt e
  pub who : Arriver
  pub arrives : Arrives e.before e.call e.answer who
  pub clear : Meets e.before who e.call → 0 < rest →
      (j : ℕ) → waits (opposite who.side) who.product (row_at e.after.table j) ≡ true → Within who.side who.price (row_at e.after.table j).price → ⊥

-- with this much left, and this halt answered
abbrev pub HaltsRightly : Event → ℕ → Halt → Type 0
HaltsRightly e rest Nothing = WentOn e rest
HaltsRightly e rest OneOption = Stopped e rest OneOption
HaltsRightly e rest WholeMarket = Stopped e rest WholeMarket

abbrev pub AnsweredRightly : Event → Result Answer Refusal → Type 0
AnsweredRightly e (Err refusal) = NoHalt e
AnsweredRightly e (Ok done) = NoHalt e
AnsweredRightly e (Ok (removed orders)) = NoHalt e
AnsweredRightly e (Ok (received r)) = HaltsRightly e r.rest r.halt
AnsweredRightly e (Ok (left_with quantity)) = NoHalt e
AnsweredRightly e (Ok (case_on trade)) = NoHalt e

abbrev pub HaltedRightly : Event → Type 0
HaltedRightly e = AnsweredRightly e e.answer
