-- Law C: a trade reads cancelled exactly when a case on it was determined so, and each such case came in time and
-- about a price far enough from the market's. Assumes nothing.
use Rattle.std.specs.Prelude.{◌≡◌, ℕ, ◌+◌, ◌<◌, ◌≤◌, true, ◌⊎◌}
use Rattle.tape.specs.Tapes.{on_tape, record_at}
use Rattle.tape.specs.declared.row.TradeRow.{TradeRow}
use Rattle.terms.specs.declared.determination.Determination.TheVariants.{Cancelled}
use Rattle.rules.specs.Worlds.{World, product_of, established_in}
use Rattle.laws.specs.Histories.{Event, History, cases, verdicts, hands_out}
use Rattle.laws.specs.Trading.{puts}
use Rattle.laws.specs.Words.{Each}

-- a price is further than a width from another
abbrev pub Further : ℕ → ℕ → ℕ → Type 0
Further width price other = (other + width < price) ⊎ (price + width < other)

-- the request came in time
abbrev pub InTime : TradeRow → Event → Type 0
InTime t e = (t.time ≤ e.time) × (e.time ≤ t.time + 300)

-- the price lay beyond the no-bust ticks, both as the trade's call found them
abbrev pub Bustable : TradeRow → Event → Type 0
Bustable t e =
    Further (product_of e.before t.product).listed.no_bust t.price (established_in e.before e.time t.product)

pub record CancelledRightly (h : History) (w : World) : Type 0 where
  pub cancelled_since : (k : ℕ) → on_tape w.tape k ≡ true → (record_at w.tape k).mark ≡ 3 → 0 < verdicts Cancelled k h
  pub since_cancelled : (k : ℕ) → 0 < verdicts Cancelled k h → (on_tape w.tape k ≡ true) × ((record_at w.tape k).mark ≡ 3)
  -- of a trade that was cancelled there was just one case
  pub one_case : (k : ℕ) → 0 < verdicts Cancelled k h → cases k h ≡ 1
  -- every case, however determined
  pub in_time : (k : ℕ) → Each (λ e. hands_out k e ≡ true → InTime (record_at w.tape k) e) h
  pub beyond : (k : ℕ) → 0 < cases k h → Each (λ e. puts k e ≡ true → Bustable (record_at w.tape k) e) h
