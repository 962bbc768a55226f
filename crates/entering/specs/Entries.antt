-- An order on its way to the book: what stops it, and what it comes in as. Assumes nothing.
use Rattle.std.specs.Prelude.{◌≡◌, ℕ, ◌+◌, not, List, [], ◌∷◌, ◌++◌, Some, None, Ok, Err, Option, Result}
use Rattle.std.specs.Option.{option_map, unwrap_or}
use Rattle.book.specs.declared.incoming.Incoming.{Incoming}
use Rattle.rules.specs.Held.{listed_check}
use Rattle.orders.specs.Rows.{duration_code, duration_date}
use Rattle.rules.specs.Arrivals.{Arrival}
use Rattle.rules.specs.Entering.{entry}
use Rattle.rules.specs.Refusing.{time_check, phase_check, limit_check, quantity_check, participant_check, date_check, halt_check, limit_held}
use Rattle.rules.specs.Worlds.{World, in_session, product_of, sweep_in, established_in}
use Rattle.rules.specs.declared.new_order.NewOrder.{NewOrder}
use Rattle.terms.specs.Checked.{price_at, quantity_at, participant_at}
use Rattle.terms.specs.Checks.{earliest}
use Rattle.terms.specs.Durations.{may_rest}
use Rattle.terms.specs.declared.refusal.Refusal.{Refusal}
use Rattle.entering.specs.declared.admitted.Admitted.{Admitted}
use Rattle.entering.specs.declared.admitted.Numbers.{Numbers}

-- what stops an entry before it comes to the book: first time, phase and product
abbrev pub place_checks : World → ℕ → NewOrder → List (Option Refusal)
place_checks w time o =
    time_check w time ∷ phase_check w (in_session w.state.phase) ∷ listed_check w.products o.product ∷ []

-- then its own numbers
abbrev pub number_checks : ℕ → NewOrder → List (Option Refusal)
number_checks day o =
    limit_check o.limit ∷ quantity_check o.quantity ∷ participant_check o.participant ∷ date_check day o.duration ∷ []

-- then halts and the sweep price
abbrev pub trading_checks : World → NewOrder → List (Option Refusal)
trading_checks w o = halt_check w o.product ∷ limit_held o.side o.limit (sweep_in w o.side o.product) ∷ []

abbrev pub front_checks : World → ℕ → NewOrder → List (Option Refusal)
front_checks w time o = place_checks w time o ++ number_checks w.state.day o ++ trading_checks w o

abbrev pub numbers_as : NewOrder → Numbers
numbers_as o =
    record {
      limit = option_map price_at o.limit;
      quantity = quantity_at o.quantity;
      participant = participant_at o.participant;
    }

-- a market order is a limit order at its sweep price
abbrev pub admitted_as : World → NewOrder → Admitted
admitted_as w o =
    record {
      product = product_of w o.product;
      limit = unwrap_or (option_map price_at o.limit) (sweep_in w o.side o.product);
      quantity = quantity_at o.quantity;
      participant = participant_at o.participant;
    }

-- an incoming order in plain numbers, under the stamp that it takes
abbrev pub plain : Incoming → ℕ → Arrival
plain i number =
    record {
      time = i.time;
      product = i.product;
      side = i.side;
      limit = i.limit.ticks;
      quantity = i.quantity.lots;
      whole = not (may_rest i.duration);
      number = number;
      place = number;
      participant = i.participant.number;
      duration = duration_code i.duration;
      date = duration_date i.duration;
      entered = i.day;
    }

pub record ComesIn (w : World) (time : ℕ) (o : NewOrder) (i : Incoming) : Type 0 where
  pub passes : earliest (front_checks w time o) ≡ None
  pub same : plain i (w.state.stamp + 1) ≡ entry w time o
  pub worth : i.established.ticks ≡ established_in w time o.product
  pub width : i.no_bust ≡ (product_of w o.product).listed.no_bust

-- it is stopped, or comes in with the numbers of the rule
abbrev pub Admits : World → ℕ → NewOrder → Result Incoming Refusal → Type 0
Admits w time o (Ok i) = ComesIn w time o i
Admits w time o (Err refusal) = earliest (front_checks w time o) ≡ Some refusal
