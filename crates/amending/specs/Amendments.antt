-- An amendment before it comes to the book or to rest. Assumes nothing.
use Rattle.std.specs.Prelude.{◌≡◌, ℕ, ◌<◌, not, List, [], ◌∷◌, ◌++◌, length, Some, None, Ok, Err, Option, Result}
use Rattle.book.specs.declared.arriving.Arriving.{Arriving}
use Rattle.orders.specs.Queue.{slot_of}
use Rattle.rules.specs.Amending.{order_in, side_in, new_price, place_of}
use Rattle.rules.specs.Refusing.{time_check, phase_check, price_check, quantity_check, participant_check, owner_check, limit_held, amended_limit}
use Rattle.rules.specs.Worlds.{World, is_closed, product_of, sweep_in, established_in}
use Rattle.rules.specs.declared.amendment.Amendment.{Amendment}
use Rattle.terms.specs.Checks.{earliest}
use Rattle.terms.specs.Checked.{price_at, quantity_at}
use Rattle.terms.specs.declared.refusal.Refusal.{Refusal}
use Rattle.amending.specs.declared.amended.Amended.{Amended}
use Rattle.amending.specs.declared.amended.Terms.{Terms}

abbrev pub call_checks : World → ℕ → List (Option Refusal)
call_checks w time = time_check w time ∷ phase_check w (not (is_closed w.state.phase)) ∷ []

abbrev pub terms_checks : Amendment → List (Option Refusal)
terms_checks m = price_check m.price ∷ quantity_check m.quantity ∷ participant_check m.participant ∷ []

abbrev pub terms_as : Amendment → Terms
terms_as m = record { price = price_at m.price; quantity = quantity_at m.quantity }

abbrev pub sweep_check_of : World → Amendment → Option Refusal
sweep_check_of w m =
    limit_held (side_in (order_in w m.order).side) (amended_limit (new_price w m) m.price)
    (sweep_in w (side_in (order_in w m.order).side) (order_in w m.order).product)

-- what stops an amendment before its trades and its stamp
abbrev pub early_checks : World → ℕ → Amendment → List (Option Refusal)
early_checks w time m =
    (call_checks w time ++ terms_checks m) ++ owner_check w m.participant m.order ∷ sweep_check_of w m ∷ []

abbrev pub Amends : World → ℕ → Amendment → Amended → Type 0
Amends w time m a =
    record {
      passes : earliest (early_checks w time m) ≡ None;
      found : place_of w m.order ≡ Some (slot_of a.entry);
      within : a.entry.index < length w.table;
      listed : a.entry.order.product < w.products.count;
      product : a.product ≡ product_of w a.entry.order.product;
      terms : a.terms ≡ terms_as m;
    }

-- it is stopped, or this order becomes so
abbrev pub MayAmend : World → ℕ → Amendment → Result Amended Refusal → Type 0
MayAmend w time m (Ok a) = Amends w time m a
MayAmend w time m (Err refusal) = earliest (early_checks w time m) ≡ Some refusal

-- the order as it arrives at its new price
pub record ArrivesAs (w : World) (time : ℕ) (a : Amended) (r : Arriving) : Type 0 where
  pub number : r.number ≡ a.entry.order.number
  pub side : r.order.side ≡ a.entry.order.side
  pub product : r.order.product ≡ a.entry.order.product
  pub participant : r.order.participant ≡ a.entry.order.participant
  pub limit : r.order.limit ≡ a.terms.price
  pub quantity : r.order.quantity ≡ a.terms.quantity
  pub duration : r.order.duration ≡ a.entry.order.duration
  pub at : r.order.time ≡ time
  pub today : r.order.day ≡ w.state.day
  pub worth : r.order.established.ticks ≡ established_in w time a.entry.order.product
  pub width : r.order.no_bust ≡ (product_of w a.entry.order.product).listed.no_bust
