-- The order that a participant means. Assumes nothing.
use Rattle.std.specs.Prelude.{◌≡◌, ℕ, ◌<◌, true, false, List, length, Some, None, Ok, Err, Result}
use Rattle.orders.specs.Queue.{slot_of}
use Rattle.orders.specs.Questions.{order_numbered}
use Rattle.orders.specs.declared.order.Entry.{Entry}
use Rattle.orders.specs.declared.row.OrderRow.{OrderRow}
use Rattle.rules.specs.Amending.{belongs}
use Rattle.rules.specs.Calls.{Call}
use Rattle.rules.specs.Refusing.{fault}
use Rattle.rules.specs.Worlds.{World}
use Rattle.terms.specs.declared.refusal.Refusal.{Refusal}
use Rattle.terms.specs.declared.refusal.Refusal.TheVariants.{NotResting}

-- the first place that has the number, where it is the participant's
abbrev pub OwnOrder : ℕ → List OrderRow → ℕ → ℕ → Result Entry Refusal → Type 0
OwnOrder products table participant number (Ok e) =
    (belongs participant (order_numbered products number table) ≡ true)
    × (order_numbered products number table ≡ Some (slot_of e)) × (e.index < length table)
OwnOrder products table participant number (Err refusal) =
    (belongs participant (order_numbered products number table) ≡ false) × (refusal ≡ NotResting number)

-- nothing stops the call, and this is the order of the number
abbrev pub Held : World → ℕ → Call → ℕ → Result Entry Refusal → Type 0
Held w time c number (Ok e) = (fault w time c ≡ None) × (order_numbered w.products.count number w.table ≡ Some (slot_of e)) × (e.index < length w.table)
Held w time c number (Err refusal) = fault w time c ≡ Some refusal
