-- When a rung is at fault. Assumes nothing.
use Rattle.std.specs.Prelude.{ℕ, ◌-◌, Bool, not, ◌&&◌, ◌||◌, List, pos, negsuc, int_le, nat_le, nat_lt, slice_index_or}
use Rattle.terms.specs.Ranges.{highest_price}
use Rattle.pricing.specs.declared.rung.Rung.{Rung}

-- levels go from -1,000,000 to 1,000,000
abbrev pub in_range : Rung → Bool
in_range r = int_le (negsuc 999999) r.level && int_le r.level (pos 1000000) && nat_le r.price highest_price

abbrev pub no_rung : Rung
no_rung = record { level = pos 0; price = 0 }

abbrev pub rung_at : List Rung → ℕ → Rung
rung_at rungs k = slice_index_or rungs k no_rung

-- its numbers are out of range, or its level is not above that of the rung below
abbrev pub at_fault : List Rung → ℕ → Bool
at_fault rungs k =
    not (in_range (rung_at rungs k))
    || (nat_lt 0 k && int_le (rung_at rungs k).level (rung_at rungs (k - 1)).level)
