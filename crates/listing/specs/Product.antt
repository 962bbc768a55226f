-- What a market keeps for a product. Assumes nothing.
use Rattle.std.specs.Prelude.{ℕ, Bool, true, false, ◌&&◌, List, Some, None, Option, nat_le, nat_lt, slice_index_or, unwrap_or}
use Rattle.listing.specs.Entries.{unlisted}
use Rattle.listing.specs.Ranges.{widest_daily}
use Rattle.listing.specs.declared.entry.Listed.{Listed}
use Rattle.listing.specs.declared.product.Product.{Product}

-- as a market starts with it
abbrev pub fresh : Listed → Product
fresh e = record { listed = e; frenetic = None; reference = 0; halted = false; adjusted = 0 }

abbrev pub product_at : List Product → ℕ → Product
product_at rows n = slice_index_or rows n (fresh unlisted)

-- what each product is listed as
abbrev pub entries : List Product → ℕ → Listed
entries rows n = (product_at rows n).listed

-- none, or wider than the listed daily ticks
abbrev pub frenetic_fits : ℕ → Option ℕ → Bool
frenetic_fits daily None = true
frenetic_fits daily (Some ticks) = nat_lt daily ticks && nat_le ticks widest_daily

-- the daily ticks in force
abbrev pub ticks_in_force : Product → ℕ
ticks_in_force p = unwrap_or p.frenetic p.listed.daily
