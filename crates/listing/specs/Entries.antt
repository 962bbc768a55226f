-- When an entry of a listing is at fault. Assumes nothing.
use Rattle.std.specs.Prelude.{ℕ, Bool, true, false, not, ◌&&◌, List, nat_le, nat_lt, slice_index_or}
use Rattle.terms.specs.Ranges.{highest_price}
use Rattle.listing.specs.Ranges.{widest_sweep, widest_daily, widest_no_bust}
use Rattle.listing.specs.declared.entry.Listed.{Listed}
use Rattle.listing.specs.declared.kind.Kind.{Kind}
use Rattle.listing.specs.declared.kind.Kind.TheVariants.{Future, Option as AnOption}

abbrev pub unlisted : Listed
unlisted = record { kind = Future; sweep = 0; daily = 0; no_bust = 0 }

abbrev pub listed_at : List Listed → ℕ → Listed
listed_at listing n = slice_index_or listing n unlisted

abbrev pub is_future : Kind → Bool
is_future Future = true
is_future (AnOption right strike underlying) = false

abbrev pub ticks_fit : Listed → Bool
ticks_fit e =
    nat_le 1 e.sweep && nat_le e.sweep widest_sweep && nat_le 1 e.daily && nat_le e.daily widest_daily
    && nat_le e.no_bust widest_no_bust

-- an option is on a future with a smaller number, so product 0 is none; its strike is a price
abbrev pub kind_fits : (ℕ → Listed) → ℕ → Kind → Bool
kind_fits at n Future = true
kind_fits at n (AnOption right strike underlying) =
    nat_lt underlying n && is_future (at underlying).kind && nat_le strike highest_price

abbrev pub at_fault : (ℕ → Listed) → ℕ → Bool
at_fault at n = not (ticks_fit (at n) && kind_fits at n (at n).kind)
