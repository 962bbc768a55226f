-- Which numbers make a trade. Assumes nothing.
use Rattle.std.specs.Prelude.{ℕ, Bool, ◌&&◌, nat_le}
use Rattle.terms.specs.Ranges.{highest_price, largest_quantity, last_participant}
use Rattle.tape.specs.Ranges.{last_product, widest_no_bust, last_mark}
use Rattle.tape.specs.declared.row.TradeRow.{TradeRow}

-- n is one of low to high
abbrev pub lies : ℕ → ℕ → ℕ → Bool
lies low high n = nat_le low n && nat_le n high

-- every number is in its range
unfoldable pub fair : TradeRow → Bool
fair r =
    nat_le r.mark last_mark
    && (nat_le r.product last_product
    && (nat_le r.price highest_price
    && (lies 1 largest_quantity r.quantity
    && (nat_le 1 r.buy
    && (nat_le 1 r.sell
    && (lies 1 last_participant r.buyer
    && (lies 1 last_participant r.seller
    && (nat_le r.established highest_price
    && nat_le r.no_bust widest_no_bust))))))))
