-- A trade as the record of its numbers. Assumes nothing.
use Rattle.std.specs.Prelude.{◌≡◌, true, false, Some, None, Option}
use Rattle.terms.specs.Numbers.{mark_number}
use Rattle.tape.specs.Rows.{fair}
use Rattle.tape.specs.declared.row.TradeRow.{TradeRow}
use Rattle.tape.specs.declared.trade.Trade.{Trade}

abbrev pub row_of : Trade → TradeRow
row_of t =
    record {
      product = t.product;
      time = t.time;
      price = t.price.ticks;
      quantity = t.quantity.lots;
      buy = t.buy.number;
      sell = t.sell.number;
      buyer = t.buyer.number;
      seller = t.seller.number;
      established = t.established.ticks;
      no_bust = t.no_bust;
      mark = mark_number t.mark;
      day = t.day;
    }

-- fair numbers, and no others, are a trade, which has just these numbers
abbrev pub Checks : TradeRow → Option Trade → Type 0
Checks r None = fair r ≡ false
Checks r (Some t) = (fair r ≡ true) × (row_of t ≡ r)
