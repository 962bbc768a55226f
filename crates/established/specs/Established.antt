-- The established market price of a product. Assumes nothing.
use Rattle.std.specs.Prelude.{ℕ, ◌+◌, ◌-◌, min, cond, List, Option, ◌==◌}
use Rattle.std.specs.Option.{option_map, option_or, unwrap_or}
use Rattle.listing.specs.Questions.{product_in}
use Rattle.listing.specs.declared.kind.Kind.{Kind}
use Rattle.listing.specs.declared.kind.Kind.TheVariants.{Future, Option as AnOption}
use Rattle.listing.specs.declared.product.Product.{Product}
use Rattle.listing.specs.declared.products.Products.{Products}
use Rattle.orders.specs.declared.row.OrderRow.{OrderRow}
use Rattle.tape.specs.declared.row.TradeRow.{TradeRow}
use Rattle.terms.specs.Ranges.{highest_price}
use Rattle.terms.specs.declared.right.Right.{Right}
use Rattle.established.specs.Averages.{recent_average}
use Rattle.established.specs.Corrections.{corrected_in}
use Rattle.established.specs.Days.{last_worth}

-- what the price is worked out from, beside the products and the pricing model: book, tape, day and time
pub record Moment : Type 0 where
  pub table : List OrderRow
  pub records : List TradeRow
  pub day : ℕ
  pub time : ℕ

abbrev pub moment : List OrderRow → List TradeRow → ℕ → ℕ → Moment
moment table records day time = record { table = table; records = records; day = day; time = time }

-- step 1, else step 2; none where the product traded neither within the window nor today
abbrev pub told_by_trades : Moment → ℕ → Product → Option ℕ
told_by_trades m n p =
    option_or (recent_average m.records n m.time)
    (option_map (corrected_in m.table n) (last_worth p m.records n m.day))

-- step 3 else, with what the product is worth without a trade
unfoldable pub established_from : Moment → ℕ → Product → ℕ → ℕ
established_from m n p worth = unwrap_or (told_by_trades m n p) (corrected_in m.table n worth)

-- the spot price moved by the distance of the reference prices, cut to the prices that exist
abbrev pub carried : ℕ → ℕ → ℕ → ℕ
carried spot own spot_reference = min (spot + own - spot_reference) highest_price

module _ (ps : Products) (m : Moment) where
  -- product 0
  unfoldable pub established_spot : ℕ
  established_spot = established_from m 0 (product_in ps 0) (product_in ps 0).reference

  -- another future without a trade
  abbrev pub month_worth : ℕ → ℕ
  month_worth n = carried established_spot (product_in ps n).reference (product_in ps 0).reference

  unfoldable pub established_future : ℕ → ℕ
  established_future n = cond (n == 0) established_spot (established_from m n (product_in ps n) (month_worth n))

  module _ (tells : Right → ℕ → ℕ → ℕ) where
    -- an option without a trade
    abbrev pub option_worth : Right → ℕ → ℕ → ℕ
    option_worth right strike underlying = tells right strike (established_future underlying)

    abbrev pub established_as : ℕ → Kind → ℕ
    established_as n Future = established_future n
    established_as n (AnOption right strike underlying) =
        established_from m n (product_in ps n) (option_worth right strike underlying)

    unfoldable pub established : ℕ → ℕ
    established n = established_as n (product_in ps n).listed.kind
