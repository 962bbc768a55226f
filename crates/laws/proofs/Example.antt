-- A history that trades, is asked about and is cancelled: the laws are not about nothing. Assumes nothing.
use Rattle.std.proofs.Common.{ℕ, zero, suc, false, List, [], ◌∷◌, Some, None, Ok, refl, arith, lit<}
use Rattle.established.specs.Corrections.{corrected_in}
use Rattle.established.specs.Established.{established_from}
use Rattle.rules.specs.Worth.{established, established_spot, established_future}
use Rattle.listing.specs.Changes.{Contents}
use Rattle.listing.specs.declared.entry.Listed.{Listed}
use Rattle.listing.specs.declared.kind.Kind.TheVariants.{Future}
use Rattle.orders.specs.Queue.{counted}
use Rattle.orders.specs.Rows.{fair, free}
use Rattle.orders.specs.declared.row.OrderRow.{OrderRow}
use Rattle.tape.specs.declared.row.TradeRow.{TradeRow}
use Rattle.terms.specs.declared.determination.Determination.TheVariants.{Cancelled}
use Rattle.terms.specs.declared.duration.Duration.TheVariants.{Day}
use Rattle.terms.specs.declared.halt.Halt.TheVariants.{Nothing}
use Rattle.terms.specs.declared.phase.Phase.{Phase}
use Rattle.terms.specs.declared.phase.Phase.TheVariants.{Closed, BeforeNight, NightSession}
use Rattle.terms.specs.declared.side.Side.{Side}
use Rattle.terms.specs.declared.side.Side.TheVariants.{Buy, Sell}
use Rattle.rules.specs.Arrivals.{met, arrived}
use Rattle.rules.specs.Calls.{Call, Answer, roll, open_session, enter, request, determine, done, received, case_on}
use Rattle.rules.specs.Rules.{Step, accepts}
use Rattle.rules.specs.Worlds.{World, world, state_of}
use Rattle.rules.specs.declared.new_order.NewOrder.{NewOrder}
use Rattle.laws.specs.Histories.{event, History, Reached, made, then_called, NewProducts, CanCancel}

-- one future: it sweeps 1000 ticks, and nothing within 5 ticks of the market is taken back
abbrev the_future : Listed
the_future = record { kind = Future; sweep = 1000; daily = 100000; no_bust = 5 }

abbrev future_at : ℕ → Contents
future_at reference =
    record {
      rows = record { listed = the_future; frenetic = None; reference = reference; halted = false; adjusted = 0 } ∷ [];
      count = 1;
      limit = 30;
    }

abbrev market : Phase → ℕ → ℕ → ℕ → ℕ → List OrderRow → List TradeRow → ℕ → World
market phase day time stamp reference table tape room =
    world (state_of phase day time stamp false) (future_at reference) (λ right strike underlying. 0) table tape room

abbrev order : Side → ℕ → NewOrder
order side participant = record { product = 0; side = side; limit = Some 150; quantity = 1; participant = participant; duration = Day }

-- the sell as it rests
abbrev resting_sell : OrderRow
resting_sell =
    record { number = 1; place = 1; product = 0; side = 1; price = 150; rest = 1; participant = 1; duration = 2; date = 0; entered = 1 }

abbrev trade : ℕ → TradeRow
trade mark =
    record {
      product = 0;
      time = 4;
      price = 150;
      quantity = 1;
      buy = 2;
      sell = 1;
      buyer = 2;
      seller = 1;
      established = 100;
      no_bust = 5;
      mark = mark;
      day = 1;
    }

abbrev nobody : List OrderRow
nobody = free ∷ free ∷ []

abbrev w₀ : World
w₀ = market Closed 0 0 0 0 nobody [] 10

abbrev w₁ : World
w₁ = market BeforeNight 1 1 0 100 nobody [] 10

abbrev w₂ : World
w₂ = market NightSession 1 2 0 100 nobody [] 10

abbrev w₃ : World
w₃ = market NightSession 1 3 1 100 (resting_sell ∷ free ∷ []) [] 10

abbrev w₄ : World
w₄ = market NightSession 1 4 2 100 nobody (trade 0 ∷ []) 9

abbrev w₅ : World
w₅ = market NightSession 1 5 2 100 nobody (trade 1 ∷ []) 9

abbrev w₆ : World
w₆ = market NightSession 1 6 2 100 nobody (trade 3 ∷ []) 9

abbrev c₁ : Call
c₁ = roll (100 ∷ [])

abbrev c₃ : Call
c₃ = enter (order Sell 1)

abbrev c₄ : Call
c₄ = enter (order Buy 2)

abbrev c₅ : Call
c₅ = request 1 1

abbrev c₆ : Call
c₆ = determine 1 Cancelled

abbrev rests : Answer
rests = received (record { number = 1; traded = 0; rest = 1; trades = 0; halt = Nothing })

abbrev trades : Answer
trades = received (record { number = 2; traded = 1; rest = 0; trades = 1; halt = Nothing })

rolls : Step w₀ 1 c₁ (Ok done) w₁
rolls = accepts 0 0 refl tt

opens : Step w₁ 2 open_session (Ok done) w₂
unfolding counted fair
opens = accepts 0 0 refl tt

sells : Step w₂ 3 c₃ (Ok rests) w₃
unfolding counted fair met arrived
sells = accepts 0 10 refl (record { counts = lit< tt; was_free = refl }, (omega arith, omega arith))

buys : Step w₃ 4 c₄ (Ok trades) w₄
unfolding counted fair met arrived established established_from established_spot established_future corrected_in
buys = accepts 1 9 refl (record { counts = lit< tt; was_free = refl }, (omega arith, omega arith))

asks : Step w₄ 5 c₅ (Ok (case_on 1)) w₅
asks = accepts 0 0 refl tt

cancels : Step w₅ 6 c₆ (Ok done) w₆
cancels = accepts 0 0 refl tt

abbrev h₆ : History
h₆ =
    event w₅ 6 c₆ (Ok done) w₆
    ∷ event w₄ 5 c₅ (Ok (case_on 1)) w₅
    ∷ event w₃ 4 c₄ (Ok trades) w₄
    ∷ event w₂ 3 c₃ (Ok rests) w₃
    ∷ event w₁ 2 open_session (Ok done) w₂ ∷ event w₀ 1 c₁ (Ok done) w₁ ∷ []

new : NewProducts (future_at 0)
new zero l = refl
new (suc k) l = let z : ⊥ = omega arith in absurd z

happens : Reached h₆ w₆
happens =
    then_called
    (then_called
    (then_called
    (then_called (then_called (then_called (made w₀ (record { starts = refl; listed = new; nobody_rests = (refl, (refl, tt)); no_trades = refl })) tt rolls) tt opens) tt sells)
    tt buys)
    tt asks)
    (lit< tt) cancels

pub can_cancel : CanCancel
can_cancel = (h₆, w₆, happens, lit< tt)
