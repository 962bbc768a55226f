-- What a tape means, a list of records numbered from 1, and what each question and change of it comes to. Assumes nothing.
use Rattle.std.specs.Prelude.{◌≡◌, ℕ, ◌+◌, ◌-◌, ◌<◌, ◌≤◌, Bool, true, false, List, [], ◌∷◌, ◌++◌, length, Ok, Err, All, Result, slice_index_or, slice_set}
use Rattle.terms.specs.Numbers.{mark_number}
use Rattle.terms.specs.declared.mark.Mark.{Mark}
use Rattle.terms.specs.declared.missing.Missing.{Missing}
use Rattle.terms.specs.declared.refusal.Refusal.{Refusal}
use Rattle.terms.specs.declared.refusal.Refusal.TheVariants.{Missing as refused_missing}
use Rattle.tape.specs.Rows.{lies, fair}
use Rattle.tape.specs.Trades.{row_of}
use Rattle.tape.specs.declared.fault.AddFault.{AddFault}
use Rattle.tape.specs.declared.fault.AddFault.TheVariants.{Full, TimeFell}
use Rattle.tape.specs.declared.row.TradeRow.{TradeRow}
use Rattle.tape.specs.declared.trade.Trade.{Trade}

-- stands where there is no record; no trade reads so
abbrev pub blank : TradeRow
blank =
    record {
      product = 0;
      time = 0;
      price = 0;
      quantity = 0;
      buy = 0;
      sell = 0;
      buyer = 0;
      seller = 0;
      established = 0;
      no_bust = 0;
      mark = 0;
      day = 0;
    }

-- some record has the number n
abbrev pub on_tape : List TradeRow → ℕ → Bool
on_tape rows n = lies 1 (length rows) n

abbrev pub record_at : List TradeRow → ℕ → TradeRow
record_at rows n = slice_index_or rows (n - 1) blank

abbrev pub with_mark : ℕ → TradeRow → TradeRow
with_mark m r =
    record {
      product = r.product;
      time = r.time;
      price = r.price;
      quantity = r.quantity;
      buy = r.buy;
      sell = r.sell;
      buyer = r.buyer;
      seller = r.seller;
      established = r.established;
      no_bust = r.no_bust;
      mark = m;
      day = r.day;
    }

-- the same record with another mark
abbrev pub marked : Mark → TradeRow → TradeRow
marked m r = with_mark (mark_number m) r

abbrev pub latest_since : ℕ → List TradeRow → ℕ
latest_since time [] = time
latest_since time (r ∷ rows) = latest_since r.time rows

-- the time of the last record; 0 where there is none
abbrev pub latest : List TradeRow → ℕ
latest rows = latest_since 0 rows

-- every record is a trade
abbrev pub Fair : List TradeRow → Type 0
Fair rows = All (λ r. fair r ≡ true) rows

-- times never fall: no record is later than one that follows it
abbrev pub Rising : List TradeRow → Type 0
Rising [] = Unit {0}
Rising (r ∷ rows) = All (λ later. r.time ≤ later.time) rows × Rising rows

-- what a tape's own fault becomes as a refusal: the number and the count that it tells, and nothing else
abbrev pub Tells : {F : Type 0} → (F → Refusal → Type 0) → (F → Missing) → Type 0
Tells {F} converts told = (fault : F) (refusal : Refusal) → converts fault refusal → refusal ≡ refused_missing (told fault)

-- no record has the number n, and the fault tells it with the number of records
pub record Absent {F : Type 0} (told : F → Missing) (rows : List TradeRow) (n : ℕ) (fault : F) : Type 0 where
  pub off : on_tape rows n ≡ false
  pub tells : told fault ≡ record { number = n; count = length rows }

pub record Found (rows : List TradeRow) (n : ℕ) (trade : Trade) : Type 0 where
  pub there : on_tape rows n ≡ true
  pub same : row_of trade ≡ record_at rows n

-- the answer to a reading of record n
abbrev pub Reads : {F : Type 0} → (F → Missing) → List TradeRow → ℕ → Result Trade F → Type 0
Reads told rows n (Ok trade) = Found rows n trade
Reads told rows n (Err fault) = Absent told rows n fault

-- the same as a refusal
abbrev pub TradeAt : List TradeRow → ℕ → Result Trade Refusal → Type 0
TradeAt rows n (Ok trade) = Found rows n trade
TradeAt rows n (Err refusal) =
    (on_tape rows n ≡ false) × (refusal ≡ refused_missing (record { number = n; count = length rows }))

module _ {S : Type 0} (records : S → List TradeRow) (space : S → ℕ) where
  -- the tape before has room and its times are not above the trade's, which is the last record of the tape after
  pub record Added (before : S) (trade : Trade) (after : S) : Type 0 where
    pub written : records after ≡ records before ++ row_of trade ∷ []
    pub roomy : 0 < space before
    pub timely : latest (records before) ≤ trade.time
    pub lessens : space after ≤ space before
    pub by_one : space before ≤ space after + 1

  pub record Filled (before after : S) : Type 0 where
    pub full : space before ≡ 0
    pub same : after ≡ before

  pub record Fell (before : S) (trade : Trade) (last : ℕ) (after : S) : Type 0 where
    pub roomy : 0 < space before
    pub early : trade.time < last
    pub last_is : last ≡ latest (records before)
    pub same : after ≡ before

  -- the answer to a trade that is to be added
  abbrev pub Adds : S → Trade → S → Result (Unit {0}) AddFault → Type 0
  Adds before trade after (Ok u) = Added before trade after
  Adds before trade after (Err Full) = Filled before after
  Adds before trade after (Err (TimeFell last)) = Fell before trade last after

  -- only the mark of record n is another
  pub record Marked (before : S) (n : ℕ) (mark : Mark) (after : S) : Type 0 where
    pub there : on_tape (records before) n ≡ true
    pub written : records after ≡ slice_set (records before) (n - 1) (marked mark (record_at (records before) n))
    pub spaced : space after ≡ space before

  pub record Unmarked {F : Type 0} (told : F → Missing) (before : S) (n : ℕ) (after : S) (fault : F) : Type 0 where
    pub absent : Absent told (records before) n fault
    pub same : after ≡ before

  -- the answer to a mark that is to be set
  abbrev pub Marks : {F : Type 0} → (F → Missing) → S → ℕ → Mark → S → Result (Unit {0}) F → Type 0
  Marks told before n mark after (Ok u) = Marked before n mark after
  Marks told before n mark after (Err fault) = Unmarked told before n after fault
