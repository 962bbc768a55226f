-- A record as 48 bytes: twelve numbers of four bytes, most significant first. Assumes nothing.
use Rattle.std.specs.Prelude.{◌≡◌, ℕ, ◌+◌, ◌*◌, ◌/◌, ◌%◌, ◌^◌, ◌<◌, List, [], ◌∷◌, All, slice_index}
use Rattle.std.specs.List.{flat_map}
use Rattle.tape.specs.declared.row.TradeRow.{TradeRow}

abbrev pub record_bytes : ℕ
record_bytes = 48

-- a record's numbers, in the order in which they are written
abbrev pub numbers : TradeRow → List ℕ
numbers r =
    r.product ∷ r.time ∷ r.price ∷ r.quantity ∷ r.buy ∷ r.sell ∷ r.buyer ∷ r.seller ∷ r.established
    ∷ r.no_bust ∷ r.mark ∷ r.day ∷ []

abbrev pub four : ℕ → List ℕ
four n = (n / 16777216 % 256) ∷ (n / 65536 % 256) ∷ (n / 256 % 256) ∷ (n % 256) ∷ []

abbrev pub encoded : TradeRow → List ℕ
encoded r = flat_map four (numbers r)

-- the number whose four bytes begin at a place
abbrev pub number_at : List ℕ → ℕ → ℕ
number_at bytes i =
    slice_index bytes i * 16777216 + slice_index bytes (i + 1) * 65536 + slice_index bytes (i + 2) * 256 + slice_index bytes (i + 3)

-- the record whose bytes begin at a place
abbrev pub decoded_at : List ℕ → ℕ → TradeRow
decoded_at bytes i =
    record {
      product = number_at bytes i;
      time = number_at bytes (i + 4);
      price = number_at bytes (i + 8);
      quantity = number_at bytes (i + 12);
      buy = number_at bytes (i + 16);
      sell = number_at bytes (i + 20);
      buyer = number_at bytes (i + 24);
      seller = number_at bytes (i + 28);
      established = number_at bytes (i + 32);
      no_bust = number_at bytes (i + 36);
      mark = number_at bytes (i + 40);
      day = number_at bytes (i + 44);
    }

abbrev pub decoded : List ℕ → TradeRow
decoded bytes = decoded_at bytes 0

-- what is written reads back as it was
abbrev pub ComesBack : Type 0
ComesBack = (r : TradeRow) → All (λ n. n < 2 ^ 32) (numbers r) → decoded (encoded r) ≡ r

-- the record that memory holds at a place, counted from 0
abbrev pub record_in : List ℕ → ℕ → TradeRow
record_in bytes k = decoded_at bytes (record_bytes * k)
