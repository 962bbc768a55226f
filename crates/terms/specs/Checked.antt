-- The checked value of a number, and which numbers are refused. Assumes nothing.
use Rattle.std.specs.Prelude.{ℕ, ◌≤◌, min, max, cond, ◌&&◌, Some, None, Ok, Err, Option, Result, nat_le}
use Rattle.std.proofs.Common.{arith}
use Rattle.terms.specs.Ranges.{highest_price, largest_quantity, last_participant}
use Rattle.terms.specs.declared.field.Field.{Field}
use Rattle.terms.specs.declared.field.Field.TheVariants.{Price as the_price, Quantity as the_quantity, Participant as the_participant}
use Rattle.terms.specs.declared.participant.Participant.{Participant}
use Rattle.terms.specs.declared.price.Price.{Price}
use Rattle.terms.specs.declared.quantity.Quantity.{Quantity}

-- a number cut to a range
abbrev pub cut : ℕ → ℕ → ℕ → ℕ
cut low high n = min (max n low) high

pub cut_low : (low high n : ℕ) → low ≤ high → low ≤ cut low high n
cut_low low high n h = omega arith

pub cut_high : (low high n : ℕ) → cut low high n ≤ high
cut_high low high n = omega arith

-- the price of so many ticks, cut to the prices that exist
abbrev pub price_at : ℕ → Price
price_at n = record { ticks = cut 0 highest_price n; within = cut_high 0 highest_price n }

abbrev pub quantity_at : ℕ → Quantity
quantity_at n =
    record {
      lots = cut 1 largest_quantity n;
      some = cut_low 1 largest_quantity n (omega arith);
      within = cut_high 1 largest_quantity n;
    }

abbrev pub participant_at : ℕ → Participant
participant_at n =
    record {
      number = cut 1 last_participant n;
      some = cut_low 1 last_participant n (omega arith);
      within = cut_high 1 last_participant n;
    }

-- a number in its range is made a value; any other is refused by the field's name
abbrev pub price_if : ℕ → Result Price Field
price_if n = cond (nat_le n highest_price) (Ok (price_at n)) (Err the_price)

abbrev pub quantity_if : ℕ → Result Quantity Field
quantity_if n = cond (nat_le 1 n && nat_le n largest_quantity) (Ok (quantity_at n)) (Err the_quantity)

abbrev pub participant_if : ℕ → Result Participant Field
participant_if n = cond (nat_le 1 n && nat_le n last_participant) (Ok (participant_at n)) (Err the_participant)

-- how many lots are left of an order
abbrev pub lots_left : Option Quantity → ℕ
lots_left None = 0
lots_left (Some q) = q.lots
