use Rattle.std.proofs.Common.{◌≡◌, ◌^◌, ◌<◌, true, take}
use Rattle.reading.specs.Numerals.{decimal_value, digits}
use Rattle.reading.proofs.number.number.Given as goal

abbrev pub invariant-loop-byte : goal.invariant-loop-byte
invariant-loop-byte l = record {
  digits_so_far : digits (take l.byte-index l.word) ≡ true;
  value_so_far : l.value ≡ decimal_value (take l.byte-index l.word);
  small : l.value < 2 ^ 32;
}
