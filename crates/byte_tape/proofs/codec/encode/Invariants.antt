use Rattle.std.proofs.Common.{◌≡◌, ◌*◌, length, take}
use Rattle.byte_tape.proofs.codec.encode.Given as goal
use Rattle.byte_tape.specs.Bytes.{record_bytes, four}
use Rattle.std.specs.List.{flat_map}

abbrev pub invariant-loop-i : goal.invariant-loop-i
invariant-loop-i l = (length l.bytes ≡ record_bytes) × (take (4 * l.i) l.bytes ≡ flat_map four (take l.i l.number-items))
