use Rattle.std.proofs.Common.{◌≡◌, ◌+◌, drop}
use Rattle.std.specs.List.{prefix_len}
use Rattle.reading.specs.Words.{no_comment}
use Rattle.reading.proofs.words.text_len.Given as goal

abbrev pub invariant-loop-i : goal.invariant-loop-i
invariant-loop-i l = l.i + prefix_len no_comment (drop l.i l.line) ≡ prefix_len no_comment l.line
