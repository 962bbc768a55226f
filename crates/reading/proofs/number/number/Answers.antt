use Rattle.std.proofs.Common.{◌≡◌, take, Some, None, sym, ap, ◌∙◌, arith, rules}
use Rattle.std.proofs.lemmas.List.{take_all}
use Rattle.std.proofs.lemmas.List.Sums.{fold_more}
use Rattle.reading.specs.Numerals.{digit_more, numeral}
use Rattle.reading.proofs.Digits.{digits_more, none_more, some_number}
use Rattle.reading.proofs.number.number.Goals as goal

pub returns-in_err-value : goal.returns-in_err-value
returns-in_err-value c =
    let refused = rw c.loop-byte.invariant.value_so_far at c.in_err-value.ensures in
    let none : numeral c.args.word.now ≡ None = none_more c.args.word.now c.loop-byte.byte-index (search rules) refused in
    search rules

pub loop-byte-preserved : goal.loop-byte-preserved
loop-byte-preserved c =
    let word = c.args.word.now in
    let i = c.loop-byte.byte-index in
    let more = fold_more digit_more 0 word i 0 (search rules) in
    record {
      digits_so_far = digits_more word i (search rules) c.loop-byte.invariant.digits_so_far c.in_ok-value.ensures.0.0;
      value_so_far = omega (arith, more, c.loop-byte.invariant.value_so_far, c.in_ok-value.ensures.1);
      small = omega (arith, c.in_ok-value.ensures);
    }

pub returns : goal.returns
returns c =
    let word = c.args.word.now in
    let whole : take c.loop-byte.byte-index word ≡ word = take_all _ word (search rules) in
    let digits = rw whole at c.loop-byte.invariant.digits_so_far in
    let value = rw whole at c.loop-byte.invariant.value_so_far in
    ap Some value ∙ sym (some_number word (search rules) digits (omega (arith, value, c.loop-byte.invariant.small)))
