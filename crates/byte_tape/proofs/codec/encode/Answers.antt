use Rattle.std.proofs.Common.{◌≡◌, ℕ, ◌+◌, ◌-◌, ◌*◌, ◌^◌, ◌<◌, List, [], ◌++◌, length, get_or, take, All, sym, ap, ◌∙◌, subst, arith, rules}
use Rattle.byte_tape.proofs.Fours.{comes_back}
use Rattle.byte_tape.proofs.codec.encode.Goals as goal
use Rattle.byte_tape.specs.Bytes.{numbers, four, encoded, decoded}
use Rattle.std.proofs.lemmas.List.{take_all, take_more, flat_map_more, places}
use Rattle.std.proofs.lemmas.Slice.{take-put_mid}
use Rattle.std.specs.List.{flat_map}

pub loop-i-preserved : goal.loop-i-preserved
loop-i-preserved c =
    let bytes = c.loop-i.bytes in
    let i = c.loop-i.i in
    let ns = c.numbers.result in
    let part = c.copy_from_slice.new.self in
    let is : part ≡ four (get_or ns i 0) = c.copy_from_slice.ensures.after ∙ c.to_be_bytes.ensures in
    let long : length part ≡ 4 = ap length is in
    let many : length ns ≡ 12 = ap length c.numbers.ensures.value in (
      search (rules, places),
      (take-put_mid (4 * i) (4 * i + 4 - 4 * i) bytes part (4 * (i + 1)) (omega arith) (omega arith)
          ∙ ap (λ (xs : List ℕ). xs ++ part) c.loop-i.invariant.1
          ∙ ap (λ (xs : List ℕ). flat_map four (take i ns) ++ xs) is
          ∙ flat_map_more four [] (take i ns) (get_or ns i 0)
          ∙ ap (flat_map four) (sym (take_more ns i 0 (omega arith)))),
    )

all : (c : goal.After-loop-i) → c.loop-i.bytes ≡ encoded c.args.row
all c =
    let bytes = c.loop-i.bytes in
    let ns = c.numbers.result in
    let i = c.loop-i.i in
    let many : length ns ≡ 12 = ap length c.numbers.ensures.value in
    sym (take_all (4 * i) bytes (omega arith)) ∙ c.loop-i.invariant.1 ∙ ap (flat_map four) (take_all i ns (omega arith) ∙ c.numbers.ensures.value)

pub returns-clause-value : goal.returns-clause-value
returns-clause-value c = all c

pub returns-clause-back : goal.returns-clause-back
returns-clause-back c =
    let fit : All (λ n. n < 2 ^ 32) (numbers c.args.row) = subst (All (λ n. n < 2 ^ 32)) c.numbers.ensures.value c.numbers.ensures.fit in
    ap decoded (all c) ∙ comes_back c.args.row fit

pub returns-clause-law : goal.returns-clause-law
returns-clause-law c = comes_back
