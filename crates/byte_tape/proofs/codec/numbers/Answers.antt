use Rattle.std.proofs.Common.{◌^◌, ◌<◌, rules}
use Rattle.std.proofs.lemmas.List.Elements.{All-from_recursion}
use Rattle.byte_tape.proofs.codec.numbers.Goals as goal
use Rattle.byte_tape.specs.Bytes.{numbers}

pub returns-clause-fit : goal.returns-clause-fit
returns-clause-fit c = All-from_recursion (λ n. n < 2 ^ 32) (numbers c.args.row) (search rules)
