use Rattle.std.proofs.Common.{◌≡◌, Option, Some, None, Ok, rules}
use Rattle.std.specs.Option.{ok_or}
use Rattle.console.proofs.parse.order_line.Goals as goal

read : {A E : Type 0} (o : Option A) (e : E) (x : A) → ok_or o e ≡ Ok x → o ≡ Some x
read (Some y) e x h = cc
read None e x h = cc

pub returns : goal.returns
returns c = search (rules, read)
