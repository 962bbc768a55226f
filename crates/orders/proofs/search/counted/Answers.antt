use Rattle.std.proofs.Common.{arith}
use Rattle.orders.proofs.Leaving.{all_counted}
use Rattle.orders.proofs.search.counted.Goals as goal

pub returns-clause-rows : goal.returns-clause-rows
returns-clause-rows c = (all_counted c.args.table.now c.min-places.result (omega arith)).0
