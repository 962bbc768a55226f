use Rattle.calls.proofs.Beginning.{begins}
use Rattle.calls.proofs.make.make.Goals as goal

pub returns : goal.returns
returns g c =
    record {
      made = c.new.ensures;
      begins = begins g.M.PricingModel.tells c.args.listing.now c.args.day_limit c.args.model c.args.table.now c.new.new.table c.new.result c.new.ensures;
    }
