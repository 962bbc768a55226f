use Rattle.std.proofs.Common.{arith}
use Rattle.listing.proofs.Written.{written_sound, written_priced, written_widened}
use Rattle.listing.proofs.products.Products.write.Goals as goal

pub invariant_of-self-clause-sound : goal.invariant_of-self-clause-sound
invariant_of-self-clause-sound c = written_sound c.args.self.now c.args.n c.args.product (omega arith) c.requires.listed

pub invariant_of-self-clause-priced : goal.invariant_of-self-clause-priced
invariant_of-self-clause-priced c = written_priced c.args.self.now c.args.n c.args.product (omega arith) c.requires.priced

pub invariant_of-self-clause-widened : goal.invariant_of-self-clause-widened
invariant_of-self-clause-widened c = written_widened c.args.self.now c.args.n c.args.product (omega arith) c.requires.widened
