use Rattle.std.proofs.Common.{◌≡◌, refl, ap, arith}
use Rattle.listing.specs.Changes.{Contents}
use Rattle.listing.proofs.All.{lifted_more}
use Rattle.listing.proofs.Written.{written_sound, written_priced, written_widened}
use Rattle.listing.proofs.products.Products.lift.Goals as goal

pub invariant_of-self-clause-sound : goal.invariant_of-self-clause-sound
invariant_of-self-clause-sound c = written_sound c.loop-n.self c.loop-n.n _ (omega arith) refl

pub invariant_of-self-clause-priced : goal.invariant_of-self-clause-priced
invariant_of-self-clause-priced c =
    let count : c.loop-n.self.count ≡ c.args.self.now.count = ap (λ (x : Contents). x.count) c.loop-n.invariant in
    written_priced c.loop-n.self c.loop-n.n _ (omega arith) (c.loop-n.self.priced c.loop-n.n (omega arith))

pub invariant_of-self-clause-widened : goal.invariant_of-self-clause-widened
invariant_of-self-clause-widened c =
    let count : c.loop-n.self.count ≡ c.args.self.now.count = ap (λ (x : Contents). x.count) c.loop-n.invariant in
    written_widened c.loop-n.self c.loop-n.n _ (omega arith) (c.loop-n.self.widened c.loop-n.n (omega arith))

pub loop-n-preserved : goal.loop-n-preserved
loop-n-preserved c = lifted_more c.args.self.now _ c.loop-n.n c.loop-n.invariant
