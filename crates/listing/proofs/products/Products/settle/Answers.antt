use Rattle.std.proofs.Common.{◌≡◌, ℕ, List, take, rules, sym, refl, ap, ◌∙◌, arith}
use Rattle.std.proofs.lemmas.List.{take_all}
use Rattle.listing.specs.Changes.{Contents, with_rows, settled}
use Rattle.listing.proofs.All.{settled_more, price_among}
use Rattle.listing.proofs.Written.{written_sound, written_priced, written_widened}
use Rattle.listing.proofs.products.Products.settle.Goals as goal

pub invariant_of-self-clause-sound : goal.invariant_of-self-clause-sound
invariant_of-self-clause-sound c = written_sound c.loop-n.self c.loop-n.n _ (omega arith) refl

pub invariant_of-self-clause-priced : goal.invariant_of-self-clause-priced
invariant_of-self-clause-priced c = written_priced c.loop-n.self c.loop-n.n _ (omega arith) (price_among c.args.prices.now c.loop-n.n (sym c.if-not-are_prices.ensures) c.loop-n-test.true)

pub invariant_of-self-clause-widened : goal.invariant_of-self-clause-widened
invariant_of-self-clause-widened c =
    let count : c.loop-n.self.count ≡ c.args.self.now.count = ap (λ (x : Contents). x.count) c.loop-n.invariant in
    written_widened c.loop-n.self c.loop-n.n _ (omega arith) (c.loop-n.self.widened c.loop-n.n (omega arith))

pub loop-n-preserved : goal.loop-n-preserved
loop-n-preserved c = settled_more c.args.self.now _ c.args.prices.now c.loop-n.n c.loop-n-test.true c.loop-n.invariant

pub returns-clause-after : goal.returns-clause-after
returns-clause-after c =
    let prices = c.args.prices.now in
    let whole : take c.loop-n.n prices ≡ prices = take_all c.loop-n.n prices (omega arith) in
    let ends = c.loop-n.invariant ∙ ap (λ (l : List ℕ). with_rows c.args.self.now (settled l c.args.self.now.rows)) whole in
    search rules
