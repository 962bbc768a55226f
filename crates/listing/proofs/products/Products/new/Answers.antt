use Rattle.std.proofs.Common.{◌≡◌, ℕ, ◌<◌, ◌≤◌, [], ◌∷◌, ◌++◌, map, length, take, sym, refl, ap, ◌∙◌, arith, length-set, below_more, rules, tests}
use Rattle.std.proofs.lemmas.List.{map_more, take_more_set, take_all}
use Rattle.listing.specs.Entries.{unlisted}
use Rattle.listing.specs.Product.{fresh, frenetic_fits}
use Rattle.listing.specs.Ranges.{most_products}
use Rattle.listing.specs.declared.product.Product.{Product}
use Rattle.listing.proofs.Faults.{made_at, made_fault}
use Rattle.listing.proofs.products.Products.new.Goals as goal

pub loop-n-preserved : goal.loop-n-preserved
loop-n-preserved c =
    let n = c.loop-n.n in
    let listing = c.args.listing.now in
    let few : length listing ≤ most_products = search (rules, tests) in
    record {
      sound = below_more _ _ c.loop-n.invariant.sound (sym c.if-is_at_fault.ensures);
      made = take_more_set c.loop-n.rows n _ (omega arith)
          ∙ ap (λ l. l ++ c.fresh.result ∷ []) c.loop-n.invariant.made
          ∙ ap (λ (p : Product). map fresh (take n listing) ++ p ∷ []) c.fresh.ensures
          ∙ sym (map_more fresh listing n unlisted c.loop-n-test.true);
      whole = length-set c.loop-n.rows n _ ∙ c.loop-n.invariant.whole;
    }

pub invariant_of-result-clause-sound : goal.invariant_of-result-clause-sound
invariant_of-result-clause-sound c = λ k h.
    let below : k < c.loop-n.n = omega arith in
    made_fault c.loop-n.rows c.args.listing.now c.loop-n.n k (omega arith) c.loop-n.invariant.made below ∙ c.loop-n.invariant.sound k below

pub invariant_of-result-clause-priced : goal.invariant_of-result-clause-priced
invariant_of-result-clause-priced c = λ k h. rw (made_at c.loop-n.rows c.args.listing.now c.loop-n.n k (omega arith) c.loop-n.invariant.made (omega arith)) (omega arith)

pub invariant_of-result-clause-widened : goal.invariant_of-result-clause-widened
invariant_of-result-clause-widened c = λ k h.
    ap (λ (p : Product). frenetic_fits p.listed.daily p.frenetic) (made_at c.loop-n.rows c.args.listing.now c.loop-n.n k (omega arith) c.loop-n.invariant.made (omega arith))

pub returns : goal.returns
returns c =
    let listing = c.args.listing.now in
    let whole : length listing ≡ c.loop-n.n = omega arith in
    record {
      counted = record { some = search (rules, tests); few = search (rules, tests) };
      limited = record { lasting = search (rules, tests); brief = search (rules, tests) };
      sound = λ k h. c.loop-n.invariant.sound k (omega arith);
      products = ap (λ (n : ℕ). take n c.loop-n.rows) whole ∙ c.loop-n.invariant.made ∙ ap (map fresh) (take_all c.loop-n.n listing (omega arith));
      days = refl;
    }
