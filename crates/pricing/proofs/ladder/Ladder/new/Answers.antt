use Rattle.std.proofs.Common.{sym, ◌∙◌, arith, length-set, below_more}
use Rattle.std.proofs.lemmas.List.{take_more, take_more_set}
use Rattle.pricing.specs.Rungs.{no_rung}
use Rattle.pricing.proofs.ladder.Ladder.new.Goals as goal

pub loop-k-preserved : goal.loop-k-preserved
loop-k-preserved c =
    record {
      sound = below_more _ _ c.loop-k.invariant.sound (sym c.if-is_at_fault.ensures);
      copied =
          take_more_set c.loop-k.own c.loop-k.k _ (omega arith)
          ∙ rw c.loop-k.invariant.copied (sym (take_more c.args.rungs.now c.loop-k.k no_rung c.loop-k-test.true));
      room = length-set c.loop-k.own c.loop-k.k _ ∙ c.loop-k.invariant.room;
    }
