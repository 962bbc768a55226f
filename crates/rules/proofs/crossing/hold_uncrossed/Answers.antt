use Rattle.std.proofs.Common.{◌≡◌, ℕ, suc, ◌+◌, ◌-◌, ◌<◌, map, Option, sym, ap, ◌∙◌, arith}
use Rattle.std.specs.List.{range_with_len}
use Rattle.terms.specs.Checks.{earliest, first_of}
use Rattle.terms.specs.declared.refusal.Refusal.{Refusal}
use Rattle.rules.specs.Refusing.{crossed_check}
use Rattle.rules.proofs.crossing.hold_uncrossed.Goals as goal

-- the checks from a product on are its own and those of the next ones
checks_from : (f : ℕ → Option Refusal) (n m : ℕ) → n < m →
    earliest (map f (range_with_len n (m - n))) ≡ first_of (f n) (earliest (map f (range_with_len (n + 1) (m - (n + 1)))))
checks_from f n m l = ap (λ k. earliest (map f (range_with_len n k))) (let e : m - n ≡ suc (m - (n + 1)) = omega arith in e)

pub returns-then-is_crossed : goal.returns-then-is_crossed
returns-then-is_crossed c =
    let more = checks_from (crossed_check c.args.table.now) c.loop-n.n c.args.products c.loop-n-test.true in
    simp (sym c.loop-n.invariant, more, sym c.if-is_crossed.ensures)

pub loop-n-preserved : goal.loop-n-preserved
loop-n-preserved c =
    let more = checks_from (crossed_check c.args.table.now) c.loop-n.n c.args.products c.loop-n-test.true in
    (rw (sym c.if-is_crossed.ensures) at (sym more)) ∙ c.loop-n.invariant
