use Rattle.std.proofs.Common.{List, Some, None, refl, ◌∙◌, subst}
use Rattle.std.specs.List.{insert}
use Rattle.cases.specs.declared.case.Case.{Case}
use Rattle.calls.specs.Keeping.{Finds}
use Rattle.calls.proofs.Going.{case_spent, case_back}
use Rattle.calls.proofs.Lists.{none_kept}
use Rattle.calls.proofs.apply.determine_kept.Goals as goal

pub returns-in_default : goal.returns-in_default
returns-in_default g c =
    record {
      verdict = c.args.verdict;
      asked = refl;
      missing = none_kept c.args.trade _ (subst (λ (cs : List Case). Finds c.args.trade cs None) c.deref.ensures.value c.in_default.ensures);
      same = refl;
      cases = refl;
    }

pub returns-in-Ok : goal.returns-in-Ok
returns-in-Ok g c =
    case_spent _ _ _ _ _ _ _ c.in-Some.i c.remove-case.result
    (subst (λ (cs : List Case). Finds c.args.trade cs (Some c.in-Some.i)) c.deref.ensures.value c.in-Some.ensures)
    c.remove-case.ensures.value c.in-Ok.ensures.rule c.remove-case.ensures.items

pub returns-in-Err : goal.returns-in-Err
returns-in-Err g c =
    case_back _ _ _ _ _ _ _ c.in-Some.i c.remove-case.result c.in-Err.refusal
    (subst (λ (cs : List Case). Finds c.args.trade cs (Some c.in-Some.i)) c.deref.ensures.value c.in-Some.ensures)
    c.remove-case.ensures.value c.in-Err.ensures.rule
    (c.put_back.ensures ∙ (λ j. insert (c.remove-case.ensures.items j) c.in-Some.i (c.in-Err.ensures.back j)))
