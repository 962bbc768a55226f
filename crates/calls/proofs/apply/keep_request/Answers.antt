use Rattle.std.proofs.Common.{List, [], ◌∷◌, ◌++◌, ap, ◌∙◌}
use Rattle.cases.specs.declared.case.Case.{Case}
use Rattle.calls.specs.Keeping.{trades_of}
use Rattle.calls.proofs.Going.{followed, made_by, case_kept, told_so, refused_so}
use Rattle.calls.proofs.apply.keep_request.Goals as goal

pub returns-in_err-case : goal.returns-in_err-case
returns-in_err-case g c =
    refused_so _ (told_so _ _ c.from_residual-in_err-case.ensures.0 c.from_residual-in_err-case.ensures.1)
    (made_by _ _ _ _ _ _ _ (followed _ _ _ _ _ tt c.in_err-case.ensures) (ap trades_of c.reserve.ensures.items) tt)

pub returns : goal.returns
returns g c =
    case_kept _ _ _ _ _ _ _ c.in_ok-case.case c.in_ok-case.ensures
    (c.push_reserved.ensures.items ∙ ap (λ (xs : List Case). xs ++ c.in_ok-case.case ∷ []) c.reserve.ensures.items)
