use Rattle.std.proofs.Common.{refl, ap}
use Rattle.rules.specs.Calls.{roll, open_session, close_session, withdraw, adjust, frenetic, resume}
use Rattle.calls.specs.Made.{call_of}
use Rattle.calls.proofs.Going.{followed, answered_by, told_so, refused_by}
use Rattle.calls.proofs.apply.apply.Goals as goal

pub returns-in_ok-roll-in-Roll : goal.returns-in_ok-roll-in-Roll
returns-in_ok-roll-in-Roll g c =
    answered_by (ap call_of c.in-Roll.is) refl refl tt (followed _ _ (roll c.in-Roll.prices.now) _ _ tt c.in_ok-roll-in-Roll.ensures)

pub returns-in_err-roll-in-Roll : goal.returns-in_err-roll-in-Roll
returns-in_err-roll-in-Roll g c =
    refused_by _ _ (ap call_of c.in-Roll.is) (told_so _ _ c.from_residual.ensures.0 c.from_residual.ensures.1) tt (followed _ _ (roll c.in-Roll.prices.now) _ _ tt c.in_err-roll-in-Roll.ensures)

pub returns-in_ok-open-in-Open : goal.returns-in_ok-open-in-Open
returns-in_ok-open-in-Open g c =
    answered_by (ap call_of c.in-Open.is) refl refl tt (followed _ _ open_session _ _ tt c.in_ok-open-in-Open.ensures)

pub returns-in_err-open-in-Open : goal.returns-in_err-open-in-Open
returns-in_err-open-in-Open g c =
    refused_by _ _ (ap call_of c.in-Open.is) (told_so _ _ c.from_residual-in_err-open-in-Open.ensures.0 c.from_residual-in_err-open-in-Open.ensures.1) tt (followed _ _ open_session _ _ tt c.in_err-open-in-Open.ensures)

pub returns-in_ok-close-in-Close : goal.returns-in_ok-close-in-Close
returns-in_ok-close-in-Close g c =
    answered_by (ap call_of c.in-Close.is) refl refl tt (followed _ _ close_session _ _ tt c.in_ok-close-in-Close.ensures)

pub returns-in_err-close-in-Close : goal.returns-in_err-close-in-Close
returns-in_err-close-in-Close g c =
    refused_by _ _ (ap call_of c.in-Close.is) (told_so _ _ c.from_residual-in_err-close-in-Close.ensures.0 c.from_residual-in_err-close-in-Close.ensures.1) tt (followed _ _ close_session _ _ tt c.in_err-close-in-Close.ensures)

pub returns-in_ok-enter-in-Enter : goal.returns-in_ok-enter-in-Enter
returns-in_ok-enter-in-Enter g c =
    answered_by (ap call_of c.in-Enter.is) refl refl tt c.in_ok-enter-in-Enter.ensures

pub returns-in_err-enter-in-Enter : goal.returns-in_err-enter-in-Enter
returns-in_err-enter-in-Enter g c =
    refused_by _ _ (ap call_of c.in-Enter.is) (told_so _ _ c.from_residual-in_err-enter-in-Enter.ensures.0 c.from_residual-in_err-enter-in-Enter.ensures.1) tt c.in_err-enter-in-Enter.ensures

pub returns-in_ok-amend-in-Amend : goal.returns-in_ok-amend-in-Amend
returns-in_ok-amend-in-Amend g c =
    answered_by (ap call_of c.in-Amend.is) refl refl tt c.in_ok-amend-in-Amend.ensures

pub returns-in_err-amend-in-Amend : goal.returns-in_err-amend-in-Amend
returns-in_err-amend-in-Amend g c =
    refused_by _ _ (ap call_of c.in-Amend.is) (told_so _ _ c.from_residual-in_err-amend-in-Amend.ensures.0 c.from_residual-in_err-amend-in-Amend.ensures.1) tt c.in_err-amend-in-Amend.ensures

pub returns-in_ok-withdraw-in-Withdraw : goal.returns-in_ok-withdraw-in-Withdraw
returns-in_ok-withdraw-in-Withdraw g c =
    answered_by (ap call_of c.in-Withdraw.is) refl refl tt (followed _ _ (withdraw c.in-Withdraw.participant c.in-Withdraw.order) _ _ tt c.in_ok-withdraw-in-Withdraw.ensures)

pub returns-in_err-withdraw-in-Withdraw : goal.returns-in_err-withdraw-in-Withdraw
returns-in_err-withdraw-in-Withdraw g c =
    refused_by _ _ (ap call_of c.in-Withdraw.is) (told_so _ _ c.from_residual-in_err-withdraw-in-Withdraw.ensures.0 c.from_residual-in_err-withdraw-in-Withdraw.ensures.1) tt (followed _ _ (withdraw c.in-Withdraw.participant c.in-Withdraw.order) _ _ tt c.in_err-withdraw-in-Withdraw.ensures)

pub returns-in_ok-adjust-in-Adjust : goal.returns-in_ok-adjust-in-Adjust
returns-in_ok-adjust-in-Adjust g c =
    answered_by (ap call_of c.in-Adjust.is) refl refl tt (followed _ _ (adjust c.in-Adjust.product c.in-Adjust.price) _ _ tt c.in_ok-adjust-in-Adjust.ensures)

pub returns-in_err-adjust-in-Adjust : goal.returns-in_err-adjust-in-Adjust
returns-in_err-adjust-in-Adjust g c =
    refused_by _ _ (ap call_of c.in-Adjust.is) (told_so _ _ c.from_residual-in_err-adjust-in-Adjust.ensures.0 c.from_residual-in_err-adjust-in-Adjust.ensures.1) tt (followed _ _ (adjust c.in-Adjust.product c.in-Adjust.price) _ _ tt c.in_err-adjust-in-Adjust.ensures)

pub returns-in_ok-frenetic-in-Frenetic : goal.returns-in_ok-frenetic-in-Frenetic
returns-in_ok-frenetic-in-Frenetic g c =
    answered_by (ap call_of c.in-Frenetic.is) refl refl tt (followed _ _ (frenetic c.in-Frenetic.product c.in-Frenetic.ticks) _ _ tt c.in_ok-frenetic-in-Frenetic.ensures)

pub returns-in_err-frenetic-in-Frenetic : goal.returns-in_err-frenetic-in-Frenetic
returns-in_err-frenetic-in-Frenetic g c =
    refused_by _ _ (ap call_of c.in-Frenetic.is) (told_so _ _ c.from_residual-in_err-frenetic-in-Frenetic.ensures.0 c.from_residual-in_err-frenetic-in-Frenetic.ensures.1) tt (followed _ _ (frenetic c.in-Frenetic.product c.in-Frenetic.ticks) _ _ tt c.in_err-frenetic-in-Frenetic.ensures)

pub returns-in_ok-resume-in-Resume : goal.returns-in_ok-resume-in-Resume
returns-in_ok-resume-in-Resume g c =
    answered_by (ap call_of c.in-Resume.is) refl refl tt (followed _ _ resume _ _ tt c.in_ok-resume-in-Resume.ensures)

pub returns-in_err-resume-in-Resume : goal.returns-in_err-resume-in-Resume
returns-in_err-resume-in-Resume g c =
    refused_by _ _ (ap call_of c.in-Resume.is) (told_so _ _ c.from_residual-in_err-resume-in-Resume.ensures.0 c.from_residual-in_err-resume-in-Resume.ensures.1) tt (followed _ _ resume _ _ tt c.in_err-resume-in-Resume.ensures)
