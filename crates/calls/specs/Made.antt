-- A call, an answer and a result as the rules have them. Assumes nothing.

use Rattle.rules.specs.Calls.{Call as RuleCall, Answer as RuleAnswer}
use Rattle.rules.specs.Calls.{roll, open_session, close_session, enter, amend, withdraw, adjust, frenetic, resume, request, determine}
use Rattle.rules.specs.Calls.{done, removed, received, left_with, case_on}
use Rattle.calls.specs.declared.call.Call.{Call}
use Rattle.calls.specs.declared.call.Call.TheVariants.{Roll, Open, Close, Enter, Amend, Withdraw, Adjust, Frenetic, Resume, Request, Determine}
use Rattle.calls.specs.declared.call.Answer.{Answer}
use Rattle.calls.specs.declared.call.Answer.TheVariants.{Done, Removed, Received, LeftWith, CaseOn}

abbrev pub call_of : Call → RuleCall
call_of (Roll prices) = roll prices.now
call_of Open = open_session
call_of Close = close_session
call_of (Enter o) = enter o
call_of (Amend m) = amend m
call_of (Withdraw participant number) = withdraw participant number
call_of (Adjust n price) = adjust n price
call_of (Frenetic n ticks) = frenetic n ticks
call_of Resume = resume
call_of (Request participant n) = request participant n
call_of (Determine n verdict) = determine n verdict

abbrev pub answer_of : Answer → RuleAnswer
answer_of Done = done
answer_of (Removed orders) = removed orders
answer_of (Received receipt) = received receipt
answer_of (LeftWith quantity) = left_with quantity
answer_of (CaseOn n) = case_on n
