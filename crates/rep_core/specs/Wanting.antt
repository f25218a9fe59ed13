-- Which requests may need memory to be made once more. The others take none.
use Rattle.std.specs.Prelude.{Bool, true, false}
use Rattle.rep_core.specs.declared.request.Decision.{Decision}
use Rattle.rep_core.specs.declared.request.Decision.TheVariants as decision
use Rattle.rep_core.specs.declared.request.Request.{Request}
use Rattle.rep_core.specs.declared.request.Request.TheVariants as request
use Rattle.rep_core.specs.Service.{is_answered}

abbrev pub records_answers : Decision → Bool
records_answers (decision.Answered replies) = true
records_answers (decision.Refused uid refusal) = false

-- only the list of a Prepare, and answers
abbrev pub by_request : Request → Bool
by_request (request.Prepare t parts) = true
by_request (request.Decide t decision) = records_answers decision
by_request (request.Finish t verdict) = is_answered verdict
by_request _ = false
