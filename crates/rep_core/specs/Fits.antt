-- Which replies fit a request: those of a form that it may be answered, with versions that are not used up.
use Rattle.std.specs.Prelude.{Bool, true, false, ◌&&◌, ◌||◌, not}
use Rattle.rep_core.specs.declared.request.Request.{Request}
use Rattle.rep_core.specs.declared.request.Request.TheVariants as request
use Rattle.rep_core.specs.declared.reply.Reply.{Reply}
use Rattle.rep_core.specs.declared.reply.Reply.TheVariants as reply
use Rattle.rep_core.specs.Store.{is_used_up}

abbrev pub is_held : Reply → Bool
is_held (reply.Held prefix dver) = not (is_used_up prefix.pver) && not (is_used_up dver)
is_held _ = false

abbrev pub is_busy : Reply → Bool
is_busy (reply.Busy holder prepared) = true
is_busy _ = false

abbrev pub is_lost : Reply → Bool
is_lost reply.Lost = true
is_lost _ = false

abbrev pub is_given : Reply → Bool
is_given (reply.Given dver content) = not (is_used_up dver)
is_given _ = false

abbrev pub is_prepared : Reply → Bool
is_prepared reply.Prepared = true
is_prepared _ = false

abbrev pub is_verdict : Reply → Bool
is_verdict (reply.Verdict verdict) = true
is_verdict _ = false

abbrev pub is_done : Reply → Bool
is_done reply.Done = true
is_done _ = false

abbrev pub is_locked : Reply → Bool
is_locked (reply.Locked locks) = true
is_locked _ = false

abbrev pub is_down : Reply → Bool
is_down reply.Down = true
is_down _ = false

abbrev pub fits : Request → Reply → Bool
fits (request.Poll t suite mode) reply = is_held reply || is_busy reply || is_lost reply || is_down reply
fits (request.Upgrade t suite) reply = is_held reply || is_busy reply || is_lost reply || is_down reply
fits (request.Fetch t suite) reply = is_given reply || is_lost reply || is_down reply
fits (request.Prepare t parts) reply = is_prepared reply || is_lost reply || is_down reply
fits (request.Decide t decision) reply = is_verdict reply || is_down reply
fits (request.Resolve t) reply = is_verdict reply || is_down reply
fits (request.Finish t verdict) reply = is_done reply || is_down reply
fits (request.Break t suite) reply = is_done reply || is_down reply
fits request.Locks reply = is_locked reply || is_down reply
fits request.Crash reply = is_done reply || is_down reply
fits request.Return reply = is_done reply
