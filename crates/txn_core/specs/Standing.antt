-- An agent as its contracts see it: what never changes, and its state.
use Rattle.std.specs.Prelude.{◌≡◌, ℕ, true, Option, Some, None, Result, Ok, Err}
use Rattle.std.specs.Borrow.{Bor}
use Rattle.rep_core.specs.declared.request.Request.{Request}
use Rattle.rep_core.specs.declared.reply.Reply.{Reply}
use Rattle.rep_core.specs.declared.stamped.Lack.{Lack}
use Rattle.txn_core.specs.declared.response.Response.{Response}
use Rattle.txn_core.specs.declared.response.Response.TheVariants.{Replied, Lacked}
use Rattle.txn_core.specs.declared.ending.Ending.{Ending}
use Rattle.txn_core.specs.Doing.{Fixed, Doing}
use Rattle.txn_core.specs.Agents.{Agent}
use Rattle.txn_core.specs.Laws.{fits_response}

pub record Standing : Type 0 where
  pub fixed : Fixed
  pub state : Agent

-- what came of a request: a reply, or why it was not served
abbrev pub response_of : Result (Bor Reply) Lack → Response
response_of (Ok reply) = Replied reply.now
response_of (Err lack) = Lacked lack

-- a response answers what was asked; where nothing was asked, any does
abbrev pub FitsAsked : Option (ℕ × Request) → Response → Type 0
FitsAsked (Some asked) response = fits_response asked.1 response ≡ true
FitsAsked None response = Unit {0}

-- what is done once there is an ending, or none
abbrev pub left_by : Option Ending → Option Doing → Option Doing
left_by (Some ending) doing = None
left_by None doing = doing
