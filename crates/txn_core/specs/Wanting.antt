-- When a call on an agent may run out of memory. Everywhere else it never answers that memory was refused.
use Rattle.std.specs.Prelude.{ℕ, Bool, false, is_some, Option, Some, None}
use Rattle.rep_core.specs.declared.request.Request.{Request}
use Rattle.rep_core.specs.declared.request.Request.TheVariants as request
use Rattle.rep_core.specs.declared.reply.Verdict.TheVariants as verdict
use Rattle.rep_core.specs.declared.reply.Reply.{Reply}
use Rattle.rep_core.specs.Fits.{is_held, is_locked}
use Rattle.rep_core.specs.Service.{is_answered}
use Rattle.rep_core.specs.Wanting.{by_request}
use Rattle.txn_core.specs.declared.response.Response.{Response}
use Rattle.txn_core.specs.declared.response.Response.TheVariants.{Replied, Lacked}
use Rattle.txn_core.specs.declared.job.Job.{Job}
use Rattle.txn_core.specs.declared.job.Job.TheVariants.{Transaction, Sweep}
use Rattle.txn_core.specs.Doing.{Fixed}
use Rattle.txn_core.specs.Agents.{Agent, begins}
use Rattle.txn_core.specs.Transactions.{given_in, verdict_in}

-- ---- begin

-- only a transaction that begins
abbrev pub by_job : Fixed → Agent → Job → Bool
by_job fixed agent (Transaction caller site ops) = begins fixed agent (Transaction caller site ops)
by_job fixed agent (Sweep server) = false

-- ---- next

-- only the list of a Prepare, and answers
abbrev pub by_asking : Option (ℕ × Request) → Bool
by_asking (Some asked) = by_request asked.1
by_asking None = false

-- ---- take

-- only a lock that is held, a content, answers, and a list of locks
abbrev pub by_reply : Request → Reply → Bool
by_reply (request.Poll t suite mode) said = is_held said
by_reply (request.Upgrade t suite) said = is_held said
by_reply (request.Fetch t suite) said = is_some (given_in said)
by_reply (request.Decide t asked) said = is_answered (verdict_in said verdict.Aborted)
by_reply (request.Resolve t) said = is_answered (verdict_in said verdict.Aborted)
by_reply request.Locks said = is_locked said
by_reply other said = false

abbrev pub by_said : Reply → Option (ℕ × Request) → Bool
by_said said (Some asked) = by_reply asked.1 said
by_said said None = false

-- and nothing where the request was not served
abbrev pub by_taking : Option (ℕ × Request) → Response → Bool
by_taking asked (Replied said) = by_said said asked
by_taking asked (Lacked lack) = false
