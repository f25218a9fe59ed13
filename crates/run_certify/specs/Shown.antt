-- What a run shows: what was served, to whom, and what each agent puts down of it.
use Rattle.std.specs.Prelude.{ℕ, nat_eq, if◌then◌else◌, List, [], ◌∷◌, ◌++◌, Option, Some, None}
use Rattle.std.specs.List.{cons_option}
use Rattle.rep_core.specs.declared.request.Request.{Request}
use Rattle.rep_core.specs.declared.stamped.Lack.{Lack}
use Rattle.rep_core.specs.declared.stamped.Lack.TheVariants.{Full}
use Rattle.txn_core.specs.Doing.{Fixed}
use Rattle.run_core.specs.declared.done.Done.{Done}
use Rattle.run_core.specs.declared.done.EndedJob.{EndedJob}
use Rattle.run_core.specs.declared.done.Served.{Served}
use Rattle.run_core.specs.declared.event.Event.{Event}
use Rattle.run_core.specs.declared.event.Event.TheVariants as event
use Rattle.run_core.specs.Worlds.{World, actor_at, step}
use Rattle.run_certify.specs.declared.entry.AgentEntry.{AgentEntry}
use Rattle.run_certify.specs.declared.entry.AgentEntry.TheVariants.{Begun, Asked, Lacked, Forgot, Ended}
use Rattle.run_certify.specs.Merges.{ItemAt}
use Rattle.run_core.specs.Asking.{asked_by}

-- ---- what was served

-- who asks in an event: an agent, or the operator
abbrev pub asker : Event → Option ℕ
asker (event.Step agent) = Some agent
asker other = None

-- what was served, as an item
abbrev pub item_by : Option ℕ → Served → ItemAt
item_by agent what = record { server = what.server; item = record { stamp = what.reply.stamp; agent = agent; request = what.request; reply = what.reply.value } }

abbrev pub served_as : Option ℕ → Option Served → Option ItemAt
served_as agent (Some what) = Some (item_by agent what)
served_as agent None = None

-- the items of a run
abbrev pub items_from : Fixed → World → List Event → List ItemAt
items_from fixed world [] = []
items_from fixed world (event ∷ events) =
    cons_option (served_as (asker event) (step fixed world event).done.served) (items_from fixed (step fixed world event).world events)

-- ---- what an agent puts down

-- that its job ended, if it did
abbrev pub ended : Option EndedJob → List AgentEntry
ended (Some outcome) = Ended outcome ∷ []
ended None = []

-- that it was not served
abbrev pub lacked : Lack → Option (ℕ × Request) → List AgentEntry
lacked why (Some asked) = Lacked asked.0 why ∷ []
lacked why None = []

-- that it asked: the stamp of the reply, or that the server was full
abbrev pub asked : Option (ℕ × Request) → Option Served → List AgentEntry
asked next (Some what) = Asked what.server what.reply.stamp ∷ []
asked next None = lacked Full next

-- what the agent of an event puts down
abbrev pub entries_by : Fixed → World → Event → Done → List AgentEntry
entries_by fixed world (event.Begin agent job) done = Begun job ∷ []
entries_by fixed world (event.Step agent) done = asked (asked_by fixed (actor_at world agent)) done.served ++ ended done.outcome
entries_by fixed world (event.Lack agent why) done = lacked why (asked_by fixed (actor_at world agent)) ++ ended done.outcome
entries_by fixed world (event.Forget agent site) done = Forgot site ∷ []
entries_by fixed world (event.Crash server) done = []
entries_by fixed world (event.Return server) done = []

-- which agent that is
abbrev pub agent_of : Event → Option ℕ
agent_of (event.Begin agent job) = Some agent
agent_of (event.Step agent) = Some agent
agent_of (event.Lack agent why) = Some agent
agent_of (event.Forget agent site) = Some agent
agent_of (event.Crash server) = None
agent_of (event.Return server) = None

abbrev pub if_of : Option ℕ → ℕ → List AgentEntry → List AgentEntry
if_of (Some agent) number entries = if nat_eq agent number then entries else []
if_of None number entries = []

-- the transcript of an agent in a run
abbrev pub transcript_from : ℕ → Fixed → World → List Event → List AgentEntry
transcript_from agent fixed world [] = []
transcript_from agent fixed world (event ∷ events) =
    if_of (agent_of event) agent (entries_by fixed world event (step fixed world event).done) ++ transcript_from agent fixed (step fixed world event).world events
