-- The events that histories and transcripts spell.
use Rattle.std.specs.Prelude.{ℕ, ◌+◌, List, [], ◌∷◌, ◌++◌, slice_index_or, slice_set, Option, Some, None}
use Rattle.std.specs.List.{filter_map}
use Rattle.rep_core.specs.declared.request.Request.{Request}
use Rattle.rep_core.specs.declared.request.Request.TheVariants as request
use Rattle.run_core.specs.declared.event.Event.{Event}
use Rattle.run_core.specs.declared.event.Event.TheVariants.{Begin, Step, Crash, Return, Forget, Lack}
use Rattle.run_certify.specs.declared.entry.AgentEntry.{AgentEntry}
use Rattle.run_certify.specs.declared.entry.AgentEntry.TheVariants.{Begun, Asked, Lacked, Forgot, Ended}
use Rattle.run_certify.specs.Merges.{ItemAt}

-- what an agent put down, as an event; that a job ended is none
abbrev pub event_of : ℕ → AgentEntry → Option Event
event_of agent (Begun job) = Some (Begin agent job)
event_of agent (Asked server stamp) = Some (Step agent)
event_of agent (Lacked server lack) = Some (Lack agent lack)
event_of agent (Forgot site) = Some (Forget agent site)
event_of agent (Ended outcome) = None

abbrev pub events_of : ℕ → List AgentEntry → List Event
events_of agent entries = filter_map (λ entry. event_of agent entry) entries

-- up to and with the next server that was asked and gave a stamp
abbrev pub up_to_stamp : List AgentEntry → List AgentEntry
up_to_stamp [] = []
up_to_stamp (Asked server stamp ∷ entries) = Asked server stamp ∷ []
up_to_stamp (entry ∷ entries) = entry ∷ up_to_stamp entries

-- and what is past that
abbrev pub past_stamp : List AgentEntry → List AgentEntry
past_stamp [] = []
past_stamp (Asked server stamp ∷ entries) = entries
past_stamp (entry ∷ entries) = past_stamp entries

-- an agent's transcript; there is none of an agent that is not there
abbrev pub transcript_of : List (List AgentEntry) → ℕ → List AgentEntry
transcript_of transcripts agent = slice_index_or transcripts agent []

-- the operator asks a server to crash, or to restart
abbrev pub operated : ℕ → Request → List Event
operated server request.Crash = Crash server ∷ []
operated server request.Return = Return server ∷ []
operated server asked = []

-- The events of an item: the operator's, or those that its agent put down up to its next stamp.
abbrev pub events_at : List (List AgentEntry) → ItemAt → Option ℕ → List Event
events_at unused one None = operated one.server one.item.request.value
events_at unused one (Some agent) = events_of agent (up_to_stamp (transcript_of unused agent))

-- what is then unused of the transcripts
abbrev pub unused_at : List (List AgentEntry) → Option ℕ → List (List AgentEntry)
unused_at unused None = unused
unused_at unused (Some agent) = slice_set unused agent (past_stamp (transcript_of unused agent))

-- all that is unused, agent by agent
abbrev pub rest_from : ℕ → List (List AgentEntry) → List Event
rest_from agent [] = []
rest_from agent (entries ∷ later) = events_of agent entries ++ rest_from (agent + 1) later

-- The events of all items, one after the other, and then of what is unused.
abbrev pub weave : List ItemAt → List (List AgentEntry) → List Event
weave [] unused = rest_from 0 unused
weave (one ∷ items) unused = events_at unused one one.item.agent ++ weave items (unused_at unused one.item.agent)
