-- What is certified: that histories and transcripts are those of one run.
use Rattle.std.specs.Prelude.{◌≡◌, ℕ, true, List}
use Rattle.suite_prefix.specs.SettingsRules.{Opening}
use Rattle.txn_core.specs.Doing.{Fixed}
use Rattle.txn_core.specs.Agents.{fixed_of}
use Rattle.run_core.specs.declared.event.Event.{Event}
use Rattle.run_core.specs.Worlds.{World, opening}
use Rattle.run_core.specs.Decisions.{Decided, decisions}
use Rattle.server_lock.specs.declared.item.Item.{Item}
use Rattle.run_certify.specs.declared.entry.AgentEntry.{AgentEntry}
use Rattle.run_certify.specs.Fulls.{can_all_be_told}
use Rattle.run_certify.specs.Merges.{ItemAt, IsMerge}
use Rattle.run_certify.specs.Weaves.{weave, transcript_of}
use Rattle.run_core.specs.Senses.{HaveSense}
use Rattle.run_certify.specs.Shown.{items_from, transcript_from}

-- From this world on each of these events has sense, what they serve is just these items, and what each agent puts down is just its transcript.
pub record AreOfRun (fixed : Fixed) (world : World) (events : List Event) (items : List ItemAt) (transcripts : List (List AgentEntry)) : Type 0 where
  pub sense : HaveSense fixed world events
  pub served : items_from fixed world events ≡ items
  pub told : (agent : ℕ) → transcript_from agent fixed world events ≡ transcript_of transcripts agent

-- Histories and transcripts are those of the run that they spell, from the opening on. Who was told that a server is full was told what can be.
pub record IsCertified (given : Opening) (histories : List (List Item)) (transcripts : List (List AgentEntry)) : Type 0 where
  pub items : List ItemAt
  pub merge : IsMerge histories items
  pub run : AreOfRun (fixed_of given) (opening given) (weave items transcripts) items transcripts
  pub full : can_all_be_told histories transcripts ≡ true

-- They are, and this is what is decided in that run.
pub record IsCertifiedAs (given : Opening) (histories : List (List Item)) (transcripts : List (List AgentEntry)) (ds : List Decided) : Type 0 where
  pub certified : IsCertified given histories transcripts
  pub decided : ds ≡ decisions given (weave certified.items transcripts)
