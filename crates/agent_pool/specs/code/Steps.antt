-- What comes of asking, and of a job.
use Rattle.std.specs.Prelude.{◌≡◌, ◌≢◌, ◌⊎◌, ◌<◌, ◌≤◌, ℕ, true, false, ◌+◌, ◌-◌, List, [], ◌∷◌, ◌++◌, length, slice_set, Option, Some, None, Result, Ok, Err}
use Rattle.rep_core.specs.declared.reply.Reply.{Reply}
use Rattle.rep_core.specs.declared.request.Request.{Request}
use Rattle.rep_core.specs.declared.stamped.Stamped.{Stamped}
use Rattle.server_lock.specs.declared.miss.Miss.{Miss}
use Rattle.server_lock.specs.declared.miss.Miss.TheVariants.{Lack, Stale}
use Rattle.server_lock.specs.Passes.{Held, front_at}
use Rattle.txn_core.specs.declared.ending.Ending.{Ending}
use Rattle.txn_core.specs.declared.response.Response.TheVariants.{Replied, Lacked as NotServed}
use Rattle.run_certify.specs.declared.entry.AgentEntry.{AgentEntry}
use Rattle.run_certify.specs.declared.entry.AgentEntry.TheVariants.{Asked, Lacked as AskedInVain, Ended}
use Rattle.txn_core.specs.declared.job.Job.{Job}
use Rattle.txn_core.specs.Agents.{is_idle, next_of}
use Rattle.txn_core.specs.Agents as agents
use Rattle.txn_core.specs.Standing.{Standing}
use Rattle.agent_pool.specs.declared.asking.Delivery.{Delivery}
use Rattle.agent_pool.specs.declared.asking.Came.{Came}
use Rattle.agent_pool.specs.declared.asking.Came.TheVariants as came
use Rattle.agent_pool.specs.Transcripts.{Played, AreAsks, GoesOn, IsIdle, IsLonger, IsTold, Leads, at_rest, begins, number_of}

-- what is written down of an answer, and what the agent is told; nothing, where its pass is of other servers
abbrev pub delivery_from : ℕ → Result (Stamped Reply) Miss → Option Delivery
delivery_from server (Ok reply) = Some (record { entry = Asked server reply.stamp; response = Replied reply.value })
delivery_from server (Err (Lack lack)) = Some (record { entry = AskedInVain server lack; response = NotServed lack })
delivery_from server (Err (Stale long)) = None

-- the stamp of a reply
abbrev pub stamp_in : Result (Stamped Reply) Miss → Option ℕ
stamp_in (Ok reply) = Some reply.stamp
stamp_in (Err miss) = None

-- what is known of servers after one told this stamp
abbrev pub known_after : List ℕ → ℕ → Option ℕ → List ℕ
known_after known server (Some stamp) = slice_set known server stamp
known_after known server None = known

-- how a job of an agent ended, as it is written down
abbrev pub end_entry : ℕ → ℕ → ℕ → Ending → AgentEntry
end_entry number count steps ending = Ended (record { agent = number; count = count; steps = steps; ending = ending })

-- An agent, whose job was begun at so many entries, did this: it asked servers, and where its job ended, that is written down last.
abbrev pub Leaves : ℕ → Played → List AgentEntry → Played → Came → Type 0
Leaves begun old rest new came.On = AreAsks rest
Leaves begun old rest new (came.Ended ran) =
    (asked : List AgentEntry) × (ending : Ending) × AreAsks asked
    × (rest ≡ asked ++ end_entry (number_of old) ran.count (length old.entries + length asked - begun) ending ∷ [])
    × (ran.at ≡ length old.entries + length asked) × (ran.count ≡ begins old.entries - 1) × IsIdle new
Leaves begun old rest new came.Stuck = AreAsks rest
Leaves begun old rest new came.Lacked = AreAsks rest

-- the agent takes what it is told, and gives this end
abbrev pub Takes : Delivery → Standing → Standing → Option Ending → Type 0
Takes delivery old new ending =
    (new.state ≡ (agents.take old.fixed old.state delivery.response).agent) × ((agents.take old.fixed old.state delivery.response).ending ≡ ending)

-- What is written down when an agent is told something: how its job ended too, where it did, as it gave it. Where memory was refused, for
-- what it takes or for its end, no end is written down.
abbrev pub HearsOn : ℕ → ℕ → Delivery → Standing → List AgentEntry → Standing → List AgentEntry → Came → Type 0
HearsOn number begun delivery old entries new more (came.Ended ran) =
    (ending : Ending)
    × (more ≡ entries ++ delivery.entry ∷ end_entry number ran.count (length entries + 1 - begun) ending ∷ [])
    × (ran.at ≡ length entries + 1) × (ran.count ≡ old.state.count - 1) × (is_idle new.state.doing ≡ true) × Takes delivery old new (Some ending)
HearsOn number begun delivery old entries new more came.Stuck = ⊥
HearsOn number begun delivery old entries new more came.On = (more ≡ entries ++ delivery.entry ∷ []) × Takes delivery old new None
HearsOn number begun delivery old entries new more came.Lacked = more ≡ entries ++ delivery.entry ∷ []

abbrev pub Hears : ℕ → ℕ → Delivery → Standing → List AgentEntry → Standing → List AgentEntry → Came → Type 0
Hears number begun delivery old entries new more came =
    (new.fixed ≡ old.fixed) × (new.state.index ≡ old.state.index) × (new.state.count ≡ old.state.count)
    × HearsOn number begun delivery old entries new more came

-- nobody is asked of so many servers
abbrev pub AsksNobody : ℕ → Option (ℕ × Request) → Type 0
AsksNobody servers None = Unit {0}
AsksNobody servers (Some asked) = servers ≤ asked.0

-- a server is asked of whose history the pass has seen something
abbrev pub HasSeen : Held → Option (ℕ × Request) → Type 0
HasSeen pass None = ⊥
HasSeen pass (Some asked) = 0 < front_at pass asked.0

-- an agent cannot go on: it asks none of so many servers, or its pass may be of others
abbrev pub CannotGoOn : ℕ → Played → Held → Type 0
CannotGoOn servers played pass =
    AsksNobody servers (next_of played.agent.fixed played.agent.state) ⊎ HasSeen pass (next_of played.agent.fixed played.agent.state)

-- what an agent did for its job, with its pass, at so many servers, as the agent function does, unless memory was refused to it; it gets stuck only where
-- it cannot go on
pub record DidMore (servers begun : ℕ) (old new : Played) (pass later : Held) (what : Came) : Type 0 where
  pub longer : IsLonger old new
  pub went : GoesOn longer.rest pass later
  pub leads : what ≢ came.Lacked → Leads old.agent.fixed (at_rest old.agent.state) longer.rest (at_rest new.agent.state)
  pub leaves : Leaves begun old longer.rest new what
  pub stuck : what ≡ came.Stuck → CannotGoOn servers new later

-- a job was begun and ended, where it was; it had sense for the agent
abbrev pub RanTo : Job → Played → Played → Came → Type 0
RanTo job old new (came.Ended ran) =
    IsTold new job ran.count ran.at × (ran.count ≡ begins old.entries) × (begins new.entries ≡ ran.count + 1) × IsIdle new
    × (agents.has_sense new.agent.fixed job ≡ true)
RanTo job old new _ = Unit {0}

-- what an agent did with a job, and its pass, at so many servers, as the agent function does, unless memory was refused to it; it gets stuck only where it
-- cannot begin the job, or cannot go on
pub record DidJob (servers : ℕ) (job : Job) (old new : Played) (pass later : Held) (what : Came) : Type 0 where
  pub longer : IsLonger old new
  pub went : GoesOn longer.rest pass later
  pub leads : what ≢ came.Lacked → Leads old.agent.fixed (at_rest old.agent.state) longer.rest (at_rest new.agent.state)
  pub ran : RanTo job old new what
  pub stuck : what ≡ came.Stuck → (agents.begins new.agent.fixed new.agent.state job ≡ false) ⊎ CannotGoOn servers new later
