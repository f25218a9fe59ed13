-- Agents with their transcripts.
use Rattle.std.specs.Prelude.{◌≡◌, ℕ, zero, suc, ◌+◌, ◌-◌, ◌≤◌, ◌<◌, Bool, true, false, IsTrue, List, [], ◌∷◌, ◌++◌, length, replicate, slice_index, slice_set, Option, Some, None}
use Rattle.suite_prefix.specs.SettingsRules.{Opening}
use Rattle.rep_core.specs.declared.reply.Reply.{Reply}
use Rattle.rep_core.specs.declared.request.Request.{Request}
use Rattle.rep_core.specs.Fits.{fits}
use Rattle.server_lock.specs.Passes.{Held, after_item, front_at, sent_stamp}
use Rattle.txn_core.specs.declared.ending.Ending.{Ending}
use Rattle.txn_core.specs.declared.job.Job.{Job}
use Rattle.txn_core.specs.declared.response.Response.{Response}
use Rattle.txn_core.specs.declared.response.Response.TheVariants.{Replied, Lacked as NotServed}
use Rattle.txn_core.specs.Doing.{Fixed}
use Rattle.txn_core.specs.Agents as agents
use Rattle.txn_core.specs.Standing.{Standing}
use Rattle.run_certify.specs.declared.entry.AgentEntry.{AgentEntry}
use Rattle.run_certify.specs.declared.entry.AgentEntry.TheVariants.{Begun, Asked, Lacked, Forgot, Ended}

-- how many numbers a server may have, which are of one byte
abbrev pub most_numbers : ℕ
most_numbers = 256

-- an agent, with the transcript of what it did, and of each server the last stamp that it knows of
pub record Played : Type 0 where
  pub agent : Standing
  pub entries : List AgentEntry
  pub known : List ℕ

abbrev pub number_of : Played → ℕ
number_of played = played.agent.state.index

-- the last stamp of a server that an agent knows of
abbrev pub known_at : Played → ℕ → ℕ
known_at played server = slice_index played.known server

abbrev pub IsIdle : Played → Type 0
IsIdle played = agents.is_idle played.agent.state.doing ≡ true

-- an agent that began no job yet, and knows nothing
abbrev pub first_player : Opening → ℕ → Played
first_player given number = record { agent = record { fixed = agents.fixed_of given; state = agents.opening number }; entries = []; known = replicate most_numbers 0 }

-- so many agents, numbered from some number on
abbrev pub players_from : Opening → ℕ → ℕ → List Played
players_from given start zero = []
players_from given start (suc count) = first_player given start ∷ players_from given (start + 1) count

-- how many jobs are begun
abbrev pub begins : List AgentEntry → ℕ
begins [] = 0
begins (Begun job ∷ entries) = begins entries + 1
begins (Asked server stamp ∷ entries) = begins entries
begins (Lacked server lack ∷ entries) = begins entries
begins (Forgot site ∷ entries) = begins entries
begins (Ended outcome ∷ entries) = begins entries

-- whether a server was asked
abbrev pub is_ask : AgentEntry → Bool
is_ask (Asked server stamp) = true
is_ask (Lacked server lack) = true
is_ask _ = false

-- all these are of servers that were asked
abbrev pub AreAsks : List AgentEntry → Type 0
AreAsks [] = Unit {0}
AreAsks (entry ∷ entries) = (is_ask entry ≡ true) × AreAsks entries

-- ---- what the agent function makes of a transcript

-- an agent, and the end of its job that it still has to put down, if that has come
pub record At : Type 0 where
  pub agent : agents.Agent
  pub due : Option Ending

abbrev pub at_rest : agents.Agent → At
at_rest agent = record { agent = agent; due = None }

-- the agent that was told something, and the end that it gives then
abbrev pub after_response : Fixed → At → Response → At
after_response fixed at response = record { agent = (agents.take fixed at.agent response).agent; due = (agents.take fixed at.agent response).ending }

-- An entry is what the agent function does: it begins a job that it may begin, it asks whom it asks next and is told a reply that fits, or what that
-- server lacked, it forgets a site, or its job ends as is due.
abbrev pub Does : Fixed → At → AgentEntry → At → Type 0
Does fixed at (Begun job) next = (at.due ≡ None) × (agents.begins fixed at.agent job ≡ true) × (next ≡ at_rest (agents.begin fixed at.agent job))
Does fixed at (Asked server stamp) next =
    (request : Request) × (reply : Reply) × (at.due ≡ None) × (agents.next_of fixed at.agent ≡ Some (server, request)) × IsTrue (fits request reply)
    × (next ≡ after_response fixed at (Replied reply))
Does fixed at (Lacked server lack) next =
    (request : Request) × (at.due ≡ None) × (agents.next_of fixed at.agent ≡ Some (server, request)) × (next ≡ after_response fixed at (NotServed lack))
Does fixed at (Forgot site) next = (at.due ≡ None) × (next ≡ at_rest (agents.forget at.agent site))
Does fixed at (Ended outcome) next =
    (at.due ≡ Some outcome.ending) × (outcome.agent ≡ at.agent.index) × (outcome.count ≡ at.agent.count - 1) × (next ≡ at_rest at.agent)

-- so does each of these, one after the other, oldest first, from one to another
abbrev pub Leads : Fixed → At → List AgentEntry → At → Type 0
Leads fixed at [] last = last ≡ at
Leads fixed at (entry ∷ entries) last = (next : At) × Does fixed at entry next × Leads fixed next entries last

-- The transcript has the job as its begin of this count, then what was asked for it, and then, at this place, how it ended: as the agent function ends
-- it, from the begin on, at the last that it was told.
pub record IsTold (played : Played) (job : Job) (number place : ℕ) : Type 0 where
  pub before : List AgentEntry
  pub asked : List AgentEntry
  pub after : List AgentEntry
  pub ending : Ending
  pub split : played.entries ≡ before ++ Begun job ∷ (asked ++ Ended (record { agent = number_of played; count = number; steps = length asked; ending = ending }) ∷ after)
  pub count : begins before ≡ number
  pub asks : AreAsks asked
  pub at : length before + (length asked + 1) ≡ place
  pub start : agents.Agent
  pub end : agents.Agent
  pub leads : Leads played.agent.fixed (at_rest start)
      (Begun job ∷ (asked ++ Ended (record { agent = number_of played; count = number; steps = length asked; ending = ending }) ∷ [])) (at_rest end)

-- What an agent knows of servers once it did this: each stamp that a server gave it is above the one that it knew of there, and is known then.
abbrev pub Learns : List ℕ → List AgentEntry → List ℕ → Type 0
Learns old [] new = new ≡ old
Learns old (Begun job ∷ entries) new = Learns old entries new
Learns old (Asked server stamp ∷ entries) new = (server < length old) × (slice_index old server < stamp) × Learns (slice_set old server stamp) entries new
Learns old (Lacked server lack ∷ entries) new = Learns old entries new
Learns old (Forgot site ∷ entries) new = Learns old entries new
Learns old (Ended outcome ∷ entries) new = Learns old entries new

-- the same agent, which did more, and knows what it was told
pub record IsLonger (old new : Played) : Type 0 where
  pub fixed : new.agent.fixed ≡ old.agent.fixed
  pub number : number_of new ≡ number_of old
  pub rest : List AgentEntry
  pub entries : new.entries ≡ old.entries ++ rest
  pub knows : Learns old.known rest new.known

-- A pass after its agent did this: an item more for each server that was asked and gave a stamp, a higher one than it was asked with.
abbrev pub GoesOn : List AgentEntry → Held → Held → Type 0
GoesOn [] old new = new ≡ old
GoesOn (Begun job ∷ entries) old new = GoesOn entries old new
GoesOn (Asked server stamp ∷ entries) old new =
    (before : ℕ) × (front_at old server ≤ before) × (sent_stamp old < stamp) × GoesOn entries (after_item old server before stamp) new
GoesOn (Lacked server lack ∷ entries) old new = GoesOn entries old new
GoesOn (Forgot site ∷ entries) old new = GoesOn entries old new
GoesOn (Ended outcome ∷ entries) old new = GoesOn entries old new
