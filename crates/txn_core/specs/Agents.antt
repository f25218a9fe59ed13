-- The agent function.
use Rattle.std.specs.Prelude.{ℕ, ◌+◌, ◌*◌, ◌-◌, ◌^◌, nat_lt, Bool, true, false, ◌&&◌, if◌then◌else◌, List, [], ◌∷◌, Option, Some, None}
use Rattle.suite_prefix.specs.SettingsRules.{Opening, max_agents}
use Rattle.rep_core.specs.declared.request.Request.{Request}
use Rattle.weak_cache.specs.Entries.{Cache, forgotten}
use Rattle.txn_core.specs.declared.response.Response.{Response}
use Rattle.txn_core.specs.declared.ending.Ending.{Ending}
use Rattle.txn_core.specs.declared.job.Job.{Job}
use Rattle.txn_core.specs.declared.job.Job.TheVariants.{Transaction, Sweep}
use Rattle.txn_core.specs.Doing.{Fixed, Task, Listing, Doing, Running, RunningSweep, After, GoesOn, Ends}
use Rattle.txn_core.specs.Transactions as txn_run
use Rattle.txn_core.specs.Transactions.{Step, execute, request_of}
use Rattle.txn_core.specs.Sweeps as sweep
use Rattle.txn_core.specs.Sweeps.{asked_now}

-- its number, how many jobs it began before, its cache, and what it does, if it is not idle
pub record Agent : Type 0 where
  pub index : ℕ
  pub count : ℕ
  pub cache : Cache
  pub doing : Option Doing

abbrev pub fixed_of : Opening → Fixed
fixed_of given = record {
  service = record { servers = given.servers; c0 = given.c0 };
  limits = record { budget = given.budget; quota = given.quota; slots = given.slots };
}

abbrev pub opening : ℕ → Agent
opening index = record { index = index; count = 0; cache = []; doing = None }

-- ---- next

abbrev pub next_in : Fixed → Option Doing → Option (ℕ × Request)
next_in fixed None = None
next_in fixed (Some (Running txn_run)) = request_of fixed txn_run
next_in fixed (Some (RunningSweep sweep_run)) = Some (asked_now fixed.service sweep_run sweep_run.now)

abbrev pub next_of : Fixed → Agent → Option (ℕ × Request)
next_of fixed agent = next_in fixed agent.doing

-- ---- take

-- an agent with the ending of its job, where that has ended
pub record Taken : Type 0 where
  pub agent : Agent
  pub ending : Option Ending

abbrev pub left : {D : Type 0} → (D → Doing) → After D → Option Doing
left as_doing (GoesOn more) = Some (as_doing more)
left as_doing (Ends ending) = None

abbrev pub end_of : {D : Type 0} → After D → Option Ending
end_of (GoesOn more) = None
end_of (Ends ending) = Some ending

abbrev pub with_step : Agent → Step → Taken
with_step agent step = record { agent = record agent { cache = step.cache; doing = left Running step.after }; ending = end_of step.after }

abbrev pub take_in : Fixed → Agent → Response → Option Doing → Option (ℕ × Request) → Taken
take_in fixed agent response (Some (Running running)) (Some asked) = with_step agent (txn_run.after_response fixed running agent.cache asked.0 asked.1 response)
take_in fixed agent response (Some (RunningSweep sweep_run)) (Some asked) =
    let after = sweep.after_response fixed.service sweep_run asked.0 response in
    record { agent = record agent { doing = left RunningSweep after }; ending = end_of after }
take_in fixed agent response doing asked = record { agent = agent; ending = None }

-- an agent that was told something of what it asked
abbrev pub take : Fixed → Agent → Response → Taken
take fixed agent response = take_in fixed agent response agent.doing (next_of fixed agent)

-- ---- begin and forget

abbrev pub max_sites : ℕ
max_sites = 16

-- after this many jobs none is begun
abbrev pub max_jobs : ℕ
max_jobs = 2 ^ 32 - 1

abbrev pub has_sense : Fixed → Job → Bool
has_sense fixed (Transaction caller site ops) = nat_lt site max_sites
has_sense fixed (Sweep server) = nat_lt server fixed.service.servers

abbrev pub is_idle : Option Doing → Bool
is_idle None = true
is_idle (Some doing) = false

-- the number of its next transaction: those of all agents differ
abbrev pub next_number : Agent → ℕ
next_number agent = max_agents * agent.count + agent.index

abbrev pub started : Fixed → Agent → Job → Agent
started fixed agent (Transaction caller site ops) =
    let task : Task = record { t = next_number agent; caller = caller; site = site; ops = ops } in
    (with_step agent (execute fixed task (record { suites = []; cache = agent.cache }))).agent
started fixed agent (Sweep server) = record agent { doing = Some (RunningSweep (record { server = server; broken = 0; finished = 0; left = 0; now = Listing })) }

-- a job begins, or nothing changes
abbrev pub begins : Fixed → Agent → Job → Bool
begins fixed agent job = is_idle agent.doing && has_sense fixed job && nat_lt agent.count max_jobs

abbrev pub begin : Fixed → Agent → Job → Agent
begin fixed agent job =
    if begins fixed agent job
    then record (started fixed agent job) { count = agent.count + 1 }
    else agent

abbrev pub forget : Agent → ℕ → Agent
forget agent site = record agent { cache = forgotten site agent.cache }

-- ---- the agent function of what it was told

-- what an agent is told, or told to forget
pub data Event : Type 0 where
  Take : Response → Event
  Forget : ℕ → Event

abbrev pub after_event : Fixed → Agent → Event → Agent
after_event fixed agent (Take response) = (take fixed agent response).agent
after_event fixed agent (Forget site) = forget agent site

-- after a job was begun and all this, oldest first
abbrev pub after_all : Fixed → Agent → List Event → Agent
after_all fixed agent [] = agent
after_all fixed agent (event ∷ events) = after_all fixed (after_event fixed agent event) events
