-- What an agent does is not changed by operations that are not kept of its transactions.
use Rattle.suite_play.proofs.Vocabulary.{◌≡◌, ℕ, ◌+◌, ◌*◌, Bool, true, false, cond, [], Option, Some, None, refl, ap, ◌∙◌, option_map, nat_lt, ◌&&◌, Request, Cache, Response, Job, Transaction, Sweep, Fixed, Task, TransactionRun, SweepRun}
use Rattle.suite_play.proofs.Vocabulary.{Doing, Running, RunningSweep, After, GoesOn, Ends, Agent, Taken, next_in, next_of, left, end_of, with_step, take_in, begin, begins, has_sense, is_idle, max_jobs, started, kept_job, take}
use Rattle.txn_core.specs.Transactions.{execute}
use Rattle.txn_core.specs.Transactions as txn_run
use Rattle.txn_core.specs.Sweeps as sweep
use Rattle.suite_play.proofs.kept.Courses.{cut_course, cut_after, asks_the_same, executes, hears_response}

abbrev pub cut_doing : Doing → Doing
cut_doing (Running txn_run) = Running (cut_course txn_run)
cut_doing (RunningSweep sweep_run) = RunningSweep sweep_run

abbrev pub cut_agent : Agent → Agent
cut_agent agent = record agent { doing = option_map cut_doing agent.doing }

abbrev pub cut_taken : Taken → Taken
cut_taken taken = record taken { agent = cut_agent taken.agent }

-- ---- next

next_is : (fixed : Fixed) (doing : Option Doing) → next_in fixed (option_map cut_doing doing) ≡ next_in fixed doing
next_is fixed None = refl
next_is fixed (Some (Running txn_run)) = asks_the_same fixed txn_run.task txn_run.suites txn_run.phase
next_is fixed (Some (RunningSweep sweep_run)) = refl

pub next_same : (fixed : Fixed) (agent : Agent) → next_of fixed (cut_agent agent) ≡ next_of fixed agent
next_same fixed agent = next_is fixed agent.doing

-- ---- take

with_after : (agent : Agent) (cache : Cache) (after : After TransactionRun) → with_step (cut_agent agent) (record { cache = cache; after = cut_after after }) ≡ cut_taken (with_step agent (record { cache = cache; after = after }))
with_after agent cache (GoesOn more) = refl
with_after agent cache (Ends ending) = refl

swept : (agent : Agent) (after : After SweepRun)
    → ◌≡◌ {A = Taken} (record { agent = record (cut_agent agent) { doing = left RunningSweep after }; ending = end_of after }) (cut_taken (record { agent = record agent { doing = left RunningSweep after }; ending = end_of after }))
swept agent (GoesOn more) = refl
swept agent (Ends ending) = refl

takes : (fixed : Fixed) (agent : Agent) (response : Response) (doing : Option Doing) (asked : Option (ℕ × Request))
    → take_in fixed (cut_agent agent) response (option_map cut_doing doing) asked ≡ cut_taken (take_in fixed agent response doing asked)
takes fixed agent response (Some (Running running)) (Some asked) =
    let step = txn_run.after_response fixed running agent.cache asked.0 asked.1 response in
    ap (with_step (cut_agent agent)) (hears_response running.task fixed agent.cache running.suites running.phase asked.0 asked.1 response)
    ∙ with_after agent step.cache step.after
takes fixed agent response (Some (RunningSweep sweep_run)) (Some asked) = swept agent (sweep.after_response fixed.service sweep_run asked.0 response)
takes fixed agent response (Some (Running running)) None = refl
takes fixed agent response (Some (RunningSweep sweep_run)) None = refl
takes fixed agent response None asked = refl

pub take_same : (fixed : Fixed) (agent : Agent) (response : Response) → take fixed (cut_agent agent) response ≡ cut_taken (take fixed agent response)
take_same fixed agent response =
    ap (take_in fixed (cut_agent agent) response (option_map cut_doing agent.doing)) (next_same fixed agent)
    ∙ takes fixed agent response agent.doing (next_of fixed agent)

-- ---- begin

idle_same : (doing : Option Doing) → is_idle (option_map cut_doing doing) ≡ is_idle doing
idle_same None = refl
idle_same (Some doing) = refl

sense_same : (fixed : Fixed) (job : Job) → has_sense fixed (kept_job job) ≡ has_sense fixed job
sense_same fixed (Transaction caller site ops) = refl
sense_same fixed (Sweep server) = refl

begins_same : (fixed : Fixed) (agent : Agent) (job : Job) → begins fixed (cut_agent agent) (kept_job job) ≡ begins fixed agent job
begins_same fixed agent job =
    ap (λ idle. idle && has_sense fixed (kept_job job) && nat_lt agent.count max_jobs) (idle_same agent.doing)
    ∙ ap (λ sense. is_idle agent.doing && sense && nat_lt agent.count max_jobs) (sense_same fixed job)

started_same : (fixed : Fixed) (agent : Agent) (job : Job) → started fixed (cut_agent agent) (kept_job job) ≡ cut_agent (started fixed agent job)
started_same fixed agent (Transaction caller site ops) =
    let task : Task = record { t = 64 * agent.count + agent.index; caller = caller; site = site; ops = ops } in
    let step = execute fixed task (record { suites = []; cache = agent.cache }) in
    ap (λ step. (with_step (cut_agent agent) step).agent) (executes task fixed (record { suites = []; cache = agent.cache }))
    ∙ ap (λ (taken : Taken). taken.agent) (with_after agent step.cache step.after)
started_same fixed agent (Sweep server) = refl

chosen : (b : Bool) (begun agent : Agent) → cond b (cut_agent begun) (cut_agent agent) ≡ cut_agent (cond b begun agent)
chosen true begun agent = refl
chosen false begun agent = refl

pub begin_same : (fixed : Fixed) (agent : Agent) (job : Job) → begin fixed (cut_agent agent) (kept_job job) ≡ cut_agent (begin fixed agent job)
begin_same fixed agent job =
    ap (λ b. cond b (record (started fixed (cut_agent agent) (kept_job job)) { count = agent.count + 1 }) (cut_agent agent)) (begins_same fixed agent job)
    ∙ ap (λ (now : Agent). cond (begins fixed agent job) (record now { count = agent.count + 1 }) (cut_agent agent)) (started_same fixed agent job)
    ∙ chosen (begins fixed agent job) (record (started fixed agent job) { count = agent.count + 1 }) agent
