-- Transactions that nothing disturbs: each begins where every agent is idle, every server is up, and no lock is left.
use Rattle.std.specs.Prelude.{◌≡◌, ℕ, ◌==◌, Bool, true, false, ◌&&◌, ◌||◌, not, is_some, List, [], ◌∷◌, ◌++◌, length, Contains, Some}
use Rattle.std.specs.List.{list_all, list_any}
use Rattle.acl_core.specs.Identity.{Identity}
use Rattle.suite_prefix.specs.SettingsRules.{Opening, IsAccepted}
use Rattle.file_ops.specs.declared.operation.Op.{Op}
use Rattle.rep_core.specs.Fits.{is_busy, is_down}
use Rattle.rep_core.specs.State.{State}
use Rattle.txn_core.specs.declared.ending.Ending.{Ending}
use Rattle.txn_core.specs.declared.ending.Ending.TheVariants.{Answered, Refused, Swept, Undecided}
use Rattle.txn_core.specs.declared.job.Job.TheVariants.{Transaction}
use Rattle.txn_core.specs.Agents.{fixed_of}
use Rattle.run_core.specs.declared.event.Event.{Event}
use Rattle.run_core.specs.declared.event.Event.TheVariants.{Begin, Step, Crash, Lack}
use Rattle.run_core.specs.declared.done.Served.{Served}
use Rattle.run_core.specs.declared.done.EndedJob.{EndedJob}
use Rattle.run_core.specs.Worlds.{Actor, World, opening, actor_at, has_no_job, step}
use Rattle.run_core.specs.Runs.{after, dones, outcomes, run}
use Rattle.run_core.specs.Decisions.{task_of}
use Rattle.law_runs.specs.Numbers.{number_of}
use Rattle.law_headline.specs.Premises.{CanBe}
use Rattle.law_run_alone.specs.Alone.{all_idle, begins_job, jobs_from}

-- every server is up; no server has a lock
abbrev pub all_up : World → Bool
all_up world = list_all (λ (st : State). st.up) world.servers

abbrev pub no_locks : World → Bool
no_locks world = list_all (λ (st : State). length st.locks == 0) world.servers

-- no server crashes in these events
abbrev pub is_crash : Event → Bool
is_crash (Crash server) = true
is_crash event = false

abbrev pub none_crashes : List Event → Bool
none_crashes events = list_all (λ event. not (is_crash event)) events

-- After these events a transaction begins so. As long as no server crashes and no other job begins, whatever an agent asks is answered neither Busy nor Down, whatever
-- locks were lost, copies are old and requests are not served.
abbrev pub NothingIsInTheWayAt : Opening → List Event → Type 0
NothingIsInTheWayAt given events =
    (later : List Event) (agent t : ℕ) (caller : Identity) (site : ℕ) (ops : List Op) →
    let begins = Begin agent (Transaction caller site ops) in
    let begun = (step (fixed_of given) (run given events) begins).world in
    begins_job given (run given events) begins ≡ Some (t, Transaction caller site ops)
    → all_idle (run given events) ≡ true → all_up (run given events) ≡ true → no_locks (run given events) ≡ true
    → none_crashes later ≡ true → jobs_from given begun later ≡ []
    → (other : ℕ) (what : Served) → (step (fixed_of given) (after (fixed_of given) begun later) (Step other)).done.served ≡ Some what
    → (is_busy what.reply.value ≡ false) × (is_down what.reply.value ≡ false)

abbrev pub NothingIsInTheWay : Type 0
NothingIsInTheWay = (given : Opening) → IsAccepted given → (events : List Event) → NothingIsInTheWayAt given events

-- ---- nothing disturbs it

-- what disturbs: a server crashes; or what an agent asks is not served, since the server is full or memory is wanting
abbrev pub disturbs : Opening → World → Event → Bool
disturbs given world (Crash server) = true
disturbs given world (Step agent) = not (has_no_job (actor_at world agent)) && not (is_some (step (fixed_of given) world (Step agent)).done.served)
disturbs given world (Lack agent why) = not (has_no_job (actor_at world agent))
disturbs given world event = false

-- none of these events does
abbrev pub undisturbed_from : Opening → World → List Event → Bool
undisturbed_from given world [] = true
undisturbed_from given world (event ∷ events) = not (disturbs given world event) && undisturbed_from given (step (fixed_of given) world event).world events

-- answered or refused
abbrev pub is_decided : Ending → Bool
is_decided (Answered answers) = true
is_decided (Refused refusal) = true
is_decided (Swept broken finished left) = false
is_decided (Undecided cause) = false

-- A transaction begins after these events, where every agent is idle, every server is up and no lock is left. No other job begins, and nothing disturbs: then it is decided
-- when it ends. Old copies and hints, and locks that were lost before, do not matter.
abbrev pub UndisturbedAreDecidedAt : Opening → List Event → Type 0
UndisturbedAreDecidedAt given events =
    (later : List Event) (agent t : ℕ) (caller : Identity) (site : ℕ) (ops : List Op) →
    let begins = Begin agent (Transaction caller site ops) in
    let begun = (step (fixed_of given) (run given events) begins).world in
    CanBe given (events ++ begins ∷ later)
    → begins_job given (run given events) begins ≡ Some (t, Transaction caller site ops)
    → all_idle (run given events) ≡ true → all_up (run given events) ≡ true → no_locks (run given events) ≡ true
    → jobs_from given begun later ≡ [] → undisturbed_from given begun later ≡ true
    → (job : EndedJob) → Contains (outcomes (dones (fixed_of given) begun later)) job → (number_of job ≡ t) × (is_decided job.ending ≡ true)

abbrev pub UndisturbedAreDecided : Type 0
UndisturbedAreDecided = (given : Opening) (events : List Event) → UndisturbedAreDecidedAt given events

-- ---- nothing disturbs any

-- where an event begins a transaction, every server is up and no lock is left
abbrev pub begins_clear : Opening → World → Event → Bool
begins_clear given world (Begin agent (Transaction caller site ops)) =
    not (is_some (begins_job given world (Begin agent (Transaction caller site ops)))) || (all_up world && no_locks world)
begins_clear given world event = true

-- whether some agent runs a transaction
abbrev pub some_runs : World → Bool
some_runs world = list_any (λ (actor : Actor). is_some (task_of actor.agent.doing)) world.agents

abbrev pub all_undisturbed_from : Opening → World → List Event → Bool
all_undisturbed_from given world [] = true
all_undisturbed_from given world (event ∷ events) =
    begins_clear given world event && not (some_runs world && disturbs given world event) && all_undisturbed_from given (step (fixed_of given) world event).world events

-- every transaction of a run begins so, and nothing disturbs it; between transactions servers may crash
abbrev pub all_undisturbed : Opening → List Event → Bool
all_undisturbed given events = all_undisturbed_from given (opening given) events
