-- What an event decides: of a step, what is shown by what was served and the job that its agent began last; of any other event, nothing.
use Rattle.run_certify.proofs.Vocabulary.{◌≡◌, ◌≢◌, ℕ, zero, suc, ◌+◌, ◌<◌, Bool, true, false, cond, [], ◌∷◌, ◌++◌, List, length, slice_set, Option, Some, None, refl, sym, ap, subst, ◌∙◌, arith, ◌*◌, ◌%◌, is_some, Result, slice_index_or, none-some}
use Rattle.run_certify.proofs.Vocabulary.{Opening, IsAccepted, Answer, Refusal, Request, Reply, Verdict, State, record_of, recorded, reply_of, verdict_of, answer_of, Job, Transaction, Sweep, Fixed, Task, TransactionRun, Doing, Running, decision_of}
use Rattle.run_certify.proofs.Vocabulary.{execute, is_decide, Agent, begin, begins, fixed_of, is_idle, next_in, next_of, started, asks_same, Event, Begin, Step, Crash, Return, Forget, Lack, Served, Decided, answer_in, decided, decided_as, decided_at}
use Rattle.run_certify.proofs.Vocabulary.{decided_by, decisions, task_at, task_of, to_decide, run, can_begin, has_sense, Actor, World, actor_at, answered, asks, asks_at, opening, server_at, step, steps_once, after-append, IsAt, decides}
use Rattle.run_certify.proofs.Vocabulary.{sweep_decides_none, holds_of, rest_of, same_or, NotIn, Recorded, Stands, Tells, Holds, actor_opens, AllHave, Has, becomes_all, event_all, on_course, stays_begin, HasPlace, IsOfJob, IsPlayed, decision_as}
use Rattle.run_certify.proofs.Vocabulary.{decision_by, job_at, job_of, jobs_after}
use Rattle.rep_core.specs.declared.reply.Reply.TheVariants as reply
use Rattle.rep_core.specs.declared.reply.Verdict.TheVariants as verdict
use Rattle.law_runs.specs.Claims.{ended}
use Rattle.law_runs.proofs.Worlds.{agent_of}

-- ---- the job that an agent began last

pub opens : (given : Opening) (jobs : List (Option Job)) → IsPlayed given (opening given) jobs
opens given jobs = search (none-some, actor_opens, arith)

-- what is put in a list's place stands there, and nothing else changes
set_there : {A : Type 0} (xs : List A) (i : ℕ) (x d : A) → i < length xs → slice_index_or (slice_set xs i x) i d ≡ x
set_there [] i x d low = absurd (omega arith)
set_there (y ∷ xs) zero x d low = refl
set_there (y ∷ xs) (suc i) x d low = set_there xs i x d (omega arith)

set_others : {A : Type 0} (xs : List A) (i j : ℕ) (x d : A) → j ≢ i → slice_index_or (slice_set xs i x) j d ≡ slice_index_or xs j d
set_others [] i j x d apart = refl
set_others (y ∷ xs) zero zero x d apart = absurd (apart refl)
set_others (y ∷ xs) zero (suc j) x d apart = refl
set_others (y ∷ xs) (suc i) zero x d apart = refl
set_others (y ∷ xs) (suc i) (suc j) x d apart = set_others xs i j x d (λ same. apart (ap suc same))

-- an agent's number is that of its transaction
number_of_task : (ds : List Decided) (i count : ℕ) (doing : Option Doing) (task : Task) → IsAt ds i count doing → i < 64 → task_of doing ≡ Some task → task.t % 64 ≡ i
number_of_task ds i count doing task h5 h6 h7 = search arith

no_job : (doing : Option Doing) (task : Task) → is_idle doing ≡ true → task_of doing ≡ Some task → ⊥
no_job doing task h2 h3 = search arith

-- what the home of a transaction says of it
abbrev said_at : Bool → Option Verdict → Verdict → Reply
said_at up old new = cond up (reply.Verdict (recorded old new)) reply.Down

module _ (given : Opening) (accepted : IsAccepted given) (world : World) (jobs : List (Option Job)) (played : IsPlayed given world jobs) where
  abbrev fixed : Fixed
  fixed = fixed_of given

  abbrev ds : List Decided
  ds = decisions given played.events

  holds : Holds fixed world ds (ended given played.events)
  holds = subst (λ world. Holds fixed world ds (ended given played.events)) (sym played.is) (holds_of given accepted played.events)

  next_is : (event : Event) → (step fixed world event).world ≡ run given (played.events ++ event ∷ [])
  next_is event = ap (λ world. (step fixed world event).world) played.is ∙ sym (after-append fixed (opening given) played.events (event ∷ []))

  number_is : (i : ℕ) (actor : Actor) (task : Task) → actor_at world i ≡ Some actor → task_of actor.agent.doing ≡ Some task → task.t % 64 ≡ i
  number_is i actor task there is =
      let at = ap agent_of there in
      number_of_task ds i actor.agent.count actor.agent.doing task (holds.agents.at i actor.agent at) (holds.agents.small i actor.agent at) is

  -- ---- after an event

  -- no agent begins a job
  other_event : (event : Event) → ((number : ℕ) (job : Job) → event ≡ Begin number job → ⊥) → IsPlayed given (step fixed world event).world jobs
  other_event event none = record {
    events = played.events ++ event ∷ [];
    is = next_is event;
    begun = event_all fixed (IsOfJob jobs) world played.begun event (λ number job actor is there. absurd (none number job is));
  }

  -- an agent begins a job, which is then the last that it began
  module _ (number : ℕ) (job : Job) (place : number < length jobs) (sense : has_sense fixed world (Begin number job) ≡ true) where
    abbrev later : List (Option Job)
    later = slice_set jobs number (Some job)

    now : job_at later number ≡ Some job
    now = set_there jobs number (Some job) None place

    others : (other : ℕ) → other ≢ number → job_at later other ≡ job_at jobs other
    others other apart = set_others jobs number other (Some job) None apart

    may : (actor : Actor) → actor_at world number ≡ Some actor → begins fixed actor.agent job ≡ true
    may actor there = sym (ap (can_begin fixed job) there) ∙ sense

    idle : (agent : Agent) → begins fixed agent job ≡ true → is_idle agent.doing ≡ true
    idle agent may' = search arith

    before : AllHave fixed (IsOfJob later) world
    before n actor there task is = search (number_is, no_job, idle, may, others, same_or, arith)

    begun_now : (job : Job) → job_at later number ≡ Some job → (agent : Agent) → agent.index ≡ number → number < 64 → Has fixed (IsOfJob later) (record (started fixed agent job) { count = agent.count + 1 })
    begun_now (Sweep server) last agent index small = λ task is. absurd (none-some task is)
    begun_now (Transaction caller site ops) last agent index small =
        let task : Task = record { t = 64 * agent.count + agent.index; caller = caller; site = site; ops = ops } in
        on_course fixed (IsOfJob later) task (execute fixed task (record { suites = []; cache = agent.cache })).after (stays_begin fixed task agent.cache)
        (ap (job_at later) (ap (λ i. (64 * agent.count + i) % 64) index ∙ rest_of agent.count number small) ∙ last)

    begins_so : (actor : Actor) → actor_at world number ≡ Some actor → Has fixed (IsOfJob later) (begin fixed actor.agent job)
    begins_so actor there =
        let at = ap agent_of there in
        subst (λ b. Has fixed (IsOfJob later) (cond b (record (started fixed actor.agent job) { count = actor.agent.count + 1 }) actor.agent)) (sym (may actor there))
        (begun_now job now actor.agent (holds.agents.index number actor.agent at) (holds.agents.small number actor.agent at))

    begin_event : IsPlayed given (step fixed world (Begin number job)).world later
    begin_event = record {
      events = played.events ++ Begin number job ∷ [];
      is = next_is (Begin number job);
      begun = becomes_all fixed (IsOfJob later) world before number (λ agent. begin fixed agent job) begins_so (actor_at world number) refl;
    }

  pub goes_on : (event : Event) → has_sense fixed world event ≡ true → HasPlace jobs event → IsPlayed given (step fixed world event).world (jobs_after jobs event)
  goes_on (Begin number job) sense place = begin_event number job place sense
  goes_on (Step number) sense place = other_event (Step number) (λ n job is. cc)
  goes_on (Crash server) sense place = other_event (Crash server) (λ n job is. cc)
  goes_on (Return server) sense place = other_event (Return server) (λ n job is. cc)
  goes_on (Forget number site) sense place = other_event (Forget number site) (λ n job is. cc)
  goes_on (Lack number why) sense place = other_event (Lack number why) (λ n job is. cc)

  -- ---- what a step decides

  module _ (number : ℕ) where
    abbrev decides_so : State → Option Task → Request → Type 0
    decides_so st task asked = decided_at (Some st) (to_decide asked) (decided_as task (answer_in (reply_of st asked))) ≡ decision_as (job_at jobs number) (to_decide asked) (answer_in (reply_of st asked))

    quiet : (st : State) (task : Option Task) (asked : Request) → is_decide asked ≡ false → decides_so st task asked
    quiet st task asked other = search arith

    -- the home has no record of it, or that it was given up
    first_only : (task : Task) (new : Verdict) (old : Option Verdict) → ((v : Verdict) → old ≡ Some v → Recorded ds task.t v) → NotIn ds task.t → (up : Bool)
        → cond (is_some old) None (decided_as (Some task) (answer_in (said_at up old new))) ≡ decided_as (Some task) (answer_in (said_at up old new))
    first_only task new None recorded none up = refl
    first_only task new (Some verdict.Aborted) recorded none true = refl
    first_only task new (Some verdict.Aborted) recorded none false = refl
    first_only task new (Some (verdict.Answered answers)) recorded none up =
        let was = recorded (verdict.Answered answers) refl in absurd (none was.decision was.there was.of_it)
    first_only task new (Some (verdict.Refused refusal)) recorded none up =
        let was = recorded (verdict.Refused refusal) refl in absurd (none was.decision was.there was.of_it)

    as_begun : (task : Task) (answer : Option (Result (List Answer) Refusal)) → job_at jobs number ≡ Some (job_of task) → decided_as (Some task) answer ≡ decision_as (job_at jobs number) (Some task.t) answer
    as_begun task answer h2 = search arith

    module _ (actor : Actor) (there : actor_at world number ≡ Some actor) (server : ℕ) (st : State) (at : server_at world server ≡ Some st) where
      running : (txn_run : TransactionRun) (asked : Request) → actor.agent.doing ≡ Some (Running txn_run) → next_in fixed (Some (Running txn_run)) ≡ Some (server, asked)
          → (b : Bool) → is_decide asked ≡ b → decides_so st (Some txn_run.task) asked
      running txn_run asked doing next false other = quiet st (Some txn_run.task) asked other
      running txn_run asked doing next true decide =
          let task = txn_run.task in
          let does = decides fixed txn_run.task txn_run.suites txn_run.phase server asked next decide in
          let stood : IsAt ds number actor.agent.count (Some (Running txn_run)) = subst (IsAt ds number actor.agent.count) doing (holds.agents.at number actor.agent (ap agent_of there)) in
          let aborted : stood.said ≡ verdict.Aborted = subst (Tells stood.said) does.deciding stood.tells in
          let none : NotIn ds task.t = subst (Stands ds task.t) aborted stood.stands in
          let index : task.t % 64 ≡ number = number_is number actor task there (ap task_of doing) in
          let begun : job_at jobs number ≡ Some (job_of task) = sym (ap (job_at jobs) index) ∙ played.begun number actor there task (ap task_of doing) in
          subst (decides_so st (Some task)) (sym does.decide)
          (first_only task (verdict_of (decision_of task does.outcome)) (record_of st task.t) (λ v has. holds.servers.recorded server st task.t v at has) none st.up
          ∙ as_begun task (answer_in (said_at st.up (record_of st task.t) (verdict_of (decision_of task does.outcome)))) begun)

      by_doing : (doing : Option Doing) (asked : Request) → actor.agent.doing ≡ doing → next_in fixed doing ≡ Some (server, asked) → decides_so st (task_of doing) asked
      by_doing doing asked h2 h3 = search (running, quiet, asks_same, sweep_decides_none, arith)

    abbrev shows : Option Task → Option Served → Type 0
    shows task what = decided_by world task what ≡ decision_by (job_at jobs number) what

    by_room : (actor : Actor) (asked : ℕ × Request) (st : State) → actor_at world number ≡ Some actor → next_of fixed actor.agent ≡ Some asked → server_at world asked.0 ≡ Some st → (full : Bool)
        → shows (task_of actor.agent.doing) (answered fixed world number actor st
        (cond full None
        (Some (record {
          server = asked.0;
          request = record { stamp = actor.stamp; value = asked.1 };
          reply = answer_of st
              (record { stamp = actor.stamp; value = asked.1 });
        })))).done.served
    by_room actor asked st h3 h4 h5 full = search (by_doing, arith)

    by_server : (actor : Actor) (asked : ℕ × Request) → actor_at world number ≡ Some actor → next_of fixed actor.agent ≡ Some asked → (found : Option State) → server_at world asked.0 ≡ found
        → shows (task_of actor.agent.doing) (asks_at fixed world number actor asked found).done.served
    by_server actor asked h2 h3 found h5 = search (by_room, arith)

    by_request : (actor : Actor) → actor_at world number ≡ Some actor → (asked : Option (ℕ × Request)) → next_of fixed actor.agent ≡ asked → shows (task_of actor.agent.doing) (asks fixed world number actor asked).done.served
    by_request actor h1 asked h3 = search (by_server, arith)

    by_actor : (found : Option Actor) → actor_at world number ≡ found → shows (task_at found) (steps_once fixed world number found).done.served
    by_actor found h1 = search (by_request, arith)

    pub decided_is : decided fixed world (Step number) ≡ decision_by (job_at jobs number) (step fixed world (Step number)).done.served
    decided_is = by_actor (actor_at world number) refl

-- ---- what any other event decides

abbrev pub is_step : Event → Bool
is_step (Step number) = true
is_step other = false

pub decides_nothing : (fixed : Fixed) (world : World) (event : Event) → is_step event ≡ false → decided fixed world event ≡ None
decides_nothing fixed world event h3 = search arith
