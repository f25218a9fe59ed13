-- A transaction that begins where every agent is idle, every server is up and no lock is left: as long as nothing disturbs it, it goes as where all servers are up, and ends decided.
use Rattle.law_run_alone.proofs.Vocabulary.{◌≡◌, ℕ, ◌+◌, Bool, true, false, cond, List, [], ◌∷◌, Option, Some, None, refl, sym, ap, subst, ◌∙◌, arith, ◌++◌, append_assoc, ◌*◌, ◌-◌, slice_get, ◌&&◌, nat_lt, slice_set, none-some, IsValid, Opening}
use Rattle.law_run_alone.proofs.Vocabulary.{Request, Reply, State, reply_of, Cause, Ending, Undecided, Replied, Fixed, Doing, Running, RunningSweep, Task, after_response, is_decide, said_by, Agent, fixed_of, is_idle, next_in, next_of, take_in, take}
use Rattle.law_run_alone.proofs.Vocabulary.{has_sense, max_jobs, begin, started, Event, Begin, EndedJob, Actor, World, server_at, actor_at, outcome_of, step, becomes, run, number_of, begins_now, IsAt, leaves_response, agent_of, puts_in, begins_job}
use Rattle.law_run_alone.proofs.Vocabulary.{all_idle, disturbs, is_decided, no_locks, Identity, Op, Job, Transaction, CanBe, JobGivesValidVotes, all_up as every_up}
use Rattle.law_run_alone.proofs.Turns.{doing_of, doing_at, with_job, all_none}
use Rattle.law_run_alone.proofs.Owns.{IsMine}
use Rattle.law_run_alone.proofs.Clear.{Clear, is_calm, event_clear, begun_clear, clear_servers}
use Rattle.law_run_alone.proofs.Votes.{HasValidVotes, cache_valid}
use Rattle.law_run_alone.proofs.Exchanged.{IsFree, Since, since_forget, since_take, never_undecided, since_begin, all_up}
use Rattle.law_run_alone.proofs.Went.{Went, Stayed, Forgot, Took, Moves, event_moves}
use Rattle.law_run_alone.proofs.Starts.{starts}
use Rattle.law_run_alone.proofs.Unhindered.{Facts, no_crash, after_decided, goes_on}
use Rattle.law_run_alone.proofs.Reached.{can_front, facts_of, run_more, valid_back}
use Rattle.law_run_alone.proofs.Goes.{Goes, own_free, goes_next, goes_first}

-- ---- what holds as long as nothing disturbs it

-- of these events
pub record At (given : Opening) (t turn : ℕ) (all : List Event) (world : World) : Type 0 where
  pub clear : Clear world t turn
  pub goes : (later : List Event) → CanBe given (all ++ later) → Goes given all_up t turn world later
  pub actor : Actor
  pub there : actor_at world turn ≡ Some actor
  pub since : Since (fixed_of given) actor.agent

abbrev pub Reached : Opening → ℕ → ℕ → List Event → Type 0
Reached given t agent all = At given t agent all (run given all)

module _ (given : Opening) (c0 : IsValid given.c0) (t turn : ℕ) (all : List Event) (world : World) (facts : Facts given world) (at : At given t turn all world) (event : Event) (can : CanBe given (all ++ event ∷ []))
    (calm : disturbs given world event ≡ false) (none : begins_job given world event ≡ None) where
  abbrev fixed : Fixed
  fixed = fixed_of given

  mine : IsMine t at.actor.agent.doing
  mine = subst (IsMine t) (ap doing_of at.there) at.clear.owns.mine

  -- a reply to the transaction is free
  reply_free : (asked : ℕ × Request) (st : State) → next_of fixed at.actor.agent ≡ Some asked → server_at world asked.0 ≡ Some st → IsFree true asked.1 (reply_of st asked.1)
  reply_free asked st next there = own_free given all_up t turn world (event ∷ []) (at.goes (event ∷ []) can) at.actor at.there asked st next there

  moves : Moves given t turn world facts.ds facts.past facts.holds at.clear at.actor at.there (step fixed world event)
  moves = event_moves given t turn world facts.ds facts.past facts.holds at.clear at.actor at.there event calm none

  -- it still holds after the event
  pub next_at : Facts given (step fixed world event).world → At given t turn (all ++ event ∷ []) (step fixed world event).world
  next_at later = record {
    clear = event_clear given t turn world facts.ds facts.past facts.holds at.clear event (no_crash given world event calm) none;
    goes = λ later can'. goes_next given all_up t turn world event later (at.goes (event ∷ later) (subst (CanBe given) (append_assoc all (event ∷ []) later) can'))
        (is_calm given t turn world facts.ds facts.past facts.holds at.clear event (no_crash given world event calm) none);
    actor = moves.0;
    there = moves.1;
    since = of moves.2;
  }
    where
      cache : HasValidVotes moves.0.agent.cache
      cache = later.caches turn moves.0 moves.1

      of : Went fixed world turn at.actor moves.0.agent (step fixed world event).done.outcome → Since fixed moves.0.agent
      of (Stayed same out) = subst (Since fixed) (sym same) at.since
      of (Forgot site same out) = subst (Since fixed) (sym same) (since_forget fixed at.actor.agent at.since site (subst (λ (agent : Agent). HasValidVotes agent.cache) same cache))
      of (Took asked st what next there served is same out) =
          subst (Since fixed) (sym same)
          (since_take fixed at.actor.agent at.since asked (reply_of st asked.1) next (reply_free asked st next there) (subst (λ (agent : Agent). HasValidVotes agent.cache) same cache))

  -- how it ends, if it does
  outcome_ending : (ending : Option Ending) (job : EndedJob) → outcome_of turn at.actor ending ≡ Some job → (ending ≡ Some job.ending) × (number_of job ≡ 64 * (at.actor.agent.count - 1) + turn)
  outcome_ending ending job h2 = search arith

  -- its number
  number_is : (asked : ℕ × Request) → next_of fixed at.actor.agent ≡ Some asked → 64 * (at.actor.agent.count - 1) + turn ≡ t
  number_is asked next = of at.actor.agent.doing next mine (facts.holds.agents.at turn at.actor.agent (ap agent_of at.there))
    where
      of : (doing : Option Doing) → next_in fixed doing ≡ Some asked → IsMine t doing → IsAt facts.ds turn at.actor.agent.count doing → 64 * (at.actor.agent.count - 1) + turn ≡ t
      of doing h1 h2 h3 = search (none-some, arith)

  take_decided : (asked : ℕ × Request) (said : Reply) → next_of fixed at.actor.agent ≡ Some asked → (ending : Ending)
      → (take fixed at.actor.agent (Replied said)).ending ≡ Some ending → ((cause : Cause) → ending ≡ Undecided cause → ⊥) → is_decided ending ≡ true
  take_decided asked said next ending is none' =
      of at.actor.agent.doing next mine (facts.holds.agents.at turn at.actor.agent (ap agent_of at.there)) (subst (λ o. (take_in fixed at.actor.agent (Replied said) at.actor.agent.doing o).ending ≡ Some ending) next is)
    where
      of : (doing : Option Doing) → next_in fixed doing ≡ Some asked → IsMine t doing → IsAt facts.ds turn at.actor.agent.count doing
          → (take_in fixed at.actor.agent (Replied said) doing (Some asked)).ending ≡ Some ending → is_decided ending ≡ true
      of None next own stands is = absurd (none-some asked next)
      of (Some (RunningSweep sweep_run)) next own stands is = absurd own
      of (Some (Running txn_run)) next own stands is =
          after_decided txn_run (cond (is_decide asked.1) (said_by (Replied said) stands.said) stands.said) (after_response fixed txn_run at.actor.agent.cache asked.0 asked.1 (Replied said)).after ending
          (leaves_response fixed txn_run.task at.actor.agent.cache txn_run.suites txn_run.phase asked.0 asked.1 (Replied said) stands.said next stands.tells) is none'

  pub ends_decided : Facts given (step fixed world event).world → (job : EndedJob) → (step fixed world event).done.outcome ≡ Some job → (number_of job ≡ t) × (is_decided job.ending ≡ true)
  ends_decided later job is = of moves.2
    where
      of : Went fixed world turn at.actor moves.0.agent (step fixed world event).done.outcome → (number_of job ≡ t) × (is_decided job.ending ≡ true)
      of (Stayed same out) = absurd (none-some job (sym out ∙ is))
      of (Forgot site same out) = absurd (none-some job (sym out ∙ is))
      of (Took asked st what next there served told same out) =
          let ended = outcome_ending (take fixed at.actor.agent (Replied (reply_of st asked.1))).ending job (sym out ∙ is) in
          let cache = subst (λ (agent : Agent). HasValidVotes agent.cache) same (later.caches turn moves.0 moves.1) in (
            ended.1 ∙ number_is asked next,
            take_decided asked (reply_of st asked.1) next job.ending ended.0
                (λ cause undecided. never_undecided fixed c0 at.actor.agent asked (reply_of st asked.1) cause next (reply_free asked st next there) at.since cache (ended.0 ∙ ap Some undecided)),
          )

  -- and who did not end still runs
  no_ending : (ending : Option Ending) → outcome_of turn at.actor ending ≡ None → ending ≡ None
  no_ending ending h1 = search arith

  pub still_runs : is_idle (doing_at world turn) ≡ false → (step fixed world event).done.outcome ≡ None → is_idle (doing_at (step fixed world event).world turn) ≡ false
  still_runs runs' is = ap (λ found. is_idle (doing_of found)) moves.1 ∙ of moves.2
    where
      runs : is_idle at.actor.agent.doing ≡ false
      runs = ap (λ found. is_idle (doing_of found)) (sym at.there) ∙ runs'

      of : Went fixed world turn at.actor moves.0.agent (step fixed world event).done.outcome → is_idle moves.0.agent.doing ≡ false
      of h0 = search (runs, no_ending, goes_on, mine, arith)

-- ---- a transaction that begins

module _ (given : Opening) (events : List Event) (agent t : ℕ) (caller : Identity) (site : ℕ) (ops : List Op) where
  abbrev job : Job
  job = Transaction caller site ops

  abbrev pub begins : Event
  begins = Begin agent job

  abbrev pub begun : World
  begun = (step (fixed_of given) (run given events) begins).world

  module _ (can : CanBe given (events ++ begins ∷ [])) (begins_so : begins_job given (run given events) begins ≡ Some (t, job)) (idle : all_idle (run given events) ≡ true)
      (up : every_up (run given events) ≡ true) (locks : no_locks (run given events) ≡ true) where
    can_before : CanBe given events
    can_before = can_front given events (begins ∷ []) can

    facts : Facts given (run given events)
    facts = facts_of given events can_before

    valid_job : JobGivesValidVotes job
    valid_job = (valid_back events (begins ∷ []) can.votes).0

    caches : (i : ℕ) (actor : Actor) → actor_at begun i ≡ Some actor → HasValidVotes actor.agent.cache
    caches = subst (λ world. (i : ℕ) (actor : Actor) → actor_at world i ≡ Some actor → HasValidVotes actor.agent.cache) (run_more given events begins) (cache_valid given (events ++ begins ∷ []) can)

    -- its agent then runs it
    record Begun (world : World) : Type 0 where
      actor : Actor
      there : actor_at world agent ≡ Some actor
      since : Since (fixed_of given) actor.agent
      runs : is_idle actor.agent.doing ≡ false

    agent_begun : (found : Option Actor) → actor_at (run given events) agent ≡ found → with_job job (begins_now (fixed_of given) agent job found) ≡ Some (t, job)
        → ((i : ℕ) (actor : Actor) → actor_at (becomes (run given events) agent (λ agent. begin (fixed_of given) agent job) found).world i ≡ Some actor → HasValidVotes actor.agent.cache)
        → Begun (becomes (run given events) agent (λ agent. begin (fixed_of given) agent job) found).world
    agent_begun None is begins' valid = absurd (none-some (t, job) begins')
    agent_begun (Some actor) is begins' valid =
        record {
          actor = new;
          there = there;
          since = since_begin (fixed_of given) actor.agent caller site ops idle' valid_job (valid agent new there);
          runs = runs (is_idle actor.agent.doing && has_sense (fixed_of given) job && nat_lt actor.agent.count max_jobs) begins';
        }
      where
        new : Actor
        new = record actor { agent = begin (fixed_of given) actor.agent job }

        there : slice_get (slice_set (run given events).agents agent new) agent ≡ Some new
        there = (puts_in (run given events).agents agent actor new is).here

        idle' : is_idle actor.agent.doing ≡ true
        idle' = ap is_idle (sym (ap doing_of is) ∙ all_none (run given events).agents idle agent)

        task : Task
        task = record { t = 64 * actor.agent.count + actor.agent.index; caller = caller; site = site; ops = ops }

        runs : (b : Bool) → with_job job (cond b (Some (64 * actor.agent.count + agent)) None) ≡ Some (t, job)
            → is_idle (cond b (record (started (fixed_of given) actor.agent job) { count = actor.agent.count + 1 }) actor.agent).doing ≡ false
        runs true begins' = starts (fixed_of given) task actor.agent.cache can.c0 (facts.caches agent actor is)
        runs false begins' = absurd (none-some (t, job) begins')

    begun_so : Begun begun
    begun_so = agent_begun (actor_at (run given events) agent) refl begins_so caches

    begun_at : At given t agent (events ++ begins ∷ []) begun
    begun_at = record {
      clear = begun_clear given (run given events) facts.ds facts.past facts.holds agent t caller site ops idle up locks (actor_at (run given events) agent) refl begins_so;
      goes = λ later can'. goes_first given all_up t agent events later caller site ops (subst (CanBe given) (append_assoc events (begins ∷ []) later) can') begins_so (clear_servers t (run given events) up locks);
      actor = begun_so.actor;
      there = begun_so.there;
      since = begun_so.since;
    }

    pub reached_first : Reached given t agent (events ++ begins ∷ [])
    reached_first = subst (At given t agent (events ++ begins ∷ [])) (sym (run_more given events begins)) begun_at

    pub runs_first : is_idle (doing_at (run given (events ++ begins ∷ [])) agent) ≡ false
    runs_first = ap (λ world. is_idle (doing_at world agent)) (run_more given events begins) ∙ ap (λ found. is_idle (doing_of found)) begun_so.there ∙ begun_so.runs

-- ---- and goes on

module _ (given : Opening) (t agent : ℕ) (all : List Event) (event : Event) (can : CanBe given (all ++ event ∷ [])) (reached : Reached given t agent all) (calm : disturbs given (run given all) event ≡ false)
    (none' : begins_job given (run given all) event ≡ None) where
  now : Facts given (run given all)
  now = facts_of given all (can_front given all (event ∷ []) can)

  later : Facts given (step (fixed_of given) (run given all) event).world
  later = subst (Facts given) (run_more given all event) (facts_of given (all ++ event ∷ []) can)

  pub next_reached : Reached given t agent (all ++ event ∷ [])
  next_reached = subst (At given t agent (all ++ event ∷ [])) (sym (run_more given all event)) (next_at given can.c0 t agent all (run given all) now reached event can calm none' later)

  pub ended_decided : (job' : EndedJob) → (step (fixed_of given) (run given all) event).done.outcome ≡ Some job' → (number_of job' ≡ t) × (is_decided job'.ending ≡ true)
  ended_decided job' is = ends_decided given can.c0 t agent all (run given all) now reached event can calm none' later job' is

  pub runs_still : is_idle (doing_at (run given all) agent) ≡ false → (step (fixed_of given) (run given all) event).done.outcome ≡ None → is_idle (doing_at (run given (all ++ event ∷ [])) agent) ≡ false
  runs_still runs is =
      ap (λ world. is_idle (doing_at world agent)) (run_more given all event)
      ∙ still_runs given can.c0 t agent all (run given all) now reached event can calm none' runs is
