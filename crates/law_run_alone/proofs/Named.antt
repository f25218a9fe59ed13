-- What servers and sweeps name was begun: no server has a lock or a record of a transaction that is still to begin.
use Rattle.law_run_alone.proofs.Vocabulary.{◌≡◌, inl, inr, ⊎_elim, ℕ, zero, suc, ◌+◌, ◌≤◌, Bool, true, false, cond, List, [], ◌∷◌, Option, Some, None, refl, sym, ap, subst, ◌∙◌, arith, ◌*◌, ◌==◌, ◌&&◌, not, nat_lt, map, filter, slice_get, slice_set}
use Rattle.law_run_alone.proofs.Vocabulary.{nat_tests, none-some, same_Some, Opening, IsAccepted, LockMode, Exclusive, Lock, Request, Reply, Verdict, Stamped, has_lock, locked, with_lock, before, prepared_lock, is_own, State, record_of, reply_of}
use Rattle.law_run_alone.proofs.Vocabulary.{verdict_of, audit_of, is_full, served, answer_of, Has, has_filter, has_between, has_map, any_has, record_apart, Ways, recording, by_step, Service, Job, Response, Replied, Lacked, Fixed, TransactionRun}
use Rattle.law_run_alone.proofs.Vocabulary.{SweepRun, Sweeping, Listing, Resolving, Telling, Breaking, Doing, Running, RunningSweep, After, after_response, Agent, fixed_of, is_idle, has_sense, max_jobs, next_in, next_of, left, take_in, take, begin}
use Rattle.law_run_alone.proofs.Vocabulary.{Event, Begin, Actor, World, opening, servers_from, server_at, actor_at, with_actor, serve, moved, answered, becomes, asks_at, asks, steps_once, lacks_for, lacks, operates, step, after, run, Decided}
use Rattle.law_run_alone.proofs.Vocabulary.{decisions, EndedJob, ended, begins_now, same_place, IsAt, Begun, at_puts, same_or, agent_of, agent_at, Holds, event_holds, puts_in, holds_at_first, holds_of, fresh_agents, begins_job, Lack as Why}
use Rattle.file_ops.specs.declared.audit.AuditItem.{AuditItem}
use Rattle.law_runs.proofs.Begun.{counts_rise}
use Rattle.rep_core.specs.declared.request.Request.TheVariants as request
use Rattle.rep_core.specs.declared.reply.Reply.TheVariants as reply
use Rattle.rep_core.specs.declared.reply.Verdict.TheVariants as verdict
use Rattle.rep_core.specs.declared.stamped.Lack.TheVariants as lack
use Rattle.rep_core.specs.State as state
use Rattle.rep_core.specs.Serving as serving
use Rattle.txn_core.specs.Sweeps as sweep
use Rattle.law_run_alone.proofs.Turns.{with_job}
use Rattle.law_run_alone.proofs.Walks.{AllServers, event_servers}

-- ---- servers

-- each of these locks is of such a transaction
abbrev pub LocksOf : (ℕ → Type 0) → List Lock → Type 0
LocksOf B locks = (lock : Lock) → Has locks lock → B lock.t

-- all that a server has a lock or a record of
pub record NamesOnly (B : ℕ → Type 0) (st : State) : Type 0 where
  pub locks : LocksOf B st.locks
  pub records : (t : ℕ) (v : Verdict) → record_of st t ≡ Some v → B t

-- what a request may bring in
abbrev pub BringsIn : (ℕ → Type 0) → Request → Type 0
BringsIn B (request.Poll t suite mode) = B t
BringsIn B (request.Decide t decision) = B t
BringsIn B (request.Resolve t) = B t
BringsIn B other = Unit {0}

module _ (B : ℕ → Type 0) where
  filter_of : (p : Lock → Bool) (locks : List Lock) → LocksOf B locks → LocksOf B (filter p locks)
  filter_of p locks all lock has = all lock (has_filter p locks lock has).0

  map_of : (f : Lock → Lock) (locks : List Lock) → ((lock : Lock) → (f lock).t ≡ lock.t) → LocksOf B locks → LocksOf B (map f locks)
  map_of f locks same all lock has = let was = has_map f locks lock has in subst B (sym (same was.0) ∙ ap (λ (lock : Lock). lock.t) was.2) (all was.0 was.1)

  with_of : (lock : Lock) (locks : List Lock) → B lock.t → LocksOf B locks → LocksOf B (with_lock lock locks)
  with_of lock locks own all other has = search (has_between (λ other. before other lock) locks lock other has, arith)

  locked_of : (t suite : ℕ) (mode : LockMode) (locks : List Lock) → B t → LocksOf B locks → LocksOf B (locked t suite mode locks)
  locked_of t suite mode locks own all = search (map_of, with_of, arith)

  -- whose lock is there
  had_of : (t suite : ℕ) (locks : List Lock) → LocksOf B locks → has_lock t suite locks ≡ true → B t
  had_of t suite locks all has = search (any_has, nat_tests, arith)

  recorded_of : (st : State) (t : ℕ) (new : Verdict) (item : Option AuditItem) → B t → NamesOnly B st → (u : ℕ) (v : Verdict) → record_of (recording t new item st) u ≡ Some v → B u
  recorded_of st t new item own all u v is =
      ⊎_elim (λ same. subst B (sym same) own) (λ apart. all.records u v (sym (record_apart st t u new item apart) ∙ is)) (same_or u t)

  abbrev Stays : Request → State → Type 0
  Stays asked new = BringsIn B asked → NamesOnly B new

  ways : (st : State) → NamesOnly B st → Ways st Stays
  ways st all = record {
    same = λ asked own. all;
    poll = λ t suite mode free own. record { locks = locked_of t suite mode st.locks own all.locks; records = all.records };
    upgrade = λ t suite has free own. record { locks = locked_of t suite Exclusive st.locks (had_of t suite st.locks all.locks has) all.locks; records = all.records };
    prepare = λ t parts may room own. record { locks = map_of (prepared_lock t parts) st.locks (λ lock. refl) all.locks; records = all.records };
    decide = λ t decision free own. record { locks = all.locks; records = recorded_of st t (verdict_of decision) (audit_of t decision) own all };
    resolve = λ t free own. record { locks = all.locks; records = recorded_of st t verdict.Aborted None own all };
    finish = λ t verdict up own. record { locks = filter_of (λ lock. not (lock.t == t)) st.locks all.locks; records = all.records };
    break = λ t suite own. record { locks = filter_of (λ lock. not (is_own t suite lock && not lock.prepared)) st.locks all.locks; records = all.records };
    crash = λ own. record { locks = filter_of (λ lock. lock.prepared) st.locks all.locks; records = all.records };
    return = λ own. all_same all;
  }
    where
      all_same : NamesOnly B st → NamesOnly B (record st { up = true })
      all_same all = record { locks = all.locks; records = all.records }

  names_stay : (st : State) (asked : Stamped Request) → BringsIn B asked.value → NamesOnly B st → NamesOnly B (serving.step st asked)
  names_stay st asked own all = by_step st Stays (ways st all) (λ asked new stamp stays own. record { locks = (stays own).locks; records = (stays own).records }) asked own

  -- ---- replies

  -- the locks that are told
  abbrev pub TellsOf : Response → Type 0
  TellsOf (Replied (reply.Locked locks)) = LocksOf B locks
  TellsOf other = Unit {0}

  tells_of : (st : State) (asked : Request) → LocksOf B st.locks → TellsOf (Replied (reply_of st asked))
  tells_of st asked all = search arith

  -- ---- sweeps

  -- what a sweep still has to see to
  abbrev pub SweepsOf : Sweeping → Type 0
  SweepsOf Listing = Unit {0}
  SweepsOf (Resolving t locks) = B t × LocksOf B locks
  SweepsOf (Telling t v locks) = LocksOf B locks
  SweepsOf (Breaking lock locks) = LocksOf B locks

  abbrev pub InSweep : Option Doing → Type 0
  InSweep (Some (RunningSweep sweep_run)) = SweepsOf sweep_run.now
  InSweep other = Unit {0}

  abbrev LeavesOf : After SweepRun → Type 0
  LeavesOf after = InSweep (left RunningSweep after)

  rising_of : (locks : List Lock) → LocksOf B locks → LocksOf B (sweep.rising locks)
  rising_of [] all = all
  rising_of (lock ∷ locks) all = with_of lock (sweep.rising locks) (all lock (inl refl)) (rising_of locks (λ other has. all other (inr has)))

  sweep_on_of : (sweep_run : SweepRun) (locks : List Lock) → LocksOf B locks → LeavesOf (sweep.sweep_on sweep_run locks)
  sweep_on_of sweep_run locks h2 = search (filter_of, arith)

  home_of' : (sweep_run more : SweepRun) (locks : List Lock) → LocksOf B locks → (b : Bool) → LeavesOf (cond b (sweep.lost sweep_run) (sweep.sweep_on more locks))
  home_of' sweep_run more locks h3 b = search (sweep_on_of, arith)

  answer_of' : (service : Service) (sweep_run : SweepRun) (now : Sweeping) (said : Reply) → SweepsOf now → TellsOf (Replied said) → LeavesOf (sweep.after_answer service sweep_run now said)
  answer_of' service sweep_run now said h4 h5 = search (sweep_on_of, rising_of, home_of', arith)

  word_of : (service : Service) (sweep_run : SweepRun) (server : ℕ) (response : Response) → SweepsOf sweep_run.now → TellsOf response → LeavesOf (sweep.after_response service sweep_run server response)
  word_of service sweep_run server response h4 h5 = search (answer_of', arith)

  running_in : (after : After TransactionRun) → InSweep (left Running after)
  running_in after = search arith

  take_of : (fixed : Fixed) (agent : Agent) (response : Response) (doing : Option Doing) (asked : ℕ × Request) → next_in fixed doing ≡ Some asked → InSweep doing
      → TellsOf response → InSweep (take_in fixed agent response doing (Some asked)).agent.doing
  take_of fixed agent response doing asked h5 h6 h7 = search (none-some, running_in, word_of, arith)

  begin_of : (fixed : Fixed) (agent : Agent) (job : Job) → InSweep agent.doing → InSweep (begin fixed agent job).doing
  begin_of fixed agent job all = search arith

  -- an agent asks of no others
  asks_of : (fixed : Fixed) (doing : Option Doing) (asked : ℕ × Request) → next_in fixed doing ≡ Some asked → InSweep doing → ((txn_run : TransactionRun) → doing ≡ Some (Running txn_run) → B txn_run.task.t) → BringsIn B asked.1
  asks_of fixed doing asked h3 h4 h5 = search arith

  -- ---- events

  abbrev pub AllSweeps : World → Type 0
  AllSweeps world = (i : ℕ) (actor : Actor) → actor_at world i ≡ Some actor → InSweep actor.agent.doing

  module _ (fixed : Fixed) (world : World) (servers : AllServers (NamesOnly B) world) (sweeps : AllSweeps world) where
    put_sweeps : (states : List State) (i : ℕ) (actor new : Actor) → actor_at world i ≡ Some actor → InSweep new.agent.doing → AllSweeps (with_actor i new (record world { servers = states }))
    put_sweeps states i actor new is all j other there = elim (at_puts (slice_get world.agents) (slice_get (slice_set world.agents i new)) i actor new (puts_in world.agents i actor new is) j other there) [
      | inl here ↦ subst (λ (actor : Actor). InSweep actor.agent.doing) (sym here.is) all
      | inr elsewhere ↦ sweeps j other elsewhere.was
    ]

    becomes_sweeps : (i : ℕ) (change : Agent → Agent) (found : Option Actor) → actor_at world i ≡ found → ((agent : Agent) → InSweep agent.doing → InSweep (change agent).doing) → AllSweeps (becomes world i change found).world
    becomes_sweeps i change None is keeps = sweeps
    becomes_sweeps i change (Some actor) is keeps = put_sweeps world.servers i actor (record actor { agent = change actor.agent }) is (keeps actor.agent (sweeps i actor is))

    took_sweeps : (states : List State) (i : ℕ) (actor : Actor) (asked : ℕ × Request) (response : Response) (stamp : ℕ) → actor_at world i ≡ Some actor → next_of fixed actor.agent ≡ Some asked → TellsOf response
        → AllSweeps (with_actor i (moved actor stamp (take fixed actor.agent response)) (record world { servers = states }))
    took_sweeps states i actor asked response stamp is next tells =
        put_sweeps states i actor (moved actor stamp (take fixed actor.agent response)) is
        (subst (λ o. InSweep (take_in fixed actor.agent response actor.agent.doing o).agent.doing) (sym next) (take_of fixed actor.agent response actor.agent.doing asked next (sweeps i actor is) tells))

    answered_sweeps : (i : ℕ) (actor : Actor) (asked : ℕ × Request) (st : State) → actor_at world i ≡ Some actor → next_of fixed actor.agent ≡ Some asked → server_at world asked.0 ≡ Some st
        → AllSweeps (answered fixed world i actor st (serve asked.0 st (record { stamp = actor.stamp; value = asked.1 }))).world
    answered_sweeps i actor asked st is next at =
        elim (is_full st stamped) as (λ b. AllSweeps (answered fixed world i actor st (cond b None (Some (record { server = asked.0; request = stamped; reply = answer_of st stamped })))).world) [
          | true ↦ took_sweeps world.servers i actor asked (Lacked lack.Full) actor.stamp is next tt
          | false ↦ took_sweeps (slice_set world.servers asked.0 (served st stamped)) i actor asked (Replied (reply_of st asked.1)) (answer_of st stamped).stamp is next (tells_of st asked.1 (servers asked.0 st at).locks)
        ]
      where
        stamped : Stamped Request
        stamped = record { stamp = actor.stamp; value = asked.1 }

    step_sweeps : (i : ℕ) (found : Option Actor) → actor_at world i ≡ found → AllSweeps (steps_once fixed world i found).world
    step_sweeps i None is = sweeps
    step_sweeps i (Some actor) is = of (next_of fixed actor.agent) refl
      where
        at : (asked : ℕ × Request) → next_of fixed actor.agent ≡ Some asked → (found : Option State) → server_at world asked.0 ≡ found → AllSweeps (asks_at fixed world i actor asked found).world
        at asked next None there = sweeps
        at asked next (Some st) there = answered_sweeps i actor asked st is next there

        of : (asked : Option (ℕ × Request)) → next_of fixed actor.agent ≡ asked → AllSweeps (asks fixed world i actor asked).world
        of None next = sweeps
        of (Some asked) next = at asked next (server_at world asked.0) refl

    operator_sweeps : (server : ℕ) (asked : Request) (found : Option State) → AllSweeps (operates world server asked found).world
    operator_sweeps server asked found = search arith

    lack_sweeps : (i : ℕ) (why : Why) (found : Option Actor) → actor_at world i ≡ found → AllSweeps (lacks fixed world i (Lacked why) found).world
    lack_sweeps i why None is = sweeps
    lack_sweeps i why (Some actor) is = of (next_of fixed actor.agent) refl
      where
        of : (asked : Option (ℕ × Request)) → next_of fixed actor.agent ≡ asked → AllSweeps (lacks_for fixed world i actor (Lacked why) asked).world
        of None next = sweeps
        of (Some asked) next = took_sweeps world.servers i actor asked (Lacked why) actor.stamp is next tt

    event_sweeps : (event : Event) → AllSweeps (step fixed world event).world
    event_sweeps event = search (becomes_sweeps, begin_of, step_sweeps, operator_sweeps, lack_sweeps, arith)

-- ---- runs

still : (f g : ℕ → Option Agent) (t : ℕ) → ((i : ℕ) (a : Agent) → f i ≡ Some a → (b : Agent) × (g i ≡ Some b) × (a.count ≤ b.count)) → Begun f t → Begun g t
still f g t rises begun = search arith

begun_still : (fixed : Fixed) (events : List Event) (world : World) (t : ℕ) → Begun (agent_at world) t → Begun (agent_at (after fixed world events)) t
begun_still fixed [] world t begun = begun
begun_still fixed (event ∷ events) world t begun =
    begun_still fixed events (step fixed world event).world t (still (agent_at world) (agent_at (step fixed world event).world) t (counts_rise fixed world event) begun)

-- what an agent runs was begun
runs_begun : (fixed : Fixed) (world : World) (ds : List Decided) (past : List EndedJob) → Holds fixed world ds past → (i : ℕ) (actor : Actor) (txn_run : TransactionRun)
    → actor_at world i ≡ Some actor → actor.agent.doing ≡ Some (Running txn_run) → Begun (agent_at world) txn_run.task.t
runs_begun fixed world ds past holds i actor txn_run is runs =
    let at : IsAt ds i actor.agent.count (Some (Running txn_run)) = subst (IsAt ds i actor.agent.count) runs (holds.agents.at i actor.agent (ap agent_of is)) in
    let last = at.last in
    record { index = i; agent = actor.agent; at = ap agent_of is; place = at.place; numbered = at.numbered; before = omega (arith, last) }

run_named : (B : ℕ → Type 0) (fixed : Fixed) (events : List Event) (world : World) (ds : List Decided) (past : List EndedJob) → Holds fixed world ds past → ((t : ℕ) → Begun (agent_at (after fixed world events)) t → B t)
    → AllServers (NamesOnly B) world → AllSweeps B world → AllServers (NamesOnly B) (after fixed world events)
run_named B fixed [] world ds past holds begun servers sweeps = servers
run_named B fixed (event ∷ events) world ds past holds begun servers sweeps =
    run_named B fixed events (step fixed world event).world _ _ (event_holds fixed world event ds past holds) begun
    (event_servers fixed (NamesOnly B) (BringsIn B) (names_stay B) tt tt world (λ i actor asked is next. asks_of B fixed actor.agent.doing asked next (sweeps i actor is)
    (λ txn_run runs. begun txn_run.task.t (begun_still fixed (event ∷ events) world txn_run.task.t (runs_begun fixed world ds past holds i actor txn_run is runs)))) servers event)
    (event_sweeps B fixed world servers sweeps event)

opened : (B : ℕ → Type 0) (given : Opening) (start count s : ℕ) (st : State) → slice_get (servers_from given start count) s ≡ Some st → NamesOnly B st
opened B given start zero s st is = absurd (none-some st is)
opened B given start (suc count) zero st is = subst (NamesOnly B) (same_Some (state.opening start given) st is) (record { locks = λ lock has. absurd has; records = λ t v is. absurd (none-some v is) })
opened B given start (suc count) (suc s) st is = opened B given (start + 1) count s st is

idle_sweeps : (B : ℕ → Type 0) (given : Opening) → AllSweeps B (opening given)
idle_sweeps B given i actor is = subst (λ (agent : Agent). InSweep B agent.doing) (sym (fresh_agents given i actor.agent (ap agent_of is)).0) tt

pub all_named : (given : Opening) → IsAccepted given → (events : List Event) → AllServers (NamesOnly (Begun (agent_at (run given events)))) (run given events)
all_named given accepted events =
    let B : ℕ → Type 0 = Begun (agent_at (run given events)) in
    run_named B (fixed_of given) events (opening given) [] [] (holds_at_first given accepted) (λ t begun. begun) (λ s st at. opened B given 0 given.servers s st at) (idle_sweeps B given)

-- a transaction that begins only now was not begun before
pub not_begun : (given : Opening) → IsAccepted given → (events : List Event) (i t : ℕ) (job : Job) → begins_job given (run given events) (Begin i job) ≡ Some (t, job) → Begun (agent_at (run given events)) t → ⊥
not_begun given accepted events i t job begins begun = of (actor_at (run given events) i) refl begins
  where
    holds : Holds (fixed_of given) (run given events) (decisions given events) (ended given events)
    holds = holds_of given accepted events

    of : (found : Option Actor) → actor_at (run given events) i ≡ found → with_job job (begins_now (fixed_of given) i job found) ≡ Some (t, job) → ⊥
    of None there begins = none-some (t, job) begins
    of (Some actor) there begins =
        elim (is_idle actor.agent.doing && has_sense (fixed_of given) job && nat_lt actor.agent.count max_jobs) as (λ b. with_job job (cond b (Some (64 * actor.agent.count + i)) None) ≡ Some (t, job) → ⊥) [
          | true ↦ λ begins.
              let number : 64 * actor.agent.count + i ≡ t = ap (λ (pair : ℕ × Job). pair.0) (same_Some (64 * actor.agent.count + i, job) (t, job) begins) in
              let found : agent_at (run given events) i ≡ Some actor.agent = ap agent_of there in
              let places = same_place begun.place actor.agent.count begun.index i (sym begun.numbered ∙ sym number) (holds.agents.small begun.index begun.agent begun.at) (holds.agents.small i actor.agent found) in
              let count : begun.agent.count ≡ actor.agent.count = ap (λ (agent : Agent). agent.count) (same_Some begun.agent actor.agent (sym begun.at ∙ ap (agent_at (run given events)) places.1 ∙ found)) in
              let before = begun.before in
              let place = places.0 in
              omega (arith, before, count, place)
          | false ↦ λ begins. none-some (t, job) begins
        ] begins

-- no server has a record of it, nor a lock
pub no_record : (given : Opening) → IsAccepted given → (events : List Event) (i t : ℕ) (job : Job) → begins_job given (run given events) (Begin i job) ≡ Some (t, job)
    → (s : ℕ) (st : State) → server_at (run given events) s ≡ Some st → (v : Verdict) → record_of st t ≡ Some v → ⊥
no_record given accepted events i t job begins s st at v is = not_begun given accepted events i t job begins ((all_named given accepted events s st at).records t v is)

pub no_lock : (given : Opening) → IsAccepted given → (events : List Event) (i t : ℕ) (job : Job) → begins_job given (run given events) (Begin i job) ≡ Some (t, job)
    → (s : ℕ) (st : State) → server_at (run given events) s ≡ Some st → (lock : Lock) → Has st.locks lock → lock.t ≡ t → ⊥
no_lock given accepted events i t job begins s st at lock has same = search (not_begun, agent_at, all_named, arith)
