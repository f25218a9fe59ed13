-- Agents against the machine of a suite: after a turn, and once a job begins.
use Rattle.law_run_machine.proofs.Vocabulary.{◌≡◌, ℕ, zero, suc, ◌+◌, ◌<◌, ◌≤◌, Bool, true, false, cond, List, [], ◌∷◌, Option, Some, None, is_some, refl, sym, ap, subst, ◌∙◌, arith, ◌*◌, ◌==◌, ◌&&◌, ◌||◌, nat_lt, slice_get, slice_set, and_parts}
use Rattle.law_run_machine.proofs.Vocabulary.{same_Some, none-some, Opening, Request, Reply, Stamped, Lock, has_prepared, State, reply_of, is_full, served, ReadPoint, GatheredSuite, Suites, Response, Replied, Lacked, Job, Transaction, Sweep, Fixed}
use Rattle.law_run_machine.proofs.Vocabulary.{Task, Proposal, Phase, Preparing, Deciding, TransactionRun, Sweeping, Resolving, SweepRun, Doing, Running, RunningSweep, After, GoesOn, Ends, home_of, execute, decision_of, asked_now, Agent, fixed_of, next_in, next_of}
use Rattle.law_run_machine.proofs.Vocabulary.{take, take_in, begin, started, is_idle, has_sense, max_jobs, left, locks, says_held, is_decide, Keeps, nothing_held, begin_keeps, Actor, server_at, actor_at, with_server, Beginning, Change, World}
use Rattle.law_run_machine.proofs.Vocabulary.{Verdict, Event, run, May, Obeys, one_is, one_not, Inv, Shows, ended_as, AgentSide, beginning, asks_in_its_name, asks_to_sweep, decides_first, decision_by, decision_in, decision_with}
use Rattle.law_run_machine.proofs.Vocabulary.{aims, begun_events, own_events, servers_of, home_in, may_sweep, GiveUp, ◌++◌}
use Rattle.acl_core.specs.Identity.{Identity}
use Rattle.file_ops.specs.declared.operation.Op.{Op}
use Rattle.law_server_moves.proofs.Replies.{replies_tell}
use Rattle.rep_core.specs.declared.request.Request.TheVariants as request
use Rattle.rep_core.specs.declared.reply.Reply.TheVariants as reply
use Rattle.rep_core.specs.declared.reply.Verdict as replied
use Rattle.run_core.specs.Worlds as worlds
use Rattle.law_server_moves.specs.Laws as steps
use Rattle.law_runs.proofs.Asking as asking
use Rattle.law_run_machine.proofs.Servers.{server_there}
use Rattle.law_run_machine.proofs.Consistent.{AllConsistent, stepped_is}
use Rattle.law_run_machine.proofs.Quiet.{Quiet, IsOf, AreOf, quiet_same, quiet_all}
use Rattle.law_run_machine.proofs.Own.{begun_unheard}
use Rattle.law_run_machine.specs.Deciding.{tells_aborted}
use Rattle.law_run_machine.proofs.Asked.{AllHeard, exchanged, named_of, swept_of, steady_exchanged, told_exchanged, heard_exchanged}
use Rattle.law_run_machine.proofs.Stages.{Stage, Leaves, Does, own_by, begins_response}
use Rattle.law_run_machine.proofs.Sending.{agent_side, decision_unheard}
use Rattle.law_run_machine.proofs.Linked.{Untouched, InRound, IsDoing, Linked, AllLinked, linked_later, untouched_quiet, apart, later_apart}
use Rattle.law_run_machine.proofs.Turns.{Turn, Concerns}

-- ---- what an agent asks is its side

round_side : (start : Beginning) (z : ℕ) (home : ℕ → ℕ) (decision : Event) (i : ℕ) (held : List Lock) (w : World) (fixed : Fixed) (sweep_run : SweepRun) (now : Sweeping)
    → InRound w now → AgentSide start z home decision i held w (asked_now fixed.service sweep_run now).1
round_side start z home decision i held w fixed sweep_run now h10 = search arith

pair_parts : (a b : ℕ × Request) → ◌≡◌ {A = Option (ℕ × Request)} (Some a) (Some b) → a ≡ b
pair_parts a b same = same_Some a b same

-- ---- a request that is served, as it concerns what its agent is doing

silent_moves : (start : Beginning) (z : ℕ) (home : ℕ → ℕ) (decision : Event) (i : ℕ) (w : World) (asked : Request) (said : Reply) → is_decide asked ≡ true
    → ((v : replied.Verdict) → said ≡ reply.Verdict v → ⊥) → run start w (exchanged z home decision i w asked said) ≡ w
silent_moves start z home decision i w asked said h8 h9 = search arith

of_first : (w : World) (t : ℕ) (outcome : Proposal) (new : Option Change) (suite : GatheredSuite) (first : Option ReadPoint) → IsOf t (decides_first w t outcome new suite first)
of_first w t outcome new suite first = search arith

decision_of-task : (z : ℕ) (w : World) (task : Task) (suites : Suites) (phase : Phase) → IsOf task.t (decision_in z w task suites phase)
decision_of-task z w task suites phase = search arith

pub only : (before : TransactionRun) (P : TransactionRun → Type 0) → P before → (other : TransactionRun) → ◌≡◌ {A = Option Doing} (Some (Running before)) (Some (Running other)) → P other
only before P is other same = subst P (let e : before ≡ other = cc in e) is

only_round : (sweep_run : SweepRun) (P : SweepRun → Type 0) → P sweep_run → (other : SweepRun) → ◌≡◌ {A = Option Doing} (Some (RunningSweep sweep_run)) (Some (RunningSweep other)) → P other
only_round sweep_run P is other same = subst P (let e : sweep_run ≡ other = cc in e) is

said_so : (a b : Reply) → Replied a ≡ Replied b → a ≡ b
said_so a b same = cc

next_number : (u : ℕ) → u ≡ u + 1 → ⊥
next_number u same = absurd (omega arith)

no_response : (a b c : Bool) → a ≡ (a || (b && c && false))
no_response a b c = search arith

module _ (given : Opening) (z : ℕ) (w : World) (world : worlds.World) (inv : Inv (beginning z given) w) (shows : Shows z (home_in given) (servers_of given world) w) (all : AllConsistent (servers_of given world)) (n count : ℕ) where
  abbrev pub start : Beginning
  start = beginning z given

  -- the events of a request that is served and heard of
  abbrev pub served_at : Option Doing → ℕ × Request → State → List Event
  served_at doing asked st = exchanged z (home_in given) (decision_by z w doing) asked.0 w asked.1 (reply_of st asked.1)

  pub tells : (i : ℕ) (st : State) (sent : Stamped Request) (later : World) → server_at world i ≡ Some st → is_full st sent ≡ false → Shows z (home_in given) (servers_of given (with_server i (served st sent) world)) later
      → steps.Tells z (home_in given) i w later sent.value (reply_of st sent.value)
  tells i st sent later there none shows_later =
      subst (λ st. is_full st sent ≡ false → steps.Tells z (home_in given) i w later sent.value (reply_of st sent.value)) (server_there given world i st there)
      (λ none'. replies_tell z (home_in given) (servers_of given world) i w later sent shows none' (subst (λ servers. Shows z (home_in given) servers later) (sym (stepped_is given world i st sent there none)) shows_later))
      none

  pub served_concerns : (doing : Option Doing) (asked : ℕ × Request) (stamp : ℕ) (st : State) → next_in (fixed_of given) doing ≡ Some asked → IsDoing z w n count doing
      → server_at world asked.0 ≡ Some st → is_full st (record { stamp = stamp; value = asked.1 }) ≡ false
      → Obeys start w (served_at doing asked st)
      → Shows z (home_in given) (servers_of given (with_server asked.0 (served st (record { stamp = stamp; value = asked.1 })) world)) (run start w (served_at doing asked st))
      → Concerns start z w (run start w (served_at doing asked st)) n count (fixed_of given) doing asked (Replied (reply_of st asked.1))
  served_concerns (Some (Running before)) asked stamp st is in' there none obeys shows_later =
      let said = reply_of st asked.1 in
      let decision = decision_in z w before.task before.suites before.phase in
      let named = asks_in_its_name (fixed_of given) before.task before.suites before.phase asked.0 asked.1 is in
      let later = run start w (served_at (Some (Running before)) asked st) in
      let unheard = decision_unheard start z w before.task before.suites before.phase in
      record {
        told = only before (λ before. (who : ℕ) → is_some (later.told who before.task.t) ≡ (is_some (w.told who before.task.t) || ((asked.0 == who) && locks z asked.1 && says_held (Replied said))))
            (told_exchanged start z (home_in given) decision asked.0 w before.task.t asked.1 said named unheard.told);
        heard = only before (λ before. AllHeard w before.task.t → AllHeard later before.task.t) (heard_exchanged start z (home_in given) decision asked.0 w before.task.t asked.1 said named unheard);
        leaves = only before (λ before. Leaves w later before.task.t asked.1 (Replied said)) (record {
          calm = λ calm. steady_exchanged start z (home_in given) decision asked.0 w asked.1 said calm;
          ruled = λ v decide same.
              let d = asking.decides (fixed_of given) before.task before.suites before.phase asked.0 asked.1 is decide in
              let told = tells asked.0 st (record { stamp = stamp; value = asked.1 }) later there none shows_later in
              subst (λ said. steps.Tells z (home_in given) asked.0 w later (request.Decide before.task.t (decision_of before.task d.outcome)) said) (said_so said (reply.Verdict v) same)
              (subst (λ request. steps.Tells z (home_in given) asked.0 w later request said) d.decide told) (sym d.at_home);
          silent = λ decide no_verdict. ap (λ (w : World). w.verdict before.task.t) (silent_moves start z (home_in given) decision asked.0 w asked.1 said decide (λ v same. no_verdict v (ap Replied same)));
        });
        ruled = λ sweep_run same. absurd cc;
        quiet = λ u apart. quiet_all start w u before.task.t (served_at (Some (Running before)) asked st) (apart before refl) obeys
            (named_of z (home_in given) decision asked.0 w before.task.t asked.1 said named (decision_of-task z w before.task before.suites before.phase));
      }
  served_concerns (Some (RunningSweep sweep_run)) asked stamp st is in' there none obeys shows_later =
      let said = reply_of st asked.1 in
      let later = run start w (served_at (Some (RunningSweep sweep_run)) asked st) in
      let same : asked_now (fixed_of given).service sweep_run sweep_run.now ≡ asked = pair_parts _ asked is in
      record {
        told = λ before same. absurd cc;
        heard = λ before same. absurd cc;
        leaves = λ before same. absurd cc;
        ruled = only_round sweep_run (λ sweep_run. (t : ℕ) (locks : List Lock) (v : replied.Verdict) → sweep_run.now ≡ Resolving t locks → Replied said ≡ Replied (reply.Verdict v) → later.verdict t ≡ Some (ended_as v))
            (λ t locks v now said_v.
            let resolves : (home_of (fixed_of given).service t, request.Resolve t) ≡ asked = ap (asked_now (fixed_of given).service sweep_run) (sym now) ∙ same in
            let told = tells asked.0 st (record { stamp = stamp; value = asked.1 }) later there none shows_later in
            subst (λ said. steps.Tells z (home_in given) asked.0 w later (request.Resolve t) said) (said_so said (reply.Verdict v) said_v)
            (subst (λ request. steps.Tells z (home_in given) asked.0 w later request said) (sym (ap (λ (asked : ℕ × Request). asked.1) resolves)) told) (ap (λ (asked : ℕ × Request). asked.0) resolves));
        quiet = λ u _.
            quiet_all start w u (u + 1) (served_at (Some (RunningSweep sweep_run)) asked st) (next_number u) obeys
            (swept_of z (home_in given) (decision_by z w (Some (RunningSweep sweep_run))) asked.0 w (u + 1) asked.1 said
            (ap (λ (asked : ℕ × Request). may_sweep asked.1) (sym same) ∙ asks_to_sweep (fixed_of given).service sweep_run sweep_run.now));
      }
  served_concerns None asked stamp st is in' there none obeys shows_later = absurd cc

  -- a request that is not served
  pub lacked_concerns : (doing : Option Doing) (asked : ℕ × Request) (why : _) → Concerns start z w w n count (fixed_of given) doing asked (Lacked why)
  lacked_concerns doing asked why = search arith

  -- what it asks is its side
  pub asks_well : (doing : Option Doing) (asked : ℕ × Request) (held : List Lock) → next_in (fixed_of given) doing ≡ Some asked → IsDoing z w n count doing
      → ((txn_run : TransactionRun) (outcome : Proposal) → doing ≡ Some (Running txn_run) → txn_run.phase ≡ Deciding outcome → w.verdict txn_run.task.t ≡ None → May start w (decision_with z w txn_run.task txn_run.suites outcome))
      → ((txn_run : TransactionRun) (now : ℕ) (left : List ℕ) (outcome : Proposal) → doing ≡ Some (Running txn_run) → txn_run.phase ≡ Preparing (now ∷ left) outcome → now ≡ asked.0 → has_prepared txn_run.task.t held ≡ false)
      → AgentSide start z (home_in given) (decision_by z w doing) asked.0 held w asked.1
  asks_well (Some (Running before)) asked held is in' may first =
      agent_side start z (home_in given) held w (fixed_of given) before.task before.suites asked.0 in'.ordered (λ i none. in'.heard i (in'.told i ∙ none)) before.phase asked.1 is in'.stage
      (λ outcome phase none. may before outcome refl phase none)
      (λ now left outcome phase same. first before now left outcome refl phase same)
  asks_well (Some (RunningSweep sweep_run)) asked held is in' may first = search (pair_parts, round_side, arith)
  asks_well None asked held is in' may first = absurd cc

-- ---- lists in which one is put in another's place

pub set_here : {A : Type 0} (xs : List A) (i : ℕ) (old new : A) → slice_get xs i ≡ Some old → slice_get (slice_set xs i new) i ≡ Some new
set_here [] i old new is = absurd (none-some old is)
set_here (x ∷ xs) zero old new is = refl
set_here (x ∷ xs) (suc i) old new is = set_here xs i old new is

pub set_apart : {A : Type 0} (xs : List A) (i j : ℕ) (new : A) → (j ≡ i → ⊥) → slice_get (slice_set xs i new) j ≡ slice_get xs j
set_apart [] i j new apart = refl
set_apart (x ∷ xs) zero zero new apart = absurd (apart refl)
set_apart (x ∷ xs) zero (suc j) new apart = refl
set_apart (x ∷ xs) (suc i) zero new apart = refl
set_apart (x ∷ xs) (suc i) (suc j) new apart = set_apart xs i j new (λ same. apart (ap suc same))

pub same_or : (P : Type 0) (a b : ℕ) → (a ≡ b → P) → ((a ≡ b → ⊥) → P) → P
same_or P a b here there = elim (a == b) as (λ c. (a == b) ≡ c → P) [ true ↦ λ e. here (one_is b a e) | false ↦ λ e. there (one_not b a e) ] refl

-- ---- all agents, once one of them has changed

abbrev pub Stays : World → World → Type 0
Stays w later = (t : ℕ) (v : Verdict) → w.verdict t ≡ Some v → later.verdict t ≡ Some v

-- of the transactions of others nothing changed
abbrev pub Others : World → World → ℕ → Type 0
Others w later n = (u m place : ℕ) → u ≡ 64 * place + m → m < 64 → (m ≡ n → ⊥) → Quiet w later u

pub all_linked : (z : ℕ) (w later : World) (world : worlds.World) (n : ℕ) (old new : Actor) → actor_at world n ≡ Some old → n < 64 → AllLinked z w world → Linked z later n new.agent → Stays w later → Others w later n
    → (m : ℕ) (x : Actor) → slice_get (slice_set world.agents n new) m ≡ Some x → (m < 64) × Linked z later m x.agent
all_linked z w later world n old new there small linked now stays others m x is =
    same_or ((m < 64) × Linked z later m x.agent) m n
    (λ same.
    let x_is : new ≡ x = same_Some new x (sym (set_here world.agents n old new there) ∙ ap (slice_get (slice_set world.agents n new)) (sym same) ∙ is) in
    subst (λ m. (m < 64) × Linked z later m x.agent) (sym same) (small, subst (λ (x : Actor). Linked z later n x.agent) x_is now))
    (λ apart.
    let was = linked m x (sym (set_apart world.agents n m new apart) ∙ is) in
    (was.0, linked_later z w later m x.agent was.0 stays (λ u place at. others u m place at was.0 apart) was.1))

-- ---- the agent whose turn it was

pub take_same : (fixed : Fixed) (agent : Agent) (response : Response) (doing : Option Doing) (asked : Option (ℕ × Request))
    → ((take_in fixed agent response doing asked).agent.index ≡ agent.index) × ((take_in fixed agent response doing asked).agent.count ≡ agent.count)
take_same fixed agent response doing asked = search arith

pub numbered_of : (z : ℕ) (w : World) (n count : ℕ) (doing : Option Doing) → IsDoing z w n count doing → (txn_run : TransactionRun) → doing ≡ Some (Running txn_run) → txn_run.task.t + 64 ≡ 64 * count + n
numbered_of z w n count doing h5 txn_run h7 = search arith

module _ (start : Beginning) (z : ℕ) (w later : World) (n : ℕ) (fixed : Fixed) (agent : Agent) (response : Response) (small : n < 64) (linked : Linked z w n agent)
    (it : Turn start z w later n agent.count agent.doing (take fixed agent response)) where
  pub turned : Linked z (run start later (own_events z agent.doing (take fixed agent response))) n (take fixed agent response).agent
  turned =
      let same = take_same fixed agent response agent.doing (next_of fixed agent) in
      let after = run start later (own_events z agent.doing (take fixed agent response)) in
      record {
        index = same.0 ∙ linked.index;
        fresh = λ place past.
            let past' : agent.count ≤ place = subst (λ count. count ≤ place) same.1 past in
            untouched_quiet w after (64 * place + n)
            (it.others (64 * place + n) (λ txn_run is at. later_apart txn_run.task.t n place agent.count (numbered_of z w n agent.count agent.doing linked.doing txn_run is) past' at))
            (linked.fresh place past');
        doing = subst (λ count. IsDoing z after n count (take fixed agent response).agent.doing) (sym same.1) it.goes_on;
      }

  pub others_turned : Others w (run start later (own_events z agent.doing (take fixed agent response))) n
  others_turned u m place at small' other = it.others u (λ txn_run is same. apart u txn_run.task.t n m place agent.count at (numbered_of z w n agent.count agent.doing linked.doing txn_run is) small small' other same)

-- ---- an agent that begins a job

pub record Begun (start : Beginning) (z : ℕ) (w : World) (n : ℕ) (before : Option Doing) (new : Agent) : Type 0 where
  pub does : Obeys start w (begun_events z before new.doing)
  pub now : Linked z (run start w (begun_events z before new.doing)) n new
  pub others : Others w (run start w (begun_events z before new.doing)) n

-- what it does by itself where it begins one is its own
begun_of : (z : ℕ) (txn_run : TransactionRun) → AreOf txn_run.task.t (begun_events z None (Some (Running txn_run)))
begun_of z txn_run = search arith

module _ (start : Beginning) (z : ℕ) (w : World) (n : ℕ) (fixed : Fixed) (agent : Agent) (small : n < 64) (linked : Linked z w n agent) where
  -- it was busy, or the job has no sense
  stays_so : Begun start z w n agent.doing agent
  stays_so = search arith

  -- a transaction of this number
  abbrev task_of : Identity → ℕ → List Op → Task
  task_of caller site ops = record { t = 64 * agent.count + agent.index; caller = caller; site = site; ops = ops }

  abbrev Began : Option Doing → Type 0
  Began after = Obeys start w (begun_events z None after) × IsDoing z (run start w (begun_events z None after)) n
      (agent.count + 1) after × ((u : ℕ) → (u ≡ 64 * agent.count + agent.index → ⊥) → Quiet w (run start w (begun_events z None after)) u)

  began_left : (task : Task) (after : After TransactionRun) → task.t ≡ 64 * agent.count + agent.index → Untouched w task.t → Keeps nothing_held (left Running after) → Does start z task.t w None false agent after → Began (left Running after)
  began_left task (Ends ending) number untouched keeps does = (tt, tt, λ u _. quiet_same w u)
  began_left task (GoesOn txn_run) number untouched keeps does =
      let after : Option Doing = Some (Running txn_run) in
      let same : txn_run.task.t ≡ task.t = does.stage.0 in
      let events = begun_events z None after in
      let as_own : events ≡ own_by z task.t None false agent (GoesOn txn_run) = ap (λ t. aims z t None after ++ cond (tells_aborted txn_run.phase) (GiveUp t ∷ []) []) same in
      let obeys : Obeys start w events = subst (Obeys start w) (sym as_own) does.does in
      let unheard = begun_unheard start z None after w in (
        obeys,
        record {
          numbered = by_number txn_run.task.t task.t same number;
          ordered = keeps.0;
          told = λ i. ap (λ told. is_some (told i txn_run.task.t)) unheard.told ∙ ap is_some (ap (w.told i) same ∙ untouched.told i) ∙ sym (keeps.1 z i);
          heard = λ i none. ap (λ f. f i txn_run.task.t) unheard.granted ∙ ap (w.granted i) same ∙ untouched.granted i;
          stage =
              subst (λ t. Stage z (run start w events) t txn_run.suites txn_run.phase) (sym same)
              (subst (λ events. Stage z (run start w events) task.t txn_run.suites txn_run.phase) (sym as_own) does.stage.1);
        },
        λ u apart. quiet_all start w u txn_run.task.t events (λ at. apart (at ∙ same ∙ number)) obeys (begun_of z txn_run),
      )
    where
      by_number : (t u : ℕ) → t ≡ u → u ≡ 64 * agent.count + agent.index → t + 64 ≡ 64 * (agent.count + 1) + n
      by_number t u same is = let at = linked.index in omega (arith, same, is, at)

  untouched_first : Untouched w (64 * agent.count + agent.index)
  untouched_first = subst (λ i. Untouched w (64 * agent.count + i)) (sym linked.index) (linked.fresh agent.count (omega arith))

  began_job : (job : Job) → agent.doing ≡ None → Keeps nothing_held (started fixed agent job).doing → Began (started fixed agent job).doing
  began_job (Transaction caller site ops) idle keeps =
      let task = task_of caller site ops in
      began_left task (execute fixed task (record { suites = []; cache = agent.cache })).after refl untouched_first keeps (begins_response start z agent w task untouched_first.going untouched_first.aim fixed agent.cache)
  began_job (Sweep server) idle keeps = (tt, tt, λ u _. quiet_same w u)

  index_started : (job : Job) → (started fixed agent job).index ≡ agent.index
  index_started job = search arith

  begins_so : (job : Job) → agent.doing ≡ None → Keeps nothing_held (started fixed agent job).doing → Begun start z w n agent.doing (record (started fixed agent job) { count = agent.count + 1 })
  begins_so job idle keeps =
      subst (λ before. Begun start z w n before (record (started fixed agent job) { count = agent.count + 1 })) (sym idle)
      (let it = began_job job idle keeps in
      let at = linked.index in
      record {
        does = it.0;
        now = record {
          index = index_started job ∙ linked.index;
          fresh = λ place past. untouched_quiet w _ (64 * place + n) (it.2 (64 * place + n) (λ same. absurd (omega arith))) (linked.fresh place (omega arith));
          doing = it.1;
        };
        others = λ u m place is small' other. it.2 u (λ same. other (omega arith));
      })

  idle_none : (doing : Option Doing) → is_idle doing ≡ true → doing ≡ None
  idle_none doing h1 = search arith

  pub begun_so : (job : Job) → Begun start z w n agent.doing (begin fixed agent job)
  begun_so job =
      elim (is_idle agent.doing && has_sense fixed job && nat_lt agent.count max_jobs) as
      (λ b. (is_idle agent.doing && has_sense fixed job && nat_lt agent.count max_jobs) ≡ b
      → (is_idle agent.doing ≡ true → Keeps nothing_held (cond b (record (started fixed agent job) { count = agent.count + 1 }) agent).doing)
      → Begun start z w n agent.doing (cond b (record (started fixed agent job) { count = agent.count + 1 }) agent)) [
        | true ↦ λ is keeps. let idle = (and_parts (is_idle agent.doing) (has_sense fixed job)
            (and_parts (is_idle agent.doing && has_sense fixed job) (nat_lt agent.count max_jobs) is).0).0 in begins_so job (idle_none agent.doing idle) (keeps idle)
        | false ↦ λ _ _. stays_so
      ] refl (begin_keeps fixed agent job)
