-- What holds of the decisions and the jobs that ended in every run: one event after the other.
use Rattle.law_runs.proofs.Vocabulary.{◌≡◌, ◌≢◌, ◌⊎◌, inl, inr, ⊎_elim, ℕ, zero, suc, ◌+◌, ◌≤◌, Bool, true, false, List, [], ◌∷◌, ◌++◌, append_assoc, Option, Some, None, refl, sym, ap, subst, ◌∙◌, arith, slice_get, slice_set, option_map}
use Rattle.law_runs.proofs.Vocabulary.{option_to_list, cons_option, none-some, same_Some, Request, Reply, Verdict, Stamped, State, record_of, is_full, served, answer_of, next_stamp, Ending, Job, Response, Replied, Lacked, Fixed, Task, TransactionRun}
use Rattle.law_runs.proofs.Vocabulary.{SweepRun, Doing, Running, RunningSweep, is_decide, Agent, next_in, next_of, take_in, take, begin, forget, Event, EndedJob, Actor, World, server_at, actor_at}
use Rattle.law_runs.proofs.Vocabulary.{with_actor, Stepped, after_serving, moved, outcome_of, lacked, answered, operated, step, after, dones, outcomes, Decided, task_of, task_at}
use Rattle.law_runs.proofs.Vocabulary.{task_in, decided_by, decided, decisions_from, decided_at, to_decide, decided_as, answer_in, asks_same, Deciding as Deciding'}
use Rattle.rep_core.specs.declared.stamped.Lack.{Lack as Why}
use Rattle.rep_core.specs.Service.{after as after_request, reply_of}
use Rattle.law_runs.proofs.Moves.{sent, unstamped, what_of, of_operator, by_moves}
use Rattle.law_runs.proofs.Standing.{NotIn, Recorded, none_in, stands_more, has_append}
use Rattle.law_runs.proofs.Places.{Puts}
use Rattle.law_runs.proofs.Servers.{AreKept, Quiet, Deciding, append_none, kept_quietly, kept_deciding, kept_none}
use Rattle.law_runs.proofs.Asking.{sweep_decides_none, decides}
use Rattle.law_runs.proofs.Agents.{IsAt, IsAfter, Says, after_take, take_keeps, Begins, begins, AreOf, none_of, AreAt, agents_put, not_begun}
use Rattle.law_runs.proofs.Past.{IsOver, AreOver, over_put, over_last, over_more}
use Rattle.law_runs.proofs.Turns.{Turn, no_decide, decides_at, other_turn, decide_turn, quiet_served, stays_served}

-- ---- lists in which one is put in another's place

set_here : {A : Type 0} (xs : List A) (i : ℕ) (old new : A) → slice_get xs i ≡ Some old → slice_get (slice_set xs i new) i ≡ Some new
set_here [] i old new is = absurd (none-some old is)
set_here (x ∷ xs) zero old new is = refl
set_here (x ∷ xs) (suc i) old new is = set_here xs i old new is

set_apart : {A : Type 0} (xs : List A) (i j : ℕ) (new : A) → j ≢ i → slice_get (slice_set xs i new) j ≡ slice_get xs j
set_apart [] i j new apart = refl
set_apart (x ∷ xs) zero zero new apart = absurd (apart refl)
set_apart (x ∷ xs) zero (suc j) new apart = refl
set_apart (x ∷ xs) (suc i) zero new apart = refl
set_apart (x ∷ xs) (suc i) (suc j) new apart = set_apart xs i j new (λ same. apart (ap suc same))

pub puts_in : {A : Type 0} (xs : List A) (i : ℕ) (old new : A) → slice_get xs i ≡ Some old → Puts (slice_get xs) (slice_get (slice_set xs i new)) i old new
puts_in xs i old new is = record { was = is; here = set_here xs i old new is; apart = λ j apart. set_apart xs i j new apart }

-- ---- what every event keeps

abbrev pub agent_of : Option Actor → Option Agent
agent_of actor = option_map (λ (actor : Actor). actor.agent) actor

abbrev pub agent_at : World → ℕ → Option Agent
agent_at world i = agent_of (actor_at world i)

-- no transaction stands twice
abbrev pub AreApart : List Decided → Type 0
AreApart [] = Unit {0}
AreApart (d ∷ ds) = NotIn ds d.t × AreApart ds

apart_more : (ds : List Decided) (d : Decided) → AreApart ds → NotIn ds d.t → AreApart (ds ++ d ∷ [])
apart_more [] d apart new = (λ e has same. absurd has, tt)
apart_more (e ∷ ds) d apart new = (
  λ f has same. ⊎_elim (λ left. apart.0 f left same) (λ right. ⊎_elim (λ is. new e (inl refl) (sym same ∙ ap (λ (d : Decided). d.t) (sym is))) (λ none. absurd none) right) (has_append ds (d ∷ []) f has),
  apart_more ds d apart.1 (λ f has same. new f (inr has) same),
)

-- The servers have recorded the decisions so far, the agents stand among them as they were told, and so do the jobs that ended.
pub record Holds (fixed : Fixed) (world : World) (ds : List Decided) (past : List EndedJob) : Type 0 where
  pub servers : AreKept fixed (server_at world) ds
  pub agents : AreAt (agent_at world) ds
  pub over : AreOver (agent_at world) ds past
  pub once : AreApart ds

-- so it is after an event by which this was decided
abbrev HoldsAfter : Fixed → World → Option Task → List Decided → List EndedJob → Stepped → Type 0
HoldsAfter fixed world task ds past stepped = Holds fixed stepped.world (ds ++ option_to_list (decided_by world task stepped.done.served)) (past ++ option_to_list stepped.done.outcome)

pub puts_agent : (world : World) (i : ℕ) (actor new : Actor) → actor_at world i ≡ Some actor → Puts (agent_at world) (agent_at (with_actor i new world)) i actor.agent new.agent
puts_agent world i actor new is = search (puts_in world.agents i actor new is, arith)

-- what is the same with nothing more
with_none : (fixed : Fixed) (world : World) (ds : List Decided) (past : List EndedJob) → Holds fixed world ds past → Holds fixed world (ds ++ []) (past ++ [])
with_none fixed world ds past holds = subst (λ ds. Holds fixed world ds (past ++ [])) (sym (append_none ds)) (subst (Holds fixed world ds) (sym (append_none past)) holds)

-- ---- an agent begins, or forgets

-- the agent is as it was, or begins
becomes_put : (fixed : Fixed) (world : World) (i : ℕ) (actor new : Actor) (ds : List Decided) (past : List EndedJob) → Holds fixed world ds past → actor_at world i ≡ Some actor
    → new.agent.index ≡ actor.agent.index → actor.agent.count ≤ new.agent.count → (new.agent.count ≡ actor.agent.count → actor.agent.doing ≡ None → new.agent.doing ≡ None) → IsAt (ds ++ []) i new.agent.count new.agent.doing
    → Holds fixed (with_actor i new world) (ds ++ []) (past ++ [])
becomes_put fixed world i actor new ds past holds is index counts rests at = record {
  servers = kept_none fixed (server_at world) ds holds.servers;
  agents = agents_put (agent_at world) (agent_at (with_actor i new world)) i actor.agent new.agent ds [] (puts_agent world i actor new is) index counts (none_of actor.agent i) holds.agents at;
  over = over_more (agent_at (with_actor i new world)) (ds ++ []) past []
      (over_put (agent_at world) (agent_at (with_actor i new world)) i actor.agent new.agent ds [] (puts_agent world i actor new is) counts rests (none_of actor.agent i) holds.agents past holds.over)
      (λ outcome has. absurd has);
  once = subst AreApart (sym (append_none ds)) holds.once;
}

-- the agent does what it did
same_put : (fixed : Fixed) (world : World) (i : ℕ) (actor : Actor) (agent : Agent) (ds : List Decided) (past : List EndedJob) → Holds fixed world ds past → actor_at world i ≡ Some actor
    → agent.index ≡ actor.agent.index → agent.count ≡ actor.agent.count → agent.doing ≡ actor.agent.doing
    → Holds fixed (with_actor i (record actor { agent = agent }) world) (ds ++ []) (past ++ [])
same_put fixed world i actor agent ds past holds is index count doing =
    becomes_put fixed world i actor (record actor { agent = agent }) ds past holds is index (omega (arith, count)) (λ _ idle. doing ∙ idle)
    (subst (λ ds. IsAt ds i agent.count agent.doing) (sym (append_none ds))
    (subst (λ count. IsAt ds i count agent.doing) (sym count) (subst (IsAt ds i actor.agent.count) (sym doing) (holds.agents.at i actor.agent (ap agent_of is)))))

-- the agent is the same one
unchanged_put : (fixed : Fixed) (world : World) (i : ℕ) (actor : Actor) (agent : Agent) (ds : List Decided) (past : List EndedJob) → Holds fixed world ds past → actor_at world i ≡ Some actor → agent ≡ actor.agent
    → Holds fixed (with_actor i (record actor { agent = agent }) world) (ds ++ []) (past ++ [])
unchanged_put fixed world i actor agent ds past holds is same =
    same_put fixed world i actor agent ds past holds is (ap (λ (agent : Agent). agent.index) same) (ap (λ (agent : Agent). agent.count) same) (ap (λ (agent : Agent). agent.doing) same)

-- the agent begins a job
begun_put : (fixed : Fixed) (world : World) (i : ℕ) (actor : Actor) (agent : Agent) (ds : List Decided) (past : List EndedJob) → Holds fixed world ds past → actor_at world i ≡ Some actor → Begins ds i actor.agent agent
    → Holds fixed (with_actor i (record actor { agent = agent }) world) (ds ++ []) (past ++ [])
begun_put fixed world i actor agent ds past holds is begun =
    let more : agent.count ≡ actor.agent.count + 1 = begun.more in
    becomes_put fixed world i actor (record actor { agent = agent }) ds past holds is begun.index (omega (arith, more)) (λ unchanged. absurd (omega (arith, more, unchanged)))
    (subst (λ ds. IsAt ds i agent.count agent.doing) (sym (append_none ds)) begun.at)

begin_holds : (fixed : Fixed) (world : World) (i : ℕ) (actor : Actor) (job : Job) (ds : List Decided) (past : List EndedJob) → Holds fixed world ds past → actor_at world i ≡ Some actor
    → Holds fixed (with_actor i (record actor { agent = begin fixed actor.agent job }) world) (ds ++ []) (past ++ [])
begin_holds fixed world i actor job ds past holds is =
    let at : agent_at world i ≡ Some actor.agent = ap agent_of is in
    ⊎_elim
    (unchanged_put fixed world i actor (begin fixed actor.agent job) ds past holds is)
    (begun_put fixed world i actor (begin fixed actor.agent job) ds past holds is)
    (begins fixed actor.agent job i ds (holds.agents.index i actor.agent at) (not_begun (agent_at world) ds i actor.agent holds.agents at actor.agent.count (omega arith)))

-- ---- a request that decides nothing

quiet_holds : (fixed : Fixed) (world : World) (server : ℕ) (st : State) (asked : Stamped Request) (task : Option Task) (ds : List Decided) (past : List EndedJob) → Holds fixed world ds past → is_decide asked.value ≡ false
    → server_at world server ≡ Some st → is_full st asked ≡ false → HoldsAfter fixed world task ds past (operated world st (Some (what_of server st asked)))
quiet_holds fixed world server st asked task ds past holds other is room =
    let new = after_serving st (what_of server st asked) world in
    subst (λ d. Holds fixed new (ds ++ option_to_list d) (past ++ [])) (ap (λ t. decided_at (server_at world server) t (decided_as task (answer_in (reply_of st asked.value)))) (sym (no_decide asked.value other))) (record {
      servers = kept_quietly fixed (server_at world) (server_at new) server st (served st asked) ds
          (puts_in world.servers server st (served st asked) is) (stays_served st asked room) holds.servers [] (quiet_served st asked room other);
      agents = subst (AreAt (agent_at world)) (sym (append_none ds)) holds.agents;
      over = subst (AreOver (agent_at world) (ds ++ [])) (sym (append_none past)) (subst (λ ds. AreOver (agent_at world) ds past) (sym (append_none ds)) holds.over);
      once = subst AreApart (sym (append_none ds)) holds.once;
    })

-- ---- an agent takes a response

ended_over : (fixed : Fixed) (h : ℕ → Option Agent) (ds : List Decided) (i : ℕ) (actor : Actor) (agent : Agent) (ending : Option Ending) → h i ≡ Some agent → agent.count ≡ actor.agent.count → IsAfter ds i agent.count agent.doing ending
    → AreOver h ds (option_to_list (outcome_of i actor ending))
ended_over fixed h ds i actor agent None at count after outcome has = absurd has
ended_over fixed h ds i actor agent (Some ending) at count after outcome has =
    let last = after.ends.last in
    ⊎_elim
    (λ is. subst (IsOver h ds) is (over_last h ds i agent _ at refl (after.idle ending refl) (omega (arith, last, count)) after.ends))
    (λ none. absurd none)
    has

took_holds : (fixed : Fixed) (world : World) (servers : List State) (i : ℕ) (actor : Actor) (asked : ℕ × Request) (response : Response) (stamp : ℕ) (ds more : List Decided) (past : List EndedJob)
    → Holds fixed world ds past → actor_at world i ≡ Some actor → next_of fixed actor.agent ≡ Some asked
    → AreKept fixed (slice_get servers) (ds ++ more) → AreOf actor.agent i more → Says fixed ds more i response actor.agent.doing asked → AreApart (ds ++ more)
    → Holds fixed (with_actor i (moved actor stamp (take fixed actor.agent response)) (record world { servers = servers })) (ds ++ more) (past ++ option_to_list (outcome_of i actor (take fixed actor.agent response).ending))
took_holds fixed world servers i actor asked response stamp ds more past holds is next kept of says apart =
    let new = moved actor stamp (take fixed actor.agent response) in
    let keeps = take_keeps fixed actor.agent response actor.agent.doing (next_of fixed actor.agent) in
    let count : new.agent.count ≡ actor.agent.count = keeps.1 in
    let after : IsAfter (ds ++ more) i actor.agent.count (take fixed actor.agent response).agent.doing (take fixed actor.agent response).ending =
    subst (λ o. IsAfter (ds ++ more) i actor.agent.count (take_in fixed actor.agent response actor.agent.doing o).agent.doing (take_in fixed actor.agent response actor.agent.doing o).ending) (sym next)
    (after_take fixed actor.agent response i actor.agent.count ds more actor.agent.doing asked next (holds.agents.at i actor.agent (ap agent_of is)) says) in
    let after' : IsAfter (ds ++ more) i new.agent.count new.agent.doing (take fixed actor.agent response).ending =
    subst (λ count. IsAfter (ds ++ more) i count new.agent.doing (take fixed actor.agent response).ending) (sym count) after in
    let puts = puts_agent world i actor new is in
    record {
      servers = kept;
      agents = agents_put (agent_at world) (agent_at (with_actor i new world)) i actor.agent new.agent ds more puts keeps.0 (omega (arith, count)) of holds.agents after'.at;
      over = over_more (agent_at (with_actor i new world)) (ds ++ more) past (option_to_list (outcome_of i actor (take fixed actor.agent response).ending))
          (over_put (agent_at world) (agent_at (with_actor i new world)) i actor.agent new.agent ds more puts (omega (arith, count)) (λ _ idle. absurd (busy idle)) of holds.agents past holds.over)
          (ended_over fixed (agent_at (with_actor i new world)) (ds ++ more) i actor new.agent (take fixed actor.agent response).ending puts.here count after');
      once = apart;
    }
  where
    busy : actor.agent.doing ≡ None → ⊥
    busy idle = none-some asked (sym (ap (next_in fixed) idle) ∙ next)

-- a response that decides nothing
lacked_says : (fixed : Fixed) (ds : List Decided) (i : ℕ) (why : Why) (doing : Option Doing) (asked : ℕ × Request) → Says fixed ds [] i (Lacked why) doing asked
lacked_says fixed ds i why doing asked = search (stands_more, none_in, arith)

lacked_holds : (fixed : Fixed) (world : World) (i : ℕ) (actor : Actor) (asked : ℕ × Request) (why : Why) (task : Option Task) (ds : List Decided) (past : List EndedJob)
    → Holds fixed world ds past → actor_at world i ≡ Some actor → next_of fixed actor.agent ≡ Some asked
    → HoldsAfter fixed world task ds past (lacked fixed world i actor (Lacked why))
lacked_holds fixed world i actor asked why task ds past holds is next =
    took_holds fixed world world.servers i actor asked (Lacked why) actor.stamp ds [] past holds is next (kept_none fixed (server_at world) ds holds.servers)
    (none_of actor.agent i) (lacked_says fixed ds i why actor.agent.doing asked) (subst AreApart (sym (append_none ds)) holds.once)

-- ---- a request of an agent is served

-- what comes of it
record Goes (fixed : Fixed) (agent : Agent) (i : ℕ) (ds : List Decided) (s : ℕ) (st new : State) (asked : ℕ × Request) (said : Reply) (d : Option Decided) : Type 0 where
  served : Quiet st new (option_to_list d) ⊎ Deciding fixed s st new (option_to_list d)
  of : AreOf agent i (option_to_list d)
  says : Says fixed ds (option_to_list d) i (Replied said) agent.doing asked

-- what it decides
abbrev decides_by : State → Option Task → Request → Reply → Option Decided
decides_by st task asked said = decided_at (Some st) (to_decide asked) (decided_as task (answer_in said))

turn_of : (fixed : Fixed) (agent : Agent) (i : ℕ) (txn_run : TransactionRun) (ds : List Decided) (s : ℕ) (st : State) (asked : Stamped Request) → agent.doing ≡ Some (Running txn_run) → IsAt ds i agent.count (Some (Running txn_run))
    → next_in fixed (Some (Running txn_run)) ≡ Some (s, asked.value) → is_full st asked ≡ false → ((t : ℕ) (v : Verdict) → record_of st t ≡ Some v → Recorded ds t v) → (b : Bool) → is_decide asked.value ≡ b
    → Turn fixed agent i txn_run.task txn_run.phase ds s st (served st asked) asked.value (reply_of st asked.value) (decides_at st txn_run.task asked.value (reply_of st asked.value))
turn_of fixed agent i txn_run ds s st asked doing at next room recorded_so false other = other_turn fixed agent i txn_run.task txn_run.phase ds s st asked (reply_of st asked.value) room other
turn_of fixed agent i txn_run ds s st asked doing at next room recorded_so true decide =
    let does = decides fixed txn_run.task txn_run.suites txn_run.phase s asked.value next decide in
    let stamp = next_stamp st asked in
    subst (λ phase. Turn fixed agent i txn_run.task phase ds s st (served st asked) asked.value (reply_of st asked.value) (decides_at st txn_run.task asked.value (reply_of st asked.value))) (sym does.deciding)
    (subst (λ (value : Request). Turn fixed agent i txn_run.task (Deciding' does.outcome) ds s st (record (after_request st value) { stamp = stamp }) value (reply_of st value)
    (decides_at st txn_run.task value (reply_of st value))) (sym does.decide)
    (decide_turn fixed agent i txn_run.task ds s st stamp (sym does.at_home)
    (λ d same. record { place = at.place; numbered = same ∙ at.numbered; last = at.last; busy = λ idle. none-some (Running txn_run) (sym idle ∙ doing) })
    (recorded_so txn_run.task.t) does.outcome))

goes : (fixed : Fixed) (agent : Agent) (i : ℕ) (ds : List Decided) (s : ℕ) (st : State) (asked : Stamped Request) (doing : Option Doing) → agent.doing ≡ doing → IsAt ds i agent.count doing
    → next_in fixed doing ≡ Some (s, asked.value) → is_full st asked ≡ false → ((t : ℕ) (v : Verdict) → record_of st t ≡ Some v → Recorded ds t v)
    → Goes fixed agent i ds s st (served st asked) (s, asked.value) (reply_of st asked.value) (decides_by st (task_of doing) asked.value (reply_of st asked.value))
goes fixed agent i ds s st asked None doing at next room recorded_so = cc
goes fixed agent i ds s st asked (Some (Running txn_run)) doing at next room recorded_so =
    let turn = turn_of fixed agent i txn_run ds s st asked doing at next room recorded_so (is_decide asked.value) refl in
    record {
      served = turn.served;
      of = turn.of;
      says = search (same_course, option_to_list, decides_at, running_round, arith);
    }
  where
    course_in : TransactionRun → Option Doing → TransactionRun
    course_in before (Some (Running txn_run)) = txn_run
    course_in before (Some (RunningSweep sweep_run)) = before
    course_in before None = before

    same_course : (a b : TransactionRun) → ◌≡◌ {A = Option Doing} (Some (Running a)) (Some (Running b)) → a ≡ b
    same_course a b is = ap (course_in a) is

    running_round : (a : TransactionRun) (b : SweepRun) → ◌≡◌ {A = Option Doing} (Some (Running a)) (Some (RunningSweep b)) → ⊥
    running_round a b is = cc
goes fixed agent i ds s st asked (Some (RunningSweep sweep_run)) doing at next room recorded_so = search (asks_same, sweep_decides_none, no_decide, quiet_served, none_of, none_in, arith)

-- what is decided was not before
apart_served : (fixed : Fixed) (f : ℕ → Option State) (s : ℕ) (st new : State) (ds more : List Decided) → f s ≡ Some st → AreKept fixed f ds → AreApart ds → Quiet st new more ⊎ Deciding fixed s st new more → AreApart (ds ++ more)
apart_served fixed f s st new ds more at kept apart served = search (append_none, apart_more, none-some, same_Some, arith)

kept_served : (fixed : Fixed) (f g : ℕ → Option State) (s : ℕ) (st new : State) (ds more : List Decided) → Puts f g s st new
    → ((t : ℕ) (v : Verdict) → record_of st t ≡ Some v → record_of new t ≡ Some v) → AreKept fixed f ds → Quiet st new more ⊎ Deciding fixed s st new more
    → AreKept fixed g (ds ++ more)
kept_served fixed f g s st new ds more puts stays kept served =
    ⊎_elim (λ quiet. kept_quietly fixed f g s st new ds puts stays kept more quiet) (λ does. kept_deciding fixed f g s st new ds puts stays kept more does) served

served_holds : (fixed : Fixed) (world : World) (i : ℕ) (actor : Actor) (asked : ℕ × Request) (st : State) (ds : List Decided) (past : List EndedJob) → Holds fixed world ds past
    → actor_at world i ≡ Some actor → next_of fixed actor.agent ≡ Some asked → server_at world asked.0 ≡ Some st → is_full st (sent actor asked.1) ≡ false
    → HoldsAfter fixed world (task_of actor.agent.doing) ds past (answered fixed world i actor st (Some (what_of asked.0 st (sent actor asked.1))))
served_holds fixed world i actor asked st ds past holds is next at room =
    let stamped = sent actor asked.1 in
    let come = goes fixed actor.agent i ds asked.0 st stamped actor.agent.doing refl (holds.agents.at i actor.agent (ap agent_of is)) next room (λ t v has. holds.servers.recorded asked.0 st t v at has) in
    subst (λ d. Holds fixed (with_actor i (moved actor (answer_of st stamped).stamp (take fixed actor.agent (Replied (reply_of st asked.1)))) (after_serving st (what_of asked.0 st stamped) world))
    (ds ++ option_to_list d) (past ++ option_to_list (outcome_of i actor (take fixed actor.agent (Replied (reply_of st asked.1))).ending)))
    (ap (λ found. decided_at found (to_decide asked.1) (decided_as (task_of actor.agent.doing) (answer_in (reply_of st asked.1)))) (sym at))
    (took_holds fixed world (slice_set world.servers asked.0 (served st stamped)) i actor asked (Replied (reply_of st asked.1)) (answer_of st stamped).stamp ds
    (option_to_list (decides_by st (task_of actor.agent.doing) asked.1 (reply_of st asked.1))) past holds is next
    (kept_served fixed (server_at world) (slice_get (slice_set world.servers asked.0 (served st stamped))) asked.0 st (served st stamped) ds _
    (puts_in world.servers asked.0 st (served st stamped) at) (stays_served st stamped room) holds.servers come.served)
    come.of come.says
    (apart_served fixed (server_at world) asked.0 st (served st stamped) ds _ at holds.servers holds.once come.served))

-- ---- every event

pub event_holds : (fixed : Fixed) (world : World) (event : Event) (ds : List Decided) (past : List EndedJob) → Holds fixed world ds past → HoldsAfter fixed world (task_in world event) ds past (step fixed world event)
event_holds fixed world event ds past holds = by_moves fixed world (λ event stepped. HoldsAfter fixed world (task_in world event) ds past stepped) (record {
  nothing = λ event. with_none fixed world ds past holds;
  begins = λ number actor job is. begin_holds fixed world number actor job ds past holds is;
  forgets = λ number actor site is. same_put fixed world number actor (forget actor.agent site) ds past holds is refl refl refl;
  answers = λ number actor asked st is next there room.
      subst (λ found. HoldsAfter fixed world (task_at found) ds past (answered fixed world number actor st (Some (what_of asked.0 st (sent actor asked.1))))) (sym is) (served_holds fixed world number actor asked st ds past holds is next there room);
  lacks = λ event number actor asked why by is next. lacked_holds fixed world number actor asked why (task_in world event) ds past holds is next;
  operates = λ event server asked st is there room.
      quiet_holds fixed world server st (unstamped asked) (task_in world event) ds past holds (of_operator (λ asked. is_decide asked ≡ false) refl refl event server asked is) there room;
}) event

pub cons_is : {X : Type 0} (one : Option X) (xs : List X) → option_to_list one ++ xs ≡ cons_option one xs
cons_is one xs = search arith

joined : {X : Type 0} (xs : List X) (one : Option X) (ys : List X) → (xs ++ option_to_list one) ++ ys ≡ xs ++ cons_option one ys
joined xs one ys = append_assoc xs (option_to_list one) ys ∙ ap (λ rest. xs ++ rest) (cons_is one ys)

pub run_holds : (fixed : Fixed) (events : List Event) (world : World) (ds : List Decided) (past : List EndedJob) → Holds fixed world ds past
    → Holds fixed (after fixed world events) (ds ++ decisions_from fixed world events) (past ++ outcomes (dones fixed world events))
run_holds fixed [] world ds past holds = with_none fixed world ds past holds
run_holds fixed (event ∷ events) world ds past holds =
    let next = step fixed world event in
    subst (λ ds. Holds fixed (after fixed next.world events) ds (past ++ outcomes (dones fixed world (event ∷ events)))) (joined ds (decided fixed world event) (decisions_from fixed next.world events))
    (subst (Holds fixed (after fixed next.world events) ((ds ++ option_to_list (decided fixed world event)) ++ decisions_from fixed next.world events)) (joined past next.done.outcome (outcomes (dones fixed next.world events)))
    (run_holds fixed events next.world (ds ++ option_to_list (decided fixed world event)) (past ++ option_to_list next.done.outcome) (event_holds fixed world event ds past holds)))
