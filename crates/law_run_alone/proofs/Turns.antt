-- What an event makes of the one agent that is not idle: what was answered to its transaction, and whether it is undecided.
use Rattle.law_run_alone.proofs.Vocabulary.{◌≡◌, ◌≢◌, ◌⊎◌, inl, inr, ⊎_elim, ℕ, zero, suc, ◌+◌, true, false, cond, List, [], ◌∷◌, ◌++◌, Option, Some, None, refl, sym, ap, subst, ◌∙◌, arith, ◌*◌, ◌-◌, ◌&&◌, ◌||◌, not, nat_lt, is_some, map, option_map}
use Rattle.law_run_alone.proofs.Vocabulary.{option_to_list, slice_get, slice_set, list_all, filter_map, cons_option, and_parts, Opening, Service, Request, Verdict, Stamped, State, record_of, reply_of, is_full, served, answer_of, Ending, Job}
use Rattle.law_run_alone.proofs.Vocabulary.{Transaction, Sweep, Response, Replied, Lacked, Fixed, Task, TransactionRun, SweepRun, Doing, Running, RunningSweep, After, GoesOn, Ends, after_response, execute, is_decide, said_by, Agent, Taken, fixed_of}
use Rattle.law_run_alone.proofs.Vocabulary.{is_idle, has_sense, max_jobs, next_in, next_of, left, end_of, take_in, take, begin, started, forget, asks_same, Event, Begin, Step, Crash, Return, Forget, Served, EndedJob, Actor, World, server_at}
use Rattle.law_run_alone.proofs.Vocabulary.{actor_at, with_actor, serve, after_serving, moved, outcome_of, lacked, answered, becomes, asks_at, asks, steps_once, lacks_for, lacks, operates, step, Decided, task_of, task_at, task_in, decided_by}
use Rattle.law_run_alone.proofs.Vocabulary.{decided_at, to_decide, decided_as, answer_in, begins_now, Stands, Recorded, same_or, Tells, Leaves, leaves_begin, leaves_response, IsAt, sweep_decides_none, no_decide, agent_of, Holds, puts_in, all_idle}
use Rattle.law_run_alone.proofs.Vocabulary.{begins_job, begins_alone, answer_by, decided_endings, append-nil, Lack as Why}
use Rattle.run_core.specs.declared.event.Event.TheVariants.{Lack}
use Rattle.txn_core.specs.Transactions.{Step as Taking}
use Rattle.rep_core.specs.declared.request.Request.TheVariants as request
use Rattle.rep_core.specs.declared.reply.Reply.TheVariants as reply
use Rattle.rep_core.specs.declared.reply.Verdict.TheVariants as verdict
use Rattle.rep_core.specs.declared.stamped.Lack.TheVariants as lack
use Rattle.txn_core.specs.Sweeps as sweep
use Rattle.law_run_alone.proofs.Verdicts as verdicts
use Rattle.law_run_alone.proofs.Verdicts.{Asked, asked_by, asked_of, answer_to, answers_of, left_by, said_is, undecided, Turns, adds_answer, takes_asked, turns_served, ended_as, leaves_answer, leaves_asked}

-- ---- who does what

abbrev pub doing_of : Option Actor → Option Doing
doing_of (Some actor) = actor.agent.doing
doing_of None = None

abbrev pub doing_at : World → ℕ → Option Doing
doing_at world i = doing_of (actor_at world i)

-- a number with its job
abbrev pub with_job : Job → Option ℕ → Option (ℕ × Job)
with_job job begun = option_map (λ t. (t, job)) begun

-- the transactions among jobs
abbrev pub transaction_as : ℕ → Job → Option Asked
transaction_as t (Transaction caller site ops) = Some (t, caller, ops)
transaction_as t (Sweep server) = None

abbrev pub transaction_in : ℕ × Job → Option Asked
transaction_in pair = transaction_as pair.0 pair.1

abbrev pub transactions_of : List (ℕ × Job) → List Asked
transactions_of jobs = filter_map transaction_in jobs

-- What an event does: some agent is alone after it; what was answered so far and is decided now has ended or is still to be told; and who is
-- undecided was so or begins, or there is nobody any more.
pub record Goes (world : World) (turn : ℕ) (new : World) (d : Option Decided) (outcome : Option EndedJob) (begun : Option (ℕ × Job)) : Type 0 where
  pub next : ℕ
  pub alone : (i : ℕ) → i ≢ next → doing_at new i ≡ None
  pub answers : verdicts.answered (doing_at world turn) ++ map answer_to (option_to_list d) ≡ decided_endings (option_to_list outcome) ++ verdicts.answered (doing_at new next)
  pub more : List Asked
  pub parts : map asked_of (option_to_list d) ++ more ≡ undecided (doing_at world turn) ++ transactions_of (option_to_list begun)
  pub still : (undecided (doing_at new next) ≡ more) ⊎ (undecided (doing_at new next) ≡ [])

-- ---- sweeps end without an answer

abbrev Unanswered : After SweepRun → Type 0
Unanswered (GoesOn sweep_run) = Unit {0}
Unanswered (Ends ending) = answer_by ending ≡ None

swept_response : (service : Service) (sweep_run : SweepRun) (server : ℕ) (response : Response) → Unanswered (sweep.after_response service sweep_run server response)
swept_response service sweep_run server response = search arith

-- ---- an agent takes a response

-- what comes of it, from what it does to what it does then
record Takes (number : ℕ) (actor : Actor) (before : Option Doing) (d : Option Decided) (taken : Taken) : Type 0 where
  answers : verdicts.answered before ++ map answer_to (option_to_list d) ≡ decided_endings (option_to_list (outcome_of number actor taken.ending)) ++ verdicts.answered taken.agent.doing
  more : List Asked
  parts : map asked_of (option_to_list d) ++ more ≡ undecided before
  still : (undecided taken.agent.doing ≡ more) ⊎ (undecided taken.agent.doing ≡ [])

cons_is : {X : Type 0} (one : Option X) → cons_option one [] ≡ option_to_list one
cons_is one = search arith

outcome_as : (number t : ℕ) (actor : Actor) → 64 * (actor.agent.count - 1) + number ≡ t → (ending : Option Ending) → ended_as t ending ≡ decided_endings (option_to_list (outcome_of number actor ending))
outcome_as number t actor h3 ending = search arith

takes_course : (number : ℕ) (actor : Actor) (txn_run : TransactionRun) (v new : Verdict) (d : Option Decided) (step : Taking)
    → 64 * (actor.agent.count - 1) + number ≡ txn_run.task.t → Tells v txn_run.phase → Turns txn_run.task v new d → Leaves txn_run.task new step.after
    → Takes number actor (Some (Running txn_run)) d (record { agent = record actor.agent { cache = step.cache; doing = left Running step.after }; ending = end_of step.after })
takes_course number actor txn_run v new d step same tells turns leaves = record {
  answers =
      ap (λ v. answers_of txn_run.task.t v ++ map answer_to (option_to_list d)) (said_is v txn_run.phase tells)
      ∙ adds_answer txn_run.task v new d turns
      ∙ leaves_answer txn_run.task new step.after leaves
      ∙ ap (λ ended. ended ++ verdicts.answered (left Running step.after)) (outcome_as number txn_run.task.t actor same (end_of step.after));
  more = left_by (asked_by txn_run.task) new;
  parts = takes_asked txn_run.task v new d turns ∙ ap (left_by (asked_by txn_run.task)) (sym (said_is v txn_run.phase tells));
  still = ⊎_elim (λ is. inl is) (λ none. inr (ap undecided none)) (leaves_asked txn_run.task new step.after leaves);
}

takes_round : (number : ℕ) (actor : Actor) (sweep_run : SweepRun) (after : After SweepRun) → Unanswered after
    → Takes number actor (Some (RunningSweep sweep_run)) None (record { agent = record actor.agent { doing = left RunningSweep after }; ending = end_of after })
takes_round number actor sweep_run after h4 = search arith

-- what is decided with it
pub record Decides' (ds : List Decided) (response : Response) (doing : Option Doing) (asked : Request) (d : Option Decided) : Type 0 where
  pub txn_run : (txn_run : TransactionRun) (v : Verdict) → doing ≡ Some (Running txn_run) → Tells v txn_run.phase → Stands ds txn_run.task.t v → Turns txn_run.task v (cond (is_decide asked) (said_by response v) v) d
  pub sweep_run : (sweep_run : SweepRun) → doing ≡ Some (RunningSweep sweep_run) → d ≡ None

takes_response : (fixed : Fixed) (ds : List Decided) (number : ℕ) (actor : Actor) (response : Response) (asked : ℕ × Request) (d : Option Decided) (doing : Option Doing)
    → next_in fixed doing ≡ Some asked → IsAt ds number actor.agent.count doing
    → Decides' ds response doing asked.1 d → Takes number actor doing d (take_in fixed actor.agent response doing (Some asked))
takes_response fixed ds number actor response asked d None next at decides = cc
takes_response fixed ds number actor response asked d (Some (Running running)) next at decides =
    let last = at.last in
    let numbered = at.numbered in
    takes_course number actor running at.said (cond (is_decide asked.1) (said_by response at.said) at.said) d
    (after_response fixed running actor.agent.cache asked.0 asked.1 response) (omega (arith, last, numbered)) at.tells (decides.txn_run running at.said refl at.tells at.stands)
    (leaves_response fixed running.task actor.agent.cache running.suites running.phase asked.0 asked.1 response at.said next at.tells)
takes_response fixed ds number actor response asked d (Some (RunningSweep sweep_run)) next at decides = search (takes_round, swept_response, arith)

-- ---- where every agent is idle

pub none_of : (doing : Option Doing) → is_idle doing ≡ true → doing ≡ None
none_of doing h1 = search arith

pub all_none : (actors : List Actor) → list_all (λ (actor : Actor). is_idle actor.agent.doing) actors ≡ true → (i : ℕ) → doing_of (slice_get actors i) ≡ None
all_none [] idle i = refl
all_none (actor ∷ actors) idle zero = none_of actor.agent.doing (and_parts (is_idle actor.agent.doing) (list_all (λ (actor : Actor). is_idle actor.agent.doing) actors) idle).0
all_none (actor ∷ actors) idle (suc i) = all_none actors (and_parts (is_idle actor.agent.doing) (list_all (λ (actor : Actor). is_idle actor.agent.doing) actors) idle).1 i

-- ---- events

module _ (given : Opening) (world : World) (ds : List Decided) (past : List EndedJob) (holds : Holds (fixed_of given) world ds past) (turn : ℕ) (alone : (i : ℕ) → i ≢ turn → doing_at world i ≡ None) where
  abbrev fixed : Fixed
  fixed = fixed_of given

  -- nobody does anything else
  same_goes : (new : World) → ((i : ℕ) → doing_at new i ≡ doing_at world i) → Goes world turn new None None None
  same_goes new same = record {
    next = turn;
    alone = λ i apart. same i ∙ alone i apart;
    answers = append-nil (verdicts.answered (doing_at world turn)) ∙ ap verdicts.answered (sym (same turn));
    more = undecided (doing_at world turn);
    parts = sym (append-nil (undecided (doing_at world turn)));
    still = inl (ap undecided (same turn));
  }

  quiet_goes : Goes world turn world None None None
  quiet_goes = same_goes world (λ i. refl)

  put_same : (i : ℕ) (actor new : Actor) → actor_at world i ≡ Some actor → new.agent.doing ≡ actor.agent.doing → Goes world turn (with_actor i new world) None None None
  put_same i actor new is doing =
      let puts = puts_in world.agents i actor new is in
      same_goes (with_actor i new world) (λ j. ⊎_elim
      (λ at. ap (doing_at (with_actor i new world)) at ∙ ap doing_of puts.here ∙ doing ∙ sym (ap doing_of is) ∙ ap (doing_at world) (sym at))
      (λ apart. ap doing_of (puts.apart j apart))
      (same_or j i))

  -- ---- a job begins

  -- what a job that began does: nothing was answered, and its transaction is undecided, unless nothing is done
  record Begins (t : ℕ) (job : Job) (doing : Option Doing) : Type 0 where
    unanswered : verdicts.answered doing ≡ []
    asks : (undecided doing ≡ transactions_of ((t, job) ∷ [])) ⊎ (undecided doing ≡ [])

  begins_course : (task : Task) (site : ℕ) (after : After TransactionRun) → Leaves task verdict.Aborted after → Begins task.t (Transaction task.caller site task.ops) (left Running after)
  begins_course task site after h3 = search arith

  job_begins : (agent : Agent) (job : Job) (i : ℕ) → agent.index ≡ i → Begins (64 * agent.count + i) job (started fixed agent job).doing
  job_begins agent (Transaction caller site ops) i index =
      let task : Task = record { t = 64 * agent.count + agent.index; caller = caller; site = site; ops = ops } in
      subst (λ i. Begins (64 * agent.count + i) (Transaction caller site ops) (started fixed agent (Transaction caller site ops)).doing) index
      (begins_course task site (execute fixed task (record { suites = []; cache = agent.cache })).after (leaves_begin fixed task agent.cache))
  job_begins agent (Sweep server) i index = record { unanswered = refl; asks = inr refl }

  begun_goes : (i : ℕ) (actor new : Actor) (t : ℕ) (job : Job) → actor_at world i ≡ Some actor → all_idle world ≡ true → Begins t job new.agent.doing → Goes world turn (with_actor i new world) None None (Some (t, job))
  begun_goes i actor new t job is idle begins =
      let puts = puts_in world.agents i actor new is in
      let none = all_none world.agents idle in
      record {
        next = i;
        alone = λ j apart. ap doing_of (puts.apart j apart) ∙ none j;
        answers = ap (λ doing. verdicts.answered doing ++ []) (none turn) ∙ sym (ap (λ found. verdicts.answered (doing_of found)) puts.here ∙ begins.unanswered);
        more = transactions_of ((t, job) ∷ []);
        parts = ap (λ doing. undecided doing ++ transactions_of ((t, job) ∷ [])) (sym (none turn));
        still = ⊎_elim (λ asks. inl (ap (λ found. undecided (doing_of found)) puts.here ∙ asks)) (λ none'. inr (ap (λ found. undecided (doing_of found)) puts.here ∙ none')) begins.asks;
      }

  begin_goes : (i : ℕ) (job : Job) (found : Option Actor) → actor_at world i ≡ found → (not (is_some (with_job job (begins_now fixed i job found))) || all_idle world) ≡ true
      → let stepped = becomes world i (λ agent. begin fixed agent job) found in
      Goes world turn stepped.world (decided_by world None stepped.done.served) stepped.done.outcome (with_job job (begins_now fixed i job found))
  begin_goes i job None is idle = quiet_goes
  begin_goes i job (Some actor) is idle =
      let begun : Agent = record (started fixed actor.agent job) { count = actor.agent.count + 1 } in
      elim (is_idle actor.agent.doing && has_sense fixed job && nat_lt actor.agent.count max_jobs) as
      (λ b. (not (is_some (with_job job (cond b (Some (64 * actor.agent.count + i)) None))) || all_idle world) ≡ true
      → Goes world turn (with_actor i (record actor { agent = cond b begun actor.agent }) world) None None (with_job job (cond b (Some (64 * actor.agent.count + i)) None))) [
        | true ↦ λ idle. begun_goes i actor (record actor { agent = begun }) (64 * actor.agent.count + i) job is idle (job_begins actor.agent job i (holds.agents.index i actor.agent (ap agent_of is)))
        | false ↦ λ _. put_same i actor (record actor { agent = actor.agent }) is refl
      ] idle

  forget_goes : (i site : ℕ) (found : Option Actor) → actor_at world i ≡ found
      → let stepped = becomes world i (λ agent. forget agent site) found in Goes world turn stepped.world (decided_by world None stepped.done.served) stepped.done.outcome None
  forget_goes i site found h3 = search (quiet_goes, put_same, arith)

  -- ---- the operator

  operator_goes : (server : ℕ) (asked : Request) → to_decide asked ≡ None → (found : Option State)
      → Goes world turn (operates world server asked found).world (decided_by world None (operates world server asked found).done.served) (operates world server asked found).done.outcome None
  operator_goes server asked h2 found = search (quiet_goes, same_goes, arith)

  -- ---- an agent takes a response

  is_turn : (i : ℕ) (actor : Actor) (asked : ℕ × Request) → actor_at world i ≡ Some actor → next_of fixed actor.agent ≡ Some asked → i ≡ turn
  is_turn i actor asked is next = search arith

  put_goes : (servers : List State) (i : ℕ) (actor new : Actor) (d : Option Decided) (outcome : Option EndedJob) → actor_at world i ≡ Some actor → i ≡ turn
      → verdicts.answered actor.agent.doing ++ map answer_to (option_to_list d) ≡ decided_endings (option_to_list outcome) ++ verdicts.answered new.agent.doing
      → (more : List Asked) → map asked_of (option_to_list d) ++ more ≡ undecided actor.agent.doing → (undecided new.agent.doing ≡ more) ⊎ (undecided new.agent.doing ≡ [])
      → Goes world turn (with_actor i new (record world { servers = servers })) d outcome None
  put_goes servers i actor new d outcome is at answers more parts still =
      let puts = puts_in world.agents i actor new is in
      let before : doing_at world turn ≡ actor.agent.doing = ap (doing_at world) (sym at) ∙ ap doing_of is in
      let here : doing_of (slice_get (slice_set world.agents i new) i) ≡ new.agent.doing = ap doing_of puts.here in
      record {
        next = i;
        alone = λ j apart. ap doing_of (puts.apart j apart) ∙ alone j (λ same. apart (same ∙ sym at));
        answers = ap (λ doing. verdicts.answered doing ++ map answer_to (option_to_list d)) before ∙ answers ∙ ap (λ doing. decided_endings (option_to_list outcome) ++ verdicts.answered doing) (sym here);
        more = more;
        parts = parts ∙ ap undecided (sym before) ∙ sym (append-nil (undecided (doing_at world turn)));
        still = subst (λ doing. (undecided doing ≡ more) ⊎ (undecided doing ≡ [])) (sym here) still;
      }

  took_goes : (servers : List State) (i : ℕ) (actor : Actor) (asked : ℕ × Request) (response : Response) (stamp : ℕ) (d : Option Decided) → actor_at world i ≡ Some actor
      → next_of fixed actor.agent ≡ Some asked → Decides' ds response actor.agent.doing asked.1 d
      → Goes world turn (with_actor i (moved actor stamp (take fixed actor.agent response)) (record world { servers = servers })) d (outcome_of i actor (take fixed actor.agent response).ending) None
  took_goes servers i actor asked response stamp d is next decides =
      let takes : Takes i actor actor.agent.doing d (take fixed actor.agent response) =
      subst (λ asked. Takes i actor actor.agent.doing d (take_in fixed actor.agent response actor.agent.doing asked)) (sym next)
      (takes_response fixed ds i actor response asked d actor.agent.doing next (holds.agents.at i actor.agent (ap agent_of is)) decides) in
      put_goes servers i actor (moved actor stamp (take fixed actor.agent response)) d (outcome_of i actor (take fixed actor.agent response).ending) is (is_turn i actor asked is next) takes.answers takes.more takes.parts takes.still

  lacked_decides : (why : Why) (doing : Option Doing) (asked : Request) → Decides' ds (Lacked why) doing asked None
  lacked_decides why doing asked = search arith

  lacked_goes : (i : ℕ) (actor : Actor) (asked : ℕ × Request) (why : Why) → actor_at world i ≡ Some actor → next_of fixed actor.agent ≡ Some asked
      → Goes world turn (lacked fixed world i actor (Lacked why)).world None (lacked fixed world i actor (Lacked why)).done.outcome None
  lacked_goes i actor asked why is next = took_goes world.servers i actor asked (Lacked why) actor.stamp None is next (lacked_decides why actor.agent.doing asked.1)

  served_decides : (s : ℕ) (st : State) (asked : Request) (doing : Option Doing) → next_in fixed doing ≡ Some (s, asked) → ((t : ℕ) (v : Verdict) → record_of st t ≡ Some v → Recorded ds t v)
      → Decides' ds (Replied (reply_of st asked)) doing asked (decided_at (Some st) (to_decide asked) (decided_as (task_of doing) (answer_in (reply_of st asked))))
  served_decides s st asked None next recorded_so = cc
  served_decides s st asked (Some (Running running)) next recorded_so = grind (turns_served, arith)
  served_decides s st asked (Some (RunningSweep sweep_run)) next recorded_so = search (asks_same, sweep_decides_none, no_decide, arith)

  served_goes : (i : ℕ) (actor : Actor) (asked : ℕ × Request) (st : State) → actor_at world i ≡ Some actor → next_of fixed actor.agent ≡ Some asked → server_at world asked.0 ≡ Some st
      → let stepped = answered fixed world i actor st (serve asked.0 st (record { stamp = actor.stamp; value = asked.1 })) in
      Goes world turn stepped.world (decided_by world (task_of actor.agent.doing) stepped.done.served) stepped.done.outcome None
  served_goes i actor asked st is next at =
      elim (is_full st stamped) as (λ b. let stepped = answered fixed world i actor st (cond b None (Some what)) in
      Goes world turn stepped.world (decided_by world (task_of actor.agent.doing) stepped.done.served) stepped.done.outcome None) [
        | true ↦ lacked_goes i actor asked lack.Full is next
        | false ↦
            subst (λ found. Goes world turn (with_actor i (moved actor (answer_of st stamped).stamp (take fixed actor.agent (Replied (reply_of st asked.1)))) (after_serving st what world))
            (decided_at found (to_decide asked.1) (decided_as (task_of actor.agent.doing) (answer_in (reply_of st asked.1)))) (outcome_of i actor (take fixed actor.agent (Replied (reply_of st asked.1))).ending) None) (sym at)
            (took_goes (slice_set world.servers asked.0 (served st stamped)) i actor asked (Replied (reply_of st asked.1)) (answer_of st stamped).stamp _ is next
            (served_decides asked.0 st asked.1 actor.agent.doing next (λ t v has. holds.servers.recorded asked.0 st t v at has)))
      ]
    where
      stamped : Stamped Request
      stamped = record { stamp = actor.stamp; value = asked.1 }

      what : Served
      what = record { server = asked.0; request = stamped; reply = answer_of st stamped }

  step_goes : (i : ℕ) (found : Option Actor) → actor_at world i ≡ found
      → Goes world turn (steps_once fixed world i found).world (decided_by world (task_at found) (steps_once fixed world i found).done.served) (steps_once fixed world i found).done.outcome None
  step_goes i None is = quiet_goes
  step_goes i (Some actor) is = of (next_of fixed actor.agent) refl
    where
      at : (asked : ℕ × Request) → next_of fixed actor.agent ≡ Some asked → (st : Option State) → server_at world asked.0 ≡ st
          → Goes world turn (asks_at fixed world i actor asked st).world (decided_by world (task_of actor.agent.doing) (asks_at fixed world i actor asked st).done.served) (asks_at fixed world i actor asked st).done.outcome None
      at asked next None there = quiet_goes
      at asked next (Some st) there = served_goes i actor asked st is next there

      of : (asked : Option (ℕ × Request)) → next_of fixed actor.agent ≡ asked
          → Goes world turn (asks fixed world i actor asked).world (decided_by world (task_of actor.agent.doing) (asks fixed world i actor asked).done.served) (asks fixed world i actor asked).done.outcome None
      of None next = quiet_goes
      of (Some asked) next = at asked next (server_at world asked.0) refl

  lack_goes : (i : ℕ) (why : Why) (found : Option Actor) → actor_at world i ≡ found
      → Goes world turn (lacks fixed world i (Lacked why) found).world (decided_by world None (lacks fixed world i (Lacked why) found).done.served) (lacks fixed world i (Lacked why) found).done.outcome None
  lack_goes i why None is = quiet_goes
  lack_goes i why (Some actor) is = of (next_of fixed actor.agent) refl
    where
      of : (asked : Option (ℕ × Request)) → next_of fixed actor.agent ≡ asked
          → Goes world turn (lacks_for fixed world i actor (Lacked why) asked).world (decided_by world None (lacks_for fixed world i actor (Lacked why) asked).done.served) (lacks_for fixed world i actor (Lacked why) asked).done.outcome None
      of None next = quiet_goes
      of (Some asked) next = lacked_goes i actor asked why is next

  -- every event
  pub event_goes : (event : Event) → begins_alone given world event ≡ true
      → Goes world turn (step fixed world event).world (decided_by world (task_in world event) (step fixed world event).done.served) (step fixed world event).done.outcome (begins_job given world event)
  event_goes (Begin i job) alone' = begin_goes i job (actor_at world i) refl alone'
  event_goes (Step i) alone' = step_goes i (actor_at world i) refl
  event_goes (Crash server) alone' = operator_goes server request.Crash refl (server_at world server)
  event_goes (Return server) alone' = operator_goes server request.Return refl (server_at world server)
  event_goes (Forget i site) alone' = forget_goes i site (actor_at world i) refl
  event_goes (Lack i why) alone' = lack_goes i why (actor_at world i) refl
