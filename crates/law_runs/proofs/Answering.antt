-- A decision is what its transaction comes to on what its agent knows.
use Rattle.law_runs.proofs.Vocabulary.{◌≡◌, ℕ, Bool, true, false, List, [], ◌∷◌, Option, Some, None, refl, sym, ap, subst, ◌∙◌, nat_lt, Result, none-some, Opening, Answer, Refusal, Rows, arith, replies, Request, State, reply_of}
use Rattle.law_runs.proofs.Vocabulary.{Ended, done_is_the_tables, Job, Transaction, Sweep, Response, known_of, Fixed, Task, Proposal, TransactionRun, SweepRun, Doing, Running, RunningSweep, After, decision_of, is_decide, Agent, next_in, next_of}
use Rattle.law_runs.proofs.Vocabulary.{left, take_in, begin, started, fixed_of, Event, Step, Actor, World, server_at, actor_at, opening, step, after, run, Decided}
use Rattle.law_runs.proofs.Vocabulary.{decided_at, decided_as, decided_by, answer_in, to_decide, task_in, task_of, task_at, IsAnsweredAsKnown, AnswersFollowKnowledge}
use Rattle.file_exec.specs.Known.{on_table}
use Rattle.rep_core.specs.declared.request.Request.TheVariants as request
use Rattle.txn_core.specs.Sweeps as sweep
use Rattle.law_runs.proofs.Moves.{sent, what_of, of_operator, by_moves}
use Rattle.law_runs.proofs.Asking.{decides}
use Rattle.law_runs.proofs.Turns.{decides_at, no_decide}
use Rattle.law_runs.proofs.Worlds.{agent_of, agent_at}
use Rattle.law_runs.proofs.Each.{old_of, each_event}
use Rattle.law_runs.proofs.Conclusions.{fresh_agents}
use Rattle.law_runs.proofs.Knowing.{none_fit}
use Rattle.law_runs.proofs.Executed.{given_by, Came, answer_as, Keeps, Left, left_execute, left_response}

-- ---- one agent

-- what it is to decide with, the executor came to
abbrev pub Knows : Fixed → Option Doing → Type 0
Knows fixed (Some (Running txn_run)) = Keeps fixed txn_run.task txn_run.suites txn_run.phase
Knows fixed (Some (RunningSweep sweep_run)) = Unit {0}
Knows fixed None = Unit {0}

pub knows_left : (fixed : Fixed) (after : After TransactionRun) → Left fixed after → Knows fixed (left Running after)
knows_left fixed after h2 = search arith

pub knows_round : (fixed : Fixed) (after : After SweepRun) → Knows fixed (left RunningSweep after)
knows_round fixed after = search arith

pub take_knows : (fixed : Fixed) (agent : Agent) (response : Response) (doing : Option Doing) (asked : Option (ℕ × Request)) → agent.doing ≡ doing → Knows fixed doing → Knows fixed (take_in fixed agent response doing asked).agent.doing
take_knows fixed agent response (Some (Running running)) (Some asked) was knows = knows_left fixed _ (left_response fixed running.task agent.cache running.suites running.phase asked.0 asked.1 response knows)
take_knows fixed agent response (Some (Running running)) None was knows = subst (Knows fixed) (sym was) knows
take_knows fixed agent response (Some (RunningSweep sweep_run)) (Some asked) was knows = knows_round fixed (sweep.after_response fixed.service sweep_run asked.0 response)
take_knows fixed agent response (Some (RunningSweep sweep_run)) None was knows = subst (Knows fixed) (sym was) tt
take_knows fixed agent response None asked was knows = subst (Knows fixed) (sym was) tt

starts_knowing : (fixed : Fixed) (agent : Agent) (job : Job) → Knows fixed (started fixed agent job).doing
starts_knowing fixed agent (Transaction caller site ops) = search (knows_left, left_execute, none_fit, arith)
starts_knowing fixed agent (Sweep server) = tt

begin_knows : (fixed : Fixed) (agent : Agent) (job : Job) → Knows fixed agent.doing → Knows fixed (begin fixed agent job).doing
begin_knows fixed agent job knows = search (nat_lt, starts_knowing, arith)

-- ---- all agents of a world

abbrev pub AllKnow : Fixed → (ℕ → Option Agent) → Type 0
AllKnow fixed h = (i : ℕ) (agent : Agent) → h i ≡ Some agent → Knows fixed agent.doing

abbrev KnowsStill : Fixed → Agent → Agent → Type 0
KnowsStill fixed old new = Knows fixed old.doing → Knows fixed new.doing

event_knows : (fixed : Fixed) (world : World) (event : Event) → AllKnow fixed (agent_at world) → AllKnow fixed (agent_at (step fixed world event).world)
event_knows fixed world event all i agent is =
    let old = old_of (KnowsStill fixed) agent (agent_at world i) (agent_at (step fixed world event).world i) is
    (each_event fixed (KnowsStill fixed) (λ agent knows. knows) (begin_knows fixed) (λ agent site knows. knows) (λ agent response. take_knows fixed agent response agent.doing (next_of fixed agent) refl) world event i) in
    old.2 (all i old.0 old.1)

run_knows : (fixed : Fixed) (events : List Event) (world : World) → AllKnow fixed (agent_at world) → AllKnow fixed (agent_at (after fixed world events))
run_knows fixed [] world all = all
run_knows fixed (event ∷ events) world all = run_knows fixed events (step fixed world event).world (event_knows fixed world event all)

pub always_knows : (given : Opening) (events : List Event) → AllKnow (fixed_of given) (agent_at (run given events))
always_knows given events = run_knows (fixed_of given) events (opening given) (λ i agent is. subst (λ (agent : Agent). Knows (fixed_of given) agent.doing) (sym (fresh_agents given i agent is).0) tt)

-- ---- a decision

pub none_at : (found : Option State) (t : Option ℕ) → decided_at found t None ≡ None
none_at found t = search arith

-- what an outcome makes of a task
abbrev decided_with : Task → Proposal → Decided
decided_with task outcome = record { t = task.t; caller = task.caller; ops = task.ops; answer = answer_as outcome }

-- what a Decide decides is what it carries
carried : (st : State) (task : Task) (outcome : Proposal) (one : Decided) → decides_at st task (request.Decide task.t (decision_of task outcome))
    (reply_of st (request.Decide task.t (decision_of task outcome))) ≡ Some one → one ≡ decided_with task outcome
carried st task outcome one = search arith

given_replies : (rows : Rows) (result : Result (Ended (List Answer)) Refusal) → replies (on_table rows result) ≡ given_by result
given_replies rows result = search arith

-- ---- a step that decides

module _ (given : Opening) (world : World) (all : AllKnow (fixed_of given) (agent_at world)) (number : ℕ) (one : Decided) where
  in_course : (actor : Actor) (txn_run : TransactionRun) (asked : ℕ × Request) (st : State) → actor_at world number ≡ Some actor → actor.agent.doing ≡ Some (Running txn_run) → next_of (fixed_of given) actor.agent ≡ Some asked
      → decides_at st txn_run.task asked.1 (reply_of st asked.1) ≡ Some one → (b : Bool) → is_decide asked.1 ≡ b → IsAnsweredAsKnown given world (Step number) one
  in_course actor txn_run asked st there running next is false other = search (none-some, no_decide, arith)
  in_course actor txn_run asked st there running next is true decide =
      let asks' : next_in (fixed_of given) (Some (Running txn_run)) ≡ Some (asked.0, asked.1) = ap (next_in (fixed_of given)) (sym running) ∙ next in
      let does = decides (fixed_of given) txn_run.task txn_run.suites txn_run.phase asked.0 asked.1 asks' decide in
      let same : one ≡ decided_with txn_run.task does.outcome =
      carried st txn_run.task does.outcome one (subst (λ (value : Request). decides_at st txn_run.task value (reply_of st value) ≡ Some one) does.decide is) in
      let knows : Knows (fixed_of given) (Some (Running txn_run)) = subst (Knows (fixed_of given)) running (all number actor.agent (ap agent_of there)) in
      let came : Came (fixed_of given) txn_run.task txn_run.suites does.outcome = subst (Keeps (fixed_of given) txn_run.task txn_run.suites) does.deciding knows in
      subst (IsAnsweredAsKnown given world (Step number)) (sym same) (record {
        number = number;
        step = refl;
        actor = actor;
        there = there;
        txn_run = txn_run;
        running = running;
        outcome = does.outcome;
        deciding = does.deciding;
        t = refl;
        caller = refl;
        ops = refl;
        answered = λ rows agrees.
            came.answered ∙ sym (given_replies rows came.result)
            ∙ ap replies (sym (done_is_the_tables (fixed_of given).service (known_of txn_run.suites) rows txn_run.task.t txn_run.task.caller txn_run.task.ops came.result agrees came.is));
      })

  by_doing : (actor : Actor) (asked : ℕ × Request) (st : State) → actor_at world number ≡ Some actor → next_of (fixed_of given) actor.agent ≡ Some asked → (doing : Option Doing) → actor.agent.doing ≡ doing
      → decided_at (Some st) (to_decide asked.1) (decided_as (task_of doing) (answer_in (reply_of st asked.1))) ≡ Some one → IsAnsweredAsKnown given world (Step number) one
  by_doing actor asked st there next (Some (Running txn_run)) running is = in_course actor txn_run asked st there running next is (is_decide asked.1) refl
  by_doing actor asked st there next (Some (RunningSweep sweep_run)) running is = absurd (none-some one (sym (none_at (Some st) (to_decide asked.1)) ∙ is))
  by_doing actor asked st there next None running is = absurd (none-some one (sym (none_at (Some st) (to_decide asked.1)) ∙ is))

pub answers_follow_knowledge : AnswersFollowKnowledge
answers_follow_knowledge given events event one =
    let world = run given events in
    by_moves (fixed_of given) world (λ event stepped. decided_by world (task_in world event) stepped.done.served ≡ Some one → IsAnsweredAsKnown given world event one) (record {
      nothing = λ event is. absurd (none-some one is);
      begins = λ number actor job there is. absurd (none-some one is);
      forgets = λ number actor site there is. absurd (none-some one is);
      answers = λ number actor asked st there next at room is.
          by_doing given world (always_knows given events) number one actor asked st there next actor.agent.doing refl
          (ap (λ found. decided_at found (to_decide asked.1) (decided_as (task_of actor.agent.doing) (answer_in (reply_of st asked.1)))) (sym at)
          ∙ ap (λ found. decided_by world (task_at found) (Some (what_of asked.0 st (sent actor asked.1)))) (sym there) ∙ is);
      lacks = λ event number actor asked why by there next is. absurd (none-some one is);
      operates = λ event server asked st by there room is.
          absurd (none-some one (ap (λ t. decided_at (server_at world server) t (decided_as (task_in world event) (answer_in (reply_of st asked)))) (sym (of_operator (λ asked. to_decide asked ≡ None) refl refl event server asked by)) ∙ is));
    }) event
