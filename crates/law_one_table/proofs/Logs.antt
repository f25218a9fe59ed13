-- What an event of a world does to the log of a suite's machine: what its decision does, if it decides, and else nothing.
use Rattle.law_one_table.proofs.Vocabulary.{Opening, State, Doing, Taken, fixed_of, next_in, next_of, Step, Crash, Return, Actor, server_at, actor_at, Decided, to_decide, answer_in}
use Rattle.law_one_table.proofs.Vocabulary.{decided_as, decided_at, decided_by, decided, task_of, task_at, Beginning, Entry, World, Event, GiveUp, happens, run, Shows, beginning, decision_by, own_events, servers_of, home_in, begin_events}
use Rattle.law_one_table.proofs.Vocabulary.{answered_events, moved, run-append, none-some}
use Rattle.std.proofs.Common.{◌≡◌, ◌∙◌, ℕ, Bool, false, List, ◌++◌, Option, Some, None, refl, sym, ap, subst, arith}
use Rattle.rep_core.specs.declared.request.Request.{Request}
use Rattle.rep_core.specs.Service.{reply_of}
use Rattle.txn_core.specs.Agents.{take}
use Rattle.txn_core.specs.declared.job.Job.{Job}
use Rattle.txn_core.specs.declared.response.Response.TheVariants.{Replied, Lacked}
use Rattle.txn_core.specs.Laws.{is_decide}
use Rattle.run_core.specs.Decisions.{task_in}
use Rattle.run_core.specs.declared.done.Served.{Served}
use Rattle.law_server_moves.specs.Moves.{moves, hears}
use Rattle.law_runs.proofs.Moves.{sent, unstamped, what_of, operator_asks, of_operator}
use Rattle.law_run_machine.specs.Machines.{operated_events}
use Rattle.law_run_machine.proofs.Asked.{hears_as}
use Rattle.law_run_machine.proofs.Moves.{by_moves}
use Rattle.rep_core.specs.declared.request.Request.TheVariants as request
use Rattle.rep_core.specs.declared.reply.Reply.TheVariants as reply
use Rattle.run_core.specs.declared.event.Event as happening
use Rattle.run_core.specs.Worlds as worlds

-- ---- what an agent does by itself

-- these events leave the log
abbrev SameLog : Beginning → List Event → Type 0
SameLog start events = (w : World) → (run start w events).log ≡ w.log

own_log : (start : Beginning) (z : ℕ) (before : Option Doing) (taken : Taken) → SameLog start (own_events z before taken)
own_log start z before taken = search arith

-- ---- the log after an event

-- it is as its decision leaves it, where something was decided, and else as it was
abbrev pub LogIs : Beginning → Event → World → Option Decided → List Entry → Type 0
LogIs start decision w None log = log ≡ w.log
LogIs start decision w (Some one) log = log ≡ (happens start w decision).log

-- the decision of the agent that makes a step, as far as one suite goes
abbrev pub decision_of_actor : ℕ → World → Option Actor → Event
decision_of_actor z w (Some actor) = decision_by z w actor.agent.doing
decision_of_actor z w None = GiveUp 0

abbrev pub decision_at : ℕ → World → worlds.World → happening.Event → Event
decision_at z w world (Step number) = decision_of_actor z w (actor_at world number)
decision_at z w world event = GiveUp 0

pub no_task : (world : worlds.World) (what : Option Served) → decided_by world None what ≡ None
no_task world what = search arith

module _ (given : Opening) (z : ℕ) (w : World) (world : worlds.World) (shows : Shows z (home_in given) (servers_of given world) w) where
  abbrev start : Beginning
  start = beginning z given

  -- ---- any request of an agent

  request_log : (doing : Option Doing) (asked : ℕ × Request) (st : State) → next_in (fixed_of given) doing ≡ Some asked → server_at world asked.0 ≡ Some st → (b : Bool) → is_decide asked.1 ≡ b
      → LogIs start (decision_by z w doing) w (decided_at (Some st) (to_decide asked.1) (decided_as (task_of doing) (answer_in (reply_of st asked.1))))
      (run start w (moves z (home_in given) (decision_by z w doing) asked.0 w asked.1 (reply_of st asked.1))).log
  request_log doing asked st h3 h4 b h6 = search arith

  -- what else comes of it leaves the log
  answered_same : (actor : Actor) (asked : ℕ × Request) (st : State)
      → (run start w (answered_events given z w actor (Some (what_of asked.0 st (sent actor asked.1))))).log ≡ (run start w (moves z (home_in given) (decision_by z w actor.agent.doing) asked.0 w asked.1 (reply_of st asked.1))).log
  answered_same actor asked st =
      let said = reply_of st asked.1 in
      let first = moves z (home_in given) (decision_by z w actor.agent.doing) asked.0 w asked.1 said in
      let hear = hears z asked.0 asked.1 said in
      let own = own_events z actor.agent.doing (take (fixed_of given) actor.agent (Replied said)) in
      ap (λ (w : World). w.log) (run-append start w (first ++ hear) own)
      ∙ own_log start z actor.agent.doing (take (fixed_of given) actor.agent (Replied said)) (run start w (first ++ hear))
      ∙ ap (λ (w : World). w.log) (run-append start w first hear)
      ∙ hears_as z asked.0 (λ events. (run start (run start w first) events).log ≡ (run start w first).log) asked.1 said (λ _. refl) (λ t exclusive _ _. refl)

  answered_log : (actor : Actor) (asked : ℕ × Request) (st : State) → next_of (fixed_of given) actor.agent ≡ Some asked → server_at world asked.0 ≡ Some st
      → LogIs start (decision_by z w actor.agent.doing) w (decided_by world (task_of actor.agent.doing) (Some (what_of asked.0 st (sent actor asked.1))))
      (run start w (answered_events given z w actor (Some (what_of asked.0 st (sent actor asked.1))))).log
  answered_log actor asked st next there =
      let task = decided_as (task_of actor.agent.doing) (answer_in (reply_of st asked.1)) in
      subst (λ found. LogIs start (decision_by z w actor.agent.doing) w (decided_at found (to_decide asked.1) task) (run start w (answered_events given z w actor (Some (what_of asked.0 st (sent actor asked.1))))).log) (sym there)
      (subst (LogIs start (decision_by z w actor.agent.doing) w (decided_at (Some st) (to_decide asked.1) task)) (sym (answered_same actor asked st))
      (request_log actor.agent.doing asked st next there (is_decide asked.1) refl))

  -- ---- any event

  begin_log : (job : Job) (actor : Actor) → (run start w (begin_events given z job (Some actor))).log ≡ w.log
  begin_log job actor = search arith

  operated_log : (i : ℕ) (asked : Request) (st : State) → is_decide asked ≡ false → (run start w (operated_events given z w (Some (what_of i st (unstamped asked))))).log ≡ w.log
  operated_log i asked st h3 = search arith

  quiet : (event : happening.Event) (what : Option Served) (log : List Entry) → task_in world event ≡ None → log ≡ w.log → LogIs start (decision_at z w world event) w (decided_by world (task_in world event) what) log
  quiet event what log none is = subst (λ one. LogIs start (decision_at z w world event) w one log) (sym (ap (λ task. decided_by world task what) none ∙ no_task world what)) is

  operates_none : (event : happening.Event) (server : ℕ) (asked : Request) → operator_asks event ≡ Some (server, asked) → task_in world event ≡ None
  operates_none (Crash s) server asked is = refl
  operates_none (Return s) server asked is = refl
  operates_none other server asked is = absurd (none-some (server, asked) is)

  pub event_log : (event : happening.Event) → LogIs start (decision_at z w world event) w (decided (fixed_of given) world event) (moved given z w world event).log
  event_log = by_moves given z w world (λ event _ events stepped. LogIs start (decision_at z w world event) w (decided_by world (task_in world event) stepped.done.served) (run start w events).log) (record {
    nothing = λ event. refl;
    begins = λ number actor job there. begin_log job actor;
    forgets = λ number actor site there. refl;
    answers = λ number actor asked st there next at room.
        subst (λ found. LogIs start (decision_of_actor z w found) w (decided_by world (task_at found) (Some (what_of asked.0 st (sent actor asked.1))))
        (run start w (answered_events given z w actor (Some (what_of asked.0 st (sent actor asked.1))))).log) (sym there)
        (answered_log actor asked st next at);
    lacks = λ event number actor asked why by there next. own_log start z actor.agent.doing (take (fixed_of given) actor.agent (Lacked why)) w;
    operates = λ event server asked st by there room.
        quiet event (Some (what_of server st (unstamped asked))) (run start w (operated_events given z w (Some (what_of server st (unstamped asked))))).log (operates_none event server asked by)
        (operated_log server asked st (of_operator (λ asked. is_decide asked ≡ false) refl refl event server asked by));
  })
