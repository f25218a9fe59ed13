-- In every run collectors hold what machines told: each event of a world.
use Rattle.law_run_quorums.proofs.Vocabulary.{Opening, Request, Reply, told_at, Task, TransactionRun, Doing, Running, RunningSweep, After, GoesOn, Ends, execute, Agent, fixed_of, next_in, next_of, take, take_in, begin, started, forget, is_idle}
use Rattle.law_run_quorums.proofs.Vocabulary.{has_sense, max_jobs, left, Leaves, are_nil, leaves_execute, heard_by, Actor, server_at, actor_at, with_server, answered, step}
use Rattle.law_run_quorums.proofs.Vocabulary.{Beginning, Told, World, is_exclusive, Obeys, Inv, Shows, beginning, decision_by, decision_in, own_events, AllConsistent, quiet_same, AllLinked, IsDoing}
use Rattle.law_run_quorums.proofs.Vocabulary.{served_at, served_concerns, lacked_concerns, others_turned, begun_so, told_to, Agrees, DoingAgrees, AllAgree, Replied, Lacked, run}
use Rattle.txn_core.specs.declared.response.Response.{Response}
use Rattle.law_server_moves.specs.Moves.{moves}
use Rattle.std.proofs.Common.{◌≡◌, ℕ, ◌+◌, true, false, cond, List, [], Option, Some, None, is_some, sym, ap, subst, arith, ◌*◌, ◌&&◌, nat_lt}
use Rattle.rep_core.specs.State.{State}
use Rattle.rep_core.specs.Service.{reply_of}
use Rattle.rep_core.specs.Serving.{answer_of, is_full, served}
use Rattle.txn_core.specs.declared.job.Job.{Job}
use Rattle.txn_core.specs.declared.job.Job.TheVariants.{Transaction, Sweep}
use Rattle.law_runs.proofs.Asking.{asks_in_its_name}
use Rattle.law_run_machine.specs.Machines.{servers_of, home_in, begin_events, answered_events, moved}
use Rattle.law_run_machine.specs.Sides.{AskedWell, KeepsSide}
use Rattle.law_runs.proofs.Moves.{sent, what_of, of_operator}
use Rattle.law_run_machine.proofs.Moves.{by_moves}
use Rattle.law_run_machine.proofs.Joining.{run-append}
use Rattle.law_run_machine.proofs.Own.{own_unheard, begun_unheard}
use Rattle.law_run_machine.proofs.Sending.{decision_unheard}
use Rattle.law_run_machine.proofs.Turns.{turn}
use Rattle.law_run_machine.proofs.Turned.{tells}
use Rattle.law_run_machine.proofs.Following.{exchanges}
use Rattle.rep_core.specs.declared.request.Request.TheVariants as request
use Rattle.suite_collect.specs.declared.told.Told as collect
use Rattle.run_core.specs.declared.event.Event as happening
use Rattle.run_core.specs.Worlds as worlds
use Rattle.law_run_quorums.proofs.Served.{served_agrees}
use Rattle.law_run_quorums.proofs.Agreed.{all_agree, take_agrees}

same_told : (w later : World) (t : ℕ) (list : List collect.Told) → later.told ≡ w.told → Agrees (told_to w t) list → Agrees (told_to later t) list
same_told w later t list same agrees = subst (λ told. Agrees (λ i. told i t) list) (sym same) agrees

doing_same : (z : ℕ) (w later : World) (doing : Option Doing) → later.told ≡ w.told → DoingAgrees z w doing → DoingAgrees z later doing
doing_same z w later doing h4 h5 = search (same_told, arith)

-- nothing told yet
agrees_nil : (f : ℕ → Option Told) → ((i : ℕ) → f i ≡ None) → Agrees f []
agrees_nil f none = record { copies = tt; held = λ i. ap is_some (none i); exclusive = λ i. ap is_exclusive (none i) }

numbered_so : (t n count : ℕ) → t + 64 ≡ 64 * (count + 1) + n → t ≡ 64 * count + n
numbered_so t n count is = omega arith

same_only : (before other : TransactionRun) → ◌≡◌ {A = Option Doing} (Some (Running before)) (Some (Running other)) → before ≡ other
same_only before other same = cc

module _ (given : Opening) (z : ℕ) (w : World) (world : worlds.World) (inv : Inv (beginning z given) w) (shows : Shows z (home_in given) (servers_of given world) w)
    (all : AllConsistent (servers_of given world)) (linked : AllLinked z w world) (agree : AllAgree z w world) where
  abbrev first : Beginning
  first = beginning z given

  -- what a request that was served told the agent
  heard : (doing : Option Doing) (asked : ℕ × Request) (stamp : ℕ) (st : State) (n count : ℕ) → next_in (fixed_of given) doing ≡ Some asked → DoingAgrees z w doing
      → server_at world asked.0 ≡ Some st → is_full st (record { stamp = stamp; value = asked.1 }) ≡ false
      → Obeys first w (served_at given z w world inv shows all n count doing asked st)
      → Shows z (home_in given) (servers_of given (with_server asked.0 (served st (record { stamp = stamp; value = asked.1 })) world)) (run first w (served_at given z w world inv shows all n count doing asked st))
      → (before : TransactionRun) → doing ≡ Some (Running before) → Agrees (told_to (run first w (served_at given z w world inv shows all n count doing asked st)) before.task.t)
      (heard_by z (told_at before.suites z) asked.0 asked.1 (Replied (reply_of st asked.1)))
  heard (Some (Running before)) asked stamp st n count is agrees there none obeys shows_later other same =
      subst (λ (other : TransactionRun). Agrees (told_to (run first w (served_at given z w world inv shows all n count (Some (Running before)) asked st)) other.task.t)
      (heard_by z (told_at other.suites z) asked.0 asked.1 (Replied (reply_of st asked.1)))) (same_only before other same)
      (served_agrees first z (home_in given) (decision_in z w before.task before.suites before.phase) asked.0 w inv.sound
      (decision_unheard first z w before.task before.suites before.phase).told before.task.t asked.1 (reply_of st asked.1) (told_at before.suites z)
      (asks_in_its_name (fixed_of given) before.task before.suites before.phase asked.0 asked.1 is) obeys
      (tells given z w world inv shows all n count asked.0 st (record { stamp = stamp; value = asked.1 }) (run first w (served_at given z w world inv shows all n count (Some (Running before)) asked st)) there none shows_later) agrees)
  heard (Some (RunningSweep sweep_run)) asked stamp st n count is agrees there none obeys shows_later other same = absurd cc
  heard None asked stamp st n count is agrees there none obeys shows_later other same = absurd cc

  lacked : (doing : Option Doing) (asked : ℕ × Request) (why : _) → DoingAgrees z w doing → (before : TransactionRun) → doing ≡ Some (Running before)
      → Agrees (told_to w before.task.t) (heard_by z (told_at before.suites z) asked.0 asked.1 (Lacked why))
  lacked doing asked why h3 before h5 = search arith

  -- ---- a request of an agent

  -- the agent takes a response, and does its own
  takes : (later : World) (number : ℕ) (actor : Actor) (asked : ℕ × Request) (response : Response) → next_of (fixed_of given) actor.agent ≡ Some asked → IsDoing z w number actor.agent.count actor.agent.doing
      → ((before : TransactionRun) → actor.agent.doing ≡ Some (Running before) → Agrees (told_to later before.task.t) (heard_by z (told_at before.suites z) asked.0 asked.1 response))
      → IsDoing z (run first later (own_events z actor.agent.doing (take (fixed_of given) actor.agent response))) number actor.agent.count (take (fixed_of given) actor.agent response).agent.doing
      → DoingAgrees z (run first later (own_events z actor.agent.doing (take (fixed_of given) actor.agent response))) (take (fixed_of given) actor.agent response).agent.doing
  takes later number actor asked response next doing agrees after =
      let fixed = fixed_of given in
      let taken = take fixed actor.agent response in
      let own = own_events z actor.agent.doing taken in
      subst (λ o. DoingAgrees z (run first later own) (take_in fixed actor.agent response actor.agent.doing o).agent.doing) (sym next)
      (take_agrees z w (run first later own) number actor.agent.count fixed actor.agent response actor.agent.doing asked next doing
      (λ before same. same_told later (run first later own) before.task.t _ (own_unheard first z actor.agent.doing taken later).told (agrees before same))
      (subst (λ o. IsDoing z (run first later own) number actor.agent.count (take_in fixed actor.agent response actor.agent.doing o).agent.doing) next after))

  lacked_turn : (number : ℕ) (actor : Actor) (asked : ℕ × Request) (why : _) → actor_at world number ≡ Some actor → next_of (fixed_of given) actor.agent ≡ Some asked
      → AllAgree z (run first w (own_events z actor.agent.doing (take (fixed_of given) actor.agent (Lacked why)))) (worlds.with_actor number (worlds.moved actor actor.stamp (take (fixed_of given) actor.agent (Lacked why))) world)
  lacked_turn number actor asked why there next =
      let was = linked number actor there in
      let it = turn first z w w number actor.agent.count (fixed_of given) actor.agent asked (Lacked why) next was.1.doing (lacked_concerns given z w world inv shows all number actor.agent.count actor.agent.doing asked why) in
      let taken = take (fixed_of given) actor.agent (Lacked why) in
      all_agree z w (run first w (own_events z actor.agent.doing taken)) world number actor (worlds.moved actor actor.stamp taken) there linked agree
      (takes w number actor asked (Lacked why) next was.1.doing (lacked actor.agent.doing asked why (agree number actor there)) it.goes_on)
      (others_turned first z w w number (fixed_of given) actor.agent (Lacked why) was.0 was.1 it)

  answered_next : (number : ℕ) (actor : Actor) (asked : ℕ × Request) (st : State) → actor_at world number ≡ Some actor → next_of (fixed_of given) actor.agent ≡ Some asked
      → server_at world asked.0 ≡ Some st → is_full st (sent actor asked.1) ≡ false → AskedWell given z w actor st.locks (what_of asked.0 st (sent actor asked.1))
      → AllAgree z (run first w (answered_events given z w actor (Some (what_of asked.0 st (sent actor asked.1))))) (answered (fixed_of given) world number actor st (Some (what_of asked.0 st (sent actor asked.1)))).world
  answered_next number actor asked st there next at is well =
      let was = linked number actor there in
      let said = reply_of st asked.1 in
      let events = served_at given z w world inv shows all number actor.agent.count actor.agent.doing asked st in
      let follows = exchanges given z w world inv shows all actor.agent.doing asked.0 st (sent actor asked.1) at is well.asks in
      let later = run first w events in
      let it = turn first z w later number actor.agent.count (fixed_of given) actor.agent asked (Replied said) next was.1.doing
      (served_concerns given z w world inv shows all number actor.agent.count actor.agent.doing asked actor.stamp st next was.1.doing at is follows.obeys follows.shows) in
      let taken = take (fixed_of given) actor.agent (Replied said) in
      let own = own_events z actor.agent.doing taken in
      subst
      (λ w. AllAgree z w (answered (fixed_of given) world number actor st (Some (what_of asked.0 st (sent actor asked.1)))).world) (sym (run-append first w events own))
      (all_agree z w (run first later own) world number actor (worlds.moved actor (answer_of st (sent actor asked.1)).stamp taken) there linked agree
      (takes later number actor asked (Replied said) next was.1.doing (heard actor.agent.doing asked actor.stamp st number actor.agent.count next (agree number actor there) at is follows.obeys follows.shows) it.goes_on)
      (others_turned first z w later number (fixed_of given) actor.agent (Replied said) was.0 was.1 it))

  -- ---- the operator tells nobody of a copy

  crashed : (i : ℕ) (said : Reply) → (run first w (moves z (home_in given) (decision_by z w None) i w request.Crash said)).told ≡ w.told
  crashed i said = search arith

  returned : (i : ℕ) (said : Reply) → (run first w (moves z (home_in given) (decision_by z w None) i w request.Return said)).told ≡ w.told
  returned i said = search arith

  all_same : (later : World) → later.told ≡ w.told → AllAgree z later world
  all_same later same number actor there = doing_same z w later actor.agent.doing same (agree number actor there)

  -- ---- what changes agents alone

  -- a job that begins was told of nothing
  begun_left : (later : World) (n count : ℕ) (after : After TransactionRun) → ((i : ℕ) → w.told i (64 * count + n) ≡ None) → Leaves (λ number. []) after
      → IsDoing z later n (count + 1) (left Running after) → DoingAgrees z w (left Running after)
  begun_left later n count (GoesOn txn_run) untold leaves doing = search (numbered_so txn_run.task.t n count doing.numbered, agrees_nil, arith)
  begun_left later n count (Ends ending) untold leaves doing = tt

  began : (later : World) (number : ℕ) (agent : Agent) (job : Job) → ((i : ℕ) → w.told i (64 * agent.count + number) ≡ None) → DoingAgrees z w agent.doing
      → IsDoing z later number (begin (fixed_of given) agent job).count (begin (fixed_of given) agent job).doing
      → DoingAgrees z w (begin (fixed_of given) agent job).doing
  began later number agent job untold agrees =
      elim (is_idle agent.doing && has_sense (fixed_of given) job && nat_lt agent.count max_jobs) as
      (λ b. IsDoing z later number (cond b (record (started (fixed_of given) agent job) { count = agent.count + 1 }) agent).count
      (cond b (record (started (fixed_of given) agent job) { count = agent.count + 1 }) agent).doing
      → DoingAgrees z w (cond b (record (started (fixed_of given) agent job) { count = agent.count + 1 }) agent).doing) [
        | true ↦ of job
        | false ↦ λ _. agrees
      ]
    where
      of : (job : Job) → IsDoing z later number (agent.count + 1) (started (fixed_of given) agent job).doing → DoingAgrees z w (started (fixed_of given) agent job).doing
      of (Transaction caller site ops) doing =
          let task : Task = record { t = 64 * agent.count + agent.index; caller = caller; site = site; ops = ops } in
          begun_left later number agent.count (execute (fixed_of given) task (record { suites = []; cache = agent.cache })).after untold
          (leaves_execute (λ number. []) (fixed_of given) task (record { suites = []; cache = agent.cache }) are_nil) doing
      of (Sweep server) doing = tt

  begin_next : (number : ℕ) (actor : Actor) (job : Job) → actor_at world number ≡ Some actor
      → AllAgree z (run first w (begin_events given z job (Some actor))) (worlds.with_actor number (record actor { agent = begin (fixed_of given) actor.agent job }) world)
  begin_next number actor job there =
      let was = linked number actor there in
      let it = begun_so first z w number (fixed_of given) actor.agent was.0 was.1 job in
      let later = run first w (begin_events given z job (Some actor)) in
      all_agree z w later world number actor (record actor { agent = begin (fixed_of given) actor.agent job }) there linked agree
      (doing_same z w later (begin (fixed_of given) actor.agent job).doing (begun_unheard first z actor.agent.doing (begin (fixed_of given) actor.agent job).doing w).told
      (began later number actor.agent job (was.1.fresh actor.agent.count (omega arith)).told (agree number actor there) it.now.doing))
      it.others

  forget_next : (number : ℕ) (actor : Actor) (site : ℕ) → actor_at world number ≡ Some actor → AllAgree z w (worlds.with_actor number (record actor { agent = forget actor.agent site }) world)
  forget_next number actor site there = search (all_agree, quiet_same, arith)

  -- each event keeps it, where agents keep to their side
  pub event_agrees : (event : happening.Event) → KeepsSide given z w world event → AllAgree z (moved given z w world event) (step (fixed_of given) world event).world
  event_agrees = by_moves given z w world (λ _ side events stepped. side → AllAgree z (run first w events) stepped.world) (record {
    nothing = λ _ _. agree;
    begins = λ number actor job there _. begin_next number actor job there;
    forgets = λ number actor site there _. forget_next number actor site there;
    answers = answered_next;
    lacks = λ event number actor asked why by there next _. lacked_turn number actor asked why there next;
    operates = λ event server asked st by there room _.
        all_same (run first w (moves z (home_in given) (decision_by z w None) server w asked (reply_of st asked)))
        (of_operator (λ asked. (said : Reply) → (run first w (moves z (home_in given) (decision_by z w None) server w asked said)).told ≡ w.told) (crashed server) (returned server) event server asked by (reply_of st asked));
  })
