-- What agents keep and hold of a suite was its register's: event by event.
use Rattle.law_run_knowledge.proofs.Vocabulary.{◌≡◌, ◌⊎◌, inl, inr, ℕ, zero, suc, ◌+◌, true, false, cond, List, [], ◌∷◌, ◌++◌, Option, Some, None, refl, sym, ap, subst, ◌∙◌, ◌*◌, ◌&&◌, nat_lt, slice_get, slice_set, nat_cmp, arith, same_Some}
use Rattle.law_run_knowledge.proofs.Vocabulary.{none-some, IsOrdered, Request, Reply, absent_prefix, Prefix, ReadPoint, GatheredSuite, Suites, suite_of, Response, Replied, Lacked, Fixed, Task, Granted, Phase, Gathering, Fetching, Widening, Preparing}
use Rattle.law_run_knowledge.proofs.Vocabulary.{Deciding, Finishing, TransactionRun, SweepRun, Doing, Running, RunningSweep, After, GoesOn, Ends, Agent, fixed_of, next_in, next_of, left, take_in, take, begin, started, forget, is_idle, has_sense}
use Rattle.law_run_knowledge.proofs.Vocabulary.{max_jobs, Beginning, WasPrefix, GoesWith, World, begun, Event, run, Obeys, Inv, beginning, ToldVersion, SuiteWas, DoingWas, AllWere, entries_come_from_puts, has_from, Lack as Why}
use Rattle.suite_prefix.specs.SettingsRules.{Opening}
use Rattle.rep_core.specs.State.{State}
use Rattle.rep_core.specs.Service.{reply_of}
use Rattle.rep_core.specs.Serving.{answer_of, is_full}
use Rattle.txn_core.specs.declared.job.Job.{Job}
use Rattle.txn_core.specs.declared.job.Job.TheVariants.{Transaction, Sweep}
use Rattle.txn_core.specs.Transactions.{Step, execute, after_response, request_of, request_in, asked_for, said_to}
use Rattle.txn_core.proofs.Causes.{Stands}
use Rattle.txn_core.specs.Laws.{Exchange}
use Rattle.txn_core.proofs.Upheld.{stands_after}
use Rattle.run_core.specs.Worlds.{Actor, server_at, actor_at, with_actor, answered, lacked, step, actors_from}
use Rattle.law_suite_machine.proofs.Steps.{all_steps}
use Rattle.law_suite_machine.proofs.Starting.{begins}
use Rattle.law_suite_machine.proofs.Conclusions.{copies_were}
use Rattle.law_server_moves.specs.Views.{Shows}
use Rattle.law_server_moves.proofs.Opening.{opening_shows}
use Rattle.law_run_machine.specs.Deciding.{decision_by}
use Rattle.law_run_machine.specs.Machines.{servers_of, home_in, response_events, events_of, answered_events, begin_events, moved}
use Rattle.law_run_machine.specs.Machines.{machine_from, machine_of}
use Rattle.law_run_machine.specs.Sides.{AskedWell, KeepsSide, KeepSides}
use Rattle.law_run_machine.proofs.Servers.{servers_open}
use Rattle.law_run_machine.proofs.Consistent.{AllConsistent, opening_consistent}
use Rattle.law_run_machine.proofs.Following.{exchanges, event_comes}
use Rattle.law_run_machine.proofs.Joining.{run-append, obeys-append}
use Rattle.law_run_machine.proofs.Jobs.{IdleOr, All, event_all, opens}
use Rattle.law_run_machine.proofs.Turned.{set_here, set_apart, same_or, tells}
use Rattle.law_run_machine.proofs.Asked.{exchanged}
use Rattle.law_run_machine.proofs.Own.{own_unheard}
use Rattle.law_run_machine.proofs.Moves.{by_moves}
use Rattle.law_runs.proofs.Moves.{sent, what_of}
use Rattle.law_run_knowledge.specs.Laws.{KnowledgeWas, KnownWas}
use Rattle.std.specs.List.Sorted.{IsStrictlySortedBy}
use Rattle.rep_core.specs.declared.request.Request.TheVariants as request
use Rattle.rep_core.specs.declared.reply.Reply.TheVariants as reply
use Rattle.txn_core.specs.Sweeps as sweep
use Rattle.txn_core.specs.Agents as agents
use Rattle.run_core.specs.declared.event.Event as happening
use Rattle.run_core.specs.Worlds as worlds
use Rattle.run_core.specs.Runs as runs
use Rattle.law_server_moves.specs.Laws as steps
use Rattle.law_run_knowledge.proofs.Walk.{IsNarrow, Says, Fits, AfterFits, fits_response, fits_execute}
use Rattle.law_run_knowledge.proofs.Lasting.{Lasts, lasts, FitIn, DoingFits, AgentFits, said_later, agent_later}
use Rattle.law_run_knowledge.proofs.RepliesAreTheMachines.{says_so, gives_so}

-- ---- a suite that had no Current was not widened

-- it is gathered, or it is the first that is widened
abbrev pub Hears : Phase → ℕ → Type 0
Hears phase number = (phase ≡ Gathering number) ⊎ ((left : List ℕ) × (granted : Granted) × (phase ≡ Widening (number ∷ left) granted))

had_none : (first : ReadPoint) (o : Option ReadPoint) → o ≡ Some first → o ≡ None → ⊥
had_none first o is none = none-some first (sym none ∙ is)

stands_narrow : (fixed : Fixed) (task : Task) (Old Now Loose : ℕ → Prefix → Type 0) (past : List Exchange) (suites : Suites) (phase : Phase) (number : ℕ) → Hears phase number
    → Stands fixed task Old Now Loose past suites phase → (suite : GatheredSuite) → suite_of suites number ≡ Some suite → IsNarrow suite
stands_narrow fixed task Old Now Loose past suites (Gathering n) number (inl same) stands suite there none =
    let e : n ≡ number = cc in
    elim ((stands.2 suite (ap (suite_of suites) e ∙ there)).first) [ inl kept ↦ absurd (had_none kept.first suite.first kept.was none) | inr asks ↦ asks.1 ]
stands_narrow fixed task Old Now Loose past suites (Gathering n) number (inr widens) stands suite there none = absurd (let same = widens.2 in cc)
stands_narrow fixed task Old Now Loose past suites (Fetching n) number (inl same) stands suite there none = absurd cc
stands_narrow fixed task Old Now Loose past suites (Fetching n) number (inr widens) stands suite there none = absurd (let same = widens.2 in cc)
stands_narrow fixed task Old Now Loose past suites (Widening left granted) number (inl same) stands suite there none = absurd cc
stands_narrow fixed task Old Now Loose past suites (Widening left granted) number (inr widens) stands suite there none = let kept = (stands.1 number suite there).first in absurd (had_none kept.first suite.first kept.was none)
stands_narrow fixed task Old Now Loose past suites (Preparing left outcome) number (inl same) stands suite there none = absurd cc
stands_narrow fixed task Old Now Loose past suites (Preparing left outcome) number (inr widens) stands suite there none = absurd (let same = widens.2 in cc)
stands_narrow fixed task Old Now Loose past suites (Deciding outcome) number (inl same) stands suite there none = absurd cc
stands_narrow fixed task Old Now Loose past suites (Deciding outcome) number (inr widens) stands suite there none = absurd (let same = widens.2 in cc)
stands_narrow fixed task Old Now Loose past suites (Finishing servers v ending) number (inl same) stands suite there none = absurd cc
stands_narrow fixed task Old Now Loose past suites (Finishing servers v ending) number (inr widens) stands suite there none = absurd (let same = widens.2 in cc)

pub narrow_of : (fixed : Fixed) (agent : Agent) → IdleOr fixed agent → (txn_run : TransactionRun) → agent.doing ≡ Some (Running txn_run) → (asked : ℕ × Request)
    → request_of fixed txn_run ≡ Some asked → (number : ℕ) → Hears txn_run.phase number → (suite : GatheredSuite)
    → suite_of txn_run.suites number ≡ Some suite → IsNarrow suite
narrow_of fixed agent h2 txn_run h4 asked h6 number h8 suite h10 h11 = search (stands_after, stands_narrow, arith)

-- ---- a response

no_suites : IsOrdered {V = GatheredSuite} nat_cmp []
unfolding IsStrictlySortedBy
no_suites = tt

module _ (start : Beginning) (z : ℕ) (w : World) (inv : Inv start w) (fixed : Fixed) (never : WasPrefix start w.log (absent_prefix fixed.service.c0)) where
  step_fits : (agent : Agent) (task : Task) (done : Step) → Fits start z w (copies_were start w inv) fixed never task done → AgentFits z start w (agents.with_step agent done).agent
  step_fits agent task done fits = record { cache = fits.0; doing = of done.after fits.1 }
    where
      of : (after : After TransactionRun) → AfterFits start z w (copies_were start w inv) fixed never task after → DoingFits z start w (left Running after)
      of (GoesOn txn_run) fits = (subst (λ (task : Task). FitIn z start w task.t txn_run.suites) (sym fits.0) fits.1, fits.2)
      of (Ends ending) fits = tt

  round_fits : (after : After SweepRun) → DoingFits z start w (left RunningSweep after)
  round_fits after = search arith

  -- what a response is to the suite, where it is of a transaction
  abbrev SaysDoing : Option Doing → ℕ × Request → Response → Type 0
  SaysDoing (Some (Running txn_run)) asked response = Says start z w (copies_were start w inv) fixed never txn_run.task txn_run.suites txn_run.phase asked.0 asked.1 response
  SaysDoing (Some (RunningSweep sweep_run)) asked response = Unit {0}
  SaysDoing None asked response = Unit {0}

  take_fits : (agent : Agent) (response : Response) (doing : Option Doing) (asked : ℕ × Request) → agent.doing ≡ doing → next_in fixed doing ≡ Some asked
      → SaysDoing doing asked response → AgentFits z start w agent → AgentFits z start w (take_in fixed agent response doing (Some asked)).agent
  take_fits agent response (Some (Running txn_run)) asked was is says fits =
      let doing : DoingFits z start w (Some (Running txn_run)) = subst (DoingFits z start w) was fits.doing in
      step_fits agent txn_run.task (after_response fixed txn_run agent.cache asked.0 asked.1 response)
      (fits_response start z w (copies_were start w inv) fixed never txn_run.task agent.cache txn_run.suites txn_run.phase asked.0 asked.1 response is doing.1 says fits.cache doing.0)
  take_fits agent response (Some (RunningSweep sweep_run)) asked was is says fits = record { cache = fits.cache; doing = round_fits (sweep.after_response fixed.service sweep_run asked.0 response) }
  take_fits agent response None asked was is says fits = fits

  pub taken_fits : (agent : Agent) (response : Response) (asked : ℕ × Request) → next_of fixed agent ≡ Some asked → SaysDoing agent.doing asked response → AgentFits z start w agent → AgentFits z start w (take fixed agent response).agent
  taken_fits agent response asked is says fits = search (take_fits, arith)

  -- ---- a job that begins

  started_fits : (agent : Agent) (job : Job) → AgentFits z start w agent → AgentFits z start w (started fixed agent job)
  started_fits agent (Transaction caller site ops) fits =
      let task : Task = record { t = 64 * agent.count + agent.index; caller = caller; site = site; ops = ops } in
      step_fits agent task (execute fixed task (record { suites = []; cache = agent.cache }))
      (fits_execute start z w (copies_were start w inv) fixed never task (record { suites = []; cache = agent.cache }) fits.cache (no_suites, λ number suite there. cc))
  started_fits agent (Sweep server) fits = record { cache = fits.cache; doing = tt }

  counted : (agent : Agent) (count : ℕ) → AgentFits z start w agent → AgentFits z start w (record agent { count = count })
  counted agent count fits = record { cache = fits.cache; doing = fits.doing }

  pub begun_fits : (agent : Agent) (job : Job) → AgentFits z start w agent → AgentFits z start w (begin fixed agent job)
  begun_fits agent job fits =
      elim (is_idle agent.doing && has_sense fixed job && nat_lt agent.count max_jobs) as (λ b. AgentFits z start w (cond b (record (started fixed agent job) { count = agent.count + 1 }) agent)) [
        | true ↦ counted (started fixed agent job) (agent.count + 1) (started_fits agent job fits)
        | false ↦ fits
      ]

  pub forgot_fits : (agent : Agent) (site : ℕ) → AgentFits z start w agent → AgentFits z start w (forget agent site)
  forgot_fits agent site fits = record { cache = λ entry there. fits.cache entry (entries_come_from_puts.forgotten site agent.cache entry there).0; doing = fits.doing }

-- ---- all agents

abbrev pub AllFit : ℕ → Beginning → World → worlds.World → Type 0
AllFit z start w world = (number : ℕ) (actor : Actor) → actor_at world number ≡ Some actor → AgentFits z start w actor.agent

gathers_for : (fixed : Fixed) (task : Task) (suites : Suites) (phase : Phase) (number server : ℕ) (asked : Request) → Hears phase number
    → request_in fixed task suites phase ≡ Some (server, asked) → asked_for task number (suite_of suites number) ≡ Some (server, asked)
gathers_for fixed task suites phase number server asked h7 h8 = search arith

module _ (given : Opening) (z : ℕ) (w : World) (world : worlds.World) (inv : Inv (beginning z given) w) (shows : Shows z (home_in given) (servers_of given world) w)
    (all : AllConsistent (servers_of given world)) (jobs : All (fixed_of given) world) where
  abbrev start : Beginning
  start = beginning z given

  never : (w : World) → Inv start w → WasPrefix start w.log (absent_prefix (fixed_of given).service.c0)
  never w inv = (copies_were start w inv).never

  -- the others as they were, the one as it is now
  set : (later : World) → Lasts start w later → AllFit z start w world → (n : ℕ) (was now : Actor) → actor_at world n ≡ Some was → AgentFits z start later now.agent
      → (m : ℕ) (x : Actor) → slice_get (slice_set world.agents n now) m ≡ Some x → AgentFits z start later x.agent
  set later l fits n was now there here m x is =
      same_or (AgentFits z start later x.agent) m n
      (λ same.
      let x_is : now ≡ x = same_Some now x (sym (set_here world.agents n was now there) ∙ ap (slice_get (slice_set world.agents n now)) (sym same) ∙ is) in
      subst (λ (x : Actor). AgentFits z start later x.agent) x_is here)
      (λ apart. agent_later z start w later l x.agent (fits m x (sym (set_apart world.agents n m now apart) ∙ is)))

  all_later : (later : World) → Lasts start w later → AllFit z start w world → AllFit z start later world
  all_later later l fits n actor there = agent_later z start w later l actor.agent (fits n actor there)

  -- a response that tells nothing
  lacked_says : (later : World) (inv_later : Inv start later) (number : ℕ) (actor : Actor) → actor_at world number ≡ Some actor → (why : Why) (asked : ℕ × Request) → next_of (fixed_of given) actor.agent ≡ Some asked
      → SaysDoing start z later inv_later (fixed_of given) (never later inv_later) actor.agent.doing asked (Lacked why)
  lacked_says later inv_later number actor there why asked next = of actor.agent.doing refl next
    where
      of : (doing : Option Doing) → actor.agent.doing ≡ doing → next_in (fixed_of given) doing ≡ Some asked → SaysDoing start z later inv_later (fixed_of given) (never later inv_later) doing asked (Lacked why)
      of (Some (Running txn_run)) doing is = record {
        narrow = λ n hears here suite found. narrow_of (fixed_of given) actor.agent (jobs number actor there) txn_run doing asked is n hears suite found;
        says = λ n hears here said same. absurd cc;
        gives = λ said same. absurd cc;
      }
      of (Some (RunningSweep sweep_run)) doing is = tt
      of None doing is = tt

  -- and a reply
  replied_says : (later : World) (inv_later : Inv start later) (number : ℕ) (actor : Actor) → actor_at world number ≡ Some actor → (asked : ℕ × Request) (said : Reply) → next_of (fixed_of given) actor.agent ≡ Some asked
      → let first = exchanged z (home_in given) (decision_by z w actor.agent.doing) asked.0 w asked.1 said in
      Obeys start w first → steps.Tells z (home_in given) asked.0 w (run start w first) asked.1 said → Lasts start w later → Lasts start (run start w first) later → later.told ≡ (run start w first).told
      → SaysDoing start z later inv_later (fixed_of given) (never later inv_later) actor.agent.doing asked (Replied said)
  replied_says later inv_later number actor there asked said next obeys told from_first from_next same_told = of actor.agent.doing refl next
    where
      first : List Event
      first = exchanged z (home_in given) (decision_by z w actor.agent.doing) asked.0 w asked.1 said

      answers : (answer : Reply) → Replied said ≡ Replied answer → said ≡ answer
      answers answer same = cc

      of : (doing : Option Doing) → actor.agent.doing ≡ doing → next_in (fixed_of given) doing ≡ Some asked → SaysDoing start z later inv_later (fixed_of given) (never later inv_later) doing asked (Replied said)
      of (Some (Running txn_run)) doing is = record {
        narrow = λ n hears here suite found. narrow_of (fixed_of given) actor.agent (jobs number actor there) txn_run doing asked is n hears suite found;
        says = λ n hears here answer same heard hears_so.
            let asks = gathers_for (fixed_of given) txn_run.task txn_run.suites txn_run.phase n asked.0 asked.1 hears is in
            said_later z start (run start w first) later from_next txn_run.task.t asked.0 heard
            (says_so start z (home_in given) (decision_by z w actor.agent.doing) asked.0 w inv txn_run.task (suite_of txn_run.suites z) asked.0 asked.1 said
            (subst (λ n. asked_for txn_run.task n (suite_of txn_run.suites n) ≡ Some asked) here asks) told heard (ap (said_to asked.1) (answers answer same) ∙ hears_so));
        gives = λ answer same t dver version content fetch given_so of_t some shown.
            let tells_so : steps.Tells z (home_in given) asked.0 w (run start w first) (request.Fetch t z) (reply.Given version content) =
            subst (λ said. steps.Tells z (home_in given) asked.0 w (run start w first) (request.Fetch t z) said) (answers answer same ∙ given_so)
            (subst (λ request. steps.Tells z (home_in given) asked.0 w (run start w first) request said) fetch told) in
            let no_lock : later.told ≡ w.told = same_told ∙ ap (λ asked'. (run start w (exchanged z (home_in given) (decision_by z w actor.agent.doing) asked.0 w asked' said)).told) fetch in
            gives_so start z (home_in given) (decision_by z w actor.agent.doing) asked.0 w inv later from_first no_lock t dver version content (tells_so refl) some (subst (λ t. ToldVersion later t asked.0 dver) (sym of_t) shown);
      }
      of (Some (RunningSweep sweep_run)) doing is = tt
      of None doing is = tt

  module _ (fits : AllFit z start w world) where
    -- ---- a request of an agent

    lacked_fits : (number : ℕ) (actor : Actor) (asked : ℕ × Request) (why : Why) → actor_at world number ≡ Some actor → next_of (fixed_of given) actor.agent ≡ Some asked → Obeys start w (response_events given z actor (Lacked why))
        → AllFit z start (run start w (response_events given z actor (Lacked why))) (lacked (fixed_of given) world number actor (Lacked why)).world
    lacked_fits number actor asked why there next may =
        let own = response_events given z actor (Lacked why) in
        let later = run start w own in
        let inv_later = all_steps start w inv own may in
        let l = lasts start w own inv may in
        set later l fits number actor (worlds.moved actor actor.stamp (take (fixed_of given) actor.agent (Lacked why))) there
        (taken_fits start z later inv_later (fixed_of given) (never later inv_later) actor.agent (Lacked why) asked next
        (lacked_says later inv_later number actor there why asked next) (agent_later z start w later l actor.agent (fits number actor there)))

    answered_fits : (number : ℕ) (actor : Actor) (asked : ℕ × Request) (st : State) → actor_at world number ≡ Some actor → next_of (fixed_of given) actor.agent ≡ Some asked
        → server_at world asked.0 ≡ Some st → is_full st (sent actor asked.1) ≡ false → AskedWell given z w actor st.locks (what_of asked.0 st (sent actor asked.1))
        → AllFit z start (run start w (answered_events given z w actor (Some (what_of asked.0 st (sent actor asked.1))))) (answered (fixed_of given) world number actor st (Some (what_of asked.0 st (sent actor asked.1)))).world
    answered_fits number actor asked st there next at room well =
        let follows = exchanges given z w world inv shows all actor.agent.doing asked.0 st (sent actor asked.1) at room well.asks in
        let said = reply_of st asked.1 in
        let first = exchanged z (home_in given) (decision_by z w actor.agent.doing) asked.0 w asked.1 said in
        let own = response_events given z actor (Replied said) in
        let middle = run start w first in
        let inv_middle = all_steps start w inv first follows.obeys in
        let later = run start middle own in
        let inv_later = all_steps start middle inv_middle own well.does in
        let l : Lasts start w later = subst (Lasts start w) (run-append start w first own) (lasts start w (first ++ own) inv (obeys-append start w first own follows.obeys well.does)) in
        let told = tells given z w world inv shows all number actor.agent.count asked.0 st (sent actor asked.1) middle at room follows.shows in
        let new = worlds.moved actor (answer_of st (sent actor asked.1)).stamp (take (fixed_of given) actor.agent (Replied said)) in
        let same_told = (own_unheard start z actor.agent.doing (take (fixed_of given) actor.agent (Replied said)) middle).told in
        subst (λ w. (m : ℕ) (x : Actor) → slice_get (slice_set world.agents number new) m ≡ Some x → AgentFits z start w x.agent) (sym (run-append start w first own))
        (set later l fits number actor new there
        (taken_fits start z later inv_later (fixed_of given) (never later inv_later) actor.agent (Replied said) asked next
        (replied_says later inv_later number actor there asked said next follows.obeys told l (lasts start middle own inv_middle well.does) same_told) (agent_later z start w later l actor.agent (fits number actor there))))

    -- ---- what changes agents alone

    begin_fits : (number : ℕ) (actor : Actor) (job : Job) → actor_at world number ≡ Some actor → Obeys start w (begin_events given z job (Some actor))
        → AllFit z start (run start w (begin_events given z job (Some actor))) (with_actor number (record actor { agent = begin (fixed_of given) actor.agent job }) world)
    begin_fits number actor job there may =
        let events = begin_events given z job (Some actor) in
        let later = run start w events in
        let inv_later = all_steps start w inv events may in
        let l = lasts start w events inv may in
        set later l fits number actor (record actor { agent = begin (fixed_of given) actor.agent job }) there
        (begun_fits start z later inv_later (fixed_of given) (never later inv_later) actor.agent job (agent_later z start w later l actor.agent (fits number actor there)))

    -- if all stands before an event, and agents keep to their side in it, it stands after
    event_so : (event : happening.Event) → KeepsSide given z w world event → Obeys start w (events_of given z w world event) → AllFit z start (moved given z w world event) (step (fixed_of given) world event).world
    event_so = by_moves given z w world (λ _ side events stepped. side → Obeys start w events → AllFit z start (run start w events) stepped.world) (record {
      nothing = λ _ _ _. fits;
      begins = λ number actor job there _ may. begin_fits number actor job there may;
      forgets = λ number actor site there _ may.
          set w (lasts start w [] inv tt) fits number actor (record actor { agent = forget actor.agent site }) there (forgot_fits start z w inv (fixed_of given) (never w inv) actor.agent site (fits number actor there));
      answers = λ number actor asked st there next at room well _. answered_fits number actor asked st there next at room well;
      lacks = λ event number actor asked why by there next _ may. lacked_fits number actor asked why there next may;
      operates = λ event server asked st by there room _ may. all_later _ (lasts start w _ inv may) fits;
    })

    pub event_fits : (event : happening.Event) → KeepsSide given z w world event → AllFit z start (moved given z w world event) (step (fixed_of given) world event).world
    event_fits event well = event_so event well (event_comes given z w world inv shows all event well).obeys

-- ---- runs

fit_from : (given : Opening) (z : ℕ) (w : World) (world : worlds.World) (events : List happening.Event) → Inv (beginning z given) w
    → Shows z (home_in given) (servers_of given world) w → AllConsistent (servers_of given world) → All (fixed_of given) world
    → AllFit z (beginning z given) w world → KeepSides given z w world events → AllFit z (beginning z given) (machine_from given z w world events) (runs.after (fixed_of given) world events)
fit_from given z w world [] inv shows all jobs fits keep = fits
fit_from given z w world (event ∷ events) inv shows all jobs fits keep =
    let comes = event_comes given z w world inv shows all event keep.0 in
    fit_from given z (moved given z w world event) (step (fixed_of given) world event).world events
    (all_steps (beginning z given) w inv (events_of given z w world event) comes.obeys) comes.shows comes.consistent (event_all (fixed_of given) world jobs event)
    (event_fits given z w world inv shows all jobs fits event keep.0) keep.1

actor_fits : (z : ℕ) (begin' : Beginning) (w : World) (from count n : ℕ) (actor : Actor) → slice_get (actors_from from count) n ≡ Some actor → AgentFits z begin' w actor.agent
actor_fits z begin' w from zero n actor is = absurd (none-some actor is)
actor_fits z begin' w from (suc count) zero actor is = search (same_Some, has_from, arith)
actor_fits z begin' w from (suc count) (suc n) actor is = actor_fits z begin' w (from + 1) count n actor is

pub opens_fit : (z : ℕ) (given : Opening) → AllFit z (beginning z given) (begun (beginning z given)) (worlds.opening given)
opens_fit z given n actor there = actor_fits z (beginning z given) (begun (beginning z given)) 0 given.agents n actor there

were_of : (z : ℕ) (begin' : Beginning) (w : World) (world : worlds.World) → AllFit z begin' w world → AllWere z begin' w world
were_of z begin' w world fits n actor there = let it = fits n actor there in record { cache = it.cache; doing = of actor.agent.doing it.doing }
  where
    of : (doing : Option Doing) → DoingFits z begin' w doing → DoingWas z begin' w doing
    of (Some (Running txn_run)) fits = λ suite there. fits.0.1 z suite there refl
    of (Some (RunningSweep sweep_run)) fits = tt
    of None fits = tt

pub knowledge_was : KnowledgeWas
knowledge_was given z events valid keep = search (opening_shows z (home_in given) given valid, servers_open given, opening_consistent given, opens_fit z given, were_of, fit_from, begins, opens, arith)

pub known_was : KnownWas
known_was given z events number actor txn_run suite first valid keep there running found had =
    let was : SuiteWas (beginning z given) (machine_of given z events) txn_run.task.t suite =
    subst (DoingWas z (beginning z given) (machine_of given z events)) running (knowledge_was given z events valid keep number actor there).doing suite found in (
      (was.first first had).prefix,
      λ content is.
          let known = was.content content is in
          subst (λ (first : ReadPoint). GoesWith (beginning z given) (machine_of given z events).log first.prefix first.dver content) (same_Some known.0 first (sym known.1 ∙ had)) known.2,
    )
