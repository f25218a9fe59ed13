-- A job of an agent in a run: what it was told there since its begin, and how many steps it took.
use Rattle.law_agents.proofs.Vocabulary.{◌≡◌, ◌⊎◌, inl, inr, ℕ, ◌+◌, ◌≤◌, Bool, true, false, cond, List, [], ◌∷◌, ◌++◌, append_assoc, length, Option, Some, None, refl, sym, ap, subst, ◌∙◌, arith, ◌&&◌, ◌*◌, ◌-◌, ◌==◌, min, nat_lt, nat_tests}
use Rattle.law_agents.proofs.Vocabulary.{append-nil, none-some, same_Some, Identity, Op, Request, Response, Ending, Job, Transaction, Sweep, Fixed, Doing, Running, RunningSweep, After, Agent, Taken, Take, next_in, next_of, left, end_of, take_in}
use Rattle.law_agents.proofs.Vocabulary.{take, begin, begins, started, forget, is_idle, has_sense, max_jobs, fixed_of, Exchange, exchange_of, of_job, among, asks_only, names_only, listed, ends_in_time, sweep_ends_in_time, after-append}
use Rattle.law_agents.proofs.Vocabulary.{exchanges-take, exchanges-forget, EndedJob, after, run, agent_after, VotesAreValid, is_known}
use Rattle.std.proofs.Math.Nat.{min-le_left}
use Rattle.suite_prefix.specs.SettingsRules.{Opening}
use Rattle.rep_core.specs.Store.{last_number}
use Rattle.run_core.specs.declared.event.Event.TheVariants.{Begin, Forget}
use Rattle.run_core.specs.Worlds.{World, Actor, actor_at, one_more, steps_after, outcome_of, step}
use Rattle.law_agents.specs.RunBounds.{told_at, EndsInItsTime, told_in}
use Rattle.run_core.specs.declared.event.Event.{Event}
use Rattle.txn_core.specs.Transactions as transactions
use Rattle.txn_core.specs.Sweeps as sweep
use Rattle.txn_core.specs.Agents as agents
use Rattle.run_core.proofs.Appending as going
use Rattle.law_agents.proofs.Ends.{asked_are_known}
use Rattle.law_agents.proofs.AllResponses.{length_append}

-- ---- an agent that has a job, with the steps that it took

pub record Since (fixed : Fixed) (n : ℕ) (agent : Agent) (steps : ℕ) : Type 0 where
  before : Agent
  job : Job
  told : List agents.Event
  idle : is_idle before.doing ≡ true
  index : before.index ≡ n
  is : agent ≡ agent_after fixed before job told
  counted : agent.count ≡ before.count + 1
  taken : steps ≡ min (length (of_job fixed before job told)) last_number

-- where it began that in a run, and what it was told there from then on
pub record Stands (given : Opening) (past : List Event) (n : ℕ) (before : Agent) (job : Job) (told : List agents.Event) : Type 0 where
  front : List Event
  between : List Event
  split : past ≡ front ++ Begin n job ∷ between
  actor : Actor
  there : actor_at (run given front) n ≡ Some actor
  was : actor.agent ≡ before
  told_is : told_in (fixed_of given) (run given front) n (Begin n job ∷ between) ≡ told

-- it is idle and took none, or has a job
abbrev pub Has' : Opening → List Event → ℕ → Agent → ℕ → Type 0
Has' given past n agent steps =
    ((is_idle agent.doing ≡ true) × (steps ≡ 0))
    ⊎ ((is_idle agent.doing ≡ false) × (since : Since (fixed_of given) n agent steps) × Stands given past n since.before since.job since.told)

abbrev pub Fits : Opening → List Event → ℕ → Actor → Type 0
Fits given past n actor = (actor.agent.index ≡ n) × Has' given past n actor.agent actor.steps

-- ---- the run goes on

told_more : (fixed : Fixed) (world : World) (n : ℕ) (events : List Event) (event : Event) → told_in fixed world n (events ++ event ∷ []) ≡ told_in fixed world n events ++ told_at fixed (after fixed world events) n event
told_more fixed world n [] event = append-nil (told_at fixed world n event)
told_more fixed world n (first ∷ events) event =
    let next = (step fixed world first).world in
    ap (λ told. told_at fixed world n first ++ told) (told_more fixed next n events event)
    ∙ sym (append_assoc (told_at fixed world n first) (told_in fixed next n events) (told_at fixed (after fixed next events) n event))

module _ (given : Opening) (past : List Event) (event : Event) (world : World) (is : run given past ≡ world) (n : ℕ) where
  -- the world of the run where the job goes on
  here : (before : Agent) (job : Job) (told : List agents.Event) (stands : Stands given past n before job told) → after (fixed_of given) (run given stands.front) (Begin n job ∷ stands.between) ≡ world
  here before job told stands = search (going.after-append, arith)

  told_on : (before : Agent) (job : Job) (told more : List agents.Event) (stands : Stands given past n before job told) → told_at (fixed_of given) world n event ≡ more
      → told_in (fixed_of given) (run given stands.front) n (Begin n job ∷ stands.between ++ event ∷ []) ≡ told ++ more
  told_on before job told more stands now =
      told_more (fixed_of given) (run given stands.front) n (Begin n job ∷ stands.between) event
      ∙ (λ i. stands.told_is i ++ told_at (fixed_of given) (here before job told stands i) n event)
      ∙ ap (λ more. told ++ more) now

  stands_more : (before : Agent) (job : Job) (told more : List agents.Event) → told_at (fixed_of given) world n event ≡ more → Stands given past n before job told → Stands given (past ++ event ∷ []) n before job (told ++ more)
  stands_more before job told more now stands = search (told_on before job told more stands now, append_assoc, arith)

  -- it is told nothing
  pub stays : (agent : Agent) (steps : ℕ) → told_at (fixed_of given) world n event ≡ [] → Has' given past n agent steps → Has' given (past ++ event ∷ []) n agent steps
  stays agent steps none (inl idle) = inl idle
  stays agent steps none (inr busy) =
      let since = busy.1 in
      inr (busy.0, since, subst (Stands given (past ++ event ∷ []) n since.before since.job) (append-nil since.told) (stands_more since.before since.job since.told [] none busy.2))

-- ---- it begins a job

pub begun_index : (fixed : Fixed) (agent : Agent) (job : Job) → (begin fixed agent job).index ≡ agent.index
begun_index fixed agent job = search arith

module _ (given : Opening) (past : List Event) (world : World) (is : run given past ≡ world) (n : ℕ) (job : Job) (actor : Actor) (there : actor_at world n ≡ Some actor) where
  abbrev begun : Agent
  begun = begin (fixed_of given) actor.agent job

  pub begins_job : actor.agent.index ≡ n → Has' given past n actor.agent actor.steps → Has' given (past ++ Begin n job ∷ []) n begun actor.steps
  begins_job index (inr busy) =
      let same : begun ≡ actor.agent = ap (λ b. cond (b && has_sense (fixed_of given) job && nat_lt actor.agent.count max_jobs) (record (started (fixed_of given) actor.agent job) { count = actor.agent.count + 1 }) actor.agent) busy.0 in
      subst (λ agent. Has' given (past ++ Begin n job ∷ []) n agent actor.steps) (sym same) (stays given past (Begin n job) world is n actor.agent actor.steps refl (inr busy))
  begins_job index (inl idle) = of (begins (fixed_of given) actor.agent job) refl
    where
      counted : begins (fixed_of given) actor.agent job ≡ true → begun.count ≡ actor.agent.count + 1
      counted some = ap (λ b. (cond b (record (started (fixed_of given) actor.agent job) { count = actor.agent.count + 1 }) actor.agent).count) some

      busy : begun.count ≡ actor.agent.count + 1 → (b : Bool) → is_idle begun.doing ≡ b → Has' given (past ++ Begin n job ∷ []) n begun actor.steps
      busy count true still = inl (still, idle.1)
      busy count false on = inr (
        on,
        record {
          before = actor.agent;
          job = job;
          told = [];
          idle = idle.0;
          index = index;
          is = refl;
          counted = count;
          taken = idle.1;
        },
        record {
          front = past;
          between = [];
          split = refl;
          actor = actor;
          there = ap (λ world. actor_at world n) is ∙ there;
          was = refl;
          told_is = refl;
        },
      )

      of : (b : Bool) → begins (fixed_of given) actor.agent job ≡ b → Has' given (past ++ Begin n job ∷ []) n begun actor.steps
      of false none =
          let same : begun ≡ actor.agent = ap (λ b. cond b (record (started (fixed_of given) actor.agent job) { count = actor.agent.count + 1 }) actor.agent) none in
          subst (λ agent. Has' given (past ++ Begin n job ∷ []) n agent actor.steps) (sym same) (inl idle)
      of true some = busy (counted some) (is_idle begun.doing) refl

-- ---- it forgets

pub same_number : (n : ℕ) → (n == n) ≡ true
same_number n = grind (arith, nat_tests)

pub forgets : (given : Opening) (past : List Event) (world : World) (is : run given past ≡ world) (n site : ℕ) (agent : Agent) (steps : ℕ) → Has' given past n agent steps → Has' given (past ++ Forget n site ∷ []) n (forget agent site) steps
forgets given past world is n site agent steps (inl idle) = inl idle
forgets given past world is n site agent steps (inr busy) =
    let since = busy.1 in
    inr (
      busy.0,
      record {
        before = since.before;
        job = since.job;
        told = since.told ++ agents.Forget site ∷ [];
        idle = since.idle;
        index = since.index;
        is = ap (λ (agent : Agent). forget agent site) since.is ∙ sym (after-append (fixed_of given) (begin (fixed_of given) since.before since.job) since.told (agents.Forget site));
        counted = since.counted;
        taken = since.taken ∙ ap (λ past. min (length past) last_number) (sym (exchanges-forget (fixed_of given) (begin (fixed_of given) since.before since.job) since.told site));
      },
      stands_more given past (Forget n site) world is n since.before since.job since.told (agents.Forget site ∷ []) (ap (λ b. cond b (agents.Forget site ∷ []) []) (same_number n)) busy.2,
    )

-- ---- it is told something

-- and goes on, or is at its end
abbrev IsTold : Agent → Taken → Type 0
IsTold agent taken =
    (taken.agent.index ≡ agent.index) × (taken.agent.count ≡ agent.count)
    × (((taken.ending ≡ None) × (is_idle taken.agent.doing ≡ false)) ⊎ ((ending : Ending) × (taken.ending ≡ Some ending) × (is_idle taken.agent.doing ≡ true)))

by_after : {D : Type 0} (as_doing : D → Doing) (after : After D)
    → ((end_of after ≡ None) × (is_idle (left as_doing after) ≡ false)) ⊎ ((ending : Ending) × (end_of after ≡ Some ending) × (is_idle (left as_doing after) ≡ true))
by_after as_doing after = search arith

is_told : (fixed : Fixed) (agent : Agent) (heard : Response) (doing : Option Doing) (asked : ℕ × Request) → next_in fixed doing ≡ Some asked → IsTold agent (take_in fixed agent heard doing (Some asked))
is_told fixed agent heard None asked is = cc
is_told fixed agent heard (Some (Running running)) asked is = (refl, refl, by_after Running (transactions.after_response fixed running agent.cache asked.0 asked.1 heard).after)
is_told fixed agent heard (Some (RunningSweep sweeping)) asked is = (refl, refl, by_after RunningSweep (sweep.after_response fixed.service sweeping asked.0 heard))

at_most : (a b : ℕ) → min a b ≤ a
at_most a b = min-le_left a b

one_more_of : (a : ℕ) → min (min a last_number + 1) last_number ≡ min (a + 1) last_number
one_more_of a = omega arith

module _ (fixed : Fixed) (n : ℕ) (agent : Agent) (steps : ℕ) (heard : Response) (asked : ℕ × Request) (next : next_of fixed agent ≡ Some asked) where
  abbrev now : Taken
  now = take fixed agent heard

  now_is : now ≡ take_in fixed agent heard agent.doing (Some asked)
  now_is = ap (take_in fixed agent heard agent.doing) next

  pub told_so : IsTold agent now
  told_so = subst (IsTold agent) (sym now_is) (is_told fixed agent heard agent.doing asked next)

  idle_asks : {P : Type 0} → is_idle agent.doing ≡ true → P
  idle_asks idle = search arith

  module _ (since : Since fixed n agent steps) where
    abbrev more : List agents.Event
    more = since.told ++ Take heard ∷ []

    abbrev past_now : List Exchange
    past_now = of_job fixed since.before since.job more

    past_more : past_now ≡ of_job fixed since.before since.job since.told ++ exchange_of (Some asked) heard
    past_more = search (exchanges-take, arith)

    steps_more : one_more steps ≡ min (length past_now) last_number
    steps_more = search (one_more_of, past_more, length_append, arith)

    since_more : Since fixed n now.agent (one_more steps)
    since_more = search (after-append, steps_more, arith)

    few : one_more steps ≤ length past_now
    few = let least = at_most (length past_now) last_number in let is = steps_more in omega (arith, least, is)

    transaction_bound : (caller : Identity) (site : ℕ) (ops : List Op) (servers suites : List ℕ) (job : Job) → job ≡ Transaction caller site ops → one_more steps ≤ length (of_job fixed since.before job more)
        → asks_only servers (of_job fixed since.before job more) ≡ true → names_only suites (of_job fixed since.before job more) ≡ true
        → one_more steps ≤ length suites * (2 * length servers + 1) + 2 * length servers + 1
    transaction_bound caller site ops servers suites job is few servers_are names = search (ends_in_time, arith)

    sweep_bound : (server : ℕ) (job : Job) → job ≡ Sweep server → one_more steps ≤ length (of_job fixed since.before job more) → one_more steps ≤ 1 + 2 * listed (of_job fixed since.before job more)
    sweep_bound server job is few = search (sweep_ends_in_time, arith)

-- ---- it is told so in an event of a run

module _ (given : Opening) (whole past : List Event) (event : Event) (rest : List Event) (parts : whole ≡ past ++ event ∷ rest) (world : World) (is : run given past ≡ world)
    (n : ℕ) (agent : Agent) (steps : ℕ) (heard : Response) (asked : ℕ × Request) (next : next_of (fixed_of given) agent ≡ Some asked)
    (told_now : told_at (fixed_of given) world n event ≡ Take heard ∷ []) where
  abbrev taken : Taken
  taken = take (fixed_of given) agent heard

  in_time : (since : Since (fixed_of given) n agent steps) → Stands given past n since.before since.job since.told → (ending : Ending) → taken.ending ≡ Some ending
      → (step (fixed_of given) world event).done.outcome ≡ Some (record { agent = n; count = agent.count - 1; steps = one_more steps; ending = ending })
      → EndsInItsTime given whole (record { agent = n; count = agent.count - 1; steps = one_more steps; ending = ending })
  in_time since stands ending ends ended = record {
    before = stands.front;
    job = since.job;
    between = stands.between;
    last = event;
    later = rest;
    split = parts ∙ ap (λ past. past ++ event ∷ rest) stands.split;
    actor = stands.actor;
    there = stands.there;
    idle = ap (λ (agent : Agent). is_idle agent.doing) stands.was ∙ since.idle;
    agent = ap (λ (agent : Agent). agent.index) stands.was ∙ since.index;
    count = ap (λ (agent : Agent). agent.count) stands.was ∙ (let counted = since.counted in let e : since.before.count ≡ agent.count - 1 = omega (arith, counted) in e);
    told = since.told;
    heard = heard;
    told_is = told_on given past event world is n since.before since.job since.told (Take heard ∷ []) stands told_now;
    ends = ap (λ (before : Agent). (take fixed (agent_after fixed before since.job since.told) heard).ending) stands.was ∙ ap (λ (agent : Agent). (take fixed agent heard).ending) (sym since.is) ∙ ends;
    ended = ap (λ world. (step fixed world event).done.outcome) (ap (run given) (sym stands.split) ∙ is) ∙ ended;
    past = past_now';
    past_is = ap (λ (before : Agent). of_job fixed before since.job (more fixed n agent steps heard asked next since)) (sym stands.was);
    steps = steps_more fixed n agent steps heard asked next since;
    transaction = search (transaction_bound, fixed, few, arith);
    known = λ servers. subst (λ before. Knows servers before) (sym stands.was) (λ valid all. asked_are_known fixed since.before since.job (more fixed n agent steps heard asked next since) servers since.idle valid all);
    sweep = λ server job. sweep_bound fixed n agent steps heard asked next since server since.job job (few fixed n agent steps heard asked next since);
  }
    where
      fixed : Fixed
      fixed = fixed_of given

      past_now' : List Exchange
      past_now' = past_now fixed n agent steps heard asked next since

      Knows : List ℕ → Agent → Type 0
      Knows servers before = VotesAreValid fixed before past_now' → ((server : ℕ) → is_known fixed before past_now' server ≡ true → among servers server ≡ true) → asks_only servers past_now' ≡ true

  pub takes : Has' given past n agent steps → Has' given (past ++ event ∷ []) n taken.agent (steps_after steps taken.ending)
  unfolding since_more
  takes (inl idle) = idle_asks (fixed_of given) n agent steps heard asked next idle.0
  takes (inr busy) = of taken.ending refl (told_so (fixed_of given) n agent steps heard asked next).2
    where
      of : (end' : Option Ending) → taken.ending ≡ end' → ((end' ≡ None) × (is_idle taken.agent.doing ≡ false))
          ⊎ ((ending : Ending) × (end' ≡ Some ending) × (is_idle taken.agent.doing ≡ true)) → Has' given (past ++ event ∷ []) n taken.agent (steps_after steps end')
      of None is' (inl on) = inr (on.1, since_more (fixed_of given) n agent steps heard asked next busy.1, stands_more given past event world is n busy.1.before busy.1.job busy.1.told (Take heard ∷ []) told_now busy.2)
      of None is' (inr over) = absurd (none-some over.0 over.1)
      of (Some ending) is' (inl on) = absurd (none-some ending (sym on.0))
      of (Some ending) is' (inr over) = inl (over.2, refl)

  pub ends_now : Has' given past n agent steps → (outcome : EndedJob) → (step (fixed_of given) world event).done.outcome ≡ Some outcome
      → (ending : Option Ending) → taken.ending ≡ ending → outcome_of n (record { agent = agent; stamp = 0; steps = steps }) ending ≡ Some outcome → EndsInItsTime given whole outcome
  ends_now (inl idle) outcome ended ending was so = idle_asks (fixed_of given) n agent steps heard asked next idle.0
  ends_now (inr busy) outcome ended None was so = absurd (none-some outcome so)
  ends_now (inr busy) outcome ended (Some ending) was so = search (in_time busy.1 busy.2 ending was (ended ∙ sym so), same_Some, arith)
