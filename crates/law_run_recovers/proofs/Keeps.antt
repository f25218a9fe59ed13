-- While a transaction goes among locks that stay, and until its end is fixed, what near servers have stored of its suites stays where they are open to it.
use Rattle.law_run_recovers.proofs.Vocabulary.{◌≡◌, ℕ, ◌+◌, ◌≤◌, Bool, true, false, List, [], ◌∷◌, ◌++◌, Option, Some, None, refl, sym, ap, subst, ◌∙◌, arith, ◌*◌, ◌==◌, ◌&&◌, ◌||◌, not, Contains, list_any, false≢true, eqb-true, nat_tests, none-some}
use Rattle.law_run_recovers.proofs.Vocabulary.{same_Some, Identity, Opening, LockMode, Exclusive, Op, Lock, Verdict, Request, copy_of, State, Job, Transaction, Response, Lacked, Fixed, Doing, Phase, is_finish, Agent, fixed_of, begin, forget, take}
use Rattle.law_run_recovers.proofs.Vocabulary.{next_of, Served, Event, Begin, Step, Crash, Return, Forget, Lack, Actor, World, server_at, actor_at, becomes, operates, asks, steps_once, lacks, step, Decided, decisions, after, run, IsAt, holds_of}
use Rattle.law_run_recovers.proofs.Vocabulary.{agent_of, agent_at, CanBe, begins_job, all_consistent, asks_for, is_open_way, way_in, is_open_at, runs, is_running, is_told, is_telling, world_after, takes, up_and, of_up, robs, hinders_itself}
use Rattle.law_run_recovers.proofs.Vocabulary.{GoesAmongLocks, SameWay, told_as_first, AsAtItsBegin}
use Rattle.law_runs.proofs.Each.{new_of, each_event}
use Rattle.rep_core.specs.declared.stamped.Lack.{Lack as Why}
use Rattle.rep_core.specs.declared.request.Request.TheVariants as request
use Rattle.run_core.specs.Worlds as worlds
use Rattle.law_run_recovers.proofs.Serves.{Serves}
use Rattle.law_run_recovers.proofs.Still.{IsOpen, IsOpenPhase, open_next}
use Rattle.law_run_recovers.proofs.Open.{begun_there}
use Rattle.law_run_recovers.proofs.Stand.{Spares, event_stands, free_where}
use Rattle.law_run_recovers.proofs.Picks.{along}

-- ---- an agent that runs a transaction ran it before, where it began none since

abbrev Back : Agent → Agent → Type 0
Back old new = (old.count ≤ new.count) × (new.count ≡ old.count → IsOpen new.doing → IsOpen old.doing)

back_same : (agent : Agent) → Back agent agent
back_same agent = (omega arith, λ same open'. open')

back_begin : (fixed : Fixed) (agent : Agent) (job : Job) → Back agent (begin fixed agent job)
back_begin fixed agent job = search arith

back_forget : (agent : Agent) (site : ℕ) → Back agent (forget agent site)
back_forget agent site = (omega arith, λ same open'. open')

back_take : (fixed : Fixed) (agent : Agent) (response : Response) → Back agent (take fixed agent response).agent
back_take fixed agent response = search arith

back_on : (a b c : Agent) → Back a b → Back b c → Back a c
back_on a b c first then' = search arith

back_all : (fixed : Fixed) (i : ℕ) (events : List Event) (w : World) (old : Agent) → agent_at w i ≡ Some old → (new : Agent) × (agent_at (after fixed w events) i ≡ Some new) × Back old new
back_all fixed i [] w old is = (old, is, back_same old)
back_all fixed i (event ∷ events) w old is =
    let next = new_of Back old (agent_at w i) (agent_at (step fixed w event).world i) is (each_event fixed Back back_same (back_begin fixed) back_forget (back_take fixed) w event i) in
    let rest = back_all fixed i events (step fixed w event).world next.0 next.1 in
    (rest.0, rest.1, back_on old next.0 rest.0 next.2 rest.2)

-- ---- in the words of the premise

untold : (phase : Phase) → IsOpenPhase phase → is_told phase ≡ false
untold phase h1 = search arith

-- the agent runs the transaction, and its end is not fixed
pub record IsAtWork (w : World) (agent t : ℕ) : Type 0 where
  pub running : is_running w agent t ≡ true
  pub untold : is_telling w agent ≡ false

-- and who does
pub record Works (w : World) (agent t : ℕ) : Type 0 where
  pub actor : Actor
  pub there : actor_at w agent ≡ Some actor
  pub is_open : IsOpen actor.agent.doing
  pub runs_it : runs t actor.agent.doing ≡ true

pub works : (w : World) (agent t : ℕ) → IsAtWork w agent t → Works w agent t
works w agent t at = search arith

pub at_work : (w : World) (agent t : ℕ) (actor : Actor) → actor_at w agent ≡ Some actor → IsOpen actor.agent.doing → runs t actor.agent.doing ≡ true → IsAtWork w agent t
at_work w agent t actor there open' runs = search arith

-- a transaction that an agent runs is the last that it began
pub last_of : (ds : List Decided) (i count t : ℕ) (doing : Option Doing) → IsAt ds i count doing → runs t doing ≡ true → t + 64 ≡ 64 * count + i
last_of ds i count t doing h5 h6 = search arith

is_last : (ds : List Decided) (i count t : ℕ) (doing : Option Doing) → IsAt ds i count doing → IsOpen doing → t + 64 ≡ 64 * count + i → runs t doing ≡ true
is_last ds i count t doing h5 h6 h7 = search arith

-- ---- what is asked in an event

-- what a step asks is what its agent asks next
pub step_asks : (fixed : Fixed) (w : World) (i : ℕ) (found : Option Actor) (what : Served) → (steps_once fixed w i found).done.served ≡ Some what
    → (actor : Actor) × (found ≡ Some actor) × (next_of fixed actor.agent ≡ Some (what.server, what.request.value))
step_asks fixed w i None what is = absurd (none-some what is)
step_asks fixed w i (Some actor) what is = search (none-some, same_Some, arith)

pub operates_it : (w : World) (server : ℕ) (asked : Request) (found : Option State) (what : Served) → (operates w server asked found).done.served ≡ Some what → what.request.value ≡ asked
operates_it w server asked found what h5 = search arith

pub becomes_none : (w : World) (i : ℕ) (change : Agent → Agent) (found : Option Actor) → (becomes w i change found).done.served ≡ None
becomes_none w i change found = search arith

pub lacks_none : (fixed : Fixed) (w : World) (i : ℕ) (why : Why) (found : Option Actor) → (lacks fixed w i (Lacked why) found).done.served ≡ None
lacks_none fixed w i why found = search arith

-- ---- no event takes a lock of it where it is at work

pub rest_of : (a c d e h : Bool) → a ≡ false → c ≡ false → d ≡ true → (h || (not a && not c && (d && e))) ≡ false → e ≡ false
rest_of a c d e h apart told up calm = grind (arith, nat_tests)

no_finish : (asked : Request) (named : ℕ) (v : Verdict) → is_finish asked ≡ false → asked ≡ request.Finish named v → ⊥
no_finish asked named v other is = false≢true (sym other ∙ ap is_finish is)

event_spares : (given : Opening) (agent t : ℕ) (w : World) (event : Event) → IsAtWork w agent t → (hinders_itself given agent w event || robs given agent t w event) ≡ false
    → (st : State) → st.up ≡ true → (serves : Serves w (step (fixed_of given) w event)) → server_at w serves.target ≡ Some st → Spares t st serves.asked.value
event_spares given agent t w (Begin i job) at calm st up serves there named v is = absurd (none-some _ (sym (becomes_none w i (λ agent. begin (fixed_of given) agent job) (actor_at w i)) ∙ serves.done))
event_spares given agent t w (Crash server) at calm st up serves there named v is = search (no_finish, operates_it, arith)
event_spares given agent t w (Return server) at calm st up serves there named v is = search (no_finish, operates_it, arith)
event_spares given agent t w (Forget i site) at calm st up serves there named v is = absurd (none-some _ (sym (becomes_none w i (λ agent. forget agent site) (actor_at w i)) ∙ serves.done))
event_spares given agent t w (Lack i why) at calm st up serves there named v is = absurd (none-some _ (sym (lacks_none (fixed_of given) w i why (actor_at w i)) ∙ serves.done))
event_spares given agent t w (Step other) at calm st up serves there named v is = of (other == agent) refl
  where
    works_here : Works w agent t
    works_here = works w agent t at

    of : (b : Bool) → (other == agent) ≡ b → ((named == t) && list_any (λ (lock : Lock). lock.t == t) st.locks) ≡ false
    of true same =
        let asks = step_asks (fixed_of given) w other (actor_at w other) _ serves.done in
        let who : asks.0 ≡ works_here.actor = same_Some asks.0 works_here.actor (sym asks.1 ∙ ap (actor_at w) (eqb-true other agent same) ∙ works_here.there) in
        absurd (no_finish serves.asked.value named v
        (open_next (fixed_of given) asks.0.agent.doing (serves.target, serves.asked.value) asks.2 (subst (λ (actor : Actor). IsOpen actor.agent.doing) (sym who) works_here.is_open)) is)
    of false apart =
        ap (takes t st) (sym is)
        ∙ rest_of (other == agent) (is_telling w agent) st.up (takes t st serves.asked.value) (hinders_itself given agent w (Step other)) apart at.untold up
        (sym (ap (λ found. hinders_itself given agent w (Step other) || (not (other == agent) && not (is_telling w agent) && found))
        (ap (of_up (takes t) w) serves.done ∙ ap (up_and (takes t) serves.asked.value) there)) ∙ calm)

-- what a transaction asks: its locks in its own name, of what it asks for
abbrev pub OfAsks : ℕ → List (ℕ × LockMode) → Request → Type 0
OfAsks t asked (request.Poll named suite mode) = (named ≡ t) × Contains asked (suite, mode)
OfAsks t asked (request.Upgrade named suite) = (named ≡ t) × Contains asked (suite, Exclusive)
OfAsks t asked other = Unit {0}

-- ---- all along

pub after_append : (fixed : Fixed) (xs ys : List Event) (w : World) → after fixed w (xs ++ ys) ≡ after fixed (after fixed w xs) ys
after_append fixed [] ys w = refl
after_append fixed (x ∷ xs) ys w = after_append fixed xs ys (step fixed w x).world

module _ (given : Opening) (events later : List Event) (agent t : ℕ) (caller : Identity) (site : ℕ) (ops : List Op) (actor : Actor)
    (can : CanBe given (events ++ Begin agent (Transaction caller site ops) ∷ later)) (there : actor_at (run given events) agent ≡ Some actor)
    (begins_so : begins_job given (run given events) (Begin agent (Transaction caller site ops)) ≡ Some (t, Transaction caller site ops)) where
  abbrev job : Job
  job = Transaction caller site ops

  abbrev pub world_at : List Event → World
  world_at so_far = world_after given events agent caller site ops so_far

  pub run_at : (so_far : List Event) → world_at so_far ≡ run given (events ++ Begin agent job ∷ so_far)
  run_at so_far = sym (after_append (fixed_of given) events (Begin agent job ∷ so_far) (worlds.opening given))

  -- its agent, as it began
  first_agent : agent_at (world_at []) agent ≡ Some (begin (fixed_of given) actor.agent job)
  first_agent = ap agent_of (begun_there given events later agent t caller site ops actor can there begins_so)

  first_last : t + 64 ≡ 64 * (begin (fixed_of given) actor.agent job).count + agent
  first_last = search arith

  at_of : (so_far : List Event) (a : Agent) → agent_at (world_at so_far) agent ≡ Some a → IsAt (decisions given (events ++ Begin agent job ∷ so_far)) agent a.count a.doing
  at_of so_far a is = (holds_of given can.accepted (events ++ Begin agent job ∷ so_far)).agents.at agent a (ap (λ w. agent_at w agent) (sym (run_at so_far)) ∙ is)

  -- at each moment before one at which it is at work it is so too
  pub at_work_before : (so_far more : List Event) → IsAtWork (world_at (so_far ++ more)) agent t → IsAtWork (world_at so_far) agent t
  at_work_before so_far more at =
      let mid = back_all (fixed_of given) agent so_far (world_at []) (begin (fixed_of given) actor.agent job) first_agent in
      let end = back_all (fixed_of given) agent more (world_at so_far) mid.0 mid.1 in
      let now = works (world_at (so_far ++ more)) agent t at in
      let same : end.0 ≡ now.actor.agent = same_Some end.0 now.actor.agent (sym end.1 ∙ ap (λ w. agent_at w agent) (sym (after_append (fixed_of given) so_far more (world_at []))) ∙ ap agent_of now.there) in
      let last' = last_of (decisions given (events ++ Begin agent job ∷ (so_far ++ more))) agent now.actor.agent.count t now.actor.agent.doing (at_of (so_far ++ more) now.actor.agent (ap agent_of now.there)) now.runs_it in
      let counts : end.0.count ≡ now.actor.agent.count = ap (λ (a : Agent). a.count) same in
      let start = first_last in
      let one = mid.2.0 in
      let two = end.2.0 in
      let still : end.0.count ≡ mid.0.count = omega (arith, last', counts, start, one, two) in
      let mid_last : t + 64 ≡ 64 * mid.0.count + agent = omega (arith, last', counts, still) in
      let open' = end.2.1 still (subst (λ (a : Agent). IsOpen a.doing) (sym same) now.is_open) in
      of (actor_at (world_at so_far) agent) refl mid.0 mid.1 open' mid_last
    where
      of : (found : Option Actor) → actor_at (world_at so_far) agent ≡ found → (a : Agent) → agent_at (world_at so_far) agent ≡ Some a → IsOpen a.doing → t + 64 ≡ 64 * a.count + agent → IsAtWork (world_at so_far) agent t
      of found h1 a h3 h4 h5 = search (none-some, agent_of, same_Some, at_work, is_last, at_of, arith)

module _ (given : Opening) (events later : List Event) (agent t : ℕ) (caller : Identity) (site : ℕ) (ops : List Op) (actor : Actor) (goes : GoesAmongLocks given events later agent t caller site ops actor) where
  abbrev job_of : Job
  job_of = Transaction caller site ops

  abbrev first : World
  first = run given events

  abbrev asked : List (ℕ × LockMode)
  asked = asks_for given events t caller ops

  abbrev world_then : List Event → World
  world_then so_far = world_after given events agent caller site ops so_far

  -- who is open is there
  there_where : (w : World) (server : ℕ) (one : ℕ × LockMode) → is_open_at w t one.0 one.1 server ≡ true → (st : State) × (server_at w server ≡ Some st)
  there_where w server one = search arith

  -- ---- what is stored stays

  module _ (server : ℕ) (one : ℕ × LockMode) (near : goes.near server ≡ true) (has : Contains asked one) (open' : is_open_at first t one.0 one.1 server ≡ true) where
    open_at : (so_far rest : List Event) → later ≡ so_far ++ rest → IsAtWork (world_then so_far) agent t → is_open_at (world_then so_far) t one.0 one.1 server ≡ true
    open_at so_far rest is at = ap is_open_way ((goes.stays so_far rest is at.running).way server one near has) ∙ open'

    abbrev pub Same : World → Type 0
    Same w = (st old : State) → server_at w server ≡ Some st → server_at first server ≡ Some old → copy_of st.store one.0 ≡ copy_of old.store one.0

    same_first : Same (world_then [])
    same_first st old at was = search arith

    -- one event
    pub same_next : (so_far rest : List Event) (event : Event) → later ≡ so_far ++ event ∷ rest → IsAtWork (world_then so_far) agent t → Same (world_then so_far) → Same (step (fixed_of given) (world_then so_far) event).world
    same_next so_far rest event is at same new old now was =
        let w = world_then so_far in
        let is_open = open_at so_far (event ∷ rest) is at in
        let here = there_where w server one is_open in
        event_stands (fixed_of given) w event server t one.0 one.1 here.0 new here.1 now
        (all_consistent given (events ++ Begin agent job_of ∷ so_far) server here.0 (ap (λ w. server_at w server) (sym (run_at given events later agent t caller site ops actor goes.can goes.there goes.begins so_far)) ∙ here.1))
        (free_where t one.0 one.1 here.0 (ap (λ found. is_open_way (way_in t one.0 one.1 found)) (sym here.1) ∙ is_open))
        (λ serves target up. event_spares given agent t w event at (goes.free_hand so_far rest event is at.running) here.0 up serves (ap (server_at w) target ∙ here.1))
        ∙ same here.0 old here.1 was

    -- what an open near server had stored of a suite that it asks for it has stored still
    pub open_stands : (so_far rest : List Event) → later ≡ so_far ++ rest → IsAtWork (world_then so_far) agent t → Same (world_then so_far)
    open_stands = along later (λ so_far. IsAtWork (world_then so_far) agent t → Same (world_then so_far))
        (λ so_far rest event is same at.
        let now = at_work_before given events later agent t caller site ops actor goes.can goes.there goes.begins so_far (event ∷ []) at in
        subst Same (sym (after_append (fixed_of given) so_far (event ∷ []) (world_then []))) (same_next so_far rest event is now (same now)))
        (λ at. same_first)

  -- So a near server tells it of such a suite what it would have told at its begin.
  pub same_way : (so_far rest : List Event) → later ≡ so_far ++ rest → IsAtWork (world_then so_far) agent t → (server : ℕ) (one : ℕ × LockMode) → goes.near server ≡ true → Contains asked one
      → SameWay first (world_then so_far) server t one.0 one.1
  same_way so_far rest is at server one near has = search (open_stands, arith)

  -- ---- law 3's clause of what it asks

  told_so : (w : World) (server : ℕ) (question : Request) → OfAsks t asked question → ((one : ℕ × LockMode) → Contains asked one → SameWay first w server t one.0 one.1) → told_as_first first w server question
  told_so w server (request.Poll named suite mode) of_it same = subst (λ t. SameWay first w server t suite mode) (sym of_it.0) (same (suite, mode) of_it.1)
  told_so w server (request.Upgrade named suite) of_it same = subst (λ t. SameWay first w server t suite Exclusive) (sym of_it.0) (same (suite, Exclusive) of_it.1)
  told_so w server other of_it same = tt

  pub as_at_its_begin : (so_far rest : List Event) → later ≡ so_far ++ rest → IsAtWork (world_then so_far) agent t → (server : ℕ) (question : Request) → goes.near server ≡ true → OfAsks t asked question
      → AsAtItsBegin first (world_then so_far) server question
  as_at_its_begin so_far rest is at server question near of_it = search (told_so, same_way, arith)
