-- A transaction in whose run nothing is decided that touches it: no server is down or crashes, nobody takes a lock of it, and of what it asks for stored copies and rows stand still.
use Rattle.law_run_recovers.proofs.Vocabulary.{◌≡◌, ◌⊎◌, ⊎_elim, ℕ, Bool, true, false, cond, List, [], ◌∷◌, ◌++◌, Some, is_some, refl, sym, ap, subst, ◌∙◌, ◌==◌, ◌&&◌, ◌||◌, not, nat_lt, false≢true, and_parts, and_from, arith, eq-eqb, same_Some}
use Rattle.law_run_recovers.proofs.Vocabulary.{Identity, Opening, Prefix, LockMode, Shared, serves, Op, Request, reply_of, copy_of, State, Has, has_any, find_some, Said, mode_of, Transaction, Replied, Agent, fixed_of, is_idle, next_of, take, begin}
use Rattle.law_run_recovers.proofs.Vocabulary.{forget, after_all, Exchange, of_job, locks, has_said, is_said, holding, refusing, heard_in, after-append, exchanges-take, exchanges-forget, Served, Event, Begin, Step, Actor, World, server_at, actor_at}
use Rattle.law_run_recovers.proofs.Vocabulary.{step, run, table_of, WasPrefix, beginning, machine_of, append_has_left, append_has_right, CanBe, begins_job, is_up, shown_at, asks_for, row_of, MayStart, begun_world, world_after, robs, hinders_itself}
use Rattle.law_run_recovers.proofs.Vocabulary.{bereaves, not-true}
use Rattle.suite_collect.specs.Telling.{is_held}
use Rattle.law_agents.proofs.Gathered.{gathers_in_order}
use Rattle.law_agents.specs.Orders.{number_of}
use Rattle.rep_core.specs.declared.request.Request.TheVariants as request
use Rattle.txn_core.specs.Agents as agents
use Rattle.law_agents.specs.Gathers as gathers
use Rattle.law_run_recovers.proofs.AmongCourse.{parted}
use Rattle.law_run_recovers.proofs.Apart.{Apart, event_apart}
use Rattle.law_run_recovers.proofs.Found.{Answering}
use Rattle.law_run_recovers.proofs.Keeps.{IsAtWork, after_append, at_work_before}
use Rattle.law_run_recovers.proofs.Open.{begun_there}
use Rattle.law_run_recovers.proofs.Polled.{dver_at}
use Rattle.law_run_recovers.proofs.Stands.{asks_of}
use Rattle.law_run_recovers.proofs.StepsServed.{own_took}
use Rattle.law_run_recovers.proofs.Picks.{along}

module _ (given : Opening) (base events later : List Event) (agent t : ℕ) (caller : Identity) (site : ℕ) (ops : List Op) (actor : Actor) where
  abbrev then : List Event → World
  then so_far = world_after given events agent caller site ops so_far

  -- All that follows goes back to the world after the base events, in which what is stored of what it asks for is in effect; and what it asks for is read off their table.
  pub record GoesQuietly : Type 0 where
    pub can : CanBe given (events ++ Begin agent (Transaction caller site ops) ∷ later)
    pub can_base : CanBe given base
    pub answers : (z : ℕ) → asks_of (asks_for given base t caller ops) z ≡ true → Answering (fixed_of given) (run given base) z (machine_of given z base) (is_up (run given base))
    pub there : actor_at (run given events) agent ≡ Some actor
    pub begins : begins_job given (run given events) (Begin agent (Transaction caller site ops)) ≡ Some (t, Transaction caller site ops)
    pub spared : (so_far rest : List Event) (event : Event) → later ≡ so_far ++ event ∷ rest → IsAtWork (then so_far) agent t
        → (hinders_itself given agent (then so_far) event || (robs given agent t (then so_far) event || bereaves given agent t (then so_far) event)) ≡ false
    pub up : (so_far rest : List Event) → later ≡ so_far ++ rest → (server : ℕ) (st : State) → server_at (then so_far) server ≡ Some st → (st.up ≡ true) × (is_up (run given base) server ≡ true)
    pub stored : (so_far rest : List Event) → later ≡ so_far ++ rest → (server : ℕ) (st : State) → server_at (then so_far) server ≡ Some st → (z : ℕ) → asks_of (asks_for given base t caller ops) z ≡ true
        → ((copy_of st.store z).prefix ≡ shown_at (fixed_of given) (run given base) z server) × ((copy_of st.store z).dver ≡ dver_at (run given base) z server)
    pub tables : (so_far rest : List Event) → later ≡ so_far ++ rest → (z : ℕ) → asks_of (asks_for given base t caller ops) z ≡ true
        → row_of (table_of given (events ++ Begin agent (Transaction caller site ops) ∷ so_far)).rows z ≡ row_of (table_of given base).rows z
    pub starts : (z : ℕ) (start : Prefix) → asks_of (asks_for given base t caller ops) z ≡ true → MayStart (fixed_of given) actor.agent.cache site z start → WasPrefix (beginning z given) (machine_of given z base).log start

-- ---- what it was told

three : (a b c : Bool) → (a && b && c) ≡ true → (a ≡ true) × (b ≡ true) × (c ≡ true)
three a b c is = let front = and_parts (a && b) c is in let two = and_parts a b front.0 in (two.0, two.1, front.1)

module _ (given : Opening) (base events later : List Event) (agent t : ℕ) (caller : Identity) (site : ℕ) (ops : List Op) (actor : Actor) (goes : GoesQuietly given base events later agent t caller site ops actor) where
  abbrev pub world_at : List Event → World
  world_at so_far = world_after given events agent caller site ops so_far

  abbrev pub begun : Agent
  begun = begin (fixed_of given) actor.agent (Transaction caller site ops)

  -- what was served to it stands among its exchanges
  abbrev pub exchange : Served → Exchange
  exchange what = record { server = what.server; request = what.request.value; response = Replied what.reply.value }

  abbrev pub past_of : List agents.Event → List Exchange
  past_of told = of_job (fixed_of given) actor.agent (Transaction caller site ops) told

  pub record Heard (so_far : List Event) : Type 0 where
    pub here : Actor
    pub there : actor_at (world_after given events agent caller site ops so_far) agent ≡ Some here
    pub told : List agents.Event
    pub is : here.agent ≡ after_all (fixed_of given) (begin (fixed_of given) actor.agent (Transaction caller site ops)) told
    pub past : (front back : List Event) (what : Served) → so_far ≡ front ++ Step agent ∷ back → (step (fixed_of given) (world_at front) (Step agent)).done.served ≡ Some what → Has (past_of told) (exchange what)

  pub next_is : (so_far : List Event) (event : Event) → world_after given events agent caller site ops (so_far ++ event ∷ []) ≡ (step (fixed_of given) (world_after given events agent caller site ops so_far) event).world
  next_is so_far event = after_append (fixed_of given) so_far (event ∷ []) (begun_world given events agent caller site ops)

  pub heard_first : Heard []
  heard_first = record {
    here = record actor { agent = begin (fixed_of given) actor.agent (Transaction caller site ops) };
    there = begun_there given events later agent t caller site ops actor goes.can goes.there goes.begins;
    told = [];
    is = refl;
    past = λ front back what is. absurd (nil_not front back is);
  }
    where
      nil_not : (front back : List Event) → [] ≡ front ++ Step agent ∷ back → ⊥
      nil_not [] back is = cc
      nil_not (one ∷ front) back is = cc

  -- at its begin it was told nothing
  pub first_untold : (one : Exchange) → Has (past_of heard_first.told) one → ⊥
  unfolding heard_first
  first_untold one has = has

  module _ (so_far rest : List Event) (event : Event) (split : later ≡ so_far ++ event ∷ rest) (work : IsAtWork (world_after given events agent caller site ops so_far) agent t) where
    pub unhindered : hinders_itself given agent (world_after given events agent caller site ops so_far) event ≡ false
    unhindered = search arith

    pub here_open : (here : Actor) → actor_at (world_after given events agent caller site ops so_far) agent ≡ Some here → is_idle here.agent.doing ≡ false
    here_open here there = search arith

    -- its own step, or one that is apart from it
    pub parts : (here : Actor) (there : actor_at (world_after given events agent caller site ops so_far) agent ≡ Some here)
        → (Apart given agent (world_after given events agent caller site ops so_far) here there (here_open here there) (step (fixed_of given) (world_after given events agent caller site ops so_far) event) × (event ≡ Step agent → ⊥))
        ⊎ ((event ≡ Step agent) × (is_some (step (fixed_of given) (world_after given events agent caller site ops so_far) event).done.served ≡ true))
    parts here there = event_apart given agent (world_at so_far) here there (here_open here there) event unhindered

    heard_on : Heard so_far → Heard (so_far ++ event ∷ [])
    heard_on h = ⊎_elim aside own (parts h.here h.there)
      where
        -- no step of its own is new
        old_past : (event ≡ Step agent → ⊥) → (told : List agents.Event) → past_of told ≡ past_of h.told → (front back : List Event) (what : Served) → so_far ++ event ∷ [] ≡ front ++ Step agent ∷ back
            → (step (fixed_of given) (world_at front) (Step agent)).done.served ≡ Some what → Has (past_of told) (exchange what)
        old_past other told same front back what is served = search (parted, arith)

        aside : Apart given agent (world_after given events agent caller site ops so_far) h.here h.there (here_open h.here h.there)
            (step (fixed_of given) (world_after given events agent caller site ops so_far) event) × (event ≡ Step agent → ⊥) → Heard (so_far ++ event ∷ [])
        aside apart = ⊎_elim
            (λ same. record {
              here = apart.0.new;
              there = ap (λ w. actor_at w agent) (next_is so_far event) ∙ apart.0.now;
              told = h.told;
              is = same ∙ h.is;
              past = old_past apart.1 h.told refl;
            })
            (λ gone. record {
              here = apart.0.new;
              there = ap (λ w. actor_at w agent) (next_is so_far event) ∙ apart.0.now;
              told = h.told ++ agents.Forget gone.0 ∷ [];
              is = gone.1 ∙ ap (λ a. forget a gone.0) h.is ∙ sym (after-append (fixed_of given) begun h.told (agents.Forget gone.0));
              past = old_past apart.1 (h.told ++ agents.Forget gone.0 ∷ []) (exchanges-forget (fixed_of given) begun h.told gone.0);
            })
            apart.0.is

        own : (event ≡ Step agent) × (is_some (step (fixed_of given) (world_after given events agent caller site ops so_far) event).done.served ≡ true) → Heard (so_far ++ event ∷ [])
        own is =
            let took = own_took (fixed_of given) (world_at so_far) agent h.here h.there (subst (λ event. is_some (step (fixed_of given) (world_at so_far) event).done.served ≡ true) is.0 is.1) in
            let said = reply_of took.st took.asked.1 in
            let told : List agents.Event = h.told ++ agents.Take (Replied said) ∷ [] in
            record {
              here = took.new;
              there = ap (λ w. actor_at w agent) (next_is so_far event) ∙ ap (λ event. actor_at (step (fixed_of given) (world_at so_far) event).world agent) is.0 ∙ took.now;
              told = told;
              is = took.took ∙ ap (λ a. (take (fixed_of given) a (Replied said)).agent) h.is ∙ sym (after-append (fixed_of given) begun h.told (agents.Take (Replied said)));
              past = search (exchanges-take, same_Some, append_has_right, append_has_left, parted, arith);
            }

  -- at each moment at which it is at work
  pub heard_at : (so_far rest : List Event) → later ≡ so_far ++ rest → IsAtWork (world_after given events agent caller site ops so_far) agent t → Heard so_far
  heard_at =
      along later (λ so_far. IsAtWork (world_at so_far) agent t → Heard so_far)
      (λ so_far rest event split before work.
      let here = at_work_before given events later agent t caller site ops actor goes.can goes.there goes.begins so_far (event ∷ []) work in heard_on so_far rest event split here (before here))
      (λ work. heard_first)

  pub idle_before : is_idle actor.agent.doing ≡ true
  idle_before = search arith

  -- ---- whom it asks for a lock, it was not refused by, and does not hold it there

  module _ (so_far : List Event) (h : Heard so_far) (asked : ℕ × Request) (next : next_of (fixed_of given) h.here.agent ≡ Some asked) (z : ℕ) (lock : locks z asked.1 ≡ true) where
    asking : gathers.IsGathering (fixed_of given) actor.agent (Transaction caller site ops) h.told asked.0 z asked.1
    asking = gathers_in_order (fixed_of given) actor.agent (Transaction caller site ops) h.told asked.0 z asked.1 idle_before (ap (next_of (fixed_of given)) (sym h.is) ∙ next) lock

    left : (nat_lt 0 asking.has ≡ true) × (has_said (past_of h.told) z (holding asking.mode) asked.0 ≡ false) × (has_said (past_of h.told) z refusing asked.0 ≡ false)
    left =
        let parts = three (nat_lt 0 asking.has) (not (has_said (past_of h.told) z (holding asking.mode) asked.0)) (not (has_said (past_of h.told) z refusing asked.0))
        (find_some (gathers.is_left (past_of h.told) z asking.mode) asking.votes.reps (asked.0, asking.has) asking.first).1 in
        (parts.0, not-true (has_said (past_of h.told) z (holding asking.mode) asked.0) parts.1, not-true (has_said (past_of h.told) z refusing asked.0) parts.2)

    mode_is : mode_of asked.1 ≡ asking.mode
    mode_is = of (has_said (past_of h.told) z (holding Shared) asked.0) refl asking.mode asking.asks left.1
      where
        of : (b : Bool) → has_said (past_of h.told) z (holding Shared) asked.0 ≡ b → (mode : LockMode) → asked.1 ≡ cond b (request.Upgrade (number_of asked.1) z) (request.Poll (number_of asked.1) z mode)
            → has_said (past_of h.told) z (holding mode) asked.0 ≡ false → mode_of asked.1 ≡ mode
        of b h1 mode h3 h4 = search (false≢true, arith)

    pub never_refused : (one : Exchange) (said : Said) → Has (past_of h.told) one → one.server ≡ asked.0 → locks z one.request ≡ true → heard_in one.request one.response ≡ Some said → is_held said ≡ true
    never_refused one said has at of_z heard = of (is_held said) refl
      where
        of : (b : Bool) → is_held said ≡ b → b ≡ true
        of true is = refl
        of false is =
            absurd (false≢true (sym left.2
            ∙ has_any (λ (one : Exchange). (one.server == asked.0) && locks z one.request && is_said refusing one.request (heard_in one.request one.response)) (past_of h.told) one has
            (and_from ((one.server == asked.0) && locks z one.request) (is_said refusing one.request (heard_in one.request one.response)) (and_from (one.server == asked.0) (locks z one.request) (eq-eqb one.server asked.0 at) of_z)
            (ap (is_said refusing one.request) heard ∙ ap not is))))

    pub never_held : (one : Exchange) (said : Said) → Has (past_of h.told) one → one.server ≡ asked.0 → locks z one.request ≡ true → heard_in one.request one.response ≡ Some said → is_held said ≡ true
        → serves (mode_of one.request) (mode_of asked.1) ≡ false
    never_held one said has at of_z heard held = of (serves (mode_of one.request) (mode_of asked.1)) refl
      where
        of : (b : Bool) → serves (mode_of one.request) (mode_of asked.1) ≡ b → b ≡ false
        of false is = refl
        of true is =
            absurd (false≢true (sym left.1
            ∙ has_any (λ (one : Exchange). (one.server == asked.0) && locks z one.request && is_said (holding asking.mode) one.request (heard_in one.request one.response)) (past_of h.told) one has
            (and_from ((one.server == asked.0) && locks z one.request) (is_said (holding asking.mode) one.request (heard_in one.request one.response))
            (and_from (one.server == asked.0) (locks z one.request) (eq-eqb one.server asked.0 at) of_z)
            (ap (is_said (holding asking.mode) one.request) heard ∙ and_from (is_held said) (serves (mode_of one.request) asking.mode) held (subst (λ mode. serves (mode_of one.request) mode ≡ true) mode_is is)))))
