-- A transaction that is begun again and again where its votes are up: one of as many tries as there are servers is decided.
use Rattle.law_run_recovers.proofs.Vocabulary.{◌≡◌, inl, inr, ⊎_elim, ℕ, zero, suc, ◌+◌, ◌<◌, Bool, true, false, List, [], ◌∷◌, ◌++◌, append_assoc, length, Some, is_some, refl, sym, ap, subst, ◌∙◌, arith, ◌*◌, ◌&&◌, slice_get, false≢true, and_parts}
use Rattle.law_run_recovers.proofs.Vocabulary.{slice_get_within, Identity, Opening, State, Has, has_from, any_has, contains_from, Op, Job, Transaction, Fixed, home_of, fixed_of, is_idle, Event, Begin, Actor, World, actor_at, has_no_job, opening}
use Rattle.law_run_recovers.proofs.Vocabulary.{step, after, dones, outcomes, run, table_of, dones-append, outcomes-append, so_many, CanBe, begins_job, can_front, up_in, is_up, up_free, unhindered_from, VotesAreUp, GoesAlone, again, goes_again}
use Rattle.law_run_recovers.proofs.Vocabulary.{OneIsDecided, Always, OneOfThemIsDecidedAt}
use Rattle.run_core.proofs.Appending as appending
use Rattle.law_run_recovers.proofs.Homes.{homes_go_round}
use Rattle.law_run_recovers.proofs.AmongOver.{has_after}
use Rattle.law_run_recovers.proofs.Tries.{ends_decided, Left, left_so}

-- ---- lists

has_left : {X : Type 0} (xs ys : List X) (x : X) → Has xs x → Has (xs ++ ys) x
has_left [] ys x has = absurd has
has_left (z ∷ xs) ys x has = ⊎_elim (λ same. inl same) (λ more. inr (has_left xs ys x more)) has

has_right : {X : Type 0} (xs ys : List X) (x : X) → Has ys x → Has (xs ++ ys) x
has_right [] ys x has = has
has_right (z ∷ xs) ys x has = inr (has_right xs ys x has)

record AtPlace {X : Type 0} (xs : List X) (x : X) : Type 0 where
  i : ℕ
  at : slice_get xs i ≡ Some x

has_place : {X : Type 0} (xs : List X) (x : X) → Has xs x → AtPlace xs x
has_place [] x has = absurd has
has_place (y ∷ ys) x has = ⊎_elim (λ same. record { i = 0; at = ap (λ y. Some y) same }) (λ more. let rest = has_place ys x more in record { i = suc rest.i; at = rest.at }) has

none_more : (c a : ℕ) → 64 * (c + 0) + a ≡ 64 * c + a
none_more c a = omega arith

some : (more n : ℕ) → more < suc n → 0 < suc n
some more n less = omega arith

moves : (c d k a : ℕ) → d ≡ c + 1 → 64 * (c + suc k) + a ≡ 64 * (d + k) + a
moves c d k a is = omega (arith, is)

less_suc : (k n : ℕ) → k < n → suc k < suc n
less_suc k n less = omega (arith, less)

suc_less : (k n : ℕ) → suc k < suc n → k < n
suc_less k n less = omega (arith, less)

-- ---- one try after the other

begins_is : (given : Opening) (world : World) (agent : ℕ) (job : Job) (actor : Actor) → actor_at world agent ≡ Some actor → is_some (begins_job given world (Begin agent job)) ≡ true
    → (begins_job given world (Begin agent job) ≡ Some (64 * actor.agent.count + agent, job)) × (is_idle actor.agent.doing ≡ true)
begins_is given world agent job actor there some = search arith

idle_before : (given : Opening) (agent : ℕ) (job : Job) (world : World) (tries : List (List Event)) → goes_again given agent job world tries ≡ true → has_no_job (actor_at world agent) ≡ true
idle_before given agent its_job world [] goes = goes
idle_before given agent its_job world (later ∷ tries) goes = search (some, and_parts, begins_is, arith)

module _ (given : Opening) (agent : ℕ) (caller : Identity) (site : ℕ) (ops : List Op) where
  abbrev the_job : Job
  the_job = Transaction caller site ops

  abbrev its_fixed : Fixed
  its_fixed = fixed_of given

  in_try : (world : World) (later rest : List Event) → OneIsDecided (outcomes (dones its_fixed (step its_fixed world (Begin agent the_job)).world later)) agent
      → OneIsDecided (outcomes (dones its_fixed world (Begin agent the_job ∷ later ++ rest))) agent
  in_try world later rest one = search (has_left, has_from, dones-append, outcomes-append, contains_from, has_after, arith)

  in_rest : (world : World) (later rest : List Event) → OneIsDecided (outcomes (dones its_fixed (after its_fixed (step its_fixed world (Begin agent the_job)).world later) rest)) agent
      → OneIsDecided (outcomes (dones its_fixed world (Begin agent the_job ∷ later ++ rest))) agent
  in_rest world later rest one = search (has_right, has_from, dones-append, outcomes-append, contains_from, has_after, arith)

  tries_on : (tries : List (List Event)) (events : List Event) (actor : Actor) → CanBe given (events ++ again agent the_job tries) → actor_at (run given events) agent ≡ Some actor → up_free (run given events) ≡ true
      → ((more : ℕ) → more < length tries → VotesAreUp its_fixed (run given events) (table_of given events) actor.agent.cache (64 * (actor.agent.count + more) + agent) site caller ops)
      → goes_again given agent the_job (run given events) tries ≡ true → (more : ℕ) → more < length tries → is_up (run given events) (home_of its_fixed.service (64 * (actor.agent.count + more) + agent)) ≡ true
      → OneIsDecided (outcomes (dones its_fixed (run given events) (again agent the_job tries))) agent
  tries_on [] events actor can there free votes goes more few home = absurd (omega (arith, few))
  tries_on (later ∷ tries) events actor can there free votes goes more few home = of (is_up first (home_of its_fixed.service t)) refl (λ events actor. tries_on tries events actor)
    where
      first : World
      first = run given events

      t : ℕ
      t = 64 * actor.agent.count + agent

      begun : World
      begun = (step its_fixed first (Begin agent the_job)).world

      parts : ((is_some (begins_job given (run given events) (Begin agent (Transaction caller site ops))) && unhindered_from given agent (step its_fixed (run given events) (Begin agent the_job)).world later) ≡ true)
          × (goes_again given agent the_job (after its_fixed (step its_fixed (run given events) (Begin agent the_job)).world later) tries ≡ true)
      parts = and_parts (is_some (begins_job given (run given events) (Begin agent (Transaction caller site ops))) && unhindered_from given agent (step its_fixed (run given events) (Begin agent the_job)).world later)
          (goes_again given agent the_job (after its_fixed (step its_fixed (run given events) (Begin agent the_job)).world later) tries) goes

      calm : (is_some (begins_job given (run given events) (Begin agent (Transaction caller site ops))) ≡ true) × (unhindered_from given agent (step its_fixed (run given events) (Begin agent the_job)).world later ≡ true)
      calm = and_parts (is_some (begins_job given (run given events) (Begin agent (Transaction caller site ops)))) (unhindered_from given agent (step its_fixed (run given events) (Begin agent the_job)).world later) parts.0

      goes_so : GoesAlone given events later agent (64 * actor.agent.count + agent) caller site ops actor
      goes_so = record {
        can = can_front given (events ++ Begin agent the_job ∷ later) (again agent the_job tries) (subst (CanBe given) (sym (append_assoc events (Begin agent the_job ∷ later) (again agent the_job tries))) can);
        there = there;
        begins = (begins_is given (run given events) agent the_job actor there calm.0).0;
        free = free;
        alone = calm.1;
      }

      met : VotesAreUp its_fixed (run given events) (table_of given events) actor.agent.cache (64 * actor.agent.count + agent) site caller ops
      met = subst (λ n. VotesAreUp its_fixed (run given events) (table_of given events) actor.agent.cache n site caller ops) (none_more actor.agent.count agent) (votes 0 (some more (length tries) few))

      idle : has_no_job (actor_at (after its_fixed begun later) agent) ≡ true
      idle = idle_before given agent the_job (after its_fixed begun later) tries parts.1

      of : (b : Bool) → is_up first (home_of its_fixed.service t) ≡ b
          → ((events : List Event) (actor : Actor) → CanBe given (events ++ again agent the_job tries) → actor_at (run given events) agent ≡ Some actor → up_free (run given events) ≡ true
          → ((more : ℕ) → more < length tries → VotesAreUp its_fixed (run given events) (table_of given events) actor.agent.cache (64 * (actor.agent.count + more) + agent) site caller ops)
          → goes_again given agent the_job (run given events) tries ≡ true → (more : ℕ) → more < length tries → is_up (run given events) (home_of its_fixed.service (64 * (actor.agent.count + more) + agent)) ≡ true
          → OneIsDecided (outcomes (dones its_fixed (run given events) (again agent the_job tries))) agent)
          → OneIsDecided (outcomes (dones its_fixed first (again agent the_job (later ∷ tries)))) agent
      of true up go = in_try first later (again agent the_job tries) (ends_decided given events later agent t caller site ops actor goes_so idle met up)
      of false down go = by more few home
        where
          next : List Event
          next = events ++ Begin agent the_job ∷ later

          it : Left given events later agent (64 * actor.agent.count + agent) caller site ops actor goes_so idle
          it = left_so given events later agent (64 * actor.agent.count + agent) caller site ops actor goes_so idle down

          here : Actor
          here = it.here

          same : run given (events ++ Begin agent the_job ∷ later) ≡ after its_fixed (step its_fixed (run given events) (Begin agent the_job)).world later
          same = appending.after-append its_fixed (opening given) events (Begin agent the_job ∷ later)

          number_then : (k : ℕ) → 64 * (actor.agent.count + suc k) + agent ≡ 64 * (here.agent.count + k) + agent
          number_then k = moves actor.agent.count here.agent.count k agent it.count

          by : (more : ℕ) → more < length (later ∷ tries) → is_up first (home_of its_fixed.service (64 * (actor.agent.count + more) + agent)) ≡ true
              → OneIsDecided (outcomes (dones its_fixed first (again agent the_job (later ∷ tries)))) agent
          by zero few home = absurd (false≢true (sym down ∙ ap (λ n. is_up first (home_of its_fixed.service n)) (sym (none_more actor.agent.count agent)) ∙ home))
          by (suc k) few home =
              in_rest first later (again agent the_job tries)
              (subst (λ w. OneIsDecided (outcomes (dones its_fixed w (again agent the_job tries))) agent) same
              (go next here
              (subst (CanBe given) (sym (append_assoc events (Begin agent the_job ∷ later) (again agent the_job tries))) can)
              (ap (λ w. actor_at w agent) same ∙ it.there)
              (ap up_free same ∙ it.is_free)
              (λ j few'. subst (λ w. VotesAreUp its_fixed w (table_of given next) here.agent.cache (64 * (here.agent.count + j) + agent) site caller ops) (sym same)
              (it.votes (64 * (here.agent.count + j) + agent)
              (subst (λ n. VotesAreUp its_fixed first (table_of given events) actor.agent.cache n site caller ops) (number_then j) (votes (suc j) (less_suc j (length tries) few')))))
              (ap (λ w. goes_again given agent the_job w tries) same ∙ parts.1)
              k (suc_less k (length tries) few)
              (ap (λ w. is_up w (home_of its_fixed.service (64 * (here.agent.count + k) + agent))) same
              ∙ it.up (home_of its_fixed.service (64 * (here.agent.count + k) + agent))
              ∙ ap (λ n. is_up first (home_of its_fixed.service n)) (sym (number_then k)) ∙ home)))

pub one_of_them_is_decided : Always OneOfThemIsDecidedAt
one_of_them_is_decided given events tries agent caller site ops actor can many there free some votes goes =
    let world = run given events in
    let up = any_has (λ (st : State). st.up) world.servers some in
    let place = has_place world.servers up.0 up.1 in
    let few : place.i < length world.servers = slice_get_within world.servers place.i up.0 place.at in
    let servers = (so_many given events).0 in
    let agents' = (so_many given events).1 in
    let placed : agent < length world.agents = slice_get_within world.agents agent actor there in
    let most = can.accepted.some_agents.1 in
    let home = homes_go_round given agent actor.agent.count place.i (omega (arith, placed, agents', most)) (omega (arith, few, servers)) in
    let more_few = home.few in
    tries_on given agent caller site ops tries events actor can there free (λ more less. votes more (omega (arith, less, many))) goes home.more (omega (arith, more_few, many))
    (ap (is_up world) home.home ∙ ap up_in place.at ∙ up.2)
