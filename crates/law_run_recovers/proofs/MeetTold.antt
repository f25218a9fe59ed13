-- Which servers granted a transaction a lock in its run, and which refused one: a server never does both, of one mode. So sights go by either.
use Rattle.law_run_recovers.proofs.Vocabulary.{◌≡◌, ⊎_elim, ℕ, Bool, true, false, List, [], ◌∷◌, ◌++◌, Option, Some, None, is_some, refl, sym, ap, subst, ◌∙◌, ◌==◌, ◌&&◌, ◌||◌, not, false≢true, and_parts, and_from, eqb-true, eq-eqb, arith, none-some}
use Rattle.law_run_recovers.proofs.Vocabulary.{same_Some, Identity, Opening, Prefix, LockMode, Shared, Exclusive, serves, Op, Request, Reply, Said, Asked, Poll, Upgrade, mode_of, mode_asked, request_for, Transaction, Replied, Fixed, Doing, Running}
use Rattle.law_run_recovers.proofs.Vocabulary.{RunningSweep, fixed_of, next_in, next_of, Exchange, locks, heard_in, is_finish, Served, Event, Begin, Step, Actor, World, actor_at, step, after, run, task_of, names, may_sweep, agents_ask_for_themselves}
use Rattle.law_run_recovers.proofs.Vocabulary.{names_mine, is_up, runs, begun_world, world_after, serves_itself, same_mode, or_right}
use Rattle.suite_collect.specs.Telling.{is_held}
use Rattle.rep_core.specs.declared.request.Request.TheVariants as request
use Rattle.rep_core.specs.declared.reply.Reply.TheVariants as reply
use Rattle.suite_collect.specs.declared.told.Said.TheVariants as said
use Rattle.law_run_recovers.proofs.Keeps.{IsAtWork, works, at_work, run_at, step_asks}
use Rattle.law_run_recovers.proofs.Sides.{compared, names_one}
use Rattle.law_run_recovers.proofs.Still.{IsOpen, open_where}
use Rattle.law_run_recovers.proofs.StepsServed.{own_took}
use Rattle.law_run_recovers.proofs.MeetCourse.{Fits}
use Rattle.law_run_recovers.proofs.MeetQuiet.{GoesQuietly, Heard, heard_at, never_refused, never_held}

-- ---- what was served

-- a request for a lock on a suite, in a transaction's name
abbrev pub for_lock : ℕ → ℕ → Request → Bool
for_lock t z (request.Poll u suite mode) = (u == t) && (suite == z)
for_lock t z (request.Upgrade u suite) = (u == t) && (suite == z)
for_lock t z other = false

abbrev pub says_held : Reply → Bool
says_held (reply.Held prefix dver) = true
says_held other = false

abbrev pub says_busy : Reply → Bool
says_busy (reply.Busy holder prepared) = true
says_busy other = false

-- a server granted such a lock in a mode, or in a stronger one
abbrev pub grants : ℕ → ℕ → LockMode → ℕ → Served → Bool
grants t z mode server what = (what.server == server) && (for_lock t z what.request.value && (says_held what.reply.value && serves (mode_of what.request.value) mode))

-- or it refused one in a mode, or in a weaker one
abbrev pub refuses : ℕ → ℕ → LockMode → ℕ → Served → Bool
refuses t z mode server what = (what.server == server) && (for_lock t z what.request.value && (says_busy what.reply.value && serves mode (mode_of what.request.value)))

-- in some step of an agent
abbrev pub of_served : (Served → Bool) → Option Served → Bool
of_served p (Some what) = p what
of_served p None = false

abbrev pub steps_so : (Served → Bool) → ℕ → Fixed → World → Event → Bool
steps_so p agent fixed w (Step other) = (other == agent) && of_served p (step fixed w (Step other)).done.served
steps_so p agent fixed w other = false

abbrev pub some_step : (Served → Bool) → ℕ → Fixed → World → List Event → Bool
some_step p agent fixed w [] = false
some_step p agent fixed w (event ∷ events) = steps_so p agent fixed w event || some_step p agent fixed (step fixed w event).world events

module _ (p : Served → Bool) (agent : ℕ) (fixed : Fixed) where
  pub record Found (w : World) (events : List Event) : Type 0 where
    pub front : List Event
    pub back : List Event
    pub parts : events ≡ front ++ Step agent ∷ back
    pub what : Served
    pub served : (step fixed (after fixed w front) (Step agent)).done.served ≡ Some what
    pub is : p what ≡ true

  found_here : (w : World) (event : Event) (events : List Event) → steps_so p agent fixed w event ≡ true → Found w (event ∷ events)
  found_here w (Step other) events is = of (step fixed w (Step other)).done.served refl parts.1
    where
      parts : ((other == agent) ≡ true) × (of_served p (step fixed w (Step other)).done.served ≡ true)
      parts = and_parts (other == agent) (of_served p (step fixed w (Step other)).done.served) is

      of : (found : Option Served) → (step fixed w (Step other)).done.served ≡ found → of_served p found ≡ true → Found w (Step other ∷ events)
      of None at so = absurd (false≢true so)
      of (Some what) at so =
          let same = eqb-true other agent parts.0 in
          record { front = []; back = events; parts = ap (λ i. Step i ∷ events) same; what = what; served = ap (λ i. (step fixed w (Step i)).done.served) (sym same) ∙ at; is = so }
  found_here w other events is = absurd (false≢true is)

  pub found_in : (w : World) (events : List Event) → some_step p agent fixed w events ≡ true → Found w events
  found_in w [] is = absurd (false≢true is)
  found_in w (event ∷ events) is = of (steps_so p agent fixed w event) refl is (found_in (step fixed w event).world events)
    where
      of : (b : Bool) → steps_so p agent fixed w event ≡ b → (b || some_step p agent fixed (step fixed w event).world events) ≡ true
          → (some_step p agent fixed (step fixed w event).world events ≡ true → Found (step fixed w event).world events) → Found w (event ∷ events)
      of true here is later = found_here w event events here
      of false here is later =
          let rest = later is in
          record { front = event ∷ rest.front; back = rest.back; parts = ap (λ events. event ∷ events) rest.parts; what = rest.what; served = rest.served; is = rest.is }

  pub there_in : (front back : List Event) (w : World) (what : Served) → (step fixed (after fixed w front) (Step agent)).done.served ≡ Some what → p what ≡ true → some_step p agent fixed w (front ++ Step agent ∷ back) ≡ true
  there_in [] back w what served is = search (eq-eqb, arith)
  there_in (event ∷ front) back w what served is = or_right (steps_so p agent fixed w event) _ (there_in front back (step fixed w event).world what served is)

-- ---- what is asked for

pub for_lock_named : (t z : ℕ) (asked : Request) → for_lock t z asked ≡ true → (names t asked ≡ true) × (locks z asked ≡ true) × (may_sweep asked ≡ false) × (is_finish asked ≡ false)
for_lock_named t z asked h3 = search arith

pub asks_lock : (t z : ℕ) (question : Asked) → for_lock t z (request_for t z question) ≡ true
asks_lock t z question = search arith

heard_held : (asked : Request) (answer : Reply) → says_held answer ≡ true → (s : Said) × (heard_in asked (Replied answer) ≡ Some s) × (is_held s ≡ true)
heard_held asked (reply.Held prefix dver) is = (said.Held prefix dver, refl, refl)
heard_held asked other is = absurd (false≢true is)

heard_busy : (asked : Request) (answer : Reply) → says_busy answer ≡ true → (s : Said) × (heard_in asked (Replied answer) ≡ Some s) × (is_held s ≡ false)
heard_busy asked (reply.Busy holder prepared) is = (said.Busy holder, refl, refl)
heard_busy asked other is = absurd (false≢true is)

never_both : (answer : Reply) → says_held answer ≡ true → says_busy answer ≡ true → ⊥
never_both answer h1 h2 = search arith

pub serves_over : (a b c : LockMode) → serves a b ≡ true → serves b c ≡ true → serves a c ≡ true
serves_over a b c h3 h4 = search arith

pub four : (a b c d : Bool) → (a && (b && (c && d))) ≡ true → (a ≡ true) × (b ≡ true) × (c ≡ true) × (d ≡ true)
four a b c d is = search arith

pub four_from : (a b c d : Bool) → a ≡ true → b ≡ true → c ≡ true → d ≡ true → (a && (b && (c && d))) ≡ true
four_from a b c d one two three four = and_from a (b && (c && d)) one (and_from b (c && d) two (and_from c d three four))

module _ (given : Opening) (base events later : List Event) (agent t : ℕ) (caller : Identity) (site : ℕ) (ops : List Op) (actor : Actor) (goes : GoesQuietly given base events later agent t caller site ops actor) where
  abbrev world_at : List Event → World
  world_at so_far = world_after given events agent caller site ops so_far

  -- who asks for a lock in its name is at work
  module _ (so_far rest : List Event) (split : later ≡ so_far ++ Step agent ∷ rest) (what : Served) (served : (step (fixed_of given) (world_after given events agent caller site ops so_far) (Step agent)).done.served ≡ Some what)
      (z : ℕ) (lock : for_lock t z what.request.value ≡ true) where
    pub asks : (here : Actor) × (actor_at (world_after given events agent caller site ops so_far) agent ≡ Some here) × (next_of (fixed_of given) here.agent ≡ Some (what.server, what.request.value))
    asks = step_asks (fixed_of given) (world_at so_far) agent (actor_at (world_at so_far) agent) what served

    pub asks_at_work : IsAtWork (world_after given events agent caller site ops so_far) agent t
    asks_at_work = of asks.0.agent.doing refl asks.2
      where
        of : (doing : Option Doing) → asks.0.agent.doing ≡ doing → next_in (fixed_of given) doing ≡ Some (what.server, what.request.value) → IsAtWork (world_after given events agent caller site ops so_far) agent t
        of None at next = absurd (none-some _ next)
        of (Some (RunningSweep sweep_run)) at next =
            absurd (⊎_elim
            (λ self. none-some self.task (sym (ap task_of at) ∙ self.running))
            (λ sweeps. false≢true (sym (for_lock_named t z what.request.value lock).2 ∙ sweeps.swept))
            (agents_ask_for_themselves given goes.can.accepted (events ++ Begin agent (Transaction caller site ops) ∷ so_far) agent asks.0 what.server what.request.value
            (ap (λ w. actor_at w agent) (sym (run_at given events later agent t caller site ops actor goes.can goes.there goes.begins so_far)) ∙ asks.1) asks.2))
        of (Some (Running txn_run)) at next =
            let facts = for_lock_named t z what.request.value lock in
            let same = names_one txn_run.task.t t what.request.value (names_mine (fixed_of given) txn_run.task.t (Some (Running txn_run)) (what.server, what.request.value) refl next) facts.0 in
            at_work (world_at so_far) agent t asks.0 asks.1
            (subst IsOpen (sym at) (open_where (fixed_of given) txn_run (what.server, what.request.value) next facts.3))
            (ap (runs t) at ∙ eq-eqb txn_run.task.t t same)

    pub its_heard : Heard given base events later agent t caller site ops actor goes so_far
    its_heard = heard_at given base events later agent t caller site ops actor goes so_far (Step agent ∷ rest) split asks_at_work

    next_heard : next_of (fixed_of given) its_heard.here.agent ≡ Some (what.server, what.request.value)
    next_heard = ap (λ (a : Actor). next_of (fixed_of given) a.agent) (same_Some its_heard.here asks.0 (sym its_heard.there ∙ asks.1)) ∙ asks.2

    -- what was told of that server and suite before
    module _ (front back : List Event) (other : Served) (parts : so_far ≡ front ++ Step agent ∷ back) (served' : (step (fixed_of given) (world_at front) (Step agent)).done.served ≡ Some other)
        (same : other.server ≡ what.server) (lock' : for_lock t z other.request.value ≡ true) where
      abbrev past_one : Exchange
      past_one = record { server = other.server; request = other.request.value; response = Replied other.reply.value }

      pub not_refused : says_busy other.reply.value ≡ true → ⊥
      not_refused busy =
          let heard = heard_busy other.request.value other.reply.value busy in
          false≢true (sym heard.2 ∙ never_refused given base events later agent t caller site ops actor goes so_far its_heard (what.server, what.request.value) next_heard z (for_lock_named t z what.request.value lock).1
          past_one heard.0 (its_heard.past front back other parts served') same (for_lock_named t z other.request.value lock').1 heard.1)

      pub not_held : says_held other.reply.value ≡ true → serves (mode_of other.request.value) (mode_of what.request.value) ≡ true → ⊥
      not_held held strong =
          let heard = heard_held other.request.value other.reply.value held in
          false≢true (sym (never_held given base events later agent t caller site ops actor goes so_far its_heard (what.server, what.request.value) next_heard z (for_lock_named t z what.request.value lock).1
          past_one heard.0 (its_heard.past front back other parts served') same (for_lock_named t z other.request.value lock').1 heard.1 heard.2) ∙ strong)

  -- ---- never both

  abbrev pub held : ℕ → LockMode → ℕ → Bool
  held z mode server = some_step (grants t z mode server) agent (fixed_of given) (begun_world given events agent caller site ops) later

  abbrev pub barred : ℕ → LockMode → ℕ → Bool
  barred z mode server = some_step (refuses t z mode server) agent (fixed_of given) (begun_world given events agent caller site ops) later

  pub not_both : (z : ℕ) (mode : LockMode) (server : ℕ) → held z mode server ≡ true → barred z mode server ≡ true → ⊥
  not_both z mode server is_held' is_barred =
      ⊎_elim
      (λ same. never_both g.what.reply.value (granted.2) (subst (λ (what : Served). says_busy what.reply.value ≡ true) (sym (same_what same.0)) refused.2))
      (λ order. ⊎_elim
      (λ first. not_held r.front r.back r.parts r.what r.served z refused.1 g.front first.0 g.what first.1 g.served servers granted.1 granted.2 (serves_over _ mode _ granted.3 refused.3))
      (λ second. not_refused g.front g.back g.parts g.what g.served z granted.1 r.front second.0 r.what second.1 r.served (sym servers) refused.1 refused.2)
      order)
      (compared g.front r.front (Step agent) (Step agent) g.back r.back (sym g.parts ∙ r.parts))
    where
      g : Found (grants t z mode server) agent (fixed_of given) (begun_world given events agent caller site ops) later
      g = found_in (grants t z mode server) agent (fixed_of given) (begun_world given events agent caller site ops) later is_held'

      r : Found (refuses t z mode server) agent (fixed_of given) (begun_world given events agent caller site ops) later
      r = found_in (refuses t z mode server) agent (fixed_of given) (begun_world given events agent caller site ops) later is_barred

      granted : ((g.what.server == server) ≡ true) × (for_lock t z g.what.request.value ≡ true) × (says_held g.what.reply.value ≡ true) × (serves (mode_of g.what.request.value) mode ≡ true)
      granted = four (g.what.server == server) (for_lock t z g.what.request.value) (says_held g.what.reply.value) (serves (mode_of g.what.request.value) mode) g.is

      refused : ((r.what.server == server) ≡ true) × (for_lock t z r.what.request.value ≡ true) × (says_busy r.what.reply.value ≡ true) × (serves mode (mode_of r.what.request.value) ≡ true)
      refused = four (r.what.server == server) (for_lock t z r.what.request.value) (says_busy r.what.reply.value) (serves mode (mode_of r.what.request.value)) r.is

      servers : g.what.server ≡ r.what.server
      servers = eqb-true g.what.server server granted.0 ∙ sym (eqb-true r.what.server server refused.0)

      same_what : g.front ≡ r.front → g.what ≡ r.what
      same_what same = same_Some g.what r.what (sym g.served ∙ ap (λ front. (step (fixed_of given) (world_at front) (Step agent)).done.served) same ∙ r.served)

  -- ---- so the sights fit

  abbrev pub opens_held : ℕ → LockMode → ℕ → Bool
  opens_held z mode server = is_up (run given base) server && held z mode server

  abbrev pub opens_free : ℕ → LockMode → ℕ → Bool
  opens_free z mode server = is_up (run given base) server && not (barred z mode server)

  -- what holds of one mode holds of the other
  wider : (p q : Served → Bool) → ((what : Served) → p what ≡ true → q what ≡ true) → (events : List Event) (w : World) → some_step p agent (fixed_of given) w events ≡ true → some_step q agent (fixed_of given) w events ≡ true
  wider p q so events w is =
      let f = found_in p agent (fixed_of given) w events is in
      subst (λ events. some_step q agent (fixed_of given) w events ≡ true) (sym f.parts) (there_in q agent (fixed_of given) f.front f.back w f.what f.served (so f.what f.is))

  pub held_weaker : (z server : ℕ) → opens_held z Exclusive server ≡ true → opens_held z Shared server ≡ true
  held_weaker z server is = search (and_parts, and_from, wider, four, four_from, serves_over, arith)

  pub free_weaker : (z server : ℕ) → opens_free z Exclusive server ≡ true → opens_free z Shared server ≡ true
  free_weaker z server is = search (and_parts, and_from, wider, four, four_from, false≢true, arith)

  up_first : (z : ℕ) (mode : LockMode) (server : ℕ) (b : Bool) → (is_up (run given base) server && b) ≡ true → is_up (run given base) server ≡ true
  up_first z mode server b is = (and_parts (is_up (run given base) server) b is).0

  pub held_up : (z : ℕ) (mode : LockMode) (server : ℕ) → opens_held z mode server ≡ true → is_up (run given base) server ≡ true
  held_up z mode server is = up_first z mode server (held z mode server) is

  pub free_up : (z : ℕ) (mode : LockMode) (server : ℕ) → opens_free z mode server ≡ true → is_up (run given base) server ≡ true
  free_up z mode server is = up_first z mode server (not (barred z mode server)) is

  module _ (so_far rest : List Event) (split : later ≡ so_far ++ Step agent ∷ rest) (work : IsAtWork (world_at so_far) agent t) (what : Served) (served : (step (fixed_of given) (world_at so_far) (Step agent)).done.served ≡ Some what)
      (z : ℕ) (question : Asked) (is : what.request.value ≡ request_for t z question) where
    there_up : is_up (run given base) what.server ≡ true
    there_up =
        let now = works (world_at so_far) agent t work in
        let took = own_took (fixed_of given) (world_at so_far) agent now.actor now.there (ap is_some served) in
        let same = same_Some _ what (sym took.done ∙ served) in
        subst (λ server. is_up (run given base) server ≡ true) (ap (λ (what : Served). what.server) same) (goes.up so_far (Step agent ∷ rest) split took.asked.0 took.st took.at).1

    lock_so : for_lock t z what.request.value ≡ true
    lock_so = ap (for_lock t z) is ∙ asks_lock t z question

    mode_so : mode_of what.request.value ≡ mode_asked question
    mode_so = ap mode_of is ∙ same_mode t z question

    held_so : (prefix : Prefix) (dver : ℕ) → what.reply.value ≡ reply.Held prefix dver → held z (mode_asked question) what.server ≡ true
    held_so prefix dver said' =
        subst (λ events'. some_step (grants t z (mode_asked question) what.server) agent (fixed_of given) (begun_world given events agent caller site ops) events' ≡ true) (sym split)
        (there_in (grants t z (mode_asked question) what.server) agent (fixed_of given) so_far rest (begun_world given events agent caller site ops) what served
        (four_from (what.server == what.server) (for_lock t z what.request.value) (says_held what.reply.value) (serves (mode_of what.request.value) (mode_asked question)) (eq-eqb what.server what.server refl) lock_so (ap says_held said')
        (ap (λ mode. serves mode (mode_asked question)) mode_so ∙ serves_itself (mode_asked question))))

    barred_so : (holder : ℕ) (prepared : Bool) → what.reply.value ≡ reply.Busy holder prepared → barred z (mode_asked question) what.server ≡ true
    barred_so holder prepared said' =
        subst (λ events'. some_step (refuses t z (mode_asked question) what.server) agent (fixed_of given) (begun_world given events agent caller site ops) events' ≡ true) (sym split)
        (there_in (refuses t z (mode_asked question) what.server) agent (fixed_of given) so_far rest (begun_world given events agent caller site ops) what served
        (four_from (what.server == what.server) (for_lock t z what.request.value) (says_busy what.reply.value) (serves (mode_asked question) (mode_of what.request.value)) (eq-eqb what.server what.server refl) lock_so (ap says_busy said')
        (ap (λ mode. serves (mode_asked question) mode) mode_so ∙ serves_itself (mode_asked question))))

  closed_by : (a b : Bool) → (b ≡ true → ⊥) → (a && b) ≡ false
  closed_by a b h2 = search arith

  free_by : (b : Bool) → (b ≡ true → ⊥) → not b ≡ true
  free_by b h1 = search arith

  pub held_fits : Fits given base events later agent t caller site ops actor goes opens_held
  held_fits so_far rest split work what served z question is = (
    λ prefix dver said'. and_from (is_up (run given base) what.server) (held z (mode_asked question) what.server) (there_up so_far rest split work what served z question is)
        (held_so so_far rest split work what served z question is prefix dver said'),
    λ holder prepared said'. closed_by (is_up (run given base) what.server) (held z (mode_asked question) what.server)
        (λ held'. not_both z (mode_asked question) what.server held' (barred_so so_far rest split work what served z question is holder prepared said')),
  )

  pub free_fits : Fits given base events later agent t caller site ops actor goes opens_free
  free_fits so_far rest split work what served z question is = (
    λ prefix dver said'. and_from (is_up (run given base) what.server) (not (barred z (mode_asked question) what.server)) (there_up so_far rest split work what served z question is)
        (free_by (barred z (mode_asked question) what.server) (λ barred'. not_both z (mode_asked question) what.server (held_so so_far rest split work what served z question is prefix dver said') barred')),
    λ holder prepared said'. closed_by (is_up (run given base) what.server) (not (barred z (mode_asked question) what.server))
        (λ free. false≢true (ap not (sym (barred_so so_far rest split work what served z question is holder prepared said')) ∙ free)),
  )
