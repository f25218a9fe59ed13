-- A transaction that goes among locks that stay has none once it has ended: each server that gave it one was told how it ended.
use Rattle.law_run_recovers.proofs.Vocabulary.{◌≡◌, ◌⊎◌, inl, inr, ⊎_elim, ℕ, ◌+◌, ◌≤◌, ◌<◌, Bool, true, false, List, [], ◌∷◌, ◌++◌, append-nil, length, Option, Some, None, is_some, refl, sym, ap, subst, ◌∙◌, arith, ◌*◌, ◌==◌, ◌&&◌, ◌||◌, slice_get}
use Rattle.law_run_recovers.proofs.Vocabulary.{slice_set, list_any, false≢true, and_parts, and_from, eqb-true, eq-eqb, or_right, list_any-append, same_Some, slice_get_within, Identity, max_servers, Opening, Op, Lock, Request, Reply, Stamped, State}
use Rattle.law_run_recovers.proofs.Vocabulary.{reply_of, served, answer_of, Has, contains_from, has_filter, filter_has, has_map, any_has, has_any, Transaction, Replied, numbers_from, is_finish, Agent, fixed_of, is_idle, next_of, begin, Exchange}
use Rattle.law_run_recovers.proofs.Vocabulary.{exchange_of, exchanges, locks, says_held, was_held, exchanges-take, exchanges-forget, Served, Event, Begin, Step, Actor, World, server_at, step, run, so_many, puts_in, stage, wants_lock, was_locked}
use Rattle.law_run_recovers.proofs.Vocabulary.{locked, sent_to, IsInOrder, up_in, is_up, locks_in, locks_at, world_after, GoesAmongLocks, Always, AmongLocksLeaveNoLockAt, or_left}
use Rattle.law_agents.proofs.Orders.{stages_rise, all_finish}
use Rattle.law_run_recovers.specs.Sweeping.{has_any as any_of}
use Rattle.rep_core.specs.declared.request.Request.TheVariants as request
use Rattle.txn_core.specs.Agents as agents
use Rattle.law_agents.specs.Orders as orders
use Rattle.law_run_recovers.proofs.Apart.{Apart, event_apart}
use Rattle.law_run_recovers.proofs.Keeps.{run_at}
use Rattle.law_run_recovers.proofs.Locked.{freed}
use Rattle.law_run_recovers.proofs.KnownStays.{among_numbers}
use Rattle.law_run_recovers.proofs.NearGround.{number, first_asked, opens_up}
use Rattle.law_run_recovers.proofs.Serves.{On, Told, told_on}
use Rattle.law_run_recovers.proofs.StepsServed.{OwnTook, own_took}
use Rattle.law_run_recovers.proofs.AmongCourse.{Course, runs_it, next_is, running_now, course_runs, apart_on}
use Rattle.law_run_recovers.proofs.Steady.{GoesSteadily, steady, never_hindered}
use Rattle.law_run_recovers.proofs.AmongEnds.{Over, over_on, over_now}
use Rattle.law_run_recovers.proofs.AmongOver.{never_others, never_over, ended_over, course_not_over}
use Rattle.law_run_recovers.proofs.AmongBegin.{idle_before, first_course, none_there}
use Rattle.law_run_recovers.proofs.AmongStep.{is_then, own_on}
use Rattle.law_run_recovers.proofs.Picks.{along}

-- ---- exchanges

held-append : (past later : List Exchange) (number who : ℕ) → was_held (past ++ later) number who ≡ (was_held past number who || was_held later number who)
held-append [] later number who = refl
held-append (one ∷ past) later number who = search (held-append past later number who, arith)

-- a server was told how it ended
abbrev pub was_done : List Exchange → ℕ → Bool
was_done past server = list_any (λ (one : Exchange). (one.server == server) && is_finish one.request) past

not_finish : (asked : Request) (n : ℕ) → n < 3 → stage asked ≤ n → is_finish asked ≡ false
not_finish asked n h2 h3 = search arith

none_of : (a b : Bool) → ((a && false) || b) ≡ b
none_of a b = search arith

-- before its end is fixed none was
pub none_done : (past : List Exchange) (n : ℕ) → n < 3 → ((one : Exchange) → Has past one → stage one.request ≤ n) → (server : ℕ) → was_done past server ≡ false
none_done [] n few all server = refl
none_done (one ∷ past) n few all server = search (not_finish, none_of, none_done past n few, arith)

pub done_of : (past : List Exchange) (server : ℕ) → Has (sent_to is_finish past) server → was_done past server ≡ true
done_of past server has = search (has_map, has_filter, has_any, and_from, eq-eqb, arith)

wants_it : (z : ℕ) (asked : Request) → locks z asked ≡ true → wants_lock asked ≡ true
wants_it z asked h2 = search arith

-- who gave a lock is one of those that hold one
pub locked_of : (past : List Exchange) (z server : ℕ) → was_held past z server ≡ true → was_locked past server ≡ true
locked_of past z server is = search (any_has, and_parts, has_any, and_from, wants_it, arith)

both_none : (a b : Bool) → a ≡ false → b ≡ false → (a || (b || false)) ≡ false
both_none a b h2 h3 = search arith

-- ---- all along

module _ (given : Opening) (events later : List Event) (agent t : ℕ) (caller : Identity) (site : ℕ) (ops : List Op) (actor : Actor) (among : GoesAmongLocks given events later agent t caller site ops actor) where
  abbrev goes : GoesSteadily given events later agent t caller site ops actor
  goes = steady given events later agent t caller site ops actor among

  abbrev world_at : List Event → World
  world_at so_far = world_after given events agent caller site ops so_far

  abbrev all : List Event → List Event
  all so_far = events ++ Begin agent (Transaction caller site ops) ∷ so_far

  abbrev begun_agent : Agent
  begun_agent = begin (fixed_of given) actor.agent (Transaction caller site ops)

  abbrev past : List agents.Event → List Exchange
  past told = exchanges (fixed_of given) begun_agent told

  -- it has no lock at all
  abbrev pub HasNone : List Event → Type 0
  HasNone so_far = (server z : ℕ) → On (locks_at (world_after given events agent caller site ops so_far) server) t z → ⊥

  -- where it has a lock the server was told to hold one, and not how it ended
  abbrev Held : List Event → List agents.Event → Type 0
  Held so_far told = (server z : ℕ) → On (locks_at (world_after given events agent caller site ops so_far) server) t z → (was_held (past told) z server ≡ true) × (was_done (past told) server ≡ false)

  same_run : (so_far : List Event) → world_after given events agent caller site ops so_far ≡ run given (events ++ Begin agent (Transaction caller site ops) ∷ so_far)
  same_run = run_at given events later agent t caller site ops actor goes.can goes.there goes.begins

  next_on : (so_far : List Event) (event : Event) (server z : ℕ) → On (locks_at (world_after given events agent caller site ops (so_far ++ event ∷ [])) server) t z
      → On (locks_at (step (fixed_of given) (world_after given events agent caller site ops so_far) event).world server) t z
  next_on so_far event server z on = subst (λ w. On (locks_at w server) t z) (next_is given events later agent t caller site ops actor goes so_far event) on

  -- once it has ended it gets none
  none_on : (so_far : List Event) (event : Event) → Over given events later agent t caller site ops actor goes so_far → HasNone so_far → HasNone (so_far ++ event ∷ [])
  none_on so_far event over none server z on =
      ⊎_elim (λ old. none server z old) (λ told. never_over given events later agent t caller site ops actor goes so_far event server told.0 over)
      (told_on (fixed_of given) (world_at so_far) event server t z (next_on so_far event server z on))

  -- ---- a step of its own

  module _ (so_far rest : List Event) (split : later ≡ so_far ++ Step agent ∷ rest) (c : Course given events later agent t caller site ops actor goes so_far)
      (took : OwnTook (fixed_of given) (world_after given events agent caller site ops so_far) agent c.here c.there (step (fixed_of given) (world_after given events agent caller site ops so_far) (Step agent)))
      (held : Held so_far c.told) where
    abbrev said : Reply
    said = reply_of took.st took.asked.1

    abbrev told_then : List agents.Event
    told_then = c.told ++ agents.Take (Replied (reply_of took.st took.asked.1)) ∷ []

    abbrev one : Exchange
    one = record { server = took.asked.0; request = took.asked.1; response = Replied (reply_of took.st took.asked.1) }

    abbrev stamped : Stamped Request
    stamped = record { stamp = c.here.stamp; value = took.asked.1 }

    next_asked : next_of (fixed_of given) (agents.after_all (fixed_of given) begun_agent c.told) ≡ Some took.asked
    next_asked = ap (next_of (fixed_of given)) (sym c.is) ∙ took.next

    past_is : past told_then ≡ past c.told ++ one ∷ []
    past_is = exchanges-take (fixed_of given) begun_agent c.told (Replied said) ∙ ap (λ asked. past c.told ++ exchange_of asked (Replied said)) next_asked

    in_order : IsInOrder actor.agent (past c.told) took.asked.1
    in_order = stages_rise (fixed_of given) actor.agent caller site ops c.told took.asked.0 took.asked.1 (idle_before given events later agent t caller site ops actor goes) next_asked

    held_is : (z server : ℕ) → was_held (past told_then) z server ≡ (was_held (past c.told) z server || was_held (one ∷ []) z server)
    held_is z server = ap (λ past. was_held past z server) past_is ∙ held-append (past c.told) (one ∷ []) z server

    done_is : (server : ℕ) → was_done (past told_then) server ≡ (was_done (past c.told) server || was_done (one ∷ []) server)
    done_is server = ap (λ past. was_done past server) past_is ∙ list_any-append (λ (one : Exchange). (one.server == server) && is_finish one.request) (past c.told) (one ∷ [])

    -- the server where it has a lock is up
    up_here : (z : ℕ) → On (locks_at (world_after given events agent caller site ops so_far) took.asked.0) t z → took.st.up ≡ true
    up_here z on =
        let opens = opens_up given events later agent t caller site ops actor goes z (first_asked given events later agent t caller site ops actor goes z) took.asked.0 (c.locks took.asked.0 z on) in
        let parts = and_parts (goes.near took.asked.0) (is_up (run given events) took.asked.0) opens in
        ap up_in (sym took.at)
        ∙ (among.stays so_far (Step agent ∷ rest) split (running_now given events later agent t caller site ops actor goes so_far rest (Step agent) split c)).up took.asked.0 parts.0 ∙ parts.1

    -- one that it tells now how it ended has no lock of it then
    done_none : (server z : ℕ) → On (locks_at (world_after given events agent caller site ops so_far) server) t z
        → On (locks_at (step (fixed_of given) (world_after given events agent caller site ops so_far) (Step agent)).world server) t z → ((took.asked.0 == server) && is_finish took.asked.1) ≡ true → ⊥
    done_none server z before on is =
        let parts = and_parts (took.asked.0 == server) (is_finish took.asked.1) is in
        let here : took.asked.0 ≡ server = eqb-true took.asked.0 server parts.0 in
        of took.asked.1 refl parts.1
        (up_here z (subst (λ i. On (locks_at (world_after given events agent caller site ops so_far) i) t z) (sym here) before))
        (subst (λ locks. Has locks on.lock)
        (ap (λ servers. locks_in (slice_get servers server)) took.servers
        ∙ ap (λ i. locks_in (slice_get (slice_set (world_at so_far).servers took.asked.0 (served took.st stamped)) i)) (sym here)
        ∙ ap locks_in (puts_in (world_at so_far).servers took.asked.0 took.st (served took.st stamped) took.at).here) on.has)
      where
        of : (asked : Request) → took.asked.1 ≡ asked → is_finish asked ≡ true → took.st.up ≡ true → Has (served took.st (record { stamp = c.here.stamp; value = took.asked.1 })).locks on.lock → ⊥
        of (request.Finish u v) is finish up has =
            let numbered : u ≡ t = ap orders.number_of (sym is) ∙ in_order.number ∙ number_so in
            freed took.st u v on.lock up (subst (λ asked. Has (served took.st (record { stamp = c.here.stamp; value = asked })).locks on.lock) is has) (on.of_it ∙ sym numbered)
          where
            number_so : 64 * actor.agent.count + actor.agent.index ≡ t
            number_so = number given events later agent t caller site ops actor goes
        of other is finish up has = false≢true finish

    pub held_then : Held (so_far ++ Step agent ∷ []) told_then
    held_then server z on' = ⊎_elim old new (told_on (fixed_of given) (world_at so_far) (Step agent) server t z on)
      where
        on : On (locks_at (step (fixed_of given) (world_after given events agent caller site ops so_far) (Step agent)).world server) t z
        on = next_on so_far (Step agent) server z on'

        old : On (locks_at (world_after given events agent caller site ops so_far) server) t z → (was_held (past told_then) z server ≡ true) × (was_done (past told_then) server ≡ false)
        old before =
            let was = held server z before in (
              held_is z server ∙ or_left (was_held (past c.told) z server) (was_held (one ∷ []) z server) was.0,
              done_is server
                  ∙ both_none (was_done (past c.told) server) ((took.asked.0 == server) && is_finish took.asked.1) was.1 (no ((took.asked.0 == server) && is_finish took.asked.1) refl),
            )
          where
            no : (b : Bool) → ((took.asked.0 == server) && is_finish took.asked.1) ≡ b → b ≡ false
            no true is = absurd (done_none server z before on is)
            no false is = refl

        new : ((told : Told (fixed_of given) (world_after given events agent caller site ops so_far) (Step agent) t server) × (told.told.suite ≡ z)) → (was_held (past told_then) z server ≡ true) × (was_done (past told_then) server ≡ false)
        new told =
            let same : the (record { server = took.asked.0; request = stamped; reply = answer_of took.st stamped }) ≡ told.0.what = same_Some _ told.0.what (sym took.done ∙ told.0.served) in
            let polled : took.asked.1 ≡ request.Poll t told.0.told.suite told.0.told.mode = ap (λ (what : Served). what.request.value) same ∙ told.0.told.poll in
            let at : took.asked.0 ≡ server = ap (λ (what : Served). what.server) same ∙ told.0.at in
            let says : says_held (Replied said) ≡ true = ap (λ (what : Served). says_held (Replied what.reply.value)) same ∙ ap (λ reply. says_held (Replied reply)) told.0.told.reply in
            let few : stage took.asked.1 ≡ 0 = ap stage polled in (
              held_is z server ∙ or_right (was_held (past c.told) z server) (was_held (one ∷ []) z server)
                  (three (took.asked.0 == server) (locks z took.asked.1) (says_held (Replied said)) (eq-eqb took.asked.0 server at) (ap (locks z) polled ∙ eq-eqb told.0.told.suite z told.1) says),
              done_is server ∙ both_none (was_done (past c.told) server) ((took.asked.0 == server) && is_finish took.asked.1)
                  (none_done (past c.told) 0 (omega arith) (λ other has. let rises = in_order.none_later other (contains_from (past c.told) other has) in omega (arith, rises, few)) server)
                  (ap (λ asked. (took.asked.0 == server) && is_finish asked) polled ∙ none_and (took.asked.0 == server)),
            )
          where
            the : Served → Served
            the what = what

            three : (a b c : Bool) → a ≡ true → b ≡ true → c ≡ true → ((a && b && c) || false) ≡ true
            three a b c h3 h4 h5 = search (false≢true, arith)

            none_and : (a : Bool) → (a && false) ≡ false
            none_and a = search arith

    -- where it ends all that gave a lock were told
    pub none_then : is_idle took.new.agent.doing ≡ true → HasNone (so_far ++ Step agent ∷ [])
    none_then idle server z on =
        let was = held_then server z on in
        let sent = all_finish (fixed_of given) actor.agent caller site ops told_then (idle_before given events later agent t caller site ops actor goes)
        (ap (λ (a : Agent). is_idle a.doing) (sym (is_then given events later agent t caller site ops actor goes so_far rest split c (runs_it given events later agent t caller site ops actor goes so_far c) took)) ∙ idle) in
        let there : Has (locked (past told_then)) server = filter_has (was_locked (past told_then)) (numbers_from 0 max_servers) server (among_numbers max_servers 0 server (omega arith) (few server on.lock on.has))
        (locked_of (past told_then) z server was.0) in
        false≢true (sym was.1 ∙ done_of (past told_then) server (subst (λ list. Has list server) (sym sent) there))
      where
        few : (server : ℕ) (lock : Lock) → Has (locks_at (world_after given events agent caller site ops (so_far ++ Step agent ∷ [])) server) lock → server < 0 + max_servers
        few server lock has = of (server_at (world_after given events agent caller site ops (so_far ++ Step agent ∷ [])) server) refl has
          where
            of : (found : Option State) → server_at (world_after given events agent caller site ops (so_far ++ Step agent ∷ [])) server ≡ found → Has (locks_in found) lock → server < 0 + max_servers
            of None at has = absurd has
            of (Some st) at has =
                let w = world_after given events agent caller site ops (so_far ++ Step agent ∷ []) in
                let within : server < length w.servers = slice_get_within w.servers server st at in
                let many : length w.servers ≡ given.servers = ap (λ (w : World). length w.servers) (same_run (so_far ++ Step agent ∷ [])) ∙ (so_many given (all (so_far ++ Step agent ∷ []))).0 in
                let most = goes.can.accepted.some_servers.1 in
                omega (arith, within, many, most)

  -- ---- it goes on, or has ended and has none

  abbrev pub Left : List Event → Type 0
  Left so_far = ((c : Course given events later agent t caller site ops actor goes so_far) × Held so_far c.told) ⊎ (Over given events later agent t caller site ops actor goes so_far × HasNone so_far)

  left_first : Left []
  left_first = inl (first_course given events later agent t caller site ops actor goes, λ server z on. absurd (none_there given events later agent t caller site ops actor goes server z on))

  left_on : (so_far rest : List Event) (event : Event) → later ≡ so_far ++ event ∷ rest → Left so_far → Left (so_far ++ event ∷ [])
  left_on so_far rest event split (inr over) = inr (over_on given events later agent t caller site ops actor goes so_far event over.0, none_on so_far event over.0 over.1)
  left_on so_far rest event split (inl on) =
      ⊎_elim aside own
      (event_apart given agent (world_at so_far) on.0.here on.0.there on.0.busy event
      (never_hindered given events later agent t caller site ops actor among so_far rest event split (course_runs given events later agent t caller site ops actor goes so_far on.0)))
    where
      same_held : (told : List agents.Event) → past told ≡ past on.0.told → (event ≡ Step agent → ⊥) → Held (so_far ++ event ∷ []) told
      same_held told same apart server z there =
          ⊎_elim (λ old. let was = on.1 server z old in (ap (λ past. was_held past z server) same ∙ was.0, ap (λ past. was_done past server) same ∙ was.1))
          (λ told. absurd (never_others given events later agent t caller site ops actor goes so_far event server told.0 apart))
          (told_on (fixed_of given) (world_at so_far) event server t z (next_on so_far event server z there))

      same_past : (told : List agents.Event) → (told ≡ on.0.told) ⊎ ((site' : ℕ) × (told ≡ on.0.told ++ agents.Forget site' ∷ [])) → past told ≡ past on.0.told
      same_past told h1 = search (exchanges-forget, arith)

      aside : Apart given agent (world_after given events agent caller site ops so_far) on.0.here on.0.there on.0.busy (step (fixed_of given) (world_after given events agent caller site ops so_far) event) × (event ≡ Step agent → ⊥)
          → Left (so_far ++ event ∷ [])
      aside apart =
          let next = apart_on given events later agent t caller site ops actor goes so_far rest event split on.0 apart.0 apart.1 in
          inl (
            next.0,
            same_held next.0.told (same_past next.0.told next.1) apart.1,
          )

      own : (event ≡ Step agent) × (is_some (step (fixed_of given) (world_after given events agent caller site ops so_far) event).done.served ≡ true) → Left (so_far ++ event ∷ [])
      own is =
          let split' : later ≡ so_far ++ Step agent ∷ rest = split ∙ ap (λ event. so_far ++ event ∷ rest) is.0 in
          let took = own_took (fixed_of given) (world_at so_far) agent on.0.here on.0.there (subst (λ event. is_some (step (fixed_of given) (world_after given events agent caller site ops so_far) event).done.served ≡ true) is.0 is.1) in
          subst (λ event. Left (so_far ++ event ∷ [])) (sym is.0)
          (⊎_elim
          (λ goes_on. inl (goes_on.0, subst (Held (so_far ++ Step agent ∷ [])) (sym goes_on.1) (held_then so_far rest split' on.0 took on.1)))
          (λ ended. inr (over_now given events later agent t caller site ops actor goes so_far (Step agent) ended.0 ended.1 ended.2, none_then so_far rest split' on.0 took on.1 ended.3))
          (own_on given events later agent t caller site ops actor goes so_far rest split' on.0 (runs_it given events later agent t caller site ops actor goes so_far on.0) took))

  -- at each moment
  pub left_at : (so_far rest : List Event) → later ≡ so_far ++ rest → Left so_far
  left_at = along later Left left_on left_first

  -- once it has ended it has none
  pub none_left : Over given events later agent t caller site ops actor goes later → HasNone later
  none_left over = ⊎_elim (λ on. absurd (course_not_over given events later agent t caller site ops actor goes later on.0 over)) (λ left. left.1) (left_at later [] (sym (append-nil later)))

pub among_locks_leave_no_lock : Always AmongLocksLeaveNoLockAt
among_locks_leave_no_lock given events later agent t caller site ops actor goes it server = of (any_of t (locks_at (run given (events ++ Begin agent (Transaction caller site ops) ∷ later)) server)) refl
  where
    of : (b : Bool) → any_of t (locks_at (run given (events ++ Begin agent (Transaction caller site ops) ∷ later)) server) ≡ b → b ≡ false
    of false is = refl
    of true is =
        let some = any_has (λ (lock : Lock). lock.t == t) (locks_at (run given (events ++ Begin agent (Transaction caller site ops) ∷ later)) server) is in
        absurd (none_left given events later agent t caller site ops actor goes (ended_over given events later agent t caller site ops actor (steady given events later agent t caller site ops actor goes) it.job it.ends) server some.0.suite
        (subst (λ w. On (locks_at w server) t some.0.suite) (sym (run_at given events later agent t caller site ops actor goes.can goes.there goes.begins later))
        (record { lock = some.0; has = some.1; of_it = eqb-true some.0.t t some.2; on_it = refl })))
