-- What a transaction that goes steadily knows after a step of it is so on the table of its begin, whatever others have decided since.
use Rattle.law_run_recovers.proofs.Vocabulary.{◌≡◌, ◌≢◌, true, false, List, [], ◌∷◌, ◌++◌, append_assoc, Option, Some, None, refl, sym, ap, subst, ◌∙◌, ℕ, ◌==◌, unwrap_or, nat_cmp, false≢true, and_parts, eqb-true, none-some, IsOrdered, arith}
use Rattle.law_run_recovers.proofs.Vocabulary.{Identity, Opening, Prefix, Replica, Shared, Op, row_of, AgreesWith, IsSoAt, Lock, Verdict, is_own, lock_at, State, record_of, Has, find_some, Transaction, ReadPoint, GatheredSuite, suite_of, known_of}
use Rattle.law_run_recovers.proofs.Vocabulary.{TransactionRun, Running, fixed_of, is_decide, Event, Begin, Step, Actor, World, server_at, actor_at, step, run, table_of, row, IsKnown, Answered, IsQuorum, effect, beginning, hold_of, showed, showed_to}
use Rattle.law_run_recovers.proofs.Vocabulary.{known_by, machine_of, servers_of, OwesKnown, register, row_shown, all_shown, CanBe, all_keep, holds_after, known_owed, no_record, Stands, all_consistent, is_resolve, locks_in, locks_at, is_open_way}
use Rattle.law_run_recovers.proofs.Vocabulary.{is_open_at, way_in, shows_same, begun_world, world_after}
use Rattle.law_suite_machine.specs.Machine.{Hold, Told}
use Rattle.file_exec.specs.Known as known
use Rattle.rep_core.specs.State as state
use Rattle.law_one_table.proofs.Effects as effects
use Rattle.law_run_recovers.proofs.Steady.{GoesSteadily}
use Rattle.law_run_recovers.proofs.AsBegun.{row_same, stored_effect}
use Rattle.law_run_recovers.proofs.Asking.{known_if_first, known_in, known_is}
use Rattle.law_run_recovers.proofs.AtWork.{locks_stand, stands_next}
use Rattle.law_run_recovers.proofs.Keeps.{IsAtWork, after_append, run_at}
use Rattle.law_run_recovers.proofs.KnownIsTheTables.{unrecorded_on, unanswered, knows_registers, knows_table}
use Rattle.law_run_recovers.proofs.Locked.{free_beside}
use Rattle.law_run_recovers.proofs.NearGround.{its, first_asked, can_first}
use Rattle.law_run_recovers.proofs.Serves.{On}
use Rattle.law_run_recovers.proofs.Stand.{free_where}
use Rattle.law_run_recovers.proofs.Stands.{asks_of, locks_on}
use Rattle.law_run_recovers.proofs.StepsServed.{OwnTook}
use Rattle.law_run_recovers.proofs.AmongAt.{IsSpared, HasWhereOpen, ShowsWhereLocked, can_so_far}
use Rattle.law_run_recovers.proofs.Unrobbed.{unrecorded_at}

module _ (given : Opening) (events later : List Event) (agent t : ℕ) (caller : Identity) (site : ℕ) (ops : List Op) (actor : Actor) (goes : GoesSteadily given events later agent t caller site ops actor) (so_far rest : List Event)
    (split : later ≡ so_far ++ Step agent ∷ rest) (work : IsAtWork (world_after given events agent caller site ops so_far) agent t) (spared : IsSpared given events later agent t caller site ops actor goes (so_far ++ Step agent ∷ []))
    (here : Actor) (there : actor_at (world_after given events agent caller site ops so_far) agent ≡ Some here)
    (took : OwnTook (fixed_of given) (world_after given events agent caller site ops so_far) agent here there (step (fixed_of given) (world_after given events agent caller site ops so_far) (Step agent)))
    (undecided : is_decide took.asked.1 ≡ false) (unresolved : is_resolve took.asked.1 ≡ false) where
  abbrev next : List Event
  next = so_far ++ Step agent ∷ []

  abbrev all : List Event
  all = events ++ Begin agent (Transaction caller site ops) ∷ (so_far ++ Step agent ∷ [])

  abbrev world_at : List Event → World
  world_at so_far = world_after given events agent caller site ops so_far

  split_on : later ≡ (so_far ++ Step agent ∷ []) ++ rest
  split_on = split ∙ sym (append_assoc so_far (Step agent ∷ []) rest)

  can : CanBe given (events ++ Begin agent (Transaction caller site ops) ∷ (so_far ++ Step agent ∷ []))
  can = can_so_far given events later agent t caller site ops actor goes (so_far ++ Step agent ∷ []) rest split_on

  is_run : world_after given events agent caller site ops (so_far ++ Step agent ∷ []) ≡ run given (events ++ Begin agent (Transaction caller site ops) ∷ (so_far ++ Step agent ∷ []))
  is_run = run_at given events later agent t caller site ops actor goes.can goes.there goes.begins (so_far ++ Step agent ∷ [])

  stepped_is : world_after given events agent caller site ops (so_far ++ Step agent ∷ []) ≡ (step (fixed_of given) (world_after given events agent caller site ops so_far) (Step agent)).world
  stepped_is = after_append (fixed_of given) so_far (Step agent ∷ []) (begun_world given events agent caller site ops)

  stands : (z : ℕ) → Stands (machine_of given z all) t
  stands z =
      stands_next given events next agent t caller site ops actor can goes.there goes.begins spared so_far [] (Step agent) refl work z
      (locks_stand given events next agent t caller site ops actor can goes.there goes.begins spared so_far (Step agent ∷ []) refl work z)

  unrecorded : (i : ℕ) (st : State) → server_at (run given all) i ≡ Some st → record_of st t ≡ None
  unrecorded i st at =
      unrecorded_on (fixed_of given) (world_at so_far) agent t here there (step (fixed_of given) (world_at so_far) (Step agent)) took undecided unresolved
      (unrecorded_at given events next agent t caller site ops actor can goes.there goes.begins spared so_far (Step agent ∷ []) refl work) i st (ap (λ w. server_at w i) (sym stepped_is ∙ is_run) ∙ at)

  none_then : (z : ℕ) → (machine_of given z all).verdict t ≢ Some Answered
  none_then z = unanswered given all can t unrecorded z

  none_first : (z : ℕ) → (machine_of given z events).verdict t ≢ Some Answered
  none_first z = unanswered given events (can_first given events later agent t caller site ops actor goes) t (λ i st at. of i st at (record_of st t) refl) z
    where
      of : (i : ℕ) (st : State) → server_at (run given events) i ≡ Some st → (found : Option Verdict) → record_of st t ≡ found → record_of st t ≡ None
      of i st at None is = is
      of i st at (Some v) is = absurd (no_record given goes.can.accepted events agent t (Transaction caller site ops) goes.begins i st at v is)

  module _ (locks : HasWhereOpen given events later agent t caller site ops actor goes (world_after given events agent caller site ops (so_far ++ Step agent ∷ [])))
      (shown : ShowsWhereLocked given events later agent t caller site ops actor goes (world_after given events agent caller site ops (so_far ++ Step agent ∷ []))) (new : Actor) (more : TransactionRun)
      (there_new : actor_at (world_after given events agent caller site ops (so_far ++ Step agent ∷ [])) agent ≡ Some new) (running : new.agent.doing ≡ Some (Running more))
      (number : more.task.t ≡ t) (ordered : IsOrdered nat_cmp more.suites) where
    there_run : actor_at (run given all) agent ≡ Some new
    there_run = ap (λ w. actor_at w agent) (sym is_run) ∙ there_new

    stands_its : (z : ℕ) → Stands (machine_of given z all) more.task.t
    stands_its z = subst (Stands (machine_of given z all)) (sym number) (stands z)

    none_its : (z : ℕ) → (machine_of given z all).verdict more.task.t ≢ Some Answered
    none_its z = subst (λ t. (machine_of given z all).verdict t ≢ Some Answered) (sym number) (none_then z)

    at_moment : AgreesWith (known_of more.suites) (row_of (table_of given all).rows)
    at_moment = knows_table given all can agent new more there_run running ordered stands_its none_its

    module _ (z : ℕ) where
      -- where it has a lock the same versions are in effect
      effect_same : (i : ℕ) → On (locks_at (world_at next) i) t z
          → ((effect (machine_of given z all) i).prefix.pver ≡ (effect (machine_of given z events) i).prefix.pver) × ((effect (machine_of given z all) i).dver ≡ (effect (machine_of given z events) i).dver)
      effect_same i on = of (server_at (world_at next) i) refl (server_at (run given events) i) refl
        where
          was_open : is_open_at (run given events) t z (first_asked given events later agent t caller site ops actor goes z) i ≡ true
          was_open = (and_parts (goes.near i) (is_open_at (run given events) t z (first_asked given events later agent t caller site ops actor goes z) i) (locks i z on)).1

          of : (found : Option State) → server_at (world_after given events agent caller site ops (so_far ++ Step agent ∷ [])) i ≡ found → (was : Option State) → server_at (run given events) i ≡ was
              → ((effect (machine_of given z (events ++ Begin agent (Transaction caller site ops) ∷ (so_far ++ Step agent ∷ []))) i).prefix.pver ≡ (effect (machine_of given z events) i).prefix.pver)
              × ((effect (machine_of given z (events ++ Begin agent (Transaction caller site ops) ∷ (so_far ++ Step agent ∷ []))) i).dver ≡ (effect (machine_of given z events) i).dver)
          of None at was before = absurd (subst (λ found. Has (locks_in found) on.lock) at on.has)
          of (Some st) at None before = absurd (false≢true (ap (λ found. is_open_way (way_in t z (first_asked given events later agent t caller site ops actor goes z) found)) (sym before) ∙ was_open))
          of (Some st) at (Some old) before =
              let there = ap (λ w. server_at w i) (sym is_run) ∙ at in
              let here : On st.locks t z = record { lock = on.lock; has = subst (λ found. Has (locks_in found) on.lock) at on.has; of_it = on.of_it; on_it = on.on_it } in
              let now = stored_effect given z (machine_of given z all) (run given all) (effects.follows given all (all_keep given all can) z).shows (all_consistent given all) t Shared (none_then z) i st there
              (free_beside st (all_consistent given all i st there) t z here) in
              let begun = stored_effect given z (machine_of given z events) (run given events)
              (effects.follows given events (all_keep given events (can_first given events later agent t caller site ops actor goes)) z).shows (all_consistent given events) t
              (first_asked given events later agent t caller site ops actor goes z) (none_first z) i old before
              (free_where t z (first_asked given events later agent t caller site ops actor goes z) old
              (ap (λ found. is_open_way (way_in t z (first_asked given events later agent t caller site ops actor goes z) found)) (sym before) ∙ was_open)) in
              let same : shows_same (Some st) (Some old) z = subst (λ found. shows_same found (Some old) z) at (subst (λ found. shows_same (server_at (world_at next) i) found z) before (shown i z on)) in (
                ap (λ (copy : Replica). copy.prefix.pver) now ∙ ap (λ (prefix : Prefix). prefix.pver) same.0 ∙ sym (ap (λ (copy : Replica). copy.prefix.pver) begun),
                ap (λ (copy : Replica). copy.dver) now ∙ same.1 ∙ sym (ap (λ (copy : Replica). copy.dver) begun),
              )

      module _ (suite : GatheredSuite) (first : ReadPoint) (found : suite_of more.suites z ≡ Some suite) (had : suite.first ≡ Some first) where
        owes : OwesKnown (beginning z given) (machine_of given z all) more.task.t (known_by first suite)
        owes = known_owed given z (machine_of given z all) (run given all) (holds_after given all can z) agent new more there_run running suite first found had

        is_known_so : IsKnown (register given z all) (known_by first suite)
        is_known_so = knows_registers given all can agent new more there_run running stands_its none_its z suite first found had

        -- who told it of the suite has its lock there still
        lock_it : (i : ℕ) → showed_to (machine_of given z all) more.task.t (known_by first suite) i ≡ true → On (locks_at (world_at next) i) t z
        lock_it i is = of ((machine_of given z all).told i more.task.t) refl is
          where
            there_lock : (at : Option State) → server_at (run given all) i ≡ at → (lock : Lock) → Has (unwrap_or at (state.opening i given)).locks lock → lock.t ≡ t → lock.suite ≡ z → On (locks_at (world_at next) i) t z
            there_lock at h1 lock h3 h4 h5 = search (is_run, arith)

            by_lock : (one : Option Lock) → lock_at more.task.t z (servers_of given (run given all) i).locks ≡ one → (hold : Hold) → hold_of one ≡ Some hold → On (locks_at (world_at next) i) t z
            by_lock None at hold some = absurd (none-some hold some)
            by_lock (Some lock) at hold some =
                let there' = find_some (is_own more.task.t z) (servers_of given (run given all) i).locks lock at in
                let own = and_parts (lock.t == more.task.t) (lock.suite == z) there'.1 in
                there_lock (server_at (run given all) i) refl lock there'.0 (eqb-true lock.t more.task.t own.0 ∙ number) (eqb-true lock.suite z own.1)

            of : (told : Option Told) → (machine_of given z all).told i more.task.t ≡ told → showed (known_by first suite) told ≡ true → On (locks_at (world_at next) i) t z
            of None at is = absurd (false≢true is)
            of (Some told) at is =
                let stood = stands_its z i told at in
                by_lock (lock_at more.task.t z (servers_of given (run given all) i).locks) refl stood.0 (sym (((holds_after given all can z).shows.at i).lock more.task.t) ∙ stood.1)

        quorum : IsQuorum (row (beginning z given) (machine_of given z all).log).prefix.votes (showed_to (machine_of given z all) more.task.t (known_by first suite))
        quorum = subst (λ (prefix : Prefix). IsQuorum prefix.votes (showed_to (machine_of given z all) more.task.t (known_by first suite))) is_known_so.prefix owes.quorum

        rows_same : row_of (table_of given all).rows z ≡ row_of (table_of given events).rows z
        rows_same =
            let can0 = can_first given events later agent t caller site ops actor goes in
            sym (all_shown given all (all_keep given all can) z).shows
            ∙ ap row_shown (row_same (beginning z given) (machine_of given z events) (machine_of given z all) (effects.inv given events (all_keep given events can0) z) (effects.inv given all (all_keep given all can) z)
            (effects.goes_on given events (Begin agent (Transaction caller site ops) ∷ (so_far ++ Step agent ∷ [])) (all_keep given all can) z) (showed_to (machine_of given z all) more.task.t (known_by first suite)) quorum
            (λ i is. effect_same i (lock_it i is)))
            ∙ (all_shown given events (all_keep given events can0) z).shows

    -- ---- so it is on the table of its begin

    pub knows_begun : (z : ℕ) → asks_of (locks_on (table_of given events) (its given events later agent t caller site ops actor goes)) z ≡ true → IsSoAt (known.known_of (known_of more.suites) z) (row_of (table_of given events).rows z)
    knows_begun z is = of (suite_of more.suites z) refl
      where
        by : (suite : GatheredSuite) → suite_of more.suites z ≡ Some suite → (first : Option ReadPoint) → suite.first ≡ first → IsSoAt (known.known_of (known_of more.suites) z) (row_of (table_of given events).rows z)
        by suite found None had =
            subst (λ found. IsSoAt found (row_of (table_of given events).rows z)) (sym (known_is more.suites ordered z ∙ ap known_in found ∙ ap (known_if_first suite) had)) tt
        by suite found (Some first) had = subst (IsSoAt (known.known_of (known_of more.suites) z)) (rows_same z suite first found had) (at_moment z)

        of : (found : Option GatheredSuite) → suite_of more.suites z ≡ found → IsSoAt (known.known_of (known_of more.suites) z) (row_of (table_of given events).rows z)
        of None found = subst (λ found. IsSoAt found (row_of (table_of given events).rows z)) (sym (known_is more.suites ordered z ∙ ap known_in found)) tt
        of (Some suite) found = by suite found suite.first refl
