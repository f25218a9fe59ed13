-- What a transaction asks finds the lock that it stands on, where the locks that it was told of stand: so it is not answered Lost.
use Rattle.law_run_alone.proofs.Vocabulary.{◌≡◌, inl, inr, ℕ, true, false, List, ◌∷◌, map, Option, Some, None, is_some, refl, sym, ap, subst, ◌∙◌, arith, ◌&&◌, not, filter, list_all, nat_cmp, and_from, false≢true, nat_tests, same_Some, IsValid}
use Rattle.law_run_alone.proofs.Vocabulary.{Opening, is_exclusive, serves, is_within_limits, Shared, Exclusive, Replica, known_rows, Part, Request, is_lost, Lock, is_own, lock_at, has_lock, has_lock_for, copy_of, goes_with, is_sound_part}
use Rattle.law_run_alone.proofs.Vocabulary.{lists_twice, State, can_prepare, reply_of, Has, has_filter, has_map, has_any, any_has, find_some, holds, Poll, Next, Ask, next, ReadPoint, GatheredSuite, suite_of, has_locks, holds_lock, holds_exclusively}
use Rattle.law_run_alone.proofs.Vocabulary.{lock_mode, known_of, told_in, told_at, change_of, take_of_changed, parts_at, Fixed, Proposal, Phase, Fetching, Preparing, Deciding, Finishing, TransactionRun, Running, asked_by, asked_for, fetched_at}
use Rattle.law_run_alone.proofs.Vocabulary.{fetched_for, request_in, changes_of, Agent, fixed_of, next_in, next_of, is_idle, is_prepare, stands_on_locks, asks_same, asked_as, fetched_as, Event, Actor, server_at, actor_at, names, asks_in_its_name}
use Rattle.law_run_alone.proofs.Vocabulary.{IsKnown, row, WasPrefix, hold_of, beginning, known_by, OwesKnown, server_there, Going, Stage, suite_was, told_to, Agrees, DoingAgrees, CameWell, came_preparing, leaves}
use Rattle.rep_core.proofs.IntentionLookups.{get_has}
use Rattle.txn_core.proofs.PrepareParts.{a_prepare_rises}
use Rattle.law_suite_machine.specs.Machine.{Told, World}
use Rattle.law_run_machine.proofs.Sending.{upgrade_told}
use Rattle.law_run_machine.proofs.Linked.{InCourse, IsDoing}
use Rattle.law_run_machine.proofs.Jobs.{IdleOr}
use Rattle.law_run_knowledge.proofs.Walk.{InPhase}
use Rattle.law_run_knowledge.proofs.Lasting.{DoingFits}
use Rattle.std.specs.List.Sorted.{IsStrictlySortedBy}
use Rattle.suite_collect.specs.Collecting.{Upgrade}
use Rattle.txn_core.specs.Writing.{part_of}
use Rattle.file_exec.specs.declared.changes.Change as executor
use Rattle.rep_core.specs.declared.request.Request.TheVariants as request
use Rattle.run_core.specs.Worlds as worlds
use Rattle.law_suite_machine.specs.Conditions as conditions
use Rattle.law_run_alone.proofs.Standing.{Stands}
use Rattle.law_run_alone.proofs.Holding.{PhaseStands}
use Rattle.law_run_alone.proofs.Known.{is_known, known_owed, row_valid}
use Rattle.law_run_alone.proofs.Sets.{known_small}
use Rattle.law_run_alone.proofs.Courses.{AreSmall}
use Rattle.law_run_alone.proofs.Grown.{own_of}
use Rattle.law_run_alone.proofs.Whole.{Carried}
use Rattle.law_run_alone.proofs.Lefts.{LeftHold, prepares_where_it_holds}
use Rattle.law_run_alone.proofs.Fits.{changed_goes, part_fits}
use Rattle.law_run_alone.proofs.Replied.{HasLock, held_lock, has_found, serves_as, all_of, rising_once, unlogged, unanswered}

-- what a request of a transaction wants of a server: the lock that it stands on, or that it can be prepared
abbrev pub Finds : State → Request → Type 0
Finds st (request.Upgrade t suite) = has_lock t suite st.locks ≡ true
Finds st (request.Fetch t suite) = has_lock t suite st.locks ≡ true
Finds st (request.Prepare t parts) = can_prepare st t parts ≡ true
Finds st other = Unit {0}

-- so it is not answered Lost
never_lost : (st : State) (asked : Request) → Finds st asked → is_lost (reply_of st asked) ≡ false
never_lost st asked h2 = search arith

-- the server has some lock of the transaction
pub record HasSome (t : ℕ) (st : State) : Type 0 where
  pub lock : Lock
  pub has : Has st.locks lock
  pub of_it : lock.t ≡ t

-- ---- a request

module _ (given : Opening) (c0 : IsValid given.c0) (world : worlds.World) (events : List Event) (machines : ℕ → World) (now : Carried given machines world events) (number : ℕ) (actor : Actor) (txn_run : TransactionRun)
    (there : actor_at world number ≡ Some actor) (running : actor.agent.doing ≡ Some (Running txn_run)) (stands : (z : ℕ) → PhaseStands (machines z) txn_run.task.t txn_run.phase) where
  abbrev t : ℕ
  t = txn_run.task.t

  abbrev fixed : Fixed
  fixed = fixed_of given

  -- in a phase
  abbrev PhasesStand : Phase → Type 0
  PhasesStand (Deciding outcome) = Unit {0}
  PhasesStand (Finishing servers v ending) = Unit {0}
  PhasesStand other = (z : ℕ) → Stands (machines z) t

  all_stand : (phase : Phase) → ((z : ℕ) → PhaseStands (machines z) t phase) → PhasesStand phase
  all_stand (Deciding outcome) stands = tt
  all_stand (Finishing servers v ending) stands = tt
  all_stand other stands = stands

  abbrev pub Goal : ℕ × Request → Type 0
  Goal asked = (st : State) → server_at world asked.0 ≡ Some st → Finds st asked.1

  agreed : (z : ℕ) → Agrees (told_to (machines z) t) (told_at txn_run.suites z)
  agreed z = let here : DoingAgrees z (machines z) (Some (Running txn_run)) = subst (DoingAgrees z (machines z)) running ((now.whole z).together.agrees number actor there) in here

  in_course : (z : ℕ) → InCourse z (machines z) number actor.agent.count txn_run
  in_course z = subst (IsDoing z (machines z) number actor.agent.count) running ((now.whole z).together.linked number actor there).1.doing

  -- a lock that was told of is there
  lock_there : (z server : ℕ) (st : State) → Stands (machines z) t → server_at world server ≡ Some st → is_some ((machines z).told server t) ≡ true → HasLock st.locks t z (conditions.is_exclusive ((machines z).told server t))
  lock_there z server st stands at told = of ((machines z).told server t) refl told
    where
      of : (o : Option Told) → (machines z).told server t ≡ o → is_some o ≡ true → HasLock st.locks t z (conditions.is_exclusive o)
      of None is some = absurd (false≢true some)
      of (Some told) is some =
          let stood = stands server told is in
          let shows = ((now.whole z).together.shows.at server).lock t in
          let st_is = server_there given world server st at in
          let held = held_lock (lock_at t z st.locks) stood.0 (ap (λ (st : State). hold_of (lock_at t z st.locks)) (sym st_is) ∙ sym shows ∙ stood.1) in
          record { lock = held.0; is = held.1; mode = λ wanted. held.2 ∙ stood.2 wanted }

  -- ---- gathering and widening

  collects : (phase : Phase) (suite : ℕ) (asked : ℕ × Request) → request_in fixed txn_run.task txn_run.suites phase ≡ asked_for txn_run.task suite (suite_of txn_run.suites suite) → ((z : ℕ) → Stands (machines z) t)
      → asked_for txn_run.task suite (suite_of txn_run.suites suite) ≡ Some asked → Goal asked
  collects phase suite asked in' stands is = of (suite_of txn_run.suites suite) is
    where
      by : (after : Next) → asked_by txn_run.task suite after ≡ Some asked → Goal asked
      by (Ask who (Poll mode)) same = subst Goal (same_Some (who, request.Poll t suite mode) asked same) (λ st at. tt)
      by (Ask who Upgrade) same =
          let pair = same_Some (who, request.Upgrade t suite) asked same in
          subst Goal pair (λ st at. has_found st.locks t suite _ (lock_there suite who st (stands suite) at
          (upgrade_told suite (machines suite) fixed txn_run.task txn_run.suites who (in_course suite).told phase t suite (in' ∙ is ∙ ap Some (sym pair)) refl)))
      by other same = cc

      of : (found : Option GatheredSuite) → asked_for txn_run.task suite found ≡ Some asked → Goal asked
      of (Some found) same = by (next found.collector) same
      of None same = cc

  -- ---- fetching

  fetches : (suite : ℕ) (asked : ℕ × Request) → txn_run.phase ≡ Fetching suite → ((z : ℕ) → Stands (machines z) t) → (found : Option GatheredSuite)
      → suite_of txn_run.suites suite ≡ found → fetched_for txn_run.task suite found ≡ Some asked → Goal asked
  fetches suite asked phase stands None is same = cc
  fetches suite asked phase stands (Some found) is same = of found.first refl same
    where
      of : (first : Option ReadPoint) → found.first ≡ first → fetched_at txn_run.task suite first ≡ Some asked → Goal asked
      of None was same = cc
      of (Some first) was same =
          let fits : DoingFits suite (beginning suite given) (machines suite) (Some (Running txn_run)) = subst (DoingFits suite (beginning suite given) (machines suite)) running ((now.whole suite).together.fits number actor there).doing in
          let some = subst (InPhase txn_run.suites) phase fits.1 found first is was in
          let had = (suite_was suite (beginning suite given) (machines suite) actor.agent txn_run found ((now.whole suite).together.fits number actor there) running is).first first was in
          let told = had.source some in
          subst Goal (same_Some (first.source, request.Fetch t suite) asked same)
          (λ st at. has_found st.locks t suite _ (lock_there suite first.source st (stands suite) at (ap is_some told.is)))

  -- ---- preparing

  module _ (server : ℕ) (left : List ℕ) (outcome : Proposal) (phase : txn_run.phase ≡ Preparing (server ∷ left) outcome) (stood : (z : ℕ) → Stands (machines z) t) (st : State) (at : server_at world server ≡ Some st) where
    well : CameWell fixed txn_run outcome
    well = came_preparing fixed actor.agent (now.valid number actor there) txn_run (server ∷ left) outcome running phase

    going : (z : ℕ) → Going (machines z) t
    going z = let stage : Stage z (machines z) t txn_run.suites (Preparing (server ∷ left) outcome) = subst (Stage z (machines z) t txn_run.suites) phase (in_course z).stage in stage.0

    owed : (z : ℕ) (suite : GatheredSuite) (first : ReadPoint) → suite_of txn_run.suites z ≡ Some suite → suite.first ≡ Some first → OwesKnown (beginning z given) (machines z) t (known_by first suite)
    owed z suite first found had = known_owed given z (machines z) world (now.whole z).together number actor txn_run there running suite first found had

    knows : (z : ℕ) (suite : GatheredSuite) (first : ReadPoint) → suite_of txn_run.suites z ≡ Some suite → suite.first ≡ Some first → IsKnown (row (beginning z given) (machines z).log) (known_by first suite)
    knows z suite first found had =
        is_known (beginning z given) (machines z) (now.whole z).together.inv t (stood z) (unanswered (machines z) t (going z)) (known_by first suite) (owed z suite first found had)

    all_small : AreSmall (known_rows (known_of txn_run.suites))
    all_small = known_small txn_run.suites (in_course 0).ordered (λ z suite first c found had is.
        ap is_within_limits ((knows z suite first found had).content c is) ∙ (row_valid given z (machines z) world (now.whole z).together).content)

    -- what it takes of a change fits the copy there
    change_fits : (z : ℕ) (suite : GatheredSuite) → suite_of txn_run.suites z ≡ Some suite → (first : ReadPoint) (change : executor.Change) → suite.first ≡ Some first → change_of (changes_of outcome) z ≡ Some change
        → goes_with (take_of_changed first change server) (copy_of st.store z) ≡ true
    change_fits z suite found first change had set =
        let whole = now.whole z in
        let inv = whole.together.inv in
        let known = knows z suite first found had in
        let copy_is : (machines z).copy server ≡ copy_of st.store z = (whole.together.shows.at server).copy ∙ ap (λ (st : State). copy_of st.store z) (server_there given world server st at) in
        changed_goes (beginning z given) (machines z).log t z txn_run.suites suite first change known
        (leaves given z (machines z) inv c0 whole.kind txn_run outcome well suite first change found had set known)
        (own_of given z (machines z) inv c0 whole.kind whole.grown txn_run outcome well suite first change found had set known)
        whole.grown (row_valid given z (machines z) world whole.together) (unlogged (beginning z given) (machines z) t inv (going z)) all_small (owed z suite first found had).content
        (copy_of st.store z) (subst (λ (copy : Replica). WasPrefix (beginning z given) (machines z).log copy.prefix) copy_is (inv.stored server).0) server

    -- each part: of a suite that the server was heard to hold
    module _ (z : ℕ) (suite : GatheredSuite) (found : suite_of txn_run.suites z ≡ Some suite) (held : holds_lock suite server ≡ true) where
      abbrev part : Part
      part = part_of (changes_of outcome) server (z, suite)

      lock : HasLock st.locks t z (conditions.is_exclusive ((machines z).told server t))
      lock = lock_there z server st (stood z) at ((agreed z).held server ∙ ap (λ o. holds Shared (told_in o) server) found ∙ held)

      exclusively : holds_exclusively suite server ≡ true → is_exclusive lock.lock.mode ≡ true
      exclusively wanted = lock.mode ((agreed z).exclusive server ∙ ap (λ o. holds Exclusive (told_in o) server) found ∙ wanted)

      part_locked : has_lock_for t st.locks part ≡ true
      part_locked =
          let there = find_some (is_own t z) st.locks lock.lock lock.is in
          has_any (λ other. is_own t z other && serves other.mode (lock_mode suite server)) st.locks lock.lock there.0
          (and_from (is_own t z lock.lock) (serves lock.lock.mode (lock_mode suite server)) there.1 (serves_as lock.lock.mode (holds_exclusively suite server) exclusively))

      part_sound : is_sound_part st.store part ≡ true
      part_sound = part_fits suite server (copy_of st.store z) suite.first (change_of (changes_of outcome) z) (λ first change had set. change_fits z suite found first change had set)

    abbrev parts : List Part
    parts = parts_at txn_run.suites (changes_of outcome) server

    -- of each part
    each : (P : Part → Type 0) → ((z : ℕ) (suite : GatheredSuite) → suite_of txn_run.suites z ≡ Some suite → holds_lock suite server ≡ true → P (part_of (changes_of outcome) server (z, suite))) → (part : Part) → Has parts part → P part
    each P holds part has =
        let one = has_map (part_of (changes_of outcome) server) (filter (λ one. holds_lock one.1 server) txn_run.suites) part has in
        let kept = has_filter (λ one. holds_lock one.1 server) txn_run.suites one.0 one.1 in
        subst P one.2 (holds one.0.0 one.0.1 (get_has txn_run.suites one.0.0 one.0.1 (in_course 0).ordered kept.0) kept.1)

    rises : next_in fixed actor.agent.doing ≡ Some (server, request.Prepare t parts) → IdleOr fixed actor.agent → IsStrictlySortedBy nat_cmp (map (λ part. part.suite) parts)
    rises next (inl idle) = absurd (false≢true (ap is_idle (sym running) ∙ idle))
    rises next (inr is) = a_prepare_rises fixed is.before is.job is.told server t parts is.idle (ap (λ (agent : Agent). next_of fixed agent) (sym is.is) ∙ next)

    pub can : next_in fixed actor.agent.doing ≡ Some (server, request.Prepare t parts) → can_prepare st t parts ≡ true
    can next =
        and_from (list_all (has_lock_for t st.locks) parts && not (lists_twice parts)) (list_all (is_sound_part st.store) parts)
        (and_from (list_all (has_lock_for t st.locks) parts) (not (lists_twice parts))
        (all_of (has_lock_for t st.locks) parts (each (λ part. has_lock_for t st.locks part ≡ true) part_locked))
        (ap not (rising_once parts (rises next ((now.whole 0).together.jobs number actor there)))))
        (all_of (is_sound_part st.store) parts (each (λ part. is_sound_part st.store part ≡ true) part_sound))

  -- ---- any request

  by_phase : (phase : Phase) → txn_run.phase ≡ phase → PhasesStand phase → (asked : ℕ × Request) → request_in fixed txn_run.task txn_run.suites phase ≡ Some asked → Goal asked
  by_phase phase h1 h2 asked h4 = search (collects, fetches, same_Some, can, arith)

  pub finds : (asked : ℕ × Request) → next_of fixed actor.agent ≡ Some asked → Goal asked
  finds asked next = by_phase txn_run.phase refl (all_stand txn_run.phase stands) asked (ap (next_in fixed) (sym running) ∙ next)

  pub not_lost : (asked : ℕ × Request) → next_of fixed actor.agent ≡ Some asked → (st : State) → server_at world asked.0 ≡ Some st → is_lost (reply_of st asked.1) ≡ false
  not_lost asked next st at = never_lost st asked.1 (finds asked next st at)

  -- ---- where it stands on a lock, the server has some of it

  own_lock : (named suite : ℕ) (st : State) → named ≡ t → has_lock named suite st.locks ≡ true → HasSome t st
  own_lock named suite st same has = search (any_has, lock, nat_tests, arith)

  -- a Prepare is sent where it was told of a lock
  held_at : (server : ℕ) (st : State) → ((z : ℕ) → Stands (machines z) t) → server_at world server ≡ Some st → has_locks txn_run.suites server ≡ true → HasSome t st
  held_at server st stood at held =
      let one = any_has (λ (one : ℕ × GatheredSuite). holds_lock one.1 server) txn_run.suites held in
      let z = one.0.0 in
      let found : suite_of txn_run.suites z ≡ Some one.0.1 = get_has txn_run.suites z one.0.1 (in_course 0).ordered one.1 in
      let lock = lock_there z server st (stood z) at ((agreed z).held server ∙ ap (λ o. holds Shared (told_in o) server) found ∙ one.2) in
      let there = find_some (is_own t z) st.locks lock.lock lock.is in
      record { lock = lock.lock; has = there.0; of_it = equal lock.lock z there.1 }
    where
      equal : (lock : Lock) (z : ℕ) → is_own t z lock ≡ true → lock.t ≡ t
      equal lock z is = grind (arith, nat_tests)

  left_holds : IdleOr fixed actor.agent → LeftHold txn_run.suites txn_run.phase
  left_holds h0 = search (false≢true, prepares_where_it_holds, arith)

  prepare_some : (phase : Phase) → LeftHold txn_run.suites phase → PhasesStand phase → (asked : ℕ × Request) → request_in fixed txn_run.task txn_run.suites phase ≡ Some asked
      → is_prepare asked.1 ≡ true → (st : State) → server_at world asked.0 ≡ Some st → HasSome t st
  prepare_some phase h1 h2 asked h4 h5 = search (false≢true, asked_as, fetched_as, same_Some, held_at, asks_same, arith)

  -- whatever stands on a lock
  by_request : (server : ℕ) (asked : Request) → next_of fixed actor.agent ≡ Some (server, asked) → names t asked ≡ true → stands_on_locks asked ≡ true → (st : State) → server_at world server ≡ Some st → Finds st asked → HasSome t st
  by_request server (request.Upgrade named suite) next is on st at finds = search (own_lock, nat_tests, arith)
  by_request server (request.Fetch named suite) next is on st at finds = search (own_lock, nat_tests, arith)
  by_request server (request.Prepare named parts) next is on st at finds =
      prepare_some txn_run.phase (left_holds ((now.whole 0).together.jobs number actor there)) (all_stand txn_run.phase stands) (server, request.Prepare named parts) (ap (next_in fixed) (sym running) ∙ next) refl st at
  by_request server other next is on st at finds = absurd (false≢true on)

  pub stands_where : (asked : ℕ × Request) → next_of fixed actor.agent ≡ Some asked → stands_on_locks asked.1 ≡ true → (st : State) → server_at world asked.0 ≡ Some st → HasSome t st
  stands_where asked next on st at = search (by_request, asks_in_its_name, finds, arith)
