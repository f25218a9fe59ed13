-- A run is calm at suites at which each exclusive lock that there ever is belongs to one that is never decided: who writes a suite has it locked exclusively as it is decided.
use Rattle.law_run_recovers.proofs.Vocabulary.{home_in, ◌≡◌, ◌⊎◌, inl, inr, ℕ, ◌<◌, ◌≤◌, true, List, [], ◌∷◌, ◌++◌, append-nil, append_assoc, Option, Some, None, Ok, Err, refl, sym, ap, subst, ◌∙◌, arith, ◌==◌, unwrap_or, nat_cmp, and_parts}
use Rattle.law_run_recovers.proofs.Vocabulary.{eqb-true, false≢true, leb-true, none-some, same_Some, find_some, votes_in, IsValid, Opening, Prefix, LockMode, Exclusive, is_exclusive, get, Intention, Lock, Verdict, State, copy_of, is_own, is_answered}
use Rattle.law_run_recovers.proofs.Vocabulary.{HasPreparedLock, served, Has, contains_from, has_from, fixed_of, Proposal, GatheredSuite, ReadPoint, suite_of, Event, Step, Served, World, server_at, step, opening, run, after, Decided, decided}
use Rattle.law_run_recovers.proofs.Vocabulary.{decisions, finish_is_after, EndedSo, IsNotDecided, answers_follow_knowledge, IsAnsweredAsKnown, row, prefix_at, beginning, servers_of, machine_of, to_write, known_by, LogIs, decision_at, event_log}
use Rattle.law_run_recovers.proofs.Vocabulary.{machine_one, all_shown, row_shown, Together, holds_after, all_keep, undecided, Replica, Shows, effect, plan_of, is_up, up_in, shown_at, shown_in, CanBe, can_front, all_consistent, AllAt, Fixed, at_puts}
use Rattle.law_run_recovers.proofs.Vocabulary.{puts_in, slice_get, slice_set, Begun, locks_at, locks_in, ⊎_elim, lock_at, hold_of, decides_first, decides_on, decision_by, decision_in, decision_with, AreOwed, Owed, Owes, OwesFirst, OwesWritten}
use Rattle.law_run_recovers.proofs.Vocabulary.{decision_of_actor, agents_owe, AllOthers}
use Rattle.law_suite_machine.proofs.Knowing.{still_locked}
use Rattle.law_suite_machine.proofs.Starting.{begins}
use Rattle.law_run_machine.specs.Machines.{history_of}
use Rattle.law_run_machine.proofs.Following.{machines_follow}
use Rattle.law_headline.proofs.Beside.{is_ready_now}
use Rattle.law_headline.proofs.Unbroken.{AllAsTold, AsTold, as_told}
use Rattle.rep_core.specs.declared.request.Request.TheVariants as request
use Rattle.rep_core.specs.declared.reply.Verdict.TheVariants as verdict
use Rattle.rep_core.specs.State as state
use Rattle.law_suite_machine.specs.Events as events_of_suite
use Rattle.law_suite_machine.specs.Machine as machine
use Rattle.law_suite_machine.specs.Conditions as conditions
use Rattle.law_suite_machine.specs.Registers as registers
use Rattle.law_run_machine.specs.Machines as machines
use Rattle.law_one_table.proofs.Effects as effects
use Rattle.law_run_recovers.proofs.Serves.{Serves, event_serves}
use Rattle.law_run_recovers.proofs.MeetBoth.{none_yet as none_begun}
use Rattle.law_run_recovers.proofs.MeetCalm.{Fair, Calm, accepted, can_at, run_next, decided_has, decided_on}
use Rattle.law_run_recovers.proofs.Stand.{copy_served, finished_none}
use Rattle.law_run_recovers.proofs.Picks.{along}
use Rattle.law_run_recovers.proofs.Gathered.{some_voter}

-- ---- what is owed at a moment of a run

owed_then : (given : Opening) (z : ℕ) (w : machine.World) (world : World) (events : List Event) (event : Event) → AreOwed given z w world (events ++ event ∷ [])
    → Owed given z (machines.machine_from given z w world events) (after (fixed_of given) world events)
owed_then given z w world [] event owes = owes.0
owed_then given z w world (one ∷ events) event owes = owed_then given z (machines.moved given z w world one) (step (fixed_of given) world one).world events event owes.1

-- each lock is exclusive where its transaction was told so
as_told_then : (given : Opening) (z : ℕ) (events : List Event) → CanBe given events → AllAsTold (machine_of given z events)
as_told_then given z events can =
    let follows = machines_follow given z events can.c0 ((all_keep given events can).keep z) in
    subst AllAsTold (sym follows.is) (as_told (beginning z given) (machine.begun (beginning z given)) (begins (beginning z given) follows.begins) (history_of given z events) follows.obeys (λ i t. tt))

-- ---- who writes a suite has it locked

-- the same row, and the same prefixes
abbrev SameLog : Opening → ℕ → List registers.Entry → List registers.Entry → Type 0
SameLog given z log old = (row (beginning z given) log ≡ row (beginning z given) old) × ((p : ℕ) → prefix_at (beginning z given) log p ≡ prefix_at (beginning z given) old p)

pub record LockedBy (world : World) (t z : ℕ) : Type 0 where
  pub server : ℕ
  pub st : State
  pub at : server_at world server ≡ Some st
  pub lock : Lock
  pub has : Has st.locks lock
  pub of_it : lock.t ≡ t
  pub on_it : lock.suite ≡ z
  pub exclusive : lock.mode ≡ Exclusive

exclusive_is : (mode : LockMode) → is_exclusive mode ≡ true → mode ≡ Exclusive
exclusive_is mode h1 = search arith

told_exclusive : (found : Option machine.Told) → conditions.is_exclusive found ≡ true → (told : machine.Told) × (found ≡ Some told)
told_exclusive found h1 = search arith

as_told_one : (told : Option machine.Told) (hold : machine.Hold) → AsTold told (Some hold) → conditions.is_exclusive told ≡ true → hold.exclusive ≡ true
as_told_one told hold as' is = as' is

locked_in : (given : Opening) (world : World) (t z i : ℕ) (hold : machine.Hold) → hold_of (lock_at t z (servers_of given world i).locks) ≡ Some hold → hold.exclusive ≡ true → LockedBy world t z
locked_in given world t z i hold is exclusive = at_server (server_at world i) refl is
  where
    at_lock : (st : State) → server_at world i ≡ Some st → (found : Option Lock) → lock_at t z st.locks ≡ found → hold_of found ≡ Some hold → LockedBy world t z
    at_lock st at None none is = absurd (none-some hold is)
    at_lock st at (Some lock) there is =
        let some = find_some (is_own t z) st.locks lock there in
        let own = and_parts (lock.t == t) (lock.suite == z) some.1 in
        record {
          server = i;
          st = st;
          at = at;
          lock = lock;
          has = some.0;
          of_it = eqb-true lock.t t own.0;
          on_it = eqb-true lock.suite z own.1;
          exclusive = exclusive_is lock.mode (ap (λ (hold : machine.Hold). hold.exclusive) (same_Some _ hold is) ∙ exclusive);
        }

    at_server : (found : Option State) → server_at world i ≡ found → hold_of (lock_at t z (unwrap_or found (state.opening i given)).locks) ≡ Some hold → LockedBy world t z
    at_server None at is = absurd (none-some hold is)
    at_server (Some st) at is = at_lock st at (lock_at t z st.locks) refl is

some_in : (needed got : ℕ) → 0 < needed → needed ≤ got → 0 < got
some_in needed got some most = omega (arith, some, most)

module _ (given : Opening) (all : List Event) (number : ℕ) (can : CanBe given (all ++ Step number ∷ [])) (d : Decided) (is : decided (fixed_of given) (run given all) (Step number) ≡ Some d) (z : ℕ) where
  abbrev w : machine.World
  w = machine_of given z all

  so : IsAnsweredAsKnown given (run given all) (Step number) d
  so = answers_follow_knowledge given all (Step number) d is

  now : Together given z (machine_of given z all) (run given all)
  now = holds_after given all (can_front given all (Step number ∷ []) can) z

  none_yet : (machine_of given z all).verdict so.txn_run.task.t ≡ None
  none_yet = undecided given z w (run given all) now.shows number d is so

  owed_here : Owes (beginning z given) (machine_of given z all) so.txn_run.task.t so.outcome (to_write z so.txn_run.suites so.outcome) (suite_of so.txn_run.suites z)
  owed_here =
      (owed_then given z (machine.begun (beginning z given)) (opening given) all (Step number) (agents_owe given (all ++ Step number ∷ []) can z)).decides
      so.number so.actor so.txn_run so.outcome so.there so.running so.deciding none_yet

  written_locked : (suite : GatheredSuite) (first : ReadPoint) (new : registers.Change) → OwesWritten (beginning z given) (machine_of given z all) so.txn_run.task.t (known_by first suite) new
      → LockedBy (run given all) so.txn_run.task.t z
  written_locked suite first new owes =
      let t = so.txn_run.task.t in
      let valid = subst (λ (prefix : Prefix). IsValid prefix.votes) owes.under_was.1 (now.inv.logged.valid owes.under.pver) in
      let voter = some_voter owes.under.votes.reps (conditions.holds_exclusively w t)
      (some_in owes.under.votes.w (votes_in owes.under.votes.reps (conditions.holds_exclusively w t)) valid.w_in_range.0 (leb-true owes.under.votes.w (votes_in owes.under.votes.reps (conditions.holds_exclusively w t)) owes.quorum)) in
      let i = voter.rep.0 in
      let told = told_exclusive (w.told i t) voter.inside in
      let ready = is_ready_now given z w (run given all) now so.number so.actor so.txn_run so.outcome so.there so.running so.deciding none_yet in
      let held = still_locked w now.inv.sound t ready i told.0 told.1 in
      let as' = subst (AsTold (w.told i t)) held.1 (as_told_then given z all (can_front given all (Step number ∷ []) can) i t) in
      locked_in given (run given all) t z i held.0 (sym ((now.shows.at i).lock t) ∙ held.1) (as_told_one (w.told i t) held.0 as' voter.inside)

  -- ---- so what it leaves of a suite that it has not locked so

  abbrev Leaves : events_of_suite.Event → Type 0
  Leaves decision = SameLog given z (events_of_suite.happens (beginning z given) (machine_of given z all) decision).log (machine_of given z all).log

  module _ (unlocked : LockedBy (run given all) d.t z → ⊥) where
    by_first : (outcome : Proposal) (new : Option registers.Change) (suite : GatheredSuite) (first : Option ReadPoint) → OwesFirst (beginning z given) (machine_of given z all) so.txn_run.task.t outcome new suite first
        → Leaves (decides_first (machine_of given z all) so.txn_run.task.t outcome new suite first)
    by_first (Ok granted) (Some new) suite (Some first) owes = absurd (unlocked (subst (λ t. LockedBy (run given all) t z) (sym so.t) (written_locked suite first new owes)))
    by_first (Ok granted) None suite (Some first) owes = (refl, λ p. refl)
    by_first (Ok granted) new suite None owes = (refl, λ p. refl)
    by_first (Err refusal) new suite (Some first) owes = (refl, λ p. refl)
    by_first (Err refusal) new suite None owes = (refl, λ p. refl)

    by_suite : (outcome : Proposal) (new : Option registers.Change) (found : Option GatheredSuite) → Owes (beginning z given) (machine_of given z all) so.txn_run.task.t outcome new found
        → Leaves (decides_on (machine_of given z all) so.txn_run.task.t outcome new found)
    by_suite outcome new (Some suite) owes = by_first outcome new suite suite.first owes
    by_suite (Ok granted) new None owes = (refl, λ p. refl)
    by_suite (Err refusal) new None owes = (refl, λ p. refl)

    decides_so : decision_at z (machine_of given z all) (run given all) (Step number) ≡ decision_with z (machine_of given z all) so.txn_run.task so.txn_run.suites so.outcome
    decides_so =
        ap (decision_at z w (run given all)) so.step
        ∙ ap (decision_of_actor z w) so.there
        ∙ ap (decision_by z w) so.running
        ∙ ap (decision_in z w so.txn_run.task so.txn_run.suites) so.deciding

    leaves_log : Leaves (decision_at z (machine_of given z all) (run given all) (Step number))
    leaves_log = subst Leaves (sym decides_so) (by_suite so.outcome (to_write z so.txn_run.suites so.outcome) (suite_of so.txn_run.suites z) owed_here)

-- whatever the event
leaves_at : (given : Opening) (all : List Event) (z : ℕ) (d : Decided) → (LockedBy (run given all) d.t z → ⊥) → (event : Event) → CanBe given (all ++ event ∷ []) → decided (fixed_of given) (run given all) event ≡ Some d
    → SameLog given z (events_of_suite.happens (beginning z given) (machine_of given z all) (decision_at z (machine_of given z all) (run given all) event)).log (machine_of given z all).log
leaves_at given all z d unlocked event can is =
    let step' = (answers_follow_knowledge given all event d is).step in
    let number = (answers_follow_knowledge given all event d is).number in
    subst (λ event. SameLog given z (events_of_suite.happens (beginning z given) (machine_of given z all) (decision_at z (machine_of given z all) (run given all) event)).log (machine_of given z all).log) (sym step')
    (leaves_log given all number (subst (λ event. CanBe given (all ++ event ∷ [])) step' can) d (subst (λ event. decided (fixed_of given) (run given all) event ≡ Some d) step' is) z unlocked)

-- what each server has, and the one that serves an event has after it, each has after the event
pub each_next : (fixed : Fixed) (w : World) (event : Event) (P : ℕ → State → Type 0) → AllAt P w → ((it : Serves w (step fixed w event)) → P it.target (served it.st it.asked)) → AllAt P (step fixed w event).world
each_next fixed w event P all next = of (event_serves fixed w event)
  where
    by : Serves w (step fixed w event) → AllAt P (step fixed w event).world
    by it s st there =
        let puts = puts_in w.servers it.target it.st (served it.st it.asked) it.at in
        elim (at_puts (slice_get w.servers) (slice_get (slice_set w.servers it.target (served it.st it.asked))) it.target it.st (served it.st it.asked) puts s st (ap (λ servers. slice_get servers s) (sym it.servers) ∙ there)) [
          | inl here ↦ subst (λ s. P s st) (sym here.at) (subst (P it.target) (sym here.is) (next it))
          | inr there' ↦ all s st there'.was
        ]

    of : ((step fixed w event).world.servers ≡ w.servers) ⊎ Serves w (step fixed w event) → AllAt P (step fixed w event).world
    of (inl same) = λ s st there. all s st (ap (λ servers. slice_get servers s) (sym same) ∙ there)
    of (inr it) = by it

-- ---- all along

module _ (given : Opening) (events later : List Event) (fair : Fair given events later) (still : ℕ → Type 0)
    (clear : (so_far rest : List Event) (event : Event) → later ≡ so_far ++ event ∷ rest → (s : ℕ) (st : State) → server_at (run given (events ++ so_far)) s ≡ Some st → (lock : Lock) → Has st.locks lock → still lock.suite → lock.mode ≡ Exclusive
    → IsNotDecided (decisions given (events ++ later)) lock.t)
    (none_there : (s : ℕ) (st : State) → server_at (run given (events ++ [])) s ≡ Some st → (lock : Lock) → Has st.locks lock → still lock.suite → lock.mode ≡ Exclusive → ⊥) where
  module _ (z : ℕ) (kept : still z) where
    abbrev Stored : ℕ → State → Type 0
    Stored s st = (old : State) → server_at (run given events) s ≡ Some old → copy_of st.store z ≡ copy_of old.store z

    record IsStill (so_far : List Event) : Type 0 where
      row_is : row (beginning z given) (machine_of given z (events ++ so_far)).log ≡ row (beginning z given) (machine_of given z events).log
      prefixes : (p : ℕ) → prefix_at (beginning z given) (machine_of given z (events ++ so_far)).log p ≡ prefix_at (beginning z given) (machine_of given z events).log p
      stored : AllAt Stored (run given (events ++ so_far))

    still_first : IsStill []
    still_first = search (append-nil, same_Some, arith)

    module _ (so_far rest : List Event) (event : Event) (split : later ≡ so_far ++ event ∷ rest) (here : IsStill so_far) where
      abbrev base : List Event
      base = events ++ so_far

      next_is : events ++ (so_far ++ event ∷ []) ≡ (events ++ so_far) ++ event ∷ []
      next_is = sym (append_assoc events so_far (event ∷ []))

      can_next : CanBe given ((events ++ so_far) ++ event ∷ [])
      can_next = subst (CanBe given) next_is (can_at given events later fair (so_far ++ event ∷ []) rest (split ∙ sym (append_assoc so_far (event ∷ []) rest)))

      can_here : CanBe given (events ++ so_far)
      can_here = can_at given events later fair so_far (event ∷ rest) split

      -- ---- the log

      record Kept : Type 0 where
        row_on : row (beginning z given) (machine_of given z ((events ++ so_far) ++ event ∷ [])).log ≡ row (beginning z given) (machine_of given z (events ++ so_far)).log
        prefixes_on : (p : ℕ) → prefix_at (beginning z given) (machine_of given z ((events ++ so_far) ++ event ∷ [])).log p ≡ prefix_at (beginning z given) (machine_of given z (events ++ so_far)).log p

      log_is : (found : Option Decided) → decided (fixed_of given) (run given (events ++ so_far)) event ≡ found
          → LogIs (beginning z given) (decision_at z (machine_of given z (events ++ so_far)) (run given (events ++ so_far)) event) (machine_of given z (events ++ so_far)) found (machine_of given z ((events ++ so_far) ++ event ∷ [])).log
      log_is found is =
          let w = machine_of given z base in
          subst (λ log. LogIs (beginning z given) (decision_at z w (run given base) event) w found log) (sym (ap (λ (w : machine.World). w.log) (machine_one given z base event)))
          (subst (λ found. LogIs (beginning z given) (decision_at z w (run given base) event) w found (machines.moved given z w (run given base) event).log) is
          (event_log given z w (run given base) (effects.follows given base (all_keep given base can_here) z).shows event))

      not_locked : (d : Decided) → decided (fixed_of given) (run given (events ++ so_far)) event ≡ Some d → LockedBy (run given (events ++ so_far)) d.t z → ⊥
      not_locked d is locked =
          clear so_far rest event split locked.server locked.st locked.at locked.lock locked.has (subst still (sym locked.on_it) kept) locked.exclusive
          d (contains_from (decisions given (events ++ later)) d (decided_has given events later fair so_far rest event split d is)) (sym locked.of_it)

      kept_here : Kept
      kept_here = of (decided (fixed_of given) (run given (events ++ so_far)) event) refl
        where
          of : (found : Option Decided) → decided (fixed_of given) (run given (events ++ so_far)) event ≡ found → Kept
          of None is = record {
            row_on = ap (row (beginning z given)) (log_is None is);
            prefixes_on = λ p. ap (λ log. prefix_at (beginning z given) log p) (log_is None is);
          }
          of (Some d) is =
              let left = leaves_at given base z d (not_locked d is) event can_next is in
              record {
                row_on = ap (row (beginning z given)) (log_is (Some d) is) ∙ left.0;
                prefixes_on = λ p. ap (λ log. prefix_at (beginning z given) log p) (log_is (Some d) is) ∙ left.1 p;
              }

      -- ---- what is stored

      -- who finishes answered intends nothing
      ends_none : (s : ℕ) (st : State) → server_at (run given (events ++ so_far)) s ≡ Some st → (what : Served) → (step (fixed_of given) (run given (events ++ so_far)) event).done.served ≡ Some what
          → (t : ℕ) (v : Verdict) → what.request.value ≡ request.Finish t v → is_answered v ≡ true → (intention : Intention) → get nat_cmp st.store.intentions z ≡ Some intention → intention.t ≡ t → ⊥
      ends_none s st at what done t v asks answered intention there same = by v answered (finish_is_after.served given (accepted given events later fair) base event what t v done asks)
        where
          lock : HasPreparedLock st.locks intention.t z
          lock = (all_consistent given base s st at).locked z intention there

          by : (v : Verdict) → is_answered v ≡ true → EndedSo given (events ++ so_far) t v → ⊥
          by (verdict.Answered answers) answered ended =
              clear so_far rest event split s st at lock.lock (has_from st.locks lock.lock lock.there) (subst still (sym lock.on_it) kept) (exclusive_is lock.lock.mode lock.exclusive)
              ended.decision
              (contains_from (decisions given (events ++ later)) ended.decision
              (decided_on given events later fair so_far (event ∷ rest) split ended.decision (has_from (decisions given base) ended.decision ended.there)))
              (ended.of_it ∙ sym same ∙ sym lock.of_it)
          by other answered ended = false≢true answered

      target_stored : (it : Serves (run given (events ++ so_far)) (step (fixed_of given) (run given (events ++ so_far)) event)) → Stored it.target (served it.st it.asked)
      target_stored it old was =
          copy_served it z (λ t v asks answered up. finished_none it.st t z (all_consistent given base it.target it.st it.at) (ends_none it.target it.st it.at _ it.done t v asks answered))
          ∙ here.stored it.target it.st it.at old was

      stored_next : AllAt Stored (step (fixed_of given) (run given (events ++ so_far)) event).world
      stored_next = each_next (fixed_of given) (run given (events ++ so_far)) event Stored here.stored target_stored

      still_next : IsStill (so_far ++ event ∷ [])
      still_next = record {
        row_is = ap (λ all. row (beginning z given) (machine_of given z all).log) next_is ∙ kept_here.row_on ∙ here.row_is;
        prefixes = λ p. ap (λ all. prefix_at (beginning z given) (machine_of given z all).log p) next_is ∙ kept_here.prefixes_on p ∙ here.prefixes p;
        stored = subst (AllAt Stored) (sym (run_next given events later fair so_far event)) stored_next;
      }

    still_at : (so_far rest : List Event) → later ≡ so_far ++ rest → IsStill so_far
    still_at = along later IsStill (λ so_far rest event split here. still_next so_far rest event split here) still_first

  -- as they begin nobody intends anything of such a suite, so what is stored is in effect
  stored_there : (z : ℕ) → still z → (i : ℕ) → is_up (run given events) i ≡ true → (effect (machine_of given z events) i).prefix ≡ shown_at (fixed_of given) (run given events) z i
  stored_there z kept i up = of (server_at (run given events) i) refl up
    where
      shows : Shows z (home_in given) (servers_of given (run given events)) (machine_of given z events)
      shows = (effects.follows given events (all_keep given events (can_front given events later fair.can)) z).shows

      of : (found : Option State) → server_at (run given events) i ≡ found → up_in found ≡ true → (effect (machine_of given z events) i).prefix ≡ shown_at (fixed_of given) (run given events) z i
      of None at up = absurd (false≢true up)
      of (Some st) at up =
          let w = machine_of given z events in
          let is : servers_of given (run given events) i ≡ st = ap (λ found. unwrap_or found (state.opening i given)) at in
          let plan = (shows.at i).plan ∙ ap (λ (st : State). plan_of (get nat_cmp st.store.intentions z) (copy_of st.store z)) is
          ∙ ap (λ found. plan_of found (copy_of st.store z)) (none (get nat_cmp st.store.intentions z) refl) in
          ap (λ plan. (machine.in_effect w.verdict plan (w.copy i)).prefix) plan
          ∙ ap (λ (copy : Replica). copy.prefix) (shows.at i).copy
          ∙ ap (λ (st : State). (copy_of st.store z).prefix) is
          ∙ sym (ap (λ found. shown_in (fixed_of given) found z) at)
        where
          none : (found : Option Intention) → get nat_cmp st.store.intentions z ≡ found → get nat_cmp st.store.intentions z ≡ None
          none None there = there
          none (Some intention) there =
              let lock = (all_consistent given events i st at).locked z intention there in
              absurd (none_there i st (ap (λ all. server_at (run given all) i) (append-nil events) ∙ at) lock.lock (has_from st.locks lock.lock lock.there) (subst still (sym lock.on_it) kept) (exclusive_is lock.lock.mode lock.exclusive))

  pub calm_clear : Calm given events later still
  calm_clear = record {
    fair = fair;
    rows = λ so_far rest split z kept.
        sym (all_shown given (events ++ so_far) (all_keep given (events ++ so_far) (can_at given events later fair so_far rest split)) z).shows
        ∙ ap row_shown (still_at z kept so_far rest split).row_is
        ∙ (all_shown given events (all_keep given events can_first) z).shows;
    was = λ so_far rest split z kept prefix was.
        let now = still_at z kept so_far rest split in
        (subst (λ (held : Replica). prefix.pver ≤ held.prefix.pver) now.row_is was.0, sym (now.prefixes prefix.pver) ∙ was.1);
    stored = λ so_far rest split z kept. (still_at z kept so_far rest split).stored;
    answers = λ z kept. record { up = λ i up. up; stored = λ i up. stored_there z kept i up };
  }
    where
      can_first : CanBe given events
      can_first = can_front given events later fair.can

-- ---- two of which none is decided, and others beside

module _ (given : Opening) (events later : List Event) (goes : Fair given events later) (one other : Begun given events later) (still : ℕ → Type 0) (so : Lock → Type 0)
    (not_one : IsNotDecided (decisions given (events ++ later)) one.t) (not_other : IsNotDecided (decisions given (events ++ later)) other.t)
    (beside : AllOthers given events later one other so) (apart : (lock : Lock) → so lock → still lock.suite → lock.mode ≡ Exclusive → ⊥) where
  whose : (so_far back : List Event) → later ≡ so_far ++ back → (s : ℕ) (st : State) → server_at (run given (events ++ so_far)) s ≡ Some st → (lock : Lock) → Has st.locks lock
      → (lock.t ≡ one.t) ⊎ ((lock.t ≡ other.t) ⊎ so lock)
  whose so_far back split s st at lock has = beside so_far back s lock split (contains_from (locks_at (run given (events ++ so_far)) s) lock (subst (λ found. Has (locks_in found) lock) (sym at) has))

  pub calm_beside : Calm given events later still
  calm_beside =
      calm_clear given events later goes still
      (λ so_far rest event split s st at lock has kept exclusive.
      ⊎_elim
      (λ same. subst (IsNotDecided (decisions given (events ++ later))) (sym same) not_one)
      (λ more. ⊎_elim (λ same. subst (IsNotDecided (decisions given (events ++ later))) (sym same) not_other) (λ aside. absurd (apart lock aside kept exclusive)) more)
      (whose so_far (event ∷ rest) split s st at lock has))
      (λ s st at lock has kept exclusive.
      ⊎_elim
      (λ same. none_begun given events later goes.can one s st at lock has same)
      (λ more. ⊎_elim (λ same. none_begun given events later goes.can other s st at lock has same) (λ aside. apart lock aside kept exclusive) more)
      (whose [] later refl s st at lock has))
