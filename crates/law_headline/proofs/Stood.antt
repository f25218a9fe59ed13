-- Where a transaction is decided, the locks that it was told of have stood ever since.
use Rattle.law_headline.proofs.Vocabulary.{◌≡◌, ◌⊎◌, inl, inr, ℕ, Bool, true, false, cond, List, [], ◌∷◌, ◌++◌, append_assoc, Option, Some, None, is_some, refl, sym, ap, subst, ◌∙◌, arith, ◌==◌, ◌&&◌, ◌||◌, find, list_any, nat_tests, none-some, same_Some, Opening}
use Rattle.law_headline.proofs.Vocabulary.{is_exclusive, serves, LockMode, Prefix, Request, Replied, Doing, decision_of, request_in, fixed_of, next_in, next_of, Step, actor_at}
use Rattle.law_headline.proofs.Vocabulary.{step, Decided, decided, answers_follow_knowledge, Beginning, World, begun, at2, Obeys, Inv, still_locked, all_steps, Shows, hold_of, beginning, KeepSides, event_comes, run-append}
use Rattle.law_headline.proofs.Vocabulary.{CanBe, servers_of, home_in, served_events, events_of, moved, machine_from, machine_of}
use Rattle.law_run_machine.proofs.Consistent.{AllConsistent}
use Rattle.rep_core.specs.declared.lock.Lock.{Lock}
use Rattle.rep_core.specs.Locks.{is_own}
use Rattle.run_core.specs.declared.done.Served.{Served}
use Rattle.law_runs.specs.Answers.{IsAnsweredAsKnown}
use Rattle.law_suite_machine.specs.Events.{Hear, heard, run, Event}
use Rattle.law_suite_machine.specs.Conditions.{MayHear}
use Rattle.law_server_moves.specs.Moves.{hears}
use Rattle.law_run_machine.specs.Machines.{exchanged_events, response_events}
use Rattle.law_run_machine.proofs.Joining.{obeys_first}
use Rattle.law_run_machine.proofs.Moves.{by_moves}
use Rattle.law_runs.proofs.Moves.{sent, unstamped, what_of, of_operator}
use Rattle.rep_core.specs.Service.{reply_of}
use Rattle.law_run_machine.proofs.Decided.{some_of}
use Rattle.law_headline.specs.Laws.{AsksForLock, TellsOfLock, LocksStand}
use Rattle.rep_core.specs.declared.request.Request.TheVariants as request
use Rattle.rep_core.specs.declared.reply.Reply.TheVariants as reply
use Rattle.run_core.specs.declared.event.Event as happening
use Rattle.run_core.specs.Worlds as worlds
use Rattle.run_core.specs.Runs as runs
use Rattle.law_headline.proofs.Unbroken.{stood, AsMode, HoldsMode, holds_mode, IsTold, still_told}
use Rattle.law_headline.proofs.Beside.{is_ready_now}
use Rattle.law_headline.proofs.Keeping.{holds_after, all_keep}
use Rattle.law_headline.proofs.Promised.{front}

-- ---- what the event told

module _ (given : Opening) (z : ℕ) (w : World) (inv : Inv (beginning z given) w) (world : worlds.World) (t : ℕ) (mode : LockMode) (prefix : Prefix) (dver : ℕ) where
  abbrev start : Beginning
  start = beginning z given

  self : (n : ℕ) → (n == n) ≡ true
  self n = grind (arith, nat_tests)

  -- what it hears
  hears_it : (i : ℕ) (asked : Request) → AsksForLock t z mode asked → hears z i asked (reply.Held prefix dver) ≡ Hear i t (is_exclusive mode) ∷ []
  hears_it i asked (inl polled) = subst (λ asked. hears z i asked (reply.Held prefix dver) ≡ Hear i t (is_exclusive mode) ∷ []) (sym polled) (ap (λ b. cond b (Hear i t (is_exclusive mode) ∷ []) []) (self z))
  hears_it i asked (inr upgraded) =
      subst (λ asked. hears z i asked (reply.Held prefix dver) ≡ Hear i t (is_exclusive mode) ∷ []) (sym upgraded.0)
      (ap (λ b. cond b (Hear i t true ∷ []) []) (self z) ∙ ap (λ mode. Hear i t (is_exclusive mode) ∷ []) (sym upgraded.1))

  told_now : (later : World) (i : ℕ) (wanted : Bool) → MayHear later i t wanted → IsTold wanted (heard later i t wanted) i t
  told_now later i wanted may = record {
    told = at2 (λ o. is_some o ≡ true) later.told i t (Some (record { exclusive = wanted; copy = later.copy i })) i t (λ _. refl) (λ apart. absurd (apart (refl, refl)));
    mode = subst (AsMode wanted) (sym may.stands) may.mode;
  }

  told_served : (doing : Option Doing) (what : Served) (later : List Event) → AsksForLock t z mode what.request.value → what.reply.value ≡ reply.Held prefix dver → Obeys start w (exchanged_events given z w doing what ++ later)
      → IsTold (is_exclusive mode) (run start w (exchanged_events given z w doing what ++ later)) what.server t
  told_served doing what later asked said obeys =
      let first = served_events given z w doing what in
      let hear = hears z what.server what.request.value what.reply.value in
      let parts = obeys_first start w (first ++ hear) later obeys in
      let middle = run start w first in
      let hear_is : hear ≡ Hear what.server t (is_exclusive mode) ∷ [] = ap (hears z what.server what.request.value) said ∙ hears_it what.server what.request.value asked in
      let now : IsTold (is_exclusive mode) (run start middle hear) what.server t =
      subst (λ events. Obeys start middle events → IsTold (is_exclusive mode) (run start middle events) what.server t) (sym hear_is) (λ obeys. told_now middle what.server (is_exclusive mode) obeys.0) (obeys_first start w first hear parts.0).1 in
      subst (λ w. IsTold (is_exclusive mode) w what.server t) (sym (run-append start w (first ++ hear) later))
      (still_told start (run start w (first ++ hear)) (all_steps start w inv (first ++ hear) parts.0) later parts.1 (is_exclusive mode) what.server t
      (subst (λ w. IsTold (is_exclusive mode) w what.server t) (sym (run-append start w first hear)) now))

  abbrev TellsIt : Option Served → List Event → Type 0
  TellsIt served events =
      (what : Served) → served ≡ Some what → AsksForLock t z mode what.request.value → what.reply.value ≡ reply.Held prefix dver → Obeys start w events → IsTold (is_exclusive mode) (run start w events) what.server t

  nobody : (events : List Event) → TellsIt None events
  nobody events what is = absurd (none-some what is)

  asks_no_lock : (asked : Request) → (asked ≡ request.Crash) ⊎ (asked ≡ request.Return) → AsksForLock t z mode asked → ⊥
  asks_no_lock asked h1 h2 = search arith

  told_in_event : (event : happening.Event) → TellsIt (step (fixed_of given) world event).done.served (events_of given z w world event)
  told_in_event = by_moves given z w world (λ _ _ events stepped. TellsIt stepped.done.served events) (record {
    nothing = λ _. nobody [];
    begins = λ number actor job there. nobody _;
    forgets = λ number actor site there. nobody [];
    answers = λ number actor asked st there next at room what is.
        let served = what_of asked.0 st (sent actor asked.1) in
        let own = response_events given z actor (Replied (reply_of st asked.1)) in
        subst (λ (what : Served). AsksForLock t z mode what.request.value → what.reply.value ≡ reply.Held prefix dver → Obeys start w (exchanged_events given z w actor.agent.doing served ++ own)
        → IsTold (is_exclusive mode) (run start w (exchanged_events given z w actor.agent.doing served ++ own)) what.server t)
        (same_Some served what is)
        (told_served actor.agent.doing served own);
    lacks = λ event number actor asked why by there next. nobody _;
    operates = λ event server asked st by there room what is asks.
        absurd (asks_no_lock asked (of_operator (λ asked. (asked ≡ request.Crash) ⊎ (asked ≡ request.Return)) (inl refl) (inr refl) event server asked by)
        (subst (λ (what : Served). AsksForLock t z mode what.request.value) (sym (same_Some (what_of server st (unstamped asked)) what is)) asks));
  })

-- ---- later on

told_on : (given : Opening) (z : ℕ) (w : World) (world : worlds.World) (events : List happening.Event) → Inv (beginning z given) w
    → Shows z (home_in given) (servers_of given world) w → AllConsistent (servers_of given world) → KeepSides given z w world events
    → (wanted : Bool) (i t : ℕ) → IsTold wanted w i t → IsTold wanted (machine_from given z w world events) i t
told_on given z w world [] inv shows all keep wanted i t is = is
told_on given z w world (event ∷ events) inv shows all keep wanted i t is =
    let start = beginning z given in
    let moves = events_of given z w world event in
    let one = event_comes given z w world inv shows all event keep.0 in
    told_on given z (run start w moves) (step (fixed_of given) world event).world events (all_steps start w inv moves one.obeys) one.shows one.consistent keep.1 wanted i t (still_told start w inv moves one.obeys wanted i t is)

stood_all : (given : Opening) (z : ℕ) (w : World) (world : worlds.World) (events : List happening.Event) → Inv (beginning z given) w
    → Shows z (home_in given) (servers_of given world) w → AllConsistent (servers_of given world) → KeepSides given z w world events
    → (wanted : Bool) (i t : ℕ) → IsTold wanted w i t → is_some ((machine_from given z w world events).lock i t) ≡ true → is_some (w.lock i t) ≡ true
stood_all given z w world [] inv shows all keep wanted i t told is = is
stood_all given z w world (event ∷ events) inv shows all keep wanted i t told is =
    let start = beginning z given in
    let moves = events_of given z w world event in
    let one = event_comes given z w world inv shows all event keep.0 in
    stood start w inv moves one.obeys i t told.told
    (stood_all given z (run start w moves) (step (fixed_of given) world event).world events (all_steps start w inv moves one.obeys) one.shows one.consistent keep.1 wanted i t (still_told start w inv moves one.obeys wanted i t told) is)

machine_on : (given : Opening) (z : ℕ) (w : World) (world : worlds.World) (events later : List happening.Event)
    → machine_from given z w world (events ++ later) ≡ machine_from given z (machine_from given z w world events) (runs.after (fixed_of given) world events) later
machine_on given z w world [] later = refl
machine_on given z w world (event ∷ events) later = machine_on given z (moved given z w world event) (step (fixed_of given) world event).world events later

pub keeps_later : (given : Opening) (z : ℕ) (w : World) (world : worlds.World) (events later : List happening.Event) → KeepSides given z w world (events ++ later)
    → KeepSides given z (machine_from given z w world events) (runs.after (fixed_of given) world events) later
keeps_later given z w world [] later keeps = keeps
keeps_later given z w world (event ∷ events) later keeps = keeps_later given z (moved given z w world event) (step (fixed_of given) world event).world events later keeps.1

-- ---- at the decision

-- its home has no record of it
module _ (given : Opening) (z : ℕ) (w : World) (world : worlds.World) (shows : Shows z (home_in given) (servers_of given world) w) (number : ℕ) (one : Decided)
    (is : decided (fixed_of given) world (Step number) ≡ Some one) (so : IsAnsweredAsKnown given world (Step number) one) where
  same_number : so.number ≡ number
  same_number = search arith

  there : actor_at world number ≡ Some so.actor
  there = ap (actor_at world) (sym same_number) ∙ so.there

  abbrev t : ℕ
  t = so.txn_run.task.t

  asked : next_of (fixed_of given) so.actor.agent ≡ Some (home_in given t, request.Decide t (decision_of so.txn_run.task so.outcome))
  asked = ap (next_in (fixed_of given)) so.running ∙ ap (request_in (fixed_of given) so.txn_run.task so.txn_run.suites) so.deciding

  pub undecided : w.verdict t ≡ None
  undecided = search arith

-- ---- the law

serves_it : (have wanted : LockMode) → (is_exclusive wanted ≡ true → is_exclusive have ≡ true) → serves have wanted ≡ true
serves_it have wanted h2 = search arith

found_serving : (p : Lock → Bool) (mode : LockMode) (locks : List Lock) → HoldsMode (is_exclusive mode) (hold_of (find p locks)) → list_any (λ lock. p lock && serves lock.mode mode) locks ≡ true
found_serving p mode [] is = absurd is
found_serving p mode (lock ∷ locks) is =
    elim (p lock) as (λ b. HoldsMode (is_exclusive mode) (hold_of (cond b (Some lock) (find p locks))) → ((b && serves lock.mode mode) || list_any (λ lock. p lock && serves lock.mode mode) locks) ≡ true) [
      | true ↦ λ is. ap (λ b. b || list_any (λ lock. p lock && serves lock.mode mode) locks) (serves_it lock.mode mode is)
      | false ↦ λ is. found_serving p mode locks is
    ] is

-- what it was told then it was told still after some events more
mode_after : (given : Opening) (events : List happening.Event) (event : happening.Event) (between : List happening.Event) → CanBe given (events ++ event ∷ between)
    → (t suite : ℕ) (mode : LockMode) (server : ℕ) → TellsOfLock given events event t suite mode server
    → IsTold (is_exclusive mode) (machine_of given suite (events ++ event ∷ between)) server t
mode_after given events event between can t suite mode server tells =
    let z = suite in
    let start = beginning z given in
    let wanted = is_exclusive mode in
    let world = runs.run given events in
    let w = machine_of given z events in
    let first = holds_after given events (front given events (event ∷ between) can) z in
    let keep = keeps_later given z (begun start) (worlds.opening given) events (event ∷ between) ((all_keep given (events ++ event ∷ between) can).keep z) in
    let one = event_comes given z w world first.inv first.shows first.all event keep.0 in
    let now = told_in_event given z w first.inv world t mode tells.prefix tells.dver event tells.what tells.served tells.asked tells.told one.obeys in
    subst (λ (w : World). IsTold wanted w server t) (sym (machine_on given z (begun start) (worlds.opening given) events (event ∷ between)))
    (told_on given z (moved given z w world event) (step (fixed_of given) world event).world between (all_steps start w first.inv (events_of given z w world event) one.obeys) one.shows one.consistent keep.1 wanted server t
    (subst (λ server. IsTold wanted (moved given z w world event) server t) tells.at now))

pub locks_stand : LocksStand
locks_stand given events event later number one suite mode server can tells is between after parts =
    let z = suite in
    let wanted = is_exclusive mode in
    let begin = begun (beginning z given) in
    let early = events ++ event ∷ between in
    let all_is : events ++ event ∷ later ≡ early ++ after = ap (λ later. events ++ event ∷ later) parts ∙ sym (append_assoc events (event ∷ between) after) in
    let can' : CanBe given (early ++ after) = subst (CanBe given) all_is can in
    let can_early = front given early after can' in
    let now = holds_after given early can_early z in
    let wb = machine_of given z early in
    let world = runs.run given early in
    let last = holds_after given (events ++ event ∷ later) can z in
    let decision = runs.run given (events ++ event ∷ later) in
    let wd = machine_of given z (events ++ event ∷ later) in
    let so = answers_follow_knowledge given (events ++ event ∷ later) (Step number) one is in
    let t = so.txn_run.task.t in
    let none = undecided given z wd decision last.shows number one is so in
    let mode_told = mode_after given events event between can_early one.t suite mode server tells in
    let joined : wd ≡ machine_from given z wb world after = ap (machine_of given z) all_is ∙ machine_on given z begin (worlds.opening given) early after in
    let keeps = keeps_later given z begin (worlds.opening given) early after ((all_keep given (early ++ after) can').keep z) in
    let told_last : is_some (wd.told server one.t) ≡ true = subst (λ (w : World). is_some (w.told server one.t) ≡ true) (sym joined) (told_on given z wb world after now.inv now.shows now.all keeps wanted server one.t mode_told).told in
    let a = some_of (wd.told server t) (subst (λ t. is_some (wd.told server t) ≡ true) so.t told_last) in
    let ready = is_ready_now given z wd decision last so.number so.actor so.txn_run so.outcome so.there so.running so.deciding none in
    let lock = still_locked wd last.inv.sound t ready server a.0 a.1 in
    let stands : is_some (wd.lock server one.t) ≡ true = subst (λ t. is_some (wd.lock server t) ≡ true) (sym so.t) (ap is_some lock.1) in
    let before = stood_all given z wb world after now.inv now.shows now.all keeps wanted server one.t mode_told (subst (λ (w : World). is_some (w.lock server one.t) ≡ true) joined stands) in
    let holds = holds_mode wanted (wb.lock server one.t) mode_told.mode before in
    found_serving (is_own one.t z) mode (servers_of given world server).locks (subst (HoldsMode wanted) ((now.shows.at server).lock one.t) holds)
