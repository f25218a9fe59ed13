-- Runs that the laws are about, by computation.
use Rattle.law_run_recovers.proofs.Vocabulary.{◌≡◌, ⊎_elim, ℕ, zero, suc, ◌<◌, Bool, true, false, List, [], ◌∷◌, ◌++◌, Option, Some, None, is_some, refl, sym, ap, subst, ◌∙◌, arith, ◌==◌, ◌&&◌, ◌||◌, not, Contains, list_all, list_any, false≢true}
use Rattle.law_run_recovers.proofs.Vocabulary.{and_parts, eqb-true, slice_get, nat_cmp, LockMode, Identity, Op, Opening, State, all_at, at_has, has_from, Transaction, Sweep, Event, Begin, Actor, World, server_at, actor_at, step, after, run, fixed_of}
use Rattle.law_run_recovers.proofs.Vocabulary.{Fixed, owner, a, Cache, EventGivesValidVotes, CanBe, is_up, up_in, asks_for, way_in, way_at, is_way_met, in_its_way, StandsOpen, StandsStill, AreNear, is_running, Representative, hinders_itself, robs}
use Rattle.law_run_recovers.proofs.Vocabulary.{begun_world, world_after, turns, puts, sweeps, GoesUnmet, GoesAmongLocks, SweepsAll, spoils, opening, not-true, lit<, All-from_recursion, IsAccepted, WasItsHome, both_made, one_server, GoesAlone}
use Rattle.law_run_recovers.proofs.Vocabulary.{SweepsAlone, in_the_dark, stopped, two_agents, valid_votes}
use Rattle.law_run_machine.proofs.Decided.{some_of}
use Rattle.std.specs.FinSet.{contains-empty}
use Rattle.vote_core.proofs.Faults.{accepted_without_fault}
use Rattle.vote_core.specs.Validity.{IsAccepted as VotesAccepted}
use Rattle.law_run_recovers.specs.LawsWorked.{a_locked, at_the_first, b_locked, sweep_up, wants_a, IsAlone, IsAmongLocks, IsMetByNobody, DoubtsAreLeft}
use Rattle.law_runs.specs.Worked.{so_many}
use Rattle.law_run_alone.proofs.Worked.{some_runs_go_alone}
use Rattle.law_run_recovers.proofs.AloneLaws.{ends_are_by_votes}
use Rattle.law_run_recovers.proofs.AmongCourse.{head_or, tail_or}
use Rattle.law_run_recovers.proofs.AmongLaws.{among_locks_end_by_votes}
use Rattle.law_run_recovers.proofs.Blocking.{blocked_by_doubts, one_crash_blocks, some_server_blocks}
use Rattle.law_run_recovers.proofs.Swept.{sweeps_leave_doubts}
use Rattle.law_run_recovers.proofs.UnmetLaws.{unmet_end_by_votes}
use Rattle.law_run_recovers.proofs.ValidEvents.{all_by, event_sets_none, valid_event}
use Rattle.law_run_recovers.proofs.Keeps.{after_append}

-- ---- what holds at each moment of some events

module _ (q : World → Bool) (p : World → Event → Bool) (fixed : Fixed) where
  abbrev pub holds : World → List Event → Bool
  holds w [] = q w
  holds w (event ∷ events) = q w && (p w event && holds (step fixed w event).world events)

  here : (w : World) (events : List Event) → holds w events ≡ true → q w ≡ true
  here w [] all = all
  here w (event ∷ events) all = (and_parts (q w) (p w event && holds (step fixed w event).world events) all).0

  later_holds : (w : World) (event : Event) (events : List Event) → holds w (event ∷ events) ≡ true → (p w event ≡ true) × (holds (step fixed w event).world events ≡ true)
  later_holds w event events all = and_parts (p w event) (holds (step fixed w event).world events) (and_parts (q w) (p w event && holds (step fixed w event).world events) all).1

  pub holds_at : (later so_far rest : List Event) (w : World) → holds w later ≡ true → later ≡ so_far ++ rest → q (after fixed w so_far) ≡ true
  holds_at later [] rest w all is = here w later all
  holds_at [] (x ∷ so_far) rest w all is = cc
  holds_at (event ∷ later) (x ∷ so_far) rest w all is =
      subst (λ x. q (after fixed (step fixed w x).world so_far) ≡ true) (ap (head_or event) is)
      (holds_at later so_far rest (step fixed w event).world (later_holds w event later all).1 (ap tail_or is))

  pub happens_at : (later so_far rest : List Event) (event : Event) (w : World) → holds w later ≡ true → later ≡ so_far ++ event ∷ rest → p (after fixed w so_far) event ≡ true
  happens_at [] [] rest event w all is = cc
  happens_at [] (x ∷ so_far) rest event w all is = cc
  happens_at (one ∷ later) [] rest event w all is = subst (λ event. p w event ≡ true) (ap (head_or one) is) (later_holds w one later all).0
  happens_at (one ∷ later) (x ∷ so_far) rest event w all is =
      subst (λ x. p (after fixed (step fixed w x).world so_far) event ≡ true) (ap (head_or one) is)
      (happens_at later so_far rest event (step fixed w one).world (later_holds w one later all).1 (ap tail_or is))

pub unless : (a b : Bool) → (not a || b) ≡ true → a ≡ true → b ≡ true
unless true b is so = is
unless false b is so = absurd (false≢true so)

-- where nothing spoils events, by computation, nothing does at any moment of them
pub none_spoils_it : (given : Opening) (events later : List Event) → holds (λ w. true) (λ w event. not (spoils given w event)) (fixed_of given) (run given events) later ≡ true
    → (before rest : List Event) (event : Event) → later ≡ before ++ event ∷ rest → spoils given (run given (events ++ before)) event ≡ false
none_spoils_it given events later calm before rest event split =
    subst (λ w. spoils given w event ≡ false) (sym (after_append (fixed_of given) events before (opening given)))
    (not-true (spoils given (after (fixed_of given) (run given events) before) event)
    (happens_at (λ w. true) (λ w event. not (spoils given w event)) (fixed_of given) later before rest event (run given events) calm split))

-- ---- servers

abbrev pub same_bool : Bool → Bool → Bool
same_bool true b = b
same_bool false b = not b

pub same_is : (x y : Bool) → same_bool x y ≡ true → x ≡ y
same_is true true is = refl
same_is true false is = absurd (false≢true is)
same_is false true is = absurd (false≢true is)
same_is false false is = refl

-- each stands so at the same server of another world
abbrev pub alike : {X : Type 0} → (X → X → Bool) → (State → X) → List State → List State → Bool
alike same f [] [] = true
alike same f [] (y ∷ ys) = false
alike same f (x ∷ xs) [] = false
alike same f (x ∷ xs) (y ∷ ys) = same (f x) (f y) && alike same f xs ys

abbrev as_in : {X : Type 0} → (State → X) → X → Option State → X
as_in f none (Some st) = f st
as_in f none None = none

alike_at : {X : Type 0} (same : X → X → Bool) (f : State → X) (none : X) → ((x y : X) → same x y ≡ true → x ≡ y) → (xs ys : List State) → alike same f xs ys ≡ true → (i : ℕ) → as_in f none (slice_get xs i) ≡ as_in f none (slice_get ys i)
alike_at same f none so [] [] all i = refl
alike_at same f none so [] (y ∷ ys) all i = absurd (false≢true all)
alike_at same f none so (x ∷ xs) [] all i = absurd (false≢true all)
alike_at same f none so (x ∷ xs) (y ∷ ys) all zero = so (f x) (f y) (and_parts (same (f x) (f y)) (alike same f xs ys) all).0
alike_at same f none so (x ∷ xs) (y ∷ ys) all (suc i) = alike_at same f none so xs ys (and_parts (same (f x) (f y)) (alike same f xs ys) all).1 i

abbrev pub same_ups : World → World → Bool
same_ups w first = alike same_bool (λ (st : State). st.up) w.servers first.servers

pub up_same : (w first : World) → same_ups w first ≡ true → (server : ℕ) → is_up w server ≡ is_up first server
up_same w first all server = sym (up_as (server_at w server)) ∙ alike_at same_bool (λ (st : State). st.up) false same_is w.servers first.servers all server ∙ up_as (server_at first server)
  where
    up_as : (found : Option State) → as_in (λ (st : State). st.up) false found ≡ up_in found
    up_as (Some st) = refl
    up_as None = refl

abbrev pub same_way : Option (Option ℕ) → Option (Option ℕ) → Bool
same_way None None = true
same_way None (Some y) = false
same_way (Some x) None = false
same_way (Some None) (Some None) = true
same_way (Some None) (Some (Some y)) = false
same_way (Some (Some x)) (Some None) = false
same_way (Some (Some x)) (Some (Some y)) = x == y

pub way_is : (x y : Option (Option ℕ)) → same_way x y ≡ true → x ≡ y
way_is None None is = refl
way_is None (Some y) is = absurd (false≢true is)
way_is (Some x) None is = absurd (false≢true is)
way_is (Some None) (Some None) is = refl
way_is (Some None) (Some (Some y)) is = absurd (false≢true is)
way_is (Some (Some x)) (Some None) is = absurd (false≢true is)
way_is (Some (Some x)) (Some (Some y)) is = ap (λ n. Some (Some n)) (eqb-true x y is)

abbrev same_ways : World → World → ℕ → List (ℕ × LockMode) → Bool
same_ways w first t asked = list_all (λ (one : ℕ × LockMode). alike same_way (λ (st : State). way_in t one.0 one.1 (Some st)) w.servers first.servers) asked

way_same : (w first : World) (t : ℕ) (asked : List (ℕ × LockMode)) → same_ways w first t asked ≡ true → (one : ℕ × LockMode) → Contains asked one → (server : ℕ) → way_at w t one.0 one.1 server ≡ way_at first t one.0 one.1 server
way_same w first t asked all one has server =
    sym (way_as (server_at w server))
    ∙ alike_at same_way way None way_is w.servers first.servers (all_at (λ (one : ℕ × LockMode). alike same_way (λ (st : State). way_in t one.0 one.1 (Some st)) w.servers first.servers) asked one all (has_from asked one has)) server
    ∙ way_as (server_at first server)
  where
    way : State → Option (Option ℕ)
    way st = way_in t one.0 one.1 (Some st)

    way_as : (found : Option State) → as_in (λ (st : State). way_in t one.0 one.1 (Some st)) None found ≡ way_in t one.0 one.1 found
    way_as (Some st) = refl
    way_as None = refl

abbrev none_met : World → ℕ → List (ℕ × LockMode) → Bool
none_met w t asked = list_all (λ (one : ℕ × LockMode). list_all (λ (st : State). not (is_way_met (way_in t one.0 one.1 (Some st)))) w.servers) asked

met_not : (w : World) (t : ℕ) (asked : List (ℕ × LockMode)) → none_met w t asked ≡ true → (one : ℕ × LockMode) → Contains asked one → (server : ℕ) → in_its_way w t one.0 one.1 server ≡ false
met_not w t asked all one has server = of (server_at w server) refl
  where
    each : list_all (λ (st : State). not (is_way_met (way_in t one.0 one.1 (Some st)))) w.servers ≡ true
    each = all_at (λ (one : ℕ × LockMode). list_all (λ (st : State). not (is_way_met (way_in t one.0 one.1 (Some st)))) w.servers) asked one all (has_from asked one has)

    of : (found : Option State) → server_at w server ≡ found → is_way_met (way_in t one.0 one.1 found) ≡ false
    of None at = refl
    of (Some st) at = not-true (is_way_met (way_in t one.0 one.1 (Some st))) (all_at (λ (st : State). not (is_way_met (way_in t one.0 one.1 (Some st)))) w.servers st each (at_has w.servers server st at))

-- ---- they can be

one_server_accepted : IsAccepted one_server
one_server_accepted = record {
  some_servers = (omega arith, omega arith);
  some_agents = (omega arith, omega arith);
  known_servers = All-from_recursion (λ (rep : Representative). rep.0 < 1) one_server.c0.reps (lit< tt, tt);
  budget_fits = omega arith;
  quota_fits = omega arith;
  slots_fit = omega arith;
  old_known = λ server there. absurd (false≢true (sym (contains-empty nat_cmp server) ∙ there));
  old_fits = λ server there. absurd (false≢true (sym (contains-empty nat_cmp server) ∙ there));
}

pub one_can : (events : List Event) → list_all event_sets_none events ≡ true → CanBe one_server events
one_can events is = record { accepted = one_server_accepted; c0 = valid_votes one_server.c0 refl; votes = all_by EventGivesValidVotes event_sets_none valid_event events is }

two_can : (events : List Event) → list_all event_sets_none events ≡ true → CanBe two_agents events
two_can events is = record {
  accepted = some_runs_go_alone.can_without.accepted;
  c0 = some_runs_go_alone.can_without.c0;
  votes = all_by EventGivesValidVotes event_sets_none valid_event events is;
}

near_all : (given : Opening) (events : List Event) (t : ℕ) (caller : Identity) (site : ℕ) (ops : List Op) (cache : Cache) → AreNear given events t caller site ops cache (λ _. true)
near_all given events t caller site ops cache = record {
  home = refl;
  first = λ server has. refl;
  hints = λ one prefix server has hinted votes. refl;
  shown = λ one by server has near up votes. refl;
  set = λ one server has votes. refl;
}

-- ---- nobody meets it

module _ (given : Opening) (first : World) (agent t : ℕ) (asked : List (ℕ × LockMode)) where
  abbrev unmet_at : World → Bool
  unmet_at w = not (is_running w agent t) || (same_ups w first && none_met w t asked)

  abbrev still_at : World → Bool
  still_at w = not (is_running w agent t) || (same_ups w first && same_ways w first t asked)

  abbrev free_at : World → Event → Bool
  free_at w event = not (is_running w agent t) || not (hinders_itself given agent w event || robs given agent t w event)

  stands_open : (w : World) → unmet_at w ≡ true → is_running w agent t ≡ true → StandsOpen first w t asked (λ _. true)
  stands_open w all running =
      let parts = and_parts (same_ups w first) (none_met w t asked) (unless (is_running w agent t) (same_ups w first && none_met w t asked) all running) in
      record { up = λ server near. up_same w first parts.0 server; way = λ server one near has. met_not w t asked parts.1 one has server }

  stands_still : (w : World) → still_at w ≡ true → is_running w agent t ≡ true → StandsStill first w t asked (λ _. true)
  stands_still w all running =
      let parts = and_parts (same_ups w first) (same_ways w first t asked) (unless (is_running w agent t) (same_ups w first && same_ways w first t asked) all running) in
      record { up = λ server near. up_same w first parts.0 server; way = λ server one near has. way_same w first t asked parts.1 one has server }

  free_hand : (w : World) (event : Event) → free_at w event ≡ true → is_running w agent t ≡ true → (hinders_itself given agent w event || robs given agent t w event) ≡ false
  free_hand w event all running = not-true _ (unless (is_running w agent t) (not (hinders_itself given agent w event || robs given agent t w event)) all running)

abbrev writes_a : List Op
writes_a = puts a 0 ∷ []

abbrev pub first_of : List Event → World
first_of events = run one_server events

pub its_actor : (events : List Event) → is_some (actor_at (run one_server events) 0) ≡ true → (actor : Actor) × (actor_at (run one_server events) 0 ≡ Some actor)
its_actor events is = some_of (actor_at (run one_server events) 0) is

abbrev asks_of_a : List Event → List (ℕ × LockMode)
asks_of_a events = asks_for one_server events 64 owner writes_a

goes_unmet : GoesUnmet one_server b_locked (turns 6) 0 64 owner 0 (puts a 0 ∷ []) (its_actor b_locked refl).0
goes_unmet = record {
  can = one_can (b_locked ++ Begin 0 (Transaction owner 0 writes_a) ∷ turns 6) refl;
  there = (its_actor b_locked refl).1;
  begins = refl;
  near = λ _. true;
  are_near = near_all one_server b_locked 64 owner 0 writes_a (its_actor b_locked refl).0.agent.cache;
  unmet = λ so_far rest split running.
      stands_open one_server (first_of b_locked) 0 64 (asks_of_a b_locked) (world_after one_server b_locked 0 owner 0 writes_a so_far)
      (holds_at (unmet_at one_server (first_of b_locked) 0 64 (asks_of_a b_locked)) (free_at one_server (first_of b_locked) 0 64 (asks_of_a b_locked)) (fixed_of one_server) (turns 6) so_far rest
      (begun_world one_server b_locked 0 owner 0 writes_a) refl split) running;
  free_hand = λ so_far rest event split running.
      free_hand one_server (first_of b_locked) 0 64 (asks_of_a b_locked) (world_after one_server b_locked 0 owner 0 writes_a so_far) event
      (happens_at (unmet_at one_server (first_of b_locked) 0 64 (asks_of_a b_locked)) (free_at one_server (first_of b_locked) 0 64 (asks_of_a b_locked)) (fixed_of one_server) (turns 6) so_far rest event
      (begun_world one_server b_locked 0 owner 0 writes_a) refl split) running;
}

pub met_by_nobody : IsMetByNobody
met_by_nobody = record {
  actor = (its_actor b_locked refl).0;
  goes = goes_unmet;
  ends = refl;
  so = unmet_end_by_votes one_server b_locked (turns 6) 0 64 owner 0 writes_a (its_actor b_locked refl).0 goes_unmet;
}

-- ---- it goes alone

goes_alone : GoesAlone one_server both_made (so_many 10 0) 0 64 owner 0 (puts a 0 ∷ []) (its_actor both_made refl).0
goes_alone = record {
  can = one_can (both_made ++ Begin 0 (Transaction owner 0 writes_a) ∷ so_many 10 0) refl;
  there = (its_actor both_made refl).1;
  begins = refl;
  free = refl;
  alone = refl;
}

pub goes_by_itself : IsAlone
goes_by_itself = record {
  actor = (its_actor both_made refl).0;
  goes = goes_alone;
  ends = refl;
  so = ends_are_by_votes one_server both_made (so_many 10 0) 0 64 owner 0 writes_a (its_actor both_made refl).0 goes_alone;
}

-- ---- it goes among locks

goes_among : GoesAmongLocks one_server a_locked (so_many 6 0) 0 64 owner 0 (puts a 0 ∷ []) (its_actor a_locked refl).0
goes_among = record {
  can = one_can (a_locked ++ Begin 0 (Transaction owner 0 writes_a) ∷ so_many 6 0) refl;
  there = (its_actor a_locked refl).1;
  begins = refl;
  near = λ _. true;
  are_near = near_all one_server a_locked 64 owner 0 writes_a (its_actor a_locked refl).0.agent.cache;
  stays = λ so_far rest split running.
      stands_still one_server (first_of a_locked) 0 64 (asks_of_a a_locked) (world_after one_server a_locked 0 owner 0 writes_a so_far)
      (holds_at (still_at one_server (first_of a_locked) 0 64 (asks_of_a a_locked)) (free_at one_server (first_of a_locked) 0 64 (asks_of_a a_locked)) (fixed_of one_server) (so_many 6 0) so_far rest
      (begun_world one_server a_locked 0 owner 0 writes_a) refl split) running;
  free_hand = λ so_far rest event split running.
      free_hand one_server (first_of a_locked) 0 64 (asks_of_a a_locked) (world_after one_server a_locked 0 owner 0 writes_a so_far) event
      (happens_at (still_at one_server (first_of a_locked) 0 64 (asks_of_a a_locked)) (free_at one_server (first_of a_locked) 0 64 (asks_of_a a_locked)) (fixed_of one_server) (so_many 6 0) so_far rest event
      (begun_world one_server a_locked 0 owner 0 writes_a) refl split) running;
}

pub among_locks : IsAmongLocks
among_locks = record {
  actor = (its_actor a_locked refl).0;
  goes = goes_among;
  ends = refl;
  so = among_locks_end_by_votes one_server a_locked (so_many 6 0) 0 64 owner 0 writes_a (its_actor a_locked refl).0 goes_among;
}

-- ---- a sweep leaves a doubt

sweeps_one : SweepsAlone two_agents in_the_dark (so_many 2 1) 1 1 0
sweeps_one = record {
  can = two_can (in_the_dark ++ Begin 1 (Sweep 0) ∷ so_many 2 1) refl;
  begins = refl;
  up = refl;
  alone = refl;
}

first_accepted : VotesAccepted 3 at_the_first
first_accepted = accepted_without_fault 3 at_the_first refl (All-from_recursion (λ (rep : Representative). rep.1 < 256) at_the_first.reps (lit< tt, tt))

covers_up : (server : ℕ) → is_up (run two_agents in_the_dark) server ≡ true → list_any (λ (one : ℕ × List Event). one.0 == server) sweep_up ≡ true
covers_up (suc zero) up = absurd (false≢true up)
covers_up (suc (suc (suc more))) up = absurd (false≢true up)
covers_up other up = refl

sweeps_all : SweepsAll two_agents in_the_dark 1 sweep_up
sweeps_all = record {
  can = two_can (in_the_dark ++ sweeps 1 sweep_up) refl;
  goes = refl;
  up = refl;
  all = covers_up;
}

-- the crashed server was the home; it has no vote there
its_home : WasItsHome two_agents (run two_agents stopped) 129 (wants_a at_the_first) 1
its_home = ⊎_elim
    (λ voted. absurd (false≢true voted))
    (λ was. was)
    (one_crash_blocks two_agents stopped 1 1 sweep_up refl sweeps_all 129 (wants_a at_the_first) first_accepted refl)

pub doubts_left : DoubtsAreLeft
doubts_left = record {
  sweeps_one = sweeps_one;
  sweeps_all = sweeps_all;
  cannot = refl;
  all_were_up = refl;
  is_up_still = refl;
  cannot_either = refl;
  leaves = sweeps_leave_doubts two_agents in_the_dark (so_many 2 1) 1 1 0 sweeps_one;
  blocked = λ want. blocked_by_doubts two_agents in_the_dark 1 sweep_up sweeps_all 129 want;
  blocker = some_server_blocks two_agents in_the_dark 1 sweep_up sweeps_all 129 (wants_a two_agents.c0) (valid_votes two_agents.c0 refl) refl;
  was_its_home = its_home;
}
