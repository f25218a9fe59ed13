-- What servers show that are open to a transaction is in effect. So its votes as it finds them are those of the rows, whatever locks others have.
use Rattle.law_run_recovers.proofs.Vocabulary.{◌≡◌, ⊎_elim, ℕ, ◌≤◌, Bool, true, false, cond, List, [], ◌∷◌, ◌++◌, Option, Some, None, refl, sym, ap, subst, ◌∙◌, arith, ◌==◌, nat_le, find, map, list_all, nat_cmp, false≢true, and_parts, eq-eqb}
use Rattle.law_run_recovers.proofs.Vocabulary.{nat_tests, get, Identity, votes_in, votes_in-wider, Opening, Prefix, LockMode, Shared, serves, Op, row_of, Need, Hold, Know, Lock, IsConsistent, conflicts, in_the_way, State, Has, has_from, find_none}
use Rattle.law_run_recovers.proofs.Vocabulary.{needed_of, fixed_of, Event, Begin, Transaction, Actor, actor_at, server_at, run, table_of, IsQuorum, effect, Shows, servers_of, home_in, machine_of, AllKeepSides, row_at, CanBe, all_keep, begins_job}
use Rattle.law_run_recovers.proofs.Vocabulary.{no_lock, all_consistent, up_in, shown_at, demand_by, is_met, led_to_by, has_asked, not_asked, votes_of_row, MayStart, is_open_way, way_in, is_open_at, mode_or, first_mode, OpenVotesAreRows, or_parts}
use Rattle.law_run_recovers.proofs.Vocabulary.{serves_itself}
use Rattle.law_suite_machine.specs.Machine.{World}
use Rattle.rep_core.specs.Intentions as server
use Rattle.run_core.specs.Worlds as worlds
use Rattle.law_one_table.proofs.Effects as effects
use Rattle.law_run_recovers.proofs.Found.{Answering, found_is_row}
use Rattle.law_run_recovers.proofs.Leading.{led}
use Rattle.law_run_recovers.proofs.Picks.{find_nobody}
use Rattle.law_run_recovers.proofs.Rows.{row_votes, start_was}
use Rattle.law_run_recovers.proofs.Stand.{free_where, in_conflict}
use Rattle.law_run_recovers.proofs.Aside.{both_false}

-- ---- what an open server shows is in effect

not_same : (a b : ℕ) → (a ≡ b → ⊥) → (a == b) ≡ false
not_same a b apart = search arith

pub up_of : (t z : ℕ) (mode : LockMode) (found : Option State) → is_open_way (way_in t z mode found) ≡ true → up_in found ≡ true
up_of t z mode found h4 = search arith

module _ (given : Opening) (z : ℕ) (w : World) (world : worlds.World) (shows : Shows z (home_in given) (servers_of given world) w)
    (all : (i : ℕ) (st : State) → server_at world i ≡ Some st → IsConsistent st) (t : ℕ) (none : (i : ℕ) (st : State) → server_at world i ≡ Some st → (lock : Lock) → Has st.locks lock → lock.t ≡ t → ⊥) (mode : LockMode) where
  -- an intention there would have its lock in the way
  no_intention : (i : ℕ) (st : State) → server_at world i ≡ Some st → in_the_way t z mode st.locks ≡ None → (found : Option server.Intention) → get nat_cmp st.store.intentions z ≡ found → get nat_cmp st.store.intentions z ≡ None
  no_intention i st at free None is = is
  no_intention i st at free (Some intention) is =
      let beside = (all i st at).locked z intention is in
      let has = has_from st.locks beside.lock beside.there in
      absurd (false≢true
      (sym (find_none (conflicts t z mode) st.locks beside.lock free has)
      ∙ in_conflict t z mode beside.lock beside.on_it (not_same beside.lock.t t (none i st at beside.lock has)) beside.exclusive))

  open_stored : (i : ℕ) (found : Option State) → server_at world i ≡ found → is_open_way (way_in t z mode found) ≡ true → (effect w i).prefix ≡ shown_at (fixed_of given) world z i
  open_stored i found h2 h3 = search (false≢true, no_intention, free_where, arith)

  -- so open servers answer
  pub open_answer : Answering (fixed_of given) world z w (is_open_at world t z mode)
  open_answer = record { up = λ i is. up_of t z mode (server_at world i) is; stored = λ i is. open_stored i (server_at world i) refl is }

-- ---- open in a stronger mode

more_conflicts : (t z : ℕ) (m k : LockMode) → serves m k ≡ true → (lock : Lock) → conflicts t z k lock ≡ true → conflicts t z m lock ≡ true
more_conflicts t z m k h4 lock h6 = search arith

pub open_wider : (world : worlds.World) (t z : ℕ) (m k : LockMode) → serves m k ≡ true → (i : ℕ) → is_open_at world t z m i ≡ true → is_open_at world t z k i ≡ true
open_wider world t z m k stronger i = search (false≢true, find_nobody, more_conflicts, free_where, up_of, arith)

-- ---- a suite is asked for in its first mode, or a stronger one

must_be : (m k : LockMode) → serves m k ≡ false → serves k m ≡ true
must_be m k h2 = search arith

-- what is asked for was not asked for before
not_had : (asked : List (ℕ × LockMode)) (left : List Need) (one : ℕ × LockMode) → Has (not_asked asked left) one → has_asked asked one.0 one.1 ≡ false
not_had asked [] one has = absurd has
not_had asked (Know suite ∷ left) one has = not_had asked left one has
not_had asked (Hold suite mode ∷ left) one has = of (has_asked asked suite mode) refl (not_had asked left one) (not_had ((suite, mode) ∷ asked) left one) has
  where
    of : (b : Bool) → has_asked asked suite mode ≡ b → (Has (not_asked asked left) one → has_asked asked one.0 one.1 ≡ false) → (Has (not_asked ((suite, mode) ∷ asked) left) one → has_asked ((suite, mode) ∷ asked) one.0 one.1 ≡ false)
        → Has (cond b (not_asked asked left) ((suite, mode) ∷ not_asked ((suite, mode) ∷ asked) left)) one → has_asked asked one.0 one.1 ≡ false
    of b h1 h2 h3 h4 = search (or_parts, arith)

pub weaker_first : (asked : List (ℕ × LockMode)) (left : List Need) (one : ℕ × LockMode) → Has (not_asked asked left) one → serves one.1 (first_mode (not_asked asked left) one.0) ≡ true
weaker_first asked [] one has = absurd has
weaker_first asked (Know suite ∷ left) one has = weaker_first asked left one has
weaker_first asked (Hold suite mode ∷ left) one has = of (has_asked asked suite mode) (weaker_first asked left one) (weaker_first ((suite, mode) ∷ asked) left one) has
  where
    rest : List (ℕ × LockMode)
    rest = not_asked ((suite, mode) ∷ asked) left

    by : (b : Bool) → (suite == one.0) ≡ b → Has rest one → (Has rest one → serves one.1 (first_mode rest one.0) ≡ true)
        → serves one.1 (mode_or Shared (cond b (Some (suite, mode)) (find (λ (other : ℕ × LockMode). other.0 == one.0) rest))) ≡ true
    by b h1 h2 h3 = search (not_had, must_be, both_false, or_parts, arith)

    of : (b : Bool) → (Has (not_asked asked left) one → serves one.1 (first_mode (not_asked asked left) one.0) ≡ true) → (Has rest one → serves one.1 (first_mode rest one.0) ≡ true)
        → Has (cond b (not_asked asked left) ((suite, mode) ∷ rest)) one → serves one.1 (first_mode (cond b (not_asked asked left) ((suite, mode) ∷ rest)) one.0) ≡ true
    of true go more has = go has
    of false go more has =
        ⊎_elim
        (λ (same : (suite, mode) ≡ one).
        ap (λ b. serves one.1 (mode_or Shared (cond b (Some (suite, mode)) (find (λ (other : ℕ × LockMode). other.0 == one.0) rest)))) (eq-eqb suite one.0 (ap (λ (one : ℕ × LockMode). one.0) same))
        ∙ ap (serves one.1) (ap (λ (one : ℕ × LockMode). one.1) same) ∙ serves_itself one.1)
        (λ has. by (suite == one.0) refl has more) has

-- ---- in a run

-- tests that hold of one image hold of another, in front of the same others
module _ {X Y Z : Type 0} where
  fronts_alike : (p : Z → Bool) (h : Y → Z) (f g : X → Y) (others : List Y) (xs : List X) → ((x : X) → Has xs x → p (h (f x)) ≡ true → p (h (g x)) ≡ true)
      → list_all p (map h (map f xs ++ others)) ≡ true → list_all p (map h (map g xs ++ others)) ≡ true
  fronts_alike p h f g others [] so is = is
  fronts_alike p h f g others (x ∷ xs) so is = search (and_parts, fronts_alike p h f g others xs, arith)

pub up_to : (a b c : ℕ) → nat_le a b ≡ true → b ≤ c → nat_le a c ≡ true
up_to a b c le more = grind (arith, nat_tests)

module _ (given : Opening) (events : List Event) (can : CanBe given events) (agent t : ℕ) (caller : Identity) (site : ℕ) (ops : List Op) (actor : Actor) (there : actor_at (run given events) agent ≡ Some actor)
    (begins : begins_job given (run given events) (Begin agent (Transaction caller site ops)) ≡ Some (t, Transaction caller site ops)) (z : ℕ) where
  abbrev kept : AllKeepSides given events
  kept = all_keep given events can

  abbrev open_in : LockMode → ℕ → Bool
  open_in mode = is_open_at (run given events) t z mode

  answer : (mode : LockMode) → Answering (fixed_of given) (run given events) z (machine_of given z events) (is_open_at (run given events) t z mode)
  answer mode =
      open_answer given z (machine_of given z events) (run given events) (effects.follows given events kept z).shows (all_consistent given events) t
      (no_lock given can.accepted events agent t (Transaction caller site ops) begins) mode

  -- where a demand is met in a mode as the votes are found in a weaker one, those are the row's
  pub open_row : (start : Prefix) → MayStart (fixed_of given) actor.agent.cache site z start → (mode first : LockMode) → serves mode first ≡ true
      → is_met (demand_by (open_in mode) z mode (led_to_by (fixed_of given) (run given events) (open_in first) z start).votes) ≡ true
      → is_met (demand_by (open_in mode) z mode (votes_of_row (fixed_of given) (row_of (table_of given events).rows z))) ≡ true
  open_row start may mode first stronger met =
      let end = led given z (machine_of given z events) (run given events) (effects.inv given events kept z) (open_in first) (answer first) start (start_was given events can z agent site actor start there may) in
      let is = found_is_row given z (machine_of given z events) (run given events) (effects.inv given events kept z) (open_in first) (answer first) found end.was end.last (quorum mode met) in
      subst (λ votes. is_met (demand_by (open_in mode) z mode votes) ≡ true) (ap (λ (prefix : Prefix). prefix.votes) is ∙ row_votes given events can z (row_at given events z) refl) met
    where
      found : Prefix
      found = led_to_by (fixed_of given) (run given events) (is_open_at (run given events) t z first) z start

      enough : (needed : ℕ) → nat_le needed (votes_in found.votes.reps (is_open_at (run given events) t z mode)) ≡ true → nat_le needed (votes_in found.votes.reps (is_open_at (run given events) t z first)) ≡ true
      enough needed met = search (up_to, votes_in-wider, open_wider, arith)

      quorum : (m : LockMode) → nat_le (needed_of m found.votes) (votes_in found.votes.reps (is_open_at (run given events) t z mode)) ≡ true → IsQuorum found.votes (is_open_at (run given events) t z first)
      quorum m h1 = search (enough, arith)

pub open_votes_are_rows : OpenVotesAreRows
open_votes_are_rows given events can agent t caller site ops actor start there begins may met = search (fronts_alike, open_row, weaker_first, arith)
