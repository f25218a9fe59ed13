-- Where two alone begin nobody is beside: so what is promised to two that meet while others are beside is promised to them.
use Rattle.law_run_recovers.proofs.Vocabulary.{Contains, List, Option, Some, [], ap, append-nil, false, inl, inr, refl, subst, sym, true, ℕ, ⊎_elim, ◌++◌, ◌||◌, ◌∙◌, ◌∷◌, ◌≡◌, ◌⊎◌, false≢true, arith, list_any, Row, row_of, is_decided, IsNotDecided}
use Rattle.law_run_recovers.proofs.Vocabulary.{find_some, Has, contains_from, has_from, State, Lock, decisions, run, table_of, World, server_at, EndedJob, Event, Opening, LockMode, Exclusive, fixed_of, Configuration, Begun, clashes, its_asks, spoils}
use Rattle.law_run_recovers.proofs.Vocabulary.{votes_of_row, votes_set, HasFirstVotes, EndsThen, VotesNeverMovedOf, AreTight, TheyMeet, first_clash, its_votes, SetsApart, votes_now, and_parts, list_all, is_idle, Actor, locks_at, Always}
use Rattle.law_run_recovers.proofs.Vocabulary.{OneThatMeetsIsDecidedAt}
use Rattle.law_run_recovers.specs.MeetsByRows.{TheyMeetByRows, OneThatMeetsByRowsIsDecidedAt}
use Rattle.law_run_recovers.specs.MeetsBeside.{GoesOn, IsServed, TheyMeetBeside, first_asks, sweeps_now, upsets}
use Rattle.law_run_recovers.proofs.MeetAsks.{sets_asked}
use Rattle.law_run_recovers.proofs.MeetBoth.{same_place, place_of, third, none_first}
use Rattle.law_run_recovers.proofs.MeetCalm.{Calm}
use Rattle.law_run_recovers.proofs.MeetCalmed.{AnySuite, asks_same, calm_where, votes_same}
use Rattle.law_run_recovers.proofs.MeetEnds.{undecided_not}
use Rattle.law_run_recovers.proofs.MeetLaw.{decided_one}
use Rattle.law_run_recovers.proofs.MeetLocks.{owned_at}

-- ---- where nothing spoils it

-- nothing upsets it
pub upsets_not : (given : Opening) (w : World) (event : Event) → spoils given w event ≡ false → upsets given w event ≡ false
upsets_not given w event h3 = search arith

module _ (given : Opening) (events later : List Event) (unspoiled : (before after : List Event) (event : Event) → later ≡ before ++ event ∷ after → spoils given (run given (events ++ before)) event ≡ false) where
  pub all_served : (one : Begun given events later) → IsServed given events later one
  all_served one before after event split running = search arith

  pub never_upset : (before after : List Event) (event : Event) → later ≡ before ++ event ∷ after → upsets given (run given (events ++ before)) event ≡ false
  never_upset before after event split = upsets_not given (run given (events ++ before)) event (unspoiled before after event split)

-- where every agent is idle nobody sweeps
pub idle_unswept : (actors : List Actor) → list_all (λ (actor : Actor). is_idle actor.agent.doing) actors ≡ true → list_any (λ (actor : Actor). sweeps_now actor.agent.doing) actors ≡ false
idle_unswept [] all = refl
idle_unswept (actor ∷ actors) all = search (and_parts, false≢true, idle_unswept actors, arith)

-- a lock that is there
pub lock_in : (w : World) (server : ℕ) (lock : Lock) → Contains (locks_at w server) lock → (st : State) × (server_at w server ≡ Some st) × Has st.locks lock
lock_in w server lock has = search (has_from, arith)

-- ---- two alone

module _ (given : Opening) (events later : List Event) (one other : Begun given events later) (meets : TheyMeetByRows given events later one other) (job outcome : EndedJob)
    (ends : EndsThen given (events ++ one.before) one.after one.agent one.t one.caller one.site one.ops job)
    (other_ends : EndsThen given (events ++ other.before) other.after other.agent other.t other.caller other.site other.ops outcome) where
  goes : GoesOn given events later
  goes = record { can = meets.can; up = meets.up; unswept = idle_unswept (run given events).agents meets.idle; even = never_upset given events later meets.unspoiled }

  -- each lock is one of theirs
  theirs : (before after : List Event) (server : ℕ) (lock : Lock) → later ≡ before ++ after → Contains (locks_at (run given (events ++ before)) server) lock → (lock.t ≡ one.t) ⊎ (lock.t ≡ other.t)
  theirs before after server lock split has =
      let there = lock_in (run given (events ++ before)) server lock has in
      owned_at given events later goes (λ s t z mode. (t ≡ one.t) ⊎ (t ≡ other.t))
      (λ so_far back i split what served t z lock held.
      ⊎_elim
      (λ at. inl (place_of given events later later [] (sym (append-nil later)) goes meets.idle so_far back i split what served t z lock one at).number)
      (λ at. inr (place_of given events later later [] (sym (append-nil later)) goes meets.idle so_far back i split what served t z lock other at).number)
      (meets.alone (third given events later later [] (sym (append-nil later)) goes meets.idle so_far back i split what served t z lock)))
      (λ s st at lock has. absurd (none_first given events meets.free s st at lock has)) before after split server there.0 there.1 lock there.2

  module _ (undecided : is_decided job.ending ≡ false) (other_undecided : is_decided outcome.ending ≡ false) where
    not_one : IsNotDecided (decisions given (events ++ later)) one.t
    not_one = undecided_not given events later goes one job ends undecided

    not_other : IsNotDecided (decisions given (events ++ later)) other.t
    not_other = undecided_not given events later goes other outcome other_ends other_undecided

    -- whoever began is one of both, so nothing is decided
    calm : Calm given events later AnySuite
    calm =
        calm_where given events later goes meets.idle meets.free (all_served given events later meets.unspoiled) (λ third. inl (λ decision there same.
        ⊎_elim
        (λ at. not_one decision there (same ∙ (same_place given events later third one at).t))
        (λ at. not_other decision there (same ∙ (same_place given events later third other at).t))
        (meets.alone third)))

    asks_is : (who : Begun given events later) → its_asks given events later who ≡ first_asks given events later who
    asks_is who = asks_same given events later calm who

    votes_is : (who : Begun given events later) → its_votes given events later who ≡ votes_set (table_of given events) who.t who.caller who.ops
    votes_is who = votes_same given events later calm who

    beside : TheyMeetBeside given events later one other
    beside = record {
      goes = goes;
      served = all_served given events later meets.unspoiled one;
      other_served = all_served given events later meets.unspoiled other;
      beside = λ before after server lock split has. ⊎_elim (λ same. inl same) (λ same. inr (inl same)) (theirs before after server lock split has);
      suite = meets.suite;
      mine = meets.mine;
      theirs = meets.theirs;
      first = ap (λ asked. first_clash asked (first_asks given events later other)) (sym (asks_is one)) ∙ ap (λ others. first_clash (its_asks given events later one) others) (sym (asks_is other)) ∙ meets.first;
      other_first = ap (λ asked. first_clash asked (first_asks given events later one)) (sym (asks_is other)) ∙ ap (λ others. first_clash (its_asks given events later other) others) (sym (asks_is one)) ∙ meets.other_first;
      not_both_raise = meets.not_both_raise;
      tight =
          subst (λ asked. AreTight (votes_now given events meets.suite) meets.suite asked (first_asks given events later other)) (asks_is one)
          (subst (λ others. AreTight (votes_now given events meets.suite) meets.suite (its_asks given events later one) others) (asks_is other) meets.tight);
      sets_apart = subst (λ sets. SetsApart given events sets (first_asks given events later other)) (votes_is one) (subst (SetsApart given events (its_votes given events later one)) (asks_is other) meets.sets_apart);
      other_sets_apart = subst (λ sets. SetsApart given events sets (first_asks given events later one)) (votes_is other) (subst (SetsApart given events (its_votes given events later other)) (asks_is one) meets.other_sets_apart);
    }

  pub decided_alone : (is_decided job.ending || is_decided outcome.ending) ≡ true
  decided_alone = search (decided_one, beside, arith)

pub one_that_meets_by_rows_is_decided : Always OneThatMeetsByRowsIsDecidedAt
one_that_meets_by_rows_is_decided given events later one other meets job outcome ends other_ends = decided_alone given events later one other meets job outcome ends other_ends

-- ---- where votes were never moved those of the rows are the first ones

module _ (given : Opening) (events later : List Event) (one other : Begun given events later) (meets : TheyMeet given events later one other) where
  first_now : (asked : List (ℕ × LockMode)) → VotesNeverMovedOf given events asked → (suite : ℕ) (mode : LockMode) → Contains asked (suite, mode) → votes_now given events suite ≡ given.c0
  first_now asked unmoved suite mode has = of (row_of (table_of given events).rows suite) (unmoved events [] (suite, mode) (sym (append-nil events)) has)
    where
      of : (found : Option Row) → HasFirstVotes given.c0 found → votes_of_row (fixed_of given) found ≡ given.c0
      of found h1 = search arith

  suite_first : votes_now given events meets.suite ≡ given.c0
  suite_first =
      first_now (its_asks given events later one) meets.unmoved meets.suite meets.mine
      (contains_from (its_asks given events later one) (meets.suite, meets.mine)
      (find_some (λ x. list_any (clashes x) (its_asks given events later other)) (its_asks given events later one) (meets.suite, meets.mine) meets.first).0)

  apart_by : (who : Begun given events later) → VotesNeverMovedOf given events (its_asks given events later who) → ((set : ℕ × Configuration) → Contains (its_votes given events later who) set → set.1 ≡ given.c0)
      → (others : List (ℕ × LockMode)) → SetsApart given events (its_votes given events later who) others
  apart_by who unmoved moves_none others set has =
      inl (moves_none set has
      ∙ sym (first_now (its_asks given events later who) unmoved set.0 Exclusive
      (contains_from (its_asks given events later who) (set.0, Exclusive)
      (sets_asked (table_of given (events ++ who.before)) who.t who.caller who.ops set (has_from (its_votes given events later who) set has)))))

  pub by_rows : TheyMeetByRows given events later one other
  by_rows = record {
    can = meets.can;
    idle = meets.idle;
    up = meets.up;
    free = meets.free;
    unspoiled = meets.unspoiled;
    two = meets.two;
    alone = meets.alone;
    suite = meets.suite;
    mine = meets.mine;
    theirs = meets.theirs;
    first = meets.first;
    other_first = meets.other_first;
    not_both_raise = meets.not_both_raise;
    tight = subst (λ votes. AreTight votes meets.suite (its_asks given events later one) (its_asks given events later other)) (sym suite_first) meets.tight;
    sets_apart = apart_by one meets.unmoved meets.moves_none (its_asks given events later other);
    other_sets_apart = apart_by other meets.other_unmoved meets.other_moves_none (its_asks given events later one);
  }

pub one_that_meets_is_decided : Always OneThatMeetsIsDecidedAt
one_that_meets_is_decided given events later one other meets job outcome ends other_ends =
    one_that_meets_by_rows_is_decided given events later one other (by_rows given events later one other meets) job outcome ends other_ends
