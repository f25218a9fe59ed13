-- Two users meet, by computation.
use Rattle.law_run_recovers.proofs.Vocabulary.{◌≡◌, ◌⊎◌, inl, inr, ℕ, List, [], ◌∷◌, ◌++◌, refl, sym, ap, subst, ◌∙◌, ◌+◌, Contains, list_all, LockMode, Shared, Exclusive, Configuration, total_votes, needed_of, row_of, has_from, Transaction}
use Rattle.law_run_recovers.proofs.Vocabulary.{fixed_of, owner, a, Event, Begin, opening, run, Decided, decisions, decisions_from, table_after_all, decisions_from-append, EventGivesValidVotes, CanBe, with_caches, some_run_revokes, Begun, two_made}
use Rattle.law_run_recovers.proofs.Vocabulary.{turns, puts, HasFirstVotes, VotesNeverMovedOf, ⊎_elim, table_of, Opening, event_fits, valid_event, at_the_last, TheyMeet}
use Rattle.law_run_recovers.specs.MeetsWorked.{two_meet, SomeRunsMeet, votes_moved, SomeRunsMeetByRows}
use Rattle.law_run_recovers.specs.MeetsByRows.{TheyMeetByRows}
use Rattle.file_ops.specs.Rows as rows
use Rattle.law_run_recovers.proofs.AmongCourse.{head_or, tail_or}
use Rattle.law_run_recovers.proofs.BesideWorked.{is_step, none_begins, they_can}
use Rattle.law_run_recovers.proofs.ValidEvents.{all_by}
use Rattle.law_run_recovers.proofs.LawsWorked.{none_spoils_it}
use Rattle.law_run_recovers.proofs.MeetAlone.{one_that_meets_by_rows_is_decided, one_that_meets_is_decided}
use Rattle.law_run_recovers.proofs.MeetCount.{Same}

-- ---- the two that begin

abbrev first : Event
first = Begin 0 (Transaction owner 0 (puts a 0 ∷ []))

abbrev second : Event
second = Begin 1 (Transaction owner 0 (puts a 1 ∷ []))

abbrev one : Begun with_caches two_made two_meet
one = record { before = []; after = second ∷ turns 16; agent = 0; t = 64; caller = owner; site = 0; ops = puts a 0 ∷ []; parts = refl; begins = refl }

abbrev other : Begun with_caches two_made two_meet
other = record { before = first ∷ []; after = turns 16; agent = 1; t = 1; caller = owner; site = 0; ops = puts a 1 ∷ []; parts = refl; begins = refl }

alone : (events : List Event) (third : Begun with_caches events two_meet) → (third.before ≡ []) ⊎ (third.before ≡ first ∷ [])
alone events third = of third.before refl third.parts
  where
    of : (before : List Event) → third.before ≡ before → two_meet ≡ before ++ Begin third.agent (Transaction third.caller third.site third.ops) ∷ third.after → (third.before ≡ []) ⊎ (third.before ≡ first ∷ [])
    of [] same parts = inl same
    of (x ∷ []) same parts = inr (same ∙ ap (λ x. x ∷ []) (sym (ap (head_or first) parts)))
    of (x ∷ y ∷ before) same parts =
        absurd (none_begins before third.agent (Transaction third.caller third.site third.ops) third.after (ap (λ list. list_all is_step (tail_or (tail_or list))) (sym parts)))

-- ---- votes

-- the root is read and the first file written
abbrev pub asked : List (ℕ × LockMode)
asked = (0, Shared) ∷ (1, Exclusive) ∷ []

pub tight : (mine theirs : LockMode) → needed_of mine with_caches.c0 + needed_of theirs with_caches.c0 ≡ total_votes with_caches.c0.reps + 1
tight Shared Shared = refl
tight Shared Exclusive = refl
tight Exclusive Shared = refl
tight Exclusive Exclusive = refl

-- a front of one decision is none, or it
pub one_or_none : (front back : List Decided) (d : Decided) → d ∷ [] ≡ front ++ back → (front ≡ []) ⊎ (front ≡ d ∷ [])
one_or_none [] back d is = inl refl
one_or_none (x ∷ []) back d is = inr (ap (λ x. x ∷ []) (sym (ap (head_or x) is)))
one_or_none (x ∷ y ∷ front) back d is = absurd (nil_not (ap tail_or is))
  where
    nil_not : ◌≡◌ {A = List Decided} [] (y ∷ (front ++ back)) → ⊥
    nil_not is = cc

-- where one was decided in some events, the votes of a suite are the first ones at each moment of them, if they are before it and after
pub first_at : (given : Opening) (events : List Event) (d : Decided) (z : ℕ) → decisions given events ≡ d ∷ []
    → HasFirstVotes given.c0 (row_of (table_after_all (rows.opening given) []).rows z) → HasFirstVotes given.c0 (row_of (table_after_all (rows.opening given) (d ∷ [])).rows z)
    → (before later : List Event) → events ≡ before ++ later → HasFirstVotes given.c0 (row_of (table_of given before).rows z)
first_at given events d z is none all before later parts = ⊎_elim
    (λ front. subst (λ ds. HasFirstVotes given.c0 (row_of (table_after_all (rows.opening given) ds).rows z)) (sym front) none)
    (λ front. subst (λ ds. HasFirstVotes given.c0 (row_of (table_after_all (rows.opening given) ds).rows z)) (sym front) all)
    (one_or_none (decisions given before) (decisions_from (fixed_of given) (run given before) later) d
    (sym is ∙ ap (decisions given) parts ∙ decisions_from-append (fixed_of given) (opening given) before later))

unmoved : VotesNeverMovedOf with_caches two_made asked
unmoved before later one parts has = of (has_from asked one has)
  where
    of : Same (0, Shared) one ⊎ (Same (1, Exclusive) one ⊎ ⊥) → HasFirstVotes with_caches.c0 (row_of (table_of with_caches before).rows one.0)
    of (inl root) = subst (λ (one : ℕ × LockMode). HasFirstVotes with_caches.c0 (row_of (table_of with_caches before).rows one.0)) root (first_at with_caches two_made _ 0 refl refl refl before later parts)
    of (inr (inl file)) = subst (λ (one : ℕ × LockMode). HasFirstVotes with_caches.c0 (row_of (table_of with_caches before).rows one.0)) file (first_at with_caches two_made _ 1 refl tt refl before later parts)
    of (inr (inr none)) = absurd none

abbrev no_votes : List (ℕ × Configuration)
no_votes = []

pub none_set : {X : Type 0} (set : ℕ × Configuration) → Contains no_votes set → X
none_set set has = absurd (has_from no_votes set has)

they_meet : TheyMeet with_caches two_made two_meet one other
they_meet = record {
  can = they_can (two_made ++ two_meet) refl;
  idle = refl;
  up = refl;
  free = refl;
  unspoiled = none_spoils_it with_caches two_made two_meet refl;
  two = refl;
  alone = alone two_made;
  suite = 1;
  mine = Exclusive;
  theirs = Exclusive;
  first = refl;
  other_first = refl;
  not_both_raise = refl;
  tight = λ mine theirs has there clash. tight mine theirs;
  unmoved = unmoved;
  other_unmoved = unmoved;
  moves_none = λ set has. none_set set has;
  other_moves_none = λ set has. none_set set has;
}

pub some_runs_meet : SomeRunsMeet
some_runs_meet = record {
  one = one;
  other = other;
  meets = they_meet;
  ends = refl;
  so = one_that_meets_is_decided with_caches two_made two_meet one other they_meet;
}

-- ---- where votes were moved

moved_can : CanBe with_caches (votes_moved ++ two_meet)
moved_can = record { accepted = some_run_revokes.can_be.accepted; c0 = some_run_revokes.can_be.c0; votes = all_by EventGivesValidVotes event_fits valid_event (votes_moved ++ two_meet) refl }

abbrev first_then : Begun with_caches votes_moved two_meet
first_then = record { before = []; after = second ∷ turns 16; agent = 0; t = 128; caller = owner; site = 0; ops = puts a 0 ∷ []; parts = refl; begins = refl }

abbrev second_then : Begun with_caches votes_moved two_meet
second_then = record { before = first ∷ []; after = turns 16; agent = 1; t = 1; caller = owner; site = 0; ops = puts a 1 ∷ []; parts = refl; begins = refl }

last_tight : (mine theirs : LockMode) → needed_of mine at_the_last + needed_of theirs at_the_last ≡ total_votes at_the_last.reps + 1
last_tight Shared Shared = refl
last_tight Shared Exclusive = refl
last_tight Exclusive Shared = refl
last_tight Exclusive Exclusive = refl

they_meet_by_rows : TheyMeetByRows with_caches votes_moved two_meet first_then second_then
they_meet_by_rows = record {
  can = moved_can;
  idle = refl;
  up = refl;
  free = refl;
  unspoiled = none_spoils_it with_caches votes_moved two_meet refl;
  two = refl;
  alone = alone votes_moved;
  suite = 1;
  mine = Exclusive;
  theirs = Exclusive;
  first = refl;
  other_first = refl;
  not_both_raise = refl;
  tight = λ mine theirs has there clash. last_tight mine theirs;
  sets_apart = λ set has. none_set set has;
  other_sets_apart = λ set has. none_set set has;
}

pub some_runs_meet_by_rows : SomeRunsMeetByRows
some_runs_meet_by_rows = record {
  one = first_then;
  other = second_then;
  meets = they_meet_by_rows;
  moved = refl;
  ends = refl;
  so = one_that_meets_by_rows_is_decided with_caches votes_moved two_meet first_then second_then they_meet_by_rows;
}
