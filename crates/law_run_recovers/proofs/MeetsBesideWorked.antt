-- Two users meet, and one that sets a list and one that reads, while another begins again and again beside, by computation.
use Rattle.law_run_recovers.proofs.Vocabulary.{◌≡◌, ◌⊎◌, inl, inr, ⊎_elim, ℕ, Bool, true, false, List, [], ◌∷◌, ◌++◌, refl, sym, subst, arith, ◌==◌, ◌&&◌, ◌||◌, not, Contains, list_all, and_parts, eqb-true, false≢true, all_at, at_has, LockMode}
use Rattle.law_run_recovers.proofs.Vocabulary.{Shared, Exclusive, Lock, State, Transaction, fixed_of, owner, a, Event, Begin, Lack, World, opening, after, run, EventGivesValidVotes, CanBe, some_run_revokes, Begun, puts, b, locks_at, hinders_itself}
use Rattle.law_run_recovers.proofs.Vocabulary.{is_running, not-true, Opening, close_a, read_a, other, ReaderMeetsBeside, ReadsToo, TheyMeetBeside, meets_some, upsets, three_agents, turns_of_three}
use Rattle.law_run_recovers.specs.MeetsBesideWorked.{SomeRunsMeetBeside, SomeRunsMeetReadersBeside, four_agents, fourth_writes, mid_write, reads_beside, turns_of_four, writes_beside}
use Rattle.rep_core.specs.declared.stamped.Lack.TheVariants as lack
use Rattle.law_run_recovers.proofs.Keeps.{after_append}
use Rattle.law_run_recovers.proofs.LawsWorked.{happens_at, holds, holds_at, unless}
use Rattle.law_run_recovers.proofs.MeetAlone.{lock_in}
use Rattle.law_run_recovers.proofs.MeetLaw.{one_that_meets_beside_is_decided}
use Rattle.law_run_recovers.proofs.MeetReaders.{writer_or_reader_beside_is_decided}
use Rattle.law_run_recovers.proofs.MeetWorked.{asked, first_at, none_set, tight}
use Rattle.law_run_recovers.proofs.ReadersWorked.{accepted, at_it, three_can}
use Rattle.law_run_recovers.proofs.ValidEvents.{all_by, event_sets_none, valid_event}

-- ---- what is so at each moment

-- each lock is of one of two, or of a kind
abbrev of_kind : ℕ → ℕ → (Lock → Bool) → World → Bool
of_kind t u so w = list_all (λ (st : State). list_all (λ (lock : Lock). (lock.t == t) || ((lock.t == u) || so lock)) st.locks) w.servers

-- nothing upsets it, and two agents are served
abbrev goes_so : Opening → ℕ → ℕ → ℕ → ℕ → World → Event → Bool
goes_so given i t k u w event =
    not (upsets given w event) && ((not (is_running w i t) || not (hinders_itself given i w event)) && (not (is_running w k u) || not (hinders_itself given k w event)))

one_of : (n t u : ℕ) (c : Bool) → ((n == t) || ((n == u) || c)) ≡ true → (n ≡ t) ⊎ ((n ≡ u) ⊎ (c ≡ true))
one_of n t u c is = by_first (n == t) refl is
  where
    by_second : (x : Bool) → (n == u) ≡ x → (x || c) ≡ true → (n ≡ t) ⊎ ((n ≡ u) ⊎ (c ≡ true))
    by_second true same so = inr (inl (eqb-true n u same))
    by_second false apart so = inr (inr so)

    by_first : (x : Bool) → (n == t) ≡ x → (x || ((n == u) || c)) ≡ true → (n ≡ t) ⊎ ((n ≡ u) ⊎ (c ≡ true))
    by_first true same so = inl (eqb-true n t same)
    by_first false apart so = by_second (n == u) refl so

module _ (given : Opening) (events later : List Event) (i t k u : ℕ) (so : Lock → Bool) (all : holds (of_kind t u so) (goes_so given i t k u) (fixed_of given) (run given events) later ≡ true) where
  moved : (before : List Event) → after (fixed_of given) (run given events) before ≡ run given (events ++ before)
  moved before = sym (after_append (fixed_of given) events before (opening given))

  kind_at : (before after' : List Event) (server : ℕ) (lock : Lock) → later ≡ before ++ after' → Contains (locks_at (run given (events ++ before)) server) lock → (lock.t ≡ t) ⊎ ((lock.t ≡ u) ⊎ (so lock ≡ true))
  kind_at before after' server lock split has =
      let w = run given (events ++ before) in
      let there = lock_in w server lock has in
      let each = subst (λ w. of_kind t u so w ≡ true) (moved before) (holds_at (of_kind t u so) (goes_so given i t k u) (fixed_of given) later before after' (run given events) all split) in
      let here = all_at (λ (st : State). list_all (λ (lock : Lock). (lock.t == t) || ((lock.t == u) || so lock)) st.locks) w.servers there.0 each (at_has w.servers server there.0 there.1) in
      one_of lock.t t u (so lock) (all_at (λ (lock : Lock). (lock.t == t) || ((lock.t == u) || so lock)) there.0.locks lock here there.2)

  goes_at : (before after' : List Event) (event : Event) → later ≡ before ++ event ∷ after' → goes_so given i t k u (run given (events ++ before)) event ≡ true
  goes_at before after' event split =
      subst (λ w. goes_so given i t k u w event ≡ true) (moved before) (happens_at (of_kind t u so) (goes_so given i t k u) (fixed_of given) later before after' event (run given events) all split)

  even : (before after' : List Event) (event : Event) → later ≡ before ++ event ∷ after' → upsets given (run given (events ++ before)) event ≡ false
  even before after' event split =
      let w = run given (events ++ before) in
      not-true (upsets given w event)
      (and_parts (not (upsets given w event)) ((not (is_running w i t) || not (hinders_itself given i w event)) && (not (is_running w k u) || not (hinders_itself given k w event))) (goes_at before after' event split)).0

  both_served : (before after' : List Event) (event : Event) → later ≡ before ++ event ∷ after' → let w = run given (events ++ before) in
      ((not (is_running w i t) || not (hinders_itself given i w event)) ≡ true) × ((not (is_running w k u) || not (hinders_itself given k w event)) ≡ true)
  both_served before after' event split =
      let w = run given (events ++ before) in
      and_parts (not (is_running w i t) || not (hinders_itself given i w event)) (not (is_running w k u) || not (hinders_itself given k w event))
      (and_parts (not (upsets given w event)) ((not (is_running w i t) || not (hinders_itself given i w event)) && (not (is_running w k u) || not (hinders_itself given k w event))) (goes_at before after' event split)).1

  first_served : (before after' : List Event) (event : Event) → later ≡ before ++ event ∷ after' → is_running (run given (events ++ before)) i t ≡ true → hinders_itself given i (run given (events ++ before)) event ≡ false
  first_served before after' event split running =
      let w = run given (events ++ before) in
      not-true (hinders_itself given i w event) (unless (is_running w i t) (not (hinders_itself given i w event)) (both_served before after' event split).0 running)

  second_served : (before after' : List Event) (event : Event) → later ≡ before ++ event ∷ after' → is_running (run given (events ++ before)) k u ≡ true → hinders_itself given k (run given (events ++ before)) event ≡ false
  second_served before after' event split running =
      let w = run given (events ++ before) in
      not-true (hinders_itself given k w event) (unless (is_running w k u) (not (hinders_itself given k w event)) (both_served before after' event split).1 running)

-- ---- two write a file

abbrev rest_beside : List Event
rest_beside = turns_of_three 6 ++ Begin 2 (Transaction owner 0 (puts b 3 ∷ [])) ∷ turns_of_three 2 ++ Lack 2 lack.Memory ∷ turns_of_three 4

abbrev one : Begun three_agents mid_write writes_beside
one = record {
  before = [];
  after = Begin 1 (Transaction owner 0 (puts a 1 ∷ [])) ∷ rest_beside;
  agent = 0;
  t = 64;
  caller = owner;
  site = 0;
  ops = puts a 0 ∷ [];
  parts = refl;
  begins = refl;
}

abbrev two : Begun three_agents mid_write writes_beside
two = record {
  before = Begin 0 (Transaction owner 0 (puts a 0 ∷ [])) ∷ [];
  after = rest_beside;
  agent = 1;
  t = 1;
  caller = owner;
  site = 0;
  ops = puts a 1 ∷ [];
  parts = refl;
  begins = refl;
}

abbrev is_aside : Lock → Bool
is_aside lock = not (meets_some lock (asked ++ asked))

all_hold : holds (of_kind 64 1 is_aside) (goes_so three_agents 0 64 1 1) (fixed_of three_agents) (run three_agents mid_write) writes_beside ≡ true
all_hold = refl

they_meet : TheyMeetBeside three_agents mid_write writes_beside one two
they_meet = record {
  goes = record { can = three_can (mid_write ++ writes_beside) refl; up = refl; unswept = refl; even = even three_agents mid_write writes_beside 0 64 1 1 is_aside all_hold };
  served = first_served three_agents mid_write writes_beside 0 64 1 1 is_aside all_hold;
  other_served = second_served three_agents mid_write writes_beside 0 64 1 1 is_aside all_hold;
  beside = λ before after' server lock split has. ⊎_elim
      (λ same. inl same)
      (λ more. ⊎_elim (λ same. inr (inl same)) (λ aside. inr (inr (not-true (meets_some lock (asked ++ asked)) aside))) more)
      (kind_at three_agents mid_write writes_beside 0 64 1 1 is_aside all_hold before after' server lock split has);
  suite = 1;
  mine = Exclusive;
  theirs = Exclusive;
  first = refl;
  other_first = refl;
  not_both_raise = refl;
  tight = λ mine theirs has there clash. tight mine theirs;
  sets_apart = λ set has. none_set set has;
  other_sets_apart = λ set has. none_set set has;
}

pub some_runs_meet_beside : SomeRunsMeetBeside
some_runs_meet_beside = record {
  one = one;
  two = two;
  meets = they_meet;
  ends = refl;
  so = one_that_meets_beside_is_decided three_agents mid_write writes_beside one two they_meet;
}

-- ---- one sets a list that others read

four_can : CanBe four_agents (fourth_writes ++ reads_beside)
four_can = record { accepted = accepted 4 (omega arith, omega arith); c0 = some_run_revokes.can_be.c0; votes = all_by EventGivesValidVotes event_sets_none valid_event (fourth_writes ++ reads_beside) refl }

abbrev rest_reads : List Event
rest_reads = turns_of_four 6 ++ Begin 3 (Transaction owner 0 (puts b 3 ∷ [])) ∷ turns_of_four 10

abbrev reader : Begun four_agents fourth_writes reads_beside
reader = record {
  before = [];
  after = Begin 1 (Transaction owner 0 close_a) ∷ Begin 2 (Transaction other 0 read_a) ∷ rest_reads;
  agent = 0;
  t = 64;
  caller = owner;
  site = 0;
  ops = read_a;
  parts = refl;
  begins = refl;
}

abbrev writer : Begun four_agents fourth_writes reads_beside
writer = record {
  before = Begin 0 (Transaction owner 0 read_a) ∷ [];
  after = Begin 2 (Transaction other 0 read_a) ∷ rest_reads;
  agent = 1;
  t = 1;
  caller = owner;
  site = 0;
  ops = close_a;
  parts = refl;
  begins = refl;
}

abbrev reads : List (ℕ × LockMode)
reads = (0, Shared) ∷ (1, Shared) ∷ []

abbrev is_shared : LockMode → Bool
is_shared Shared = true
is_shared Exclusive = false

abbrev reads_so : Lock → Bool
reads_so lock = not (meets_some lock reads) && (not (meets_some lock asked) || ((lock.suite == 1) && is_shared lock.mode))

shared_is : (mode : LockMode) → is_shared mode ≡ true → mode ≡ Shared
shared_is Shared is = refl
shared_is Exclusive is = absurd (false≢true is)

reads_too : (lock : Lock) → reads_so lock ≡ true → ReadsToo 1 asked reads lock
reads_too lock so =
    let parts = and_parts (not (meets_some lock reads)) (not (meets_some lock asked) || ((lock.suite == 1) && is_shared lock.mode)) so in
    record { of_reader = not-true (meets_some lock reads) parts.0; of_writer = of (meets_some lock asked) refl parts.1 }
  where
    of : (x : Bool) → meets_some lock asked ≡ x → (not x || ((lock.suite == 1) && is_shared lock.mode)) ≡ true → (meets_some lock asked ≡ false) ⊎ ((lock.suite ≡ 1) × (lock.mode ≡ Shared))
    of false is all = inl is
    of true is all = let both = and_parts (lock.suite == 1) (is_shared lock.mode) all in inr (eqb-true lock.suite 1 both.0, shared_is lock.mode both.1)

all_read : holds (of_kind 1 64 reads_so) (goes_so four_agents 1 1 0 64) (fixed_of four_agents) (run four_agents fourth_writes) reads_beside ≡ true
all_read = refl

reader_meets : ReaderMeetsBeside four_agents fourth_writes reads_beside writer reader
reader_meets = record {
  goes = record { can = four_can; up = refl; unswept = refl; even = even four_agents fourth_writes reads_beside 1 1 0 64 reads_so all_read };
  served = first_served four_agents fourth_writes reads_beside 1 1 0 64 reads_so all_read;
  reader_served = second_served four_agents fourth_writes reads_beside 1 1 0 64 reads_so all_read;
  suite = 1;
  beside = λ before after' server lock split has. ⊎_elim
      (λ same. inl same)
      (λ more. ⊎_elim (λ same. inr (inl same)) (λ so. inr (inr (reads_too lock so))) more)
      (kind_at four_agents fourth_writes reads_beside 1 1 0 64 reads_so all_read before after' server lock split has);
  reads = refl;
  at_it = λ lock has clash. at_it reads lock refl has clash;
  tight = refl;
  unmoved = first_at four_agents fourth_writes _ 1 refl tt refl;
  moves_none = λ votes has. none_set (1, votes) has;
}

pub some_runs_meet_readers_beside : SomeRunsMeetReadersBeside
some_runs_meet_readers_beside = record {
  writer = writer;
  reader = reader;
  meets = reader_meets;
  ends = refl;
  so = writer_or_reader_beside_is_decided four_agents fourth_writes reads_beside writer reader reader_meets;
}
