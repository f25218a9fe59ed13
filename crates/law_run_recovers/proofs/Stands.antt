-- How a transaction stands to which servers stand as a sight says: what it has asked for so far and how that was found, and how it ends.
use Rattle.law_run_recovers.proofs.Vocabulary.{◌≡◌, ◌⊎◌, inl, ℕ, ◌≤◌, Bool, true, false, cond, List, [], ◌∷◌, ◌++◌, append-nil, Option, Some, None, is_some, Result, Ok, Err, refl, sym, ap, ◌∙◌, ◌==◌, not, nat_lt, find, map, arith, list_any, nat_cmp}
use Rattle.law_run_recovers.proofs.Vocabulary.{eqb-true, nat_cmp_total, IsOrdered, IsOrdered-insert, Identity, Representative, Configuration, IsValid, max_servers, absent_prefix, Prefix, LockMode, Shared, Exclusive, serves, Has, Verdict, Answer}
use Rattle.law_run_recovers.proofs.Vocabulary.{Refusal, Op, PlainTable, row_of, Need, Ended, needs, ending, transaction, newest, holds, Collector, all_told, Cache, hint, Ending, Undecided, Unavailable, ReadPoint, GatheredSuite, Suites, suite_of}
use Rattle.law_run_recovers.proofs.Vocabulary.{with_suite, Fixed, Task, Granted, Phase, Gathering, Fetching, Preparing, Deciding, Finishing, TransactionRun, After, GoesOn, Ends, home_of, short_cause, tell_end, prepare, Each, EachBut, with_at}
use Rattle.law_run_recovers.proofs.Vocabulary.{each_but, each_with, World, is_up, Demand, demand_by, is_met, newer_by, led_to_by, has_asked, not_asked, locks_asked, votes_set, MayStart, MayStartAll, ending_by, answer_on, Want, first_mode, Widening}
use Rattle.txn_core.specs.declared.ending.Cause.TheVariants.{Busy}
use Rattle.txn_core.specs.Transactions.{Step}
use Rattle.txn_core.specs.Doing as doing
use Rattle.law_run_recovers.proofs.Asking.{onto, find_past, held_in}
use Rattle.law_run_recovers.proofs.Led.{Rules, Reached}
use Rattle.law_run_recovers.proofs.Polled.{Sight, finds_at, serves_all, AllRight, all_wider, AllBelow, Refusing}
use Rattle.law_run_recovers.proofs.VotesSet.{IsSet}

-- ---- what it stands on

-- whether a suite is among those that are asked for
abbrev pub asks_of : List (ℕ × LockMode) → ℕ → Bool
asks_of asked z = list_any (λ (one : ℕ × LockMode). one.0 == z) asked

-- of each suite that is asked for, what a prefix from which it is looked for leads to; Was says what a prefix is said to be, as that the suite had it
pub record Ground (fixed : Fixed) (world : World) (sight : Sight) (cache : Cache) (site : ℕ) (asked : List (ℕ × LockMode)) (Was : ℕ → Prefix → Type 0) : Type 0 where
  pub first : (z : ℕ) → sight.first z ≡ first_mode asked z
  pub rules : (z : ℕ) (start : Prefix) → asks_of asked z ≡ true → MayStart fixed cache site z start → Rules fixed world (finds_at sight z) z (Was z) start
  pub valid : (z : ℕ) (prefix : Prefix) → Was z prefix → IsValid prefix.votes

-- what a transaction needs on a table, and what its operations come to there
abbrev pub needed_on : PlainTable → Task → List Need
needed_on table task = needs (row_of table.rows) [] (transaction table.service task.t task.caller task.ops)

abbrev pub result_on : PlainTable → Task → Result (Ended (List Answer)) Refusal
result_on table task = ending (row_of table.rows) [] (transaction table.service task.t task.caller task.ops)

abbrev pub locks_on : PlainTable → Task → List (ℕ × LockMode)
locks_on table task = locks_asked table task.t task.caller task.ops

abbrev pub sets_on : PlainTable → Task → List (ℕ × Configuration)
sets_on table task = votes_set table task.t task.caller task.ops

abbrev pub answer_to : PlainTable → Task → Result (List Answer) Refusal
answer_to table task = answer_on table task.t task.caller task.ops

-- what it wants for one: a lock, by the votes that it finds; and to set votes
abbrev pub of_lock : Fixed → World → Sight → (ℕ → Prefix) → ℕ × LockMode → Want
of_lock fixed world sight start one = record { suite = one.0; mode = one.1; votes = (led_to_by fixed world (finds_at sight one.0) one.0 (start one.0)).votes }

abbrev pub of_votes : ℕ × Configuration → Want
of_votes one = record { suite = one.0; mode = Exclusive; votes = one.1 }

-- the votes that are open to it
abbrev pub demand_of : Sight → Want → Demand
demand_of sight want = demand_by (sight.opens want.suite want.mode) want.suite want.mode want.votes

abbrev pub unmet : Sight → Want → Bool
unmet sight want = not (is_met (demand_of sight want))

-- all that it wants, in its order
abbrev pub wants_of : Fixed → World → Sight → PlainTable → ℕ → Identity → List Op → (ℕ → Prefix) → List Want
wants_of fixed world sight table t caller ops start = map (of_lock fixed world sight start) (locks_asked table t caller ops) ++ map of_votes (votes_set table t caller ops)

-- a suite that had a Current, and is held in its collector's mode
abbrev pub IsKept : GatheredSuite → Type 0
IsKept suite = (suite.mode ≡ suite.collector.mode) × (is_some suite.first ≡ true)

-- one of the same mode and first Current is held as it was
pub held_same : (new old : GatheredSuite) (mode : LockMode) → new.mode ≡ old.mode → new.first ≡ old.first → held_in mode (Some new) ≡ held_in mode (Some old)
held_same new old mode same first = search arith

-- ---- how it ends

module _ (fixed : Fixed) (world : World) (sight : Sight) (table : PlainTable) (task : Task) (cache : Cache) where
  -- Where a want is not met, the first such: with its numbers where each voting member is open or down, or with a lock that may be in its way. Else, where the
  -- home is down, with that; else as the table answers it.
  abbrev pub EndsAs : Ending → Option Want → Type 0
  EndsAs ended (Some want) =
      ((ended ≡ Undecided (Unavailable want.suite (demand_of sight want).got (demand_of sight want).needed))
      × ((rep : Representative) → Has want.votes.reps rep → nat_lt 0 rep.1 ≡ true → (sight.opens want.suite want.mode rep.0 ≡ true) ⊎ (is_up world rep.0 ≡ false)))
      ⊎ ((at : ℕ × ℕ) × (ended ≡ Undecided (Busy at.0 at.1)) × (sight.met want.suite at.0 at.1 ≡ true))
  EndsAs ended None = ended ≡ ending_by None (is_up world (home_of fixed.service task.t)) (answer_to table task)

  -- a suite that it wants is among those that it gathered, and the newest prefix that it was told of is where the suite's votes are found
  pub record IsLed (suites : Suites) (start : ℕ → Prefix) (want : Want) : Type 0 where
    pub suite : GatheredSuite
    pub there : suite_of suites want.suite ≡ Some suite
    pub right : AllRight fixed world sight want.suite Exclusive (all_told suite.collector)
    pub leads : newest suite.collector.start (all_told suite.collector) ≡ led_to_by fixed world (finds_at sight want.suite) want.suite (start want.suite)

  -- or it is to get votes
  abbrev pub IsSetOrLed : Suites → (ℕ → Prefix) → Want → Type 0
  IsSetOrLed suites start want = ((set : ℕ × Configuration) × Has (sets_on table task) set × (want ≡ of_votes set)) ⊎ (IsLed suites start want × (want.votes ≡ (led_to_by fixed world (finds_at sight want.suite) want.suite (start want.suite)).votes))

  -- With these suites gathered it ends so.
  pub record EndsRight (suites : Suites) (ended : Ending) : Type 0 where
    pub start : ℕ → Prefix
    pub from : MayStartAll fixed cache task.site start
    pub ends : EndsAs ended (find (unmet sight) (wants_of fixed world sight table task.t task.caller task.ops start))
    pub last : (want : Want) → find (unmet sight) (wants_of fixed world sight table task.t task.caller task.ops start) ≡ Some want → IsSetOrLed suites start want

  pub ends_short : (suites : Suites) (start : ℕ → Prefix) → MayStartAll fixed cache task.site start → (want : Want) → find (unmet sight) (wants_of fixed world sight table task.t task.caller task.ops start) ≡ Some want
      → IsSetOrLed suites start want
      → (number had wanting : ℕ) (busy : Option (ℕ × ℕ)) → number ≡ want.suite → had ≡ (demand_of sight want).got → wanting ≡ (demand_of sight want).needed → Refusing fixed world sight want.suite want.mode want.votes.reps busy
      → EndsRight suites (Undecided (short_cause number had wanting busy))
  ends_short suites start from want is last number had wanting busy a b c refuses = search arith

  -- a lock that it asks for is not to be had, and all before were
  pub short_lock : (start : ℕ → Prefix) (so_far left : List (ℕ × LockMode)) (one : ℕ × LockMode) → locks_on table task ≡ onto so_far (one ∷ left)
      → ((other : ℕ × LockMode) → Has so_far other → unmet sight (of_lock fixed world sight start other) ≡ false) → unmet sight (of_lock fixed world sight start one) ≡ true
      → find (unmet sight) (wants_of fixed world sight table task.t task.caller task.ops start) ≡ Some (of_lock fixed world sight start one)
  short_lock start so_far left one are met short = search (find_past, arith)

  -- all locks are had
  past_locks : (start : ℕ → Prefix) (so_far : List (ℕ × LockMode)) → locks_on table task ≡ onto so_far [] → ((other : ℕ × LockMode) → Has so_far other → unmet sight (of_lock fixed world sight start other) ≡ false)
      → find (unmet sight) (wants_of fixed world sight table task.t task.caller task.ops start) ≡ find (unmet sight) (map of_votes (sets_on table task))
  past_locks start so_far are met = search (find_past, arith)

  past_sets : (done left : List (ℕ × Configuration)) → sets_on table task ≡ onto done left → ((other : ℕ × Configuration) → Has done other → unmet sight (of_votes other) ≡ false)
      → find (unmet sight) (map of_votes (sets_on table task)) ≡ find (unmet sight) (map of_votes left)
  past_sets done left are met =
      ap (λ sets. find (unmet sight) (map of_votes sets)) are
      ∙ ap (find (unmet sight)) (sym (append-nil (map of_votes (onto done left))))
      ∙ find_past of_votes (unmet sight) done left [] met
      ∙ ap (find (unmet sight)) (append-nil (map of_votes left))

  pub short_votes : (start : ℕ → Prefix) (so_far : List (ℕ × LockMode)) (done left : List (ℕ × Configuration)) (one : ℕ × Configuration) → locks_on table task ≡ onto so_far []
      → ((other : ℕ × LockMode) → Has so_far other → unmet sight (of_lock fixed world sight start other) ≡ false) → sets_on table task ≡ onto done (one ∷ left)
      → ((other : ℕ × Configuration) → Has done other → unmet sight (of_votes other) ≡ false) → unmet sight (of_votes one) ≡ true
      → find (unmet sight) (wants_of fixed world sight table task.t task.caller task.ops start) ≡ Some (of_votes one)
  short_votes start so_far done left one are met sets sets_met short = search (past_locks, past_sets, arith)

  pub none_short : (start : ℕ → Prefix) (so_far : List (ℕ × LockMode)) (done : List (ℕ × Configuration)) → locks_on table task ≡ onto so_far []
      → ((other : ℕ × LockMode) → Has so_far other → unmet sight (of_lock fixed world sight start other) ≡ false) → sets_on table task ≡ onto done []
      → ((other : ℕ × Configuration) → Has done other → unmet sight (of_votes other) ≡ false) → find (unmet sight) (wants_of fixed world sight table task.t task.caller task.ops start) ≡ None
  none_short start so_far done are met sets sets_met = past_locks start so_far are met ∙ past_sets done [] sets sets_met

  -- ---- the suites that it gathered

  -- a suite is looked for from where it may be, and what was told of it is right
  pub record IsRight (z : ℕ) (suite : GatheredSuite) : Type 0 where
    pub may : MayStart fixed cache task.site z suite.collector.start
    pub right : AllRight fixed world sight z Exclusive (all_told suite.collector)

  -- a lock that was had
  pub record IsHad (suites : Suites) (one : ℕ × LockMode) : Type 0 where
    pub suite : GatheredSuite
    pub there : suite_of suites one.0 ≡ Some suite
    pub met : is_met (demand_by (sight.opens one.0 one.1) one.0 one.1 (led_to_by fixed world (finds_at sight one.0) one.0 suite.collector.start).votes) ≡ true

  abbrev pub start_of : Option GatheredSuite → Prefix
  start_of (Some suite) = suite.collector.start
  start_of None = absent_prefix fixed.service.c0

  abbrev pub starts : Suites → ℕ → Prefix
  starts suites z = start_of (suite_of suites z)

  pub may_start : (suites : Suites) → Each IsRight suites → MayStartAll fixed cache task.site (starts suites)
  may_start suites right z = of (suite_of suites z) refl
    where
      of : (found : Option GatheredSuite) → suite_of suites z ≡ found → MayStart fixed cache task.site z (start_of found)
      of None is = inl refl
      of (Some suite) is = (right z suite is).may

  pub had_met : (suites : Suites) (one : ℕ × LockMode) → IsHad suites one → unmet sight (of_lock fixed world sight (starts suites) one) ≡ false
  had_met suites one had = ap (λ found. not (is_met (demand_by (sight.opens one.0 one.1) one.0 one.1 (led_to_by fixed world (finds_at sight one.0) one.0 (start_of found)).votes))) had.there ∙ ap not had.met

  -- another suite in its place that is looked for from the same prefix
  abbrev pub SameStart : Suites → ℕ → GatheredSuite → Type 0
  SameStart suites number new = (old : GatheredSuite) → suite_of suites number ≡ Some old → new.collector.start ≡ old.collector.start

  pub had_with : (suites : Suites) (number : ℕ) (new : GatheredSuite) (one : ℕ × LockMode) → SameStart suites number new → IsHad suites one → IsHad (with_suite number new suites) one
  had_with suites number new one same had = search (with_at number new suites one.0, finds_at, eqb-true, arith)

  -- what it asked for so far, the newest first: all of it is had, and nothing else
  pub record Asked (suites : Suites) (asked : List (ℕ × LockMode)) : Type 0 where
    pub ordered : IsOrdered nat_cmp suites
    pub right : Each IsRight suites
    pub had : (one : ℕ × LockMode) → Has asked one → IsHad suites one
    pub modes : (z : ℕ) (mode : LockMode) → held_in mode (suite_of suites z) ≡ has_asked asked z mode
    pub order : locks_on table task ≡ onto asked (not_asked asked (needed_on table task))

  pub asked_with : (suites : Suites) (asked : List (ℕ × LockMode)) (number : ℕ) (new : GatheredSuite) → Asked suites asked → IsRight number new → SameStart suites number new
      → ((mode : LockMode) → held_in mode (Some new) ≡ held_in mode (suite_of suites number)) → Asked (with_suite number new suites) asked
  asked_with suites asked number new asks right same held = record {
    ordered = IsOrdered-insert nat_cmp_total suites number new asks.ordered;
    right = each_with IsRight number suites new (each_but IsRight number suites asks.right) right;
    had = λ one has. had_with suites number new one same (asks.had one has);
    modes = λ z mode. ap (held_in mode) (with_at number new suites z) ∙ of z mode (number == z) refl ∙ asks.modes z mode;
    order = asks.order;
  }
    where
      of : (z : ℕ) (mode : LockMode) (b : Bool) → (number == z) ≡ b → held_in mode (cond b (Some new) (suite_of suites z)) ≡ held_in mode (suite_of suites z)
      of z mode b h3 = search (held_in, eqb-true, arith)

  -- the site's cache hints of suites that are not gathered what it hinted as it began, if anything
  abbrev pub Hints : Suites → Cache → Type 0
  Hints suites now = (z : ℕ) → suite_of suites z ≡ None → (prefix : Prefix) → hint now task.site z ≡ Some prefix → hint cache task.site z ≡ Some prefix

  -- ---- once all that it needs is known

  -- it has gathered just what it asks for, in these modes
  abbrev pub Gathers : Suites → Type 0
  Gathers suites = (z : ℕ) (mode : LockMode) → held_in mode (suite_of suites z) ≡ has_asked (locks_on table task) z mode

  -- all that it demands is met, and no other suite is gathered; this is the answer
  pub record HasAll (suites : Suites) (answer : Result (List Answer) Refusal) : Type 0 where
    pub start : ℕ → Prefix
    pub from : MayStartAll fixed cache task.site start
    pub none : find (unmet sight) (wants_of fixed world sight table task.t task.caller task.ops start) ≡ None
    pub answer_is : answer ≡ answer_to table task
    pub right : Each IsRight suites
    pub gathered : Gathers suites

  abbrev pub answer_in : doing.Proposal → Result (List Answer) Refusal
  answer_in (Ok granted) = Ok granted.answers
  answer_in (Err refusal) = Err refusal

  -- all locks are had; of the votes that it sets these are met, and these are still to be
  pub record Sets (suites : Suites) (done left : List (ℕ × Configuration)) (granted : Granted) : Type 0 where
    pub right : Each IsRight suites
    pub so_far : List (ℕ × LockMode)
    pub had : (one : ℕ × LockMode) → Has so_far one → IsHad suites one
    pub all : locks_on table task ≡ onto so_far []
    pub answer_is : Ok granted.answers ≡ answer_to table task
    pub sets : sets_on table task ≡ onto done left
    pub met : (one : ℕ × Configuration) → Has done one → is_met (demand_of sight (of_votes one)) ≡ true
    pub are_set : (one : ℕ × Configuration) → Has left one → IsSet granted.changes one
    pub there : (one : ℕ × Configuration) → Has left one → is_some (suite_of suites one.0) ≡ true
    pub locked : (one : ℕ × Configuration) → Has left one → list_any (λ (lock : ℕ × LockMode). lock.0 == one.0) so_far ≡ true
    pub exclusive : (one : ℕ × Configuration) → Has left one → has_asked so_far one.0 Exclusive ≡ true
    pub modes : Gathers suites
    pub whole : (one : ℕ × Configuration) → Has left one → (suite : GatheredSuite) → suite_of suites one.0 ≡ Some suite → IsKept suite

  -- the first of them now
  pub record IsWidening (suites : Suites) (number : ℕ) (left : List ℕ) (granted : Granted) : Type 0 where
    pub votes : Configuration
    pub done : List (ℕ × Configuration)
    pub later : List (ℕ × Configuration)
    pub left_is : map (λ (one : ℕ × Configuration). one.0) later ≡ left
    pub sets : Sets suites done ((number, votes) ∷ later) granted
    pub suite : GatheredSuite
    pub there : suite_of suites number ≡ Some suite
    pub widening : Widening
    pub widening_is : suite.collector.widening ≡ Some widening
    pub votes_are : widening.votes ≡ votes

  -- ---- the phases before

  module _ (Was : ℕ → Prefix → Type 0) (ground : Ground fixed world sight cache task.site (locks_on table task) Was) where
    -- a suite whose collector goes alone
    pub record IsFound (z : ℕ) (suite : GatheredSuite) : Type 0 where
      pub start : Prefix
      pub may : MayStart fixed cache task.site z start
      pub asked : asks_of (locks_on table task) z ≡ true
      pub reached : Reached fixed world sight z (Was z) start (ground.rules z start asked may) suite.collector
      pub led : (first : ReadPoint) → suite.first ≡ Some first → first.prefix ≡ led_to_by fixed world (finds_at sight z) z start
      pub version : (first : ReadPoint) → suite.first ≡ Some first → (n : ℕ) → AllBelow fixed world sight z n → first.dver ≤ n

    pub found_start : (z : ℕ) (suite : GatheredSuite) (found : IsFound z suite) → suite.collector.start ≡ found.start
    found_start z suite found = ap (λ (c : Collector). c.start) found.reached.is

    pub found_right : (z : ℕ) (suite : GatheredSuite) → IsFound z suite → IsRight z suite
    found_right z suite found = search (found_start, all_wider, serves_all, arith)

    -- and that had a Current: some server holds a lock on it
    pub record HasLock (suite : GatheredSuite) : Type 0 where
      pub server : ℕ
      pub is_one : nat_lt server max_servers ≡ true
      pub holds : holds Shared (all_told suite.collector) server ≡ true

    pub record IsWhole (z : ℕ) (suite : GatheredSuite) : Type 0 where
      pub found : IsFound z suite
      pub had : is_some suite.first ≡ true
      pub mode_is : suite.mode ≡ suite.collector.mode
      pub lock : HasLock suite
      pub none_newer : newer_by fixed world (finds_at sight z) z (newest suite.collector.start suite.collector.told) ≡ None

    -- each suite had a Current
    pub record IsReady (suites : Suites) : Type 0 where
      pub asked : List (ℕ × LockMode)
      pub asks : Asked suites asked
      pub whole : Each IsWhole suites

    -- each but this, which is asked for
    pub record IsGathering (suites : Suites) (number : ℕ) : Type 0 where
      pub asked : List (ℕ × LockMode)
      pub asks : Asked suites asked
      pub whole : EachBut IsWhole number suites
      pub suite : GatheredSuite
      pub there : suite_of suites number ≡ Some suite
      pub found : IsFound number suite
      pub mode : LockMode
      pub mode_is : suite.collector.mode ≡ mode
      pub next_is : not_asked asked (needed_on table task) ≡ (number, mode) ∷ not_asked ((number, mode) ∷ asked) (needed_on table task)
      pub weaker : (other : LockMode) → has_asked asked number other ≡ true → serves mode other ≡ true

    abbrev pub PhaseStands : Suites → Cache → Phase → Type 0
    PhaseStands suites now (Gathering number) = IsGathering suites number × Hints suites now
    PhaseStands suites now (Fetching number) = IsReady suites × Hints suites now
    PhaseStands suites now (doing.Widening [] granted) = ⊥
    PhaseStands suites now (doing.Widening (number ∷ left) granted) = IsWidening suites number left granted
    PhaseStands suites now (Preparing left outcome) = HasAll suites (answer_in outcome)
    PhaseStands suites now (Deciding outcome) = HasAll suites (answer_in outcome)
    PhaseStands suites now (Finishing left v ended) = EndsRight suites ended

    abbrev pub AfterStands : Cache → After TransactionRun → Type 0
    AfterStands now (GoesOn txn_run) = (txn_run.task ≡ task) × PhaseStands txn_run.suites now txn_run.phase
    AfterStands now (Ends ended) = (suites : Suites) × EndsRight suites ended

    abbrev pub StepStands : Step → Type 0
    StepStands step = AfterStands step.cache step.after

    pub told_stands : (now : Cache) (suites : Suites) (v : Verdict) (ended : Ending) (servers : List ℕ) → EndsRight suites ended → StepStands (tell_end task now suites v ended servers)
    told_stands now suites v ended servers h5 = search arith

    pub prepare_stands : (now : Cache) (suites : Suites) (outcome : doing.Proposal) (servers : List ℕ) → HasAll suites (answer_in outcome) → StepStands (prepare task now suites outcome servers)
    prepare_stands now suites outcome servers h4 = search arith
