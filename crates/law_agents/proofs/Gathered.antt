-- A lock is asked for of the first server that is left.
use Rattle.law_agents.proofs.Vocabulary.{◌≡◌, ℕ, ◌<◌, Bool, true, false, cond, inl, inr, List, [], ◌∷◌, ◌++◌, Option, Some, None, refl, sym, ap, subst, ◌∙◌, arith, ◌&&◌, not, nat_lt, nat_le, find, eqb-true, false≢true, nat_tests, same_Some}
use Rattle.law_agents.proofs.Vocabulary.{Representative, LockMode, Shared, Request, Said, newest, has_told, Collector, told_since, votes_or, mode_or, all_told, counted, wanted, needed, got, is_member, is_left, asked_of, ask_or_short, version}
use Rattle.law_agents.proofs.Vocabulary.{members_of, request_for, Asked, Poll, Upgrade, Next, Ask, Current, next, GatheredSuite, Suites, suite_of, told_in, parts_at, Job, home_of, Fixed, Task, Phase, Gathering, Fetching, Widening, Preparing}
use Rattle.law_agents.proofs.Vocabulary.{Deciding, Finishing, Sweeping, SweepRun, Doing, Running, RunningSweep, asked_by, asked_for, request_in, changes_of, decision_of, Agent, Event, next_in, Exchange, of_job, locks, told_of, has_said, holding}
use Rattle.law_agents.proofs.Vocabulary.{refusing, SetsVotes, asks_same, fetched_as, StandsOn, Wants, Sets, Are, asks_lock, kind_of, told_said, votes_same, Base_of, Started, Begins, DoingStands, stands_after, started_is}
use Rattle.txn_core.proofs.Undecided.{IsOf, is_wanted, sets}
use Rattle.law_agents.specs.Orders.{number_of}
use Rattle.law_agents.specs.Gathers.{CountsBy, IsGathering, GathersInOrder}
use Rattle.rep_core.specs.declared.request.Request.TheVariants as request
use Rattle.suite_collect.specs.Collecting as collecting
use Rattle.txn_core.specs.Sweeps as sweep
use Rattle.law_agents.specs.Gathers as law

-- ---- what stands behind an Ask

record Asks (c : Collector) (server : ℕ) (question : Asked) : Type 0 where
  too_few : nat_le (needed c) (got c) ≡ false
  has : ℕ
  first : find (is_left c) (counted c).reps ≡ Some (server, has)
  asks : question ≡ asked_of c server

asks_of : (c : Collector) (b : Bool) (found : Option Representative) (server : ℕ) (question : Asked) → nat_le (needed c) (got c) ≡ b → find (is_left c) (counted c).reps ≡ found
    → cond b (Current (newest c.start c.told) (version c) (members_of (counted c) (is_member c))) (ask_or_short c found) ≡ Ask server question → Asks c server question
asks_of c true found server question few left is = cc
asks_of c false None server question few left is = cc
asks_of c false (Some rep) server question few left is =
    let who : rep.0 ≡ server = cc in
    let what : asked_of c rep.0 ≡ question = cc in
    record { too_few = few; has = rep.1; first = left ∙ ap (λ server. Some (server, rep.1)) who; asks = sym what ∙ ap (asked_of c) who }

above : (a b : ℕ) → nat_le a b ≡ false → b < a
above a b is = grind (arith, nat_tests)

-- ---- of a job

module _ (fixed : Fixed) (agent : Agent) (job : Job) (events : List Event) where
  abbrev past : List Exchange
  past = of_job fixed agent job events

  -- ---- a collector that asks

  record Collects (task : Task) (suite : ℕ) (c : Collector) : Type 0 where
    told : all_told c ≡ told_of suite [] past
    start : Started fixed agent job events suite c.start
    wide : (w : collecting.Widening) → c.widening ≡ Some w → Sets fixed task (Base_of fixed agent job events events task.site) past suite w.votes
    wants : Wants fixed task (Base_of fixed agent job events events task.site) past suite c.mode

  module _ (task : Task) (own : IsOf fixed agent job events task) (suite server : ℕ) (c : Collector) (collects : Collects task suite c) where
    said_of : (kind : LockMode → Said → Bool) (who : ℕ) → has_told (kind_of kind) (all_told c) who ≡ has_said past suite kind who
    said_of kind who = ap (λ told. has_told (kind_of kind) told who) collects.told ∙ told_said kind suite who [] past

    which : (widening : Option collecting.Widening) → c.widening ≡ widening → CountsBy fixed agent job events suite c.start (counted c) (wanted c)
    which None is = inl (
      ap (λ w. votes_or w (newest c.start c.told)) is ∙ ap (λ told. (newest c.start told).votes) (sym (ap (λ w. told_since w ++ c.told) is) ∙ collects.told),
      is_wanted fixed agent job events task own suite (wanted c) (subst (Wants fixed task (Base_of fixed agent job events events task.site) past suite) (sym (ap (λ w. mode_or w c.mode) is)) collects.wants),
    )
    which (Some w) is = inr (
      ap (λ w. mode_or w c.mode) is,
      subst (SetsVotes fixed agent job events suite) (sym (ap (λ w. votes_or w (newest c.start c.told)) is)) (sets fixed agent job events task own suite w.votes (collects.wide w is)),
    )

    left_same : (rep : Representative) → is_left c rep ≡ law.is_left past suite (wanted c) rep
    left_same rep = ap (λ b. nat_lt 0 rep.1 && not b && not (has_told (kind_of refusing) (all_told c) rep.0)) (said_of (holding (wanted c)) rep.0)
        ∙ ap (λ b. nat_lt 0 rep.1 && not (has_said past suite (holding (wanted c)) rep.0) && not b) (said_of refusing rep.0)

    asked_so : (t : ℕ) (question : Asked) (b : Bool) → has_said past suite (holding Shared) server ≡ b → question ≡ cond b Upgrade (Poll (wanted c))
        → request_for t suite question ≡ cond b (request.Upgrade (number_of (request_for t suite question)) suite) (request.Poll (number_of (request_for t suite question)) suite (wanted c))
    asked_so t question b h3 h4 = search arith

    gathering : (t : ℕ) (question : Asked) → next c ≡ Ask server question → IsGathering fixed agent job events server suite (request_for t suite question)
    gathering t question is =
        let asks = asks_of c (nat_le (needed c) (got c)) (find (is_left c) (counted c).reps) server question refl refl is in
        record {
          start = c.start;
          gathered = started_is fixed agent job events suite c.start collects.start;
          votes = counted c;
          mode = wanted c;
          count = which c.widening refl;
          too_few = subst (λ n. n < needed c) (votes_same (counted c).reps (is_member c) (has_said past suite (holding (wanted c))) (said_of (holding (wanted c)))) (above (needed c) (got c) asks.too_few);
          has = asks.has;
          first = (λ i. find (λ rep. sym (left_same rep) i) (counted c).reps) ∙ asks.first;
          asks = of_bool t question asks.asks;
        }
      where
        of_bool : (t : ℕ) (question : Asked) → question ≡ asked_of c server
            → request_for t suite question ≡ cond (has_said past suite (holding Shared) server) (request.Upgrade (number_of (request_for t suite question)) suite) (request.Poll (number_of (request_for t suite question)) suite (wanted c))
        of_bool t question what =
            asked_so t question (has_said past suite (holding Shared) server) refl (what ∙ ap (λ b. cond b Upgrade (Poll (wanted c))) (said_of (holding Shared) server))

  -- ---- a transaction that asks for a lock

  by_suite : (task : Task) → IsOf fixed agent job events task → (number suite server : ℕ) (asked : Request) (found : Option GatheredSuite) → ((it : GatheredSuite) → found ≡ Some it → Collects task number it.collector)
      → asked_for task number found ≡ Some (server, asked) → locks suite asked ≡ true → IsGathering fixed agent job events server suite asked
  by_suite task own number suite server asked None collects is lock = cc
  by_suite task own number suite server asked (Some it) collects is lock = of (next it.collector) refl is
    where
      same : number ≡ suite
      same = eqb-true number suite (sym (asks_lock task number (Some it) server asked is suite) ∙ lock)

      of : (after : Next) → next it.collector ≡ after → asked_by task number after ≡ Some (server, asked) → IsGathering fixed agent job events server suite asked
      of (Ask who question) was is =
          subst (λ suite. IsGathering fixed agent job events server suite asked) same
          (subst (λ (pair : ℕ × Request). IsGathering fixed agent job events pair.0 number pair.1) (same_Some (who, request_for task.t number question) (server, asked) is)
          (gathering task own number who it.collector (collects it refl) task.t question was))
      of other was is = cc

  told_there : (suites : Suites) (number : ℕ) (it : GatheredSuite) → suite_of suites number ≡ Some it → Are (λ number. told_of number [] past) suites → all_told it.collector ≡ told_of number [] past
  told_there suites number it there are = ap told_in (sym there) ∙ are.1 number

  no_lock : {P : Type 0} (a b : ℕ) (suite : ℕ) (asked other : Request) → locks suite asked ≡ false → ◌≡◌ {A = Option (ℕ × Request)} (Some (a, asked)) (Some (b, other)) → locks suite other ≡ true → P
  no_lock a b suite asked other none is lock = absurd (false≢true (sym none ∙ ap (locks suite) (asks_same a b asked other is) ∙ lock))

  by_phase : (task : Task) → IsOf fixed agent job events task → (suites : Suites) (phase : Phase) (server suite : ℕ) (asked : Request)
      → StandsOn fixed task (Base_of fixed agent job events events task.site) (Started fixed agent job events) (Begins fixed agent job events) past suites phase
      → request_in fixed task suites phase ≡ Some (server, asked) → locks suite asked ≡ true → IsGathering fixed agent job events server suite asked
  by_phase task own suites (Gathering number) server suite asked stands is lock =
      by_suite task own number suite server asked (suite_of suites number)
      (λ it there. let asking = stands.2 it there in record { told = told_there suites number it there stands.0; start = asking.start; wide = asking.wide; wants = asking.wanted }) is lock
  by_phase task own suites (Fetching number) server suite asked stands is lock = search (false≢true, fetched_as, arith)
  by_phase task own suites (Widening (number ∷ left) granted) server suite asked stands is lock =
      by_suite task own number suite server asked (suite_of suites number)
      (λ it there. let kept = stands.1 number it there in record { told = told_there suites number it there stands.0; start = kept.start; wide = kept.wide; wants = kept.wanted }) is lock
  by_phase task own suites (Preparing (now ∷ left) outcome) server suite asked stands is lock = no_lock now server suite (request.Prepare task.t (parts_at suites (changes_of outcome) now)) asked refl is lock
  by_phase task own suites (Deciding outcome) server suite asked stands is lock = no_lock (home_of fixed.service task.t) server suite (request.Decide task.t (decision_of task outcome)) asked refl is lock
  by_phase task own suites (Finishing (now ∷ left) v ending) server suite asked stands is lock = no_lock now server suite (request.Finish task.t v) asked refl is lock
  by_phase task own suites other server suite asked stands is lock = cc

  by_sweep : (sweeping : SweepRun) (now : Sweeping) (server suite : ℕ) (asked : Request) → ◌≡◌ {A = Option (ℕ × Request)} (Some (sweep.asked_now fixed.service sweeping now))
      (Some (server, asked)) → locks suite asked ≡ true → IsGathering fixed agent job events server suite asked
  by_sweep sweeping now server suite asked h5 h6 = search arith

  by_doing : (server suite : ℕ) (asked : Request) (doing : Option Doing) → DoingStands fixed agent job events doing → next_in fixed doing ≡ Some (server, asked)
      → locks suite asked ≡ true → IsGathering fixed agent job events server suite asked
  by_doing server suite asked None stands is lock = cc
  by_doing server suite asked (Some (RunningSweep sweeping)) stands is lock = by_sweep sweeping sweeping.now server suite asked is lock
  by_doing server suite asked (Some (Running running)) stands is lock =
      by_phase running.task (record { caller = stands.caller; site = stands.site; ops = stands.ops; transaction = stands.transaction; task_is = stands.task }) running.suites
      running.phase server suite asked (stands.stands_on (server, asked) is) is lock

pub gathers_in_order : GathersInOrder
gathers_in_order fixed agent job events server suite asked idle is lock = search (by_doing, stands_after, arith)
