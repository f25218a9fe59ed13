-- Undecided ends are caused.
use Rattle.txn_core.proofs.Vocabulary.{◌≡◌, ℕ, Bool, true, ◌⊎◌, inl, inr, List, [], ◌∷◌, ◌++◌, Option, Some, None, refl, sym, ap, subst, ◌∙◌, eqb-true, same_Some, Identity, Op, Cache, Said, Configuration, Prefix, arith, LockMode, Exclusive}
use Rattle.txn_core.proofs.Vocabulary.{Service, Lock, Request, Reply, Lack, fits, newest, has_told, has_refused, first_busy, told_since, votes_or, mode_or, all_told, counted, wanted, is_member, contains_from, Response, Replied, Lacked, Cause}
use Rattle.txn_core.proofs.Vocabulary.{Unavailable, Busy, Lost, Full, Memory, Ending, Undecided, Job, Transaction, Sweep, Suites, Fixed, Task, TransactionRun, Sweeping, SweepRun, Doing, Running, RunningSweep, After, GoesOn, Ends, heard_on, to_widen}
use Rattle.txn_core.proofs.Vocabulary.{after_response, lack_cause, Agent, Event, Take, next_in, end_of, take_in, begin, after_all, Exchange, of_job, exchange_of, told_of, fits_response, all_fit, has_said, holding, refusing, down, task_of, IsStart}
use Rattle.suite_collect.proofs.Shortness.{short_has_none_left}
use Rattle.txn_core.specs.Undecided.{WereGathered, IsWanted, SetsVotes, WasLost, DidNotServe, is_lack, IsCaused, EndsAreCaused, IsShort}
use Rattle.rep_core.specs.declared.reply.Reply.TheVariants as reply
use Rattle.rep_core.specs.declared.stamped.Lack.TheVariants as lack
use Rattle.suite_collect.specs.Collecting as collecting
use Rattle.txn_core.specs.Sweeps as sweep
use Rattle.txn_core.proofs.Gathers.{Base, AllGathered, Wants, Sets}
use Rattle.txn_core.proofs.Causes.{push, Begun, ShortBy, CausedBy, OrFresh, LeftOf, was_now, last_fits}
use Rattle.txn_core.proofs.Upheld.{Begins, Started, Base_of, started_is, begins_more, started_more, fresh_begins, map_cause, DoingStands, after-append, exchanges-take, response_leaves, stands_after}
use Rattle.txn_core.proofs.Shown.{told_said, busy_said, votes_same, tells_busy, kind_of}

-- ---- sweeps

-- a sweep of a server falls short of nothing
abbrev SweepCaused : List Exchange → ℕ → Cause → Type 0
SweepCaused past swept (Lost server) = WasLost past (Sweep swept) server
SweepCaused past swept (Full server) = DidNotServe past (Sweep swept) lack.Full server
SweepCaused past swept Memory = (server : ℕ) × DidNotServe past (Sweep swept) lack.Memory server
SweepCaused past swept _ = ⊥

abbrev SweepEnds : List Exchange → ℕ → Ending → Type 0
SweepEnds past swept (Undecided cause) = SweepCaused past swept cause
SweepEnds past swept _ = Unit {0}

abbrev RoundCaused : List Exchange → ℕ → After SweepRun → Type 0
RoundCaused past swept (GoesOn sweep_run) = Unit {0}
RoundCaused past swept (Ends ending) = SweepEnds past swept ending

lack_swept : (past : List Exchange) (swept server : ℕ) (asked : Request) (lacked : Lack) → SweepCaused (push past server asked (Lacked lacked)) swept (lack_cause server lacked)
lack_swept past swept server asked lack.Full = was_now past server asked (Lacked lack.Full) (λ asked response. is_lack lack.Full response) refl
lack_swept past swept server asked lack.Memory = (server, was_now past server asked (Lacked lack.Memory) (λ asked response. is_lack lack.Memory response) refl)

caused_sweep : (past : List Exchange) (swept : ℕ) (sweep_run : SweepRun) (locks : List Lock) → RoundCaused past swept (sweep.sweep_on sweep_run locks)
caused_sweep past swept sweep_run locks = search arith

caused_lost : (past : List Exchange) (sweep_run : SweepRun) (server : ℕ) (asked : Request) → server ≡ sweep_run.server → RoundCaused (push past server asked (Replied reply.Down)) sweep_run.server (sweep.lost sweep_run)
caused_lost past sweep_run server asked at = search (push, was_now, arith)

abbrev push_now : List Exchange → Service → SweepRun → Sweeping → Response → List Exchange
push_now past service sweep_run now response = push past (sweep.asked_now service sweep_run now).0 (sweep.asked_now service sweep_run now).1 response

caused_answer : (past : List Exchange) (service : Service) (sweep_run : SweepRun) (now : Sweeping) (said : Reply) → fits (sweep.asked_now service sweep_run now).1 said ≡ true
    → RoundCaused (push_now past service sweep_run now (Replied said)) sweep_run.server (sweep.after_answer service sweep_run now said)
caused_answer past service sweep_run now said h5 = search (caused_lost, caused_sweep, push, eqb-true, arith)

caused_round : (past : List Exchange) (service : Service) (sweep_run : SweepRun) (response : Response) → fits_response (sweep.asked_now service sweep_run sweep_run.now).1 response ≡ true
    → RoundCaused (push_now past service sweep_run sweep_run.now response) sweep_run.server (sweep.after_response service sweep_run (sweep.asked_now service sweep_run sweep_run.now).0 response)
caused_round past service sweep_run (Replied said) fine = caused_answer past service sweep_run sweep_run.now said fine
caused_round past service sweep_run (Lacked lacked) fine = lack_swept past sweep_run.server (sweep.asked_now service sweep_run sweep_run.now).0 (sweep.asked_now service sweep_run sweep_run.now).1 lacked

-- ---- what a collector that falls short was told

module _ (fixed : Fixed) (agent : Agent) (job : Job) (events : List Event) where
  abbrev past : List Exchange
  past = of_job fixed agent job events

  -- of a transaction with this task
  pub record IsOf (task : Task) : Type 0 where
    pub caller : Identity
    pub site : ℕ
    pub ops : List Op
    pub transaction : job ≡ Transaction caller site ops
    pub task_is : task ≡ task_of agent caller site ops

  -- the site of the transaction is one
  site_is : (task : Task) → IsOf task → (caller : Identity) (site : ℕ) (ops : List Op) → job ≡ Transaction caller site ops → task.site ≡ site
  site_is task own caller site ops transaction = search arith

  pub gathers : (task : Task) → IsOf task → (suites : Suites) → AllGathered (Base_of fixed agent job events events task.site) past suites → WereGathered fixed agent job events suites
  unfolding started_is
  gathers task own suites gathered number suite there =
      let was = gathered number suite there in
      record {
        start = suite.collector.start;
        gathered = started_is fixed agent job events number suite.collector.start was.0;
        first = was.1.first;
        was = was.1.was;
        gave = was.1.gave;
        content = search (same_Some, site_is, arith);
      }

  pub is_wanted : (task : Task) → IsOf task → (number : ℕ) (mode : LockMode) → Wants fixed task (Base_of fixed agent job events events task.site) past number mode → IsWanted fixed agent job events number mode
  is_wanted task own number mode wants = record {
    caller = own.caller;
    site = own.site;
    ops = own.ops;
    transaction = own.transaction;
    suites = wants.suites;
    gathered = gathers task own wants.suites wants.gathered;
    needs = ap (λ task. heard_on fixed task wants.suites) (sym own.task_is) ∙ wants.needs;
  }

  pub sets : (task : Task) → IsOf task → (number : ℕ) (votes : Configuration) → Sets fixed task (Base_of fixed agent job events events task.site) past number votes → SetsVotes fixed agent job events number votes
  sets task own number votes set = record {
    caller = own.caller;
    site = own.site;
    ops = own.ops;
    transaction = own.transaction;
    suites = set.suites;
    gathered = gathers task own set.suites set.gathered;
    answers = set.answers;
    changes = set.changes;
    done = ap (λ task. heard_on fixed task set.suites) (sym own.task_is) ∙ set.done;
    gets = contains_from (to_widen set.changes) number set.gets;
    are = set.are;
  }

  module _ (task : Task) (own : IsOf task) (suite had wanting : ℕ) (busy : Option (ℕ × ℕ)) (by : ShortBy fixed task (Base_of fixed agent job events events task.site) (Begins fixed agent job events) past suite had wanting busy) where
    said_of : (kind : LockMode → Said → Bool) (server : ℕ) → has_told (kind_of kind) (all_told by.collector) server ≡ has_said past suite kind server
    said_of kind server = ap (λ told. has_told (kind_of kind) told server) by.told ∙ told_said kind suite server [] past

    either : (server : ℕ) → (is_member by.collector server ≡ true) ⊎ (has_refused (all_told by.collector) server ≡ true) → (has_said past suite (holding (wanted by.collector)) server ≡ true) ⊎ (has_said past suite refusing server ≡ true)
    either server (inl held) = inl (sym (said_of (holding (wanted by.collector)) server) ∙ held)
    either server (inr refused) = inr (sym (said_of refusing server) ∙ refused)

    which : (widening : Option collecting.Widening) → by.collector.widening ≡ widening
        → ((counted by.collector ≡ (newest by.collector.start (told_of suite [] past)).votes) × IsWanted fixed agent job events suite (wanted by.collector))
        ⊎ ((wanted by.collector ≡ Exclusive) × SetsVotes fixed agent job events suite (counted by.collector))
    which None is = inl (
      ap (λ w. votes_or w (newest by.collector.start by.collector.told)) is
          ∙ ap (λ told. (newest by.collector.start told).votes) (sym (ap (λ w. told_since w ++ by.collector.told) is) ∙ by.told),
      is_wanted task own suite (wanted by.collector) (subst (Wants fixed task (Base_of fixed agent job events events task.site) past suite) (sym (ap (λ w. mode_or w by.collector.mode) is)) by.wanted),
    )
    which (Some w) is = inr (
      ap (λ w. mode_or w by.collector.mode) is,
      subst (SetsVotes fixed agent job events suite) (sym (ap (λ w. votes_or w (newest by.collector.start by.collector.told)) is)) (sets task own suite w.votes (by.wide w is)),
    )

    gathered : Begun (Started fixed agent job events) (Begins fixed agent job events) suite by.collector → IsStart fixed agent job events suite by.collector.start
    gathered h0 = search arith

    is_short : IsShort fixed agent job events suite had wanting busy
    is_short =
        let short = short_has_none_left by.collector had wanting busy by.short in
        record {
          start = by.collector.start;
          gathered = gathered by.begun;
          votes = counted by.collector;
          mode = wanted by.collector;
          count = which by.collector.widening refl;
          had = short.votes ∙ votes_same (counted by.collector).reps (is_member by.collector) (has_said past suite (holding (wanted by.collector))) (said_of (holding (wanted by.collector)));
          wanting = short.threshold;
          too_few = short.too_few;
          none_left = λ rep there some. either rep.0 (short.none_left rep there some);
          first_busy = tells_busy by.collector had wanting busy by.short ∙ ap first_busy by.told ∙ busy_said suite [] past;
          all_down = λ none server refused. sym (said_of down server) ∙ short.all_down none server (said_of refusing server ∙ refused);
        }

  caused : (task : Task) → IsOf task → (cause : Cause) → CausedBy fixed task (Base_of fixed agent job events events task.site) (Begins fixed agent job events) past cause → IsCaused fixed agent job events cause
  caused task own (Unavailable suite had wanting) by = is_short task own suite had wanting None by
  caused task own (Busy server holder) by = (by.0, by.1, by.2, is_short task own by.0 by.1 by.2 (Some (server, holder)) by.3)
  caused task own (Lost server) by = subst (λ job. WasLost past job server) (sym own.transaction) by
  caused task own (Full server) by = subst (λ job. DidNotServe past job lack.Full server) (sym own.transaction) by
  caused task own Memory by = (by.0, subst (λ job. DidNotServe past job lack.Memory by.0) (sym own.transaction) by.1)
  caused task own _ by = by

  swept : (server : ℕ) → job ≡ Sweep server → (cause : Cause) → SweepCaused past server cause → IsCaused fixed agent job events cause
  swept server h1 cause h3 = search arith

-- ---- all responses

course_ends : (fixed : Fixed) (task : Task) (Old : Base) (Loose : ℕ → Prefix → Type 0) (px : List Exchange) (cache : Cache) (after : After TransactionRun) (cause : Cause)
    → LeftOf fixed task Old Loose px cache after → end_of after ≡ Some (Undecided cause) → all_fit px ≡ true
    → CausedBy fixed task Old (OrFresh fixed task cache px Loose) px cause
course_ends fixed task h2 h3 px cache after cause h8 h9 h10 = search arith

round_ends : (past : List Exchange) (swept : ℕ) (after : After SweepRun) (cause : Cause) → RoundCaused past swept after → end_of after ≡ Some (Undecided cause) → SweepCaused past swept cause
round_ends past swept after cause h4 h5 = search arith

module _ (fixed : Fixed) (agent : Agent) (job : Job) (events : List Event) (response : Response) (cause : Cause) where
  abbrev now : Agent
  now = after_all fixed (begin fixed agent job) events

  abbrev then' : List Event
  then' = events ++ Take response ∷ []

  ends : (doing : Option Doing) (asked : Option (ℕ × Request)) → now.doing ≡ doing → next_in fixed doing ≡ asked → of_job fixed agent job then' ≡ of_job fixed agent job events ++ exchange_of asked response
      → after_all fixed (begin fixed agent job) then' ≡ (take_in fixed now response doing asked).agent → all_fit (of_job fixed agent job then') ≡ true → DoingStands fixed agent job events doing
      → (take_in fixed now response doing asked).ending ≡ Some (Undecided cause) → IsCaused fixed agent job then' cause
  ends (Some (Running running)) (Some asked) was is told after fine stands end' =
      let step = after_response fixed running now.cache asked.0 asked.1 response in
      let px = push (of_job fixed agent job events) asked.0 asked.1 response in
      let fine' : all_fit px ≡ true = ap all_fit (sym told) ∙ fine in
      let by = course_ends fixed running.task (Base_of fixed agent job events then' running.task.site) (Begins fixed agent job events) px step.cache step.after cause
      (response_leaves fixed agent job events response running asked is told (ap (λ (agent : Agent). agent.cache) after) stands) end' fine' in
      let loose : (n : ℕ) (start : Prefix) → OrFresh fixed running.task step.cache px (Begins fixed agent job events) n start → Begins fixed agent job then' n start = λ n start begun. elim begun [
        | inl before ↦ begins_more fixed agent job events (Take response ∷ []) n start before
        | inr fresh ↦ fresh_begins fixed agent job stands.caller stands.site stands.ops stands.transaction running.task stands.task px step.cache then' told (ap (λ (agent : Agent). agent.cache) after) n start fresh
      ] in
      let mapped = map_cause fixed running.task (Base_of fixed agent job events then' running.task.site) (OrFresh fixed running.task step.cache px (Begins fixed agent job events))
      (Base_of fixed agent job then' then' running.task.site) (Begins fixed agent job then') px
      (record { start = started_more fixed agent job events (Take response ∷ []); content = λ n first content is. is }) loose cause by in
      caused fixed agent job then' running.task (record { caller = stands.caller; site = stands.site; ops = stands.ops; transaction = stands.transaction; task_is = stands.task }) cause
      (subst (λ past. CausedBy fixed running.task (Base_of fixed agent job then' then' running.task.site) (Begins fixed agent job then') past cause) (sym told) mapped)
  ends (Some (Running running)) None was is told after fine stands end' = cc
  ends (Some (RunningSweep sweep_run)) (Some asked) was is told after fine stands end' =
      let px = push (of_job fixed agent job events) asked.0 asked.1 response in
      let fits' = last_fits (of_job fixed agent job events) asked.0 asked.1 response (ap all_fit (sym told) ∙ fine) in
      let caused' = subst (λ (asked : ℕ × Request). fits_response asked.1 response ≡ true
      → RoundCaused (push (of_job fixed agent job events) asked.0 asked.1 response) sweep_run.server (sweep.after_response fixed.service sweep_run asked.0 response))
      (same_Some (sweep.asked_now fixed.service sweep_run sweep_run.now) asked is) (caused_round (of_job fixed agent job events) fixed.service sweep_run response) fits' in
      swept fixed agent job then' sweep_run.server stands cause (subst (λ past. SweepCaused past sweep_run.server cause) (sym told)
      (round_ends px sweep_run.server (sweep.after_response fixed.service sweep_run asked.0 response) cause caused' end'))
  ends (Some (RunningSweep sweep_run)) None was is told after fine stands end' = cc
  ends None (Some asked) was is told after fine stands end' = cc
  ends None None was is told after fine stands end' = cc

pub ends_are_caused : EndsAreCaused
ends_are_caused fixed agent job events response cause idle fine end' = search (ends, exchanges-take, after-append, stands_after, arith)
