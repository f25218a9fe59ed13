-- What a suite heard, and how its transaction goes on by it.
use Rattle.txn_core.proofs.Vocabulary.{◌≡◌, ℕ, List, Option, Some, None, Result, refl, sym, ap, subst, ◌∙◌, nat_cmp, IsOrdered, Reply, Request, Lack, Service, Reached, Cache, option_map, IfErr, OnErr, AllocError, arith, none-some, same_Some, Told}
use Rattle.txn_core.proofs.Vocabulary.{Content, Cause, Ending, Flow, On, Ended, Resources, Learned, PendingQuorum, Fetched, Lacked, Fixed, TransactionRun, Granted, Phase, Running, ReadPoint, GatheredSuite, Suites, suite_of, with_suite, Step}
use Rattle.txn_core.proofs.Vocabulary.{after_lack, execute, fetched, gather_by, give_up, given_in, keep_content, widen_all, CompletesAt, HearsAt, IsSettled, SettlesAt, asks_in, heard_at, on_hearing, content_kept, learned, kept_of, shelved}
use Rattle.txn_core.proofs.Vocabulary.{IsReachedBy, IsReachedIn, changed_at, first_at, settled_with, with_content, gather_again, taken, HasUnused, left as begun}
use Rattle.sorted_map.specs.Numbers.{get_insert_here}
use Rattle.txn_core.specs.declared.learned.Learned.TheVariants.{Quorum, Content as Given}
use Rattle.suite_collect.specs.declared.hearing.Hearing.TheVariants.{Lost, Asks, Short, Quorum as Complete}
use Rattle.txn_core.specs.code.Goings.{widened, GoesBy, IsStep, IsUntouched, IsWidenedBy, IsWidenedFrom, Keeps, fixed_by, given, held, held_from, held_where_asked, replied}
use Rattle.txn_core.specs.code.Hearing.{Hearing}
use Rattle.txn_core.specs.declared.ending.Cause.TheVariants as cause
use Rattle.txn_core.proofs.InPlace.{at_lost, at_short, at_quorum, settles_lost}
use Rattle.txn_core.proofs.Reaching.{IsLate, gives_up, goes_gather, goes_unless, late, reached_asks, reached_at, reached_short}

module _ (before mid : TransactionRun) (number server : ℕ) (said : Reply) where
  abbrev pub found : Option GatheredSuite
  found = suite_of before.suites number

  -- ---- the step, whatever follows a quorum

  module _ (cache : Cache) (go_on : GatheredSuite → Step) where
    abbrev pub step_on : Hearing → Step
    step_on what = on_hearing before.task cache before.suites before.phase number server what go_on

    pub lost_goes : (flow : Flow) (after : TransactionRun) → HearsAt found number Lost before said mid
        → GoesBy (give_up mid.task cache mid.suites (cause.Lost server)) flow after cache → GoesBy (step_on (heard_at found said)) flow after cache
    lost_goes flow after hears up =
        let at = at_lost before mid number said found hears in
        let Goes' : Step → Type 0 = λ step. GoesBy step flow after cache in
        subst Goes' (ap (λ (txn_run : TransactionRun). give_up txn_run.task cache txn_run.suites (cause.Lost server)) at.1 ∙ ap step_on (sym at.0)) up

    pub asks_goes : HearsAt found number Asks before said mid → GoesBy (step_on (heard_at found said)) On mid cache
    asks_goes hears = search arith

    pub short_goes : (flow : Flow) (after : TransactionRun) → HearsAt found number Short before said mid
        → GoesBy (gather_again mid.task cache mid.suites number (suite_of mid.suites number)) flow after cache → GoesBy (step_on (heard_at found said)) flow after cache
    short_goes flow after hears gathers =
        let at = at_short before mid number said found hears in
        let new = at.0 in
        let short = at.1 in
        let more = with_suite number new before.suites in
        let Goes' : Step → Type 0 = λ step. GoesBy step flow after cache in
        subst Goes'
        (ap (λ (txn_run : TransactionRun). gather_again txn_run.task cache txn_run.suites number (suite_of txn_run.suites number)) at.2
        ∙ ap (gather_again before.task cache more number) (get_insert_here before.suites number new)
        ∙ ap (gather_by before.task cache more number) short.3
        ∙ ap step_on (sym short.4)) gathers

  -- ---- how far the transaction came

  module _ (service : Service) (reached : Reached) (ordered : IsOrdered nat_cmp before.suites) (is : IsReachedIn service before.task before.suites reached) where
    pub asks_reached : HearsAt found number Asks before said mid → IsReachedIn service mid.task mid.suites reached
    asks_reached hears = of found refl hears
      where
        of : (it : Option GatheredSuite) → suite_of before.suites number ≡ it → HearsAt it number Asks before said mid → IsReachedIn service mid.task mid.suites reached
        of (Some suite) there hears = reached_asks service reached before mid number suite hears.0 said ordered there hears.1 hears.2 is
        of None there hears = cc

    pub short_reached : HearsAt found number Short before said mid → IsReachedIn service mid.task mid.suites reached
    short_reached hears = of found refl hears
      where
        of : (it : Option GatheredSuite) → suite_of before.suites number ≡ it → HearsAt it number Short before said mid → IsReachedIn service mid.task mid.suites reached
        of (Some suite) there hears = reached_short service reached before mid number suite hears.0 said ordered there hears.1 hears.2 is
        of None there hears = cc

-- ---- a suite that is gathered

module _ (resources : Resources) (before mid : TransactionRun) (number server : ℕ) (said : Reply) (unused : HasUnused resources.cache.entries) where
  abbrev pub found' : Option GatheredSuite
  found' = suite_of before.suites number

  abbrev pub held' : Step
  held' = held (fixed_by resources) before resources.cache.entries number server said

  abbrev pub go_on : GatheredSuite → Step
  go_on suite = execute (fixed_by resources) before.task (record { suites = with_suite number suite before.suites; cache = resources.cache.entries })

  pub keeps : Keeps resources resources
  keeps = record { fixed_parts = refl; limits = refl; unused = unused }

  pub held_lost : (flow : Flow) (after : TransactionRun) → HearsAt found' number Lost before said mid
      → ((cache : Cache) → GoesBy (give_up mid.task cache mid.suites (cause.Lost server)) flow after cache) → IsStep resources held' flow after resources
  held_lost flow after hears up = record {
    steps = lost_goes before mid number server said resources.cache.entries go_on flow after hears (up resources.cache.entries);
    keeps = keeps;
    reached = gives_up resources.fixed_parts resources.progress mid.task mid.suites (cause.Lost server) flow after up;
  }

  module _ (ordered : IsOrdered nat_cmp before.suites) (is : IsReachedIn resources.fixed_parts before.task before.suites resources.progress) where
    pub held_asks : HearsAt found' number Asks before said mid → IsStep resources held' On mid resources
    held_asks hears = search (asks_goes, keeps, reached_at, asks_reached, arith)

    pub held_short : (flow : Flow) (after : TransactionRun) → HearsAt found' number Short before said mid
        → ((cache : Cache) → GoesBy (gather_again mid.task cache mid.suites number (suite_of mid.suites number)) flow after cache) → IsStep resources held' flow after resources
    held_short flow after hears gathers =
        let cache = resources.cache.entries in
        let again = gather_again mid.task cache mid.suites number (suite_of mid.suites number) in
        let reaches = short_reached before mid number server said resources.fixed_parts resources.progress ordered is hears in
        record {
          steps = short_goes before mid number server said cache go_on flow after hears (gathers cache);
          keeps = keeps;
          reached = goes_unless resources.fixed_parts resources.progress again flow after cache (goes_gather resources.fixed_parts resources.progress mid.task cache mid.suites number (suite_of mid.suites number) reaches) (gathers cache);
        }
    -- with a quorum nothing changes yet

-- whom a suite asks
module _ (before : TransactionRun) (number server : ℕ) (said : Reply) (asks : Some server ≡ asks_in before number) where
  pub from_asked : (resources : Resources) (flow : Flow) (after : TransactionRun) (left : Resources)
      → IsStep resources (held (fixed_by resources) before resources.cache.entries number server said) flow after left → IsStep resources (held_where_asked resources before number said) flow after left
  from_asked resources flow after left is = subst (λ (found : Option ℕ). IsStep resources (held_from (fixed_by resources) before resources.cache.entries number found said) flow after left) asks is

  pub widened_asked : (flow : Flow) (after : TransactionRun) → IsWidenedBy before number server said flow after → IsWidenedFrom (asks_in before number) before number said flow after
  widened_asked flow after is = subst (λ (found : Option ℕ). IsWidenedFrom found before number said flow after) asks is

-- where it asks nobody, nothing comes of it

-- the transaction is executed then
module _ (resources : Resources) (txn_run : TransactionRun) (number server : ℕ) (said : Reply) where
  abbrev pub settling_step : Step
  settling_step = held (fixed_by resources) txn_run resources.cache.entries number server said

  pub held_settles : (pending : PendingQuorum) → IsSettled (heard_at (suite_of txn_run.suites number) said) → SettlesAt (suite_of txn_run.suites number) (Some pending) said
      → execute (fixed_by resources) txn_run.task (learned (Quorum number pending) resources.cache txn_run.suites) ≡ settling_step
  held_settles pending settles by = search arith

  pub held_unsettled : SettlesAt (suite_of txn_run.suites number) None said → give_up txn_run.task resources.cache.entries txn_run.suites (cause.Lost server) ≡ settling_step
  held_unsettled by = search arith

-- ---- a suite that is widened

module _ (before mid : TransactionRun) (number server : ℕ) (said : Reply) (cache : Cache) (left : List ℕ) (granted : Granted) where
  abbrev pub widened' : Step
  widened' = widened before cache number server left granted said

  abbrev pub widens : Suites → Step
  widens suites = widen_all before.task cache suites granted left

  pub widened_lost : (flow : Flow) (after : TransactionRun) → HearsAt (suite_of before.suites number) number Lost before said mid
      → GoesBy (give_up mid.task cache mid.suites (cause.Lost server)) flow after cache → GoesBy widened' flow after cache
  widened_lost flow after hears up = lost_goes before mid number server said cache (λ suite. widens (with_suite number suite before.suites)) flow after hears up

  pub widened_short : (flow : Flow) (after : TransactionRun) → HearsAt (suite_of before.suites number) number Short before said mid
      → GoesBy (gather_again mid.task cache mid.suites number (suite_of mid.suites number)) flow after cache → GoesBy widened' flow after cache
  widened_short flow after hears gathers = short_goes before mid number server said cache (λ suite. widens (with_suite number suite before.suites)) flow after hears gathers

  -- with a quorum the suites that are left are widened
  module _ (last : Told) (hears : HearsAt (suite_of before.suites number) number (Complete last) before said mid) where
    abbrev pub at_mid : CompletesAt (suite_of before.suites number) last said × (mid ≡ before)
    at_mid = at_quorum before mid number said last (suite_of before.suites number) hears

    pub widened_completes : CompletesAt (suite_of mid.suites number) last said
    widened_completes = subst (λ (txn_run : TransactionRun). CompletesAt (suite_of txn_run.suites number) last said) (sym at_mid.1) at_mid.0

    settles_mid : (pending : Option PendingQuorum) → SettlesAt (suite_of mid.suites number) pending said → SettlesAt (suite_of before.suites number) pending said
    settles_mid pending by = subst (λ (txn_run : TransactionRun). SettlesAt (suite_of txn_run.suites number) pending said) at_mid.1 by

    pub widened_settles : (pending : PendingQuorum) (then' after : TransactionRun) (flow : Flow) → SettlesAt (suite_of mid.suites number) (Some pending) said
        → then' ≡ record mid { suites = changed_at (settled_with pending) number (suite_of mid.suites number) mid.suites }
        → GoesBy (widen_all then'.task cache then'.suites granted left) flow after cache → GoesBy widened' flow after cache
    widened_settles pending then' after flow by is steps = search arith

    pub widened_unsettled : (flow : Flow) (after : TransactionRun) → SettlesAt (suite_of mid.suites number) None said → GoesBy (give_up mid.task cache mid.suites (cause.Lost server)) flow after cache → GoesBy widened' flow after cache
    widened_unsettled flow after by up =
        let Goes' : Step → Type 0 = λ step. GoesBy step flow after cache in
        subst Goes'
        (ap (λ (txn_run : TransactionRun). give_up txn_run.task cache txn_run.suites (cause.Lost server)) at_mid.1
        ∙ ap (step_on before mid number server said cache (λ suite. widens (with_suite number suite before.suites))) (sym (settles_lost said (suite_of before.suites number) (settles_mid None by)))) up

-- ---- whatever is replied

module _ (resources : Resources) (unused : HasUnused resources.cache.entries) where
  -- a cause was met
  pub up_step : (txn_run : TransactionRun) (cause : Cause) (step : Step) (flow : Flow) (after : TransactionRun) → give_up txn_run.task resources.cache.entries txn_run.suites cause ≡ step
      → ((cache : Cache) → GoesBy (give_up txn_run.task cache txn_run.suites cause) flow after cache) → IsStep resources step flow after resources
  up_step txn_run cause step flow after is up =
      let Goes' : Step → Type 0 = λ step. GoesBy step flow after resources.cache.entries in
      record {
        steps = subst Goes' is (up resources.cache.entries);
        keeps = record { fixed_parts = refl; limits = refl; unused = unused };
        reached = gives_up resources.fixed_parts resources.progress txn_run.task txn_run.suites cause flow after up;
      }

  -- a transaction that is not executed any more goes on
  pub late_step : (before : TransactionRun) (said : Reply) (phase : Phase) (flow : Flow) (after : TransactionRun) → before.phase ≡ phase → IsLate resources.fixed_parts resources.progress phase
      → GoesBy (replied resources before said) flow after resources.cache.entries → IsStep resources (replied resources before said) flow after resources
  late_step before said phase flow after is late' steps = search (keeps, late, arith)

-- memory was wanting
pub err_by : {T E P : Type 0} (result : Result T E) → P → IfErr result (λ _. P)
err_by result h1 = search arith

pub untouched : (resources : Resources) (before left : TransactionRun) → left ≡ before → IsReachedBy resources.fixed_parts before resources.progress → IsUntouched resources before left resources
untouched resources before left same reached = search arith

pub untouched_on : (resources : Resources) (before left : TransactionRun) (result : Result Flow AllocError) → OnErr result (left ≡ before)
    → IsReachedBy resources.fixed_parts before resources.progress → OnErr result (IsUntouched resources before left resources)
untouched_on resources before left result h4 h5 = search arith

pub kept_untouched : (resources : Resources) (before left : TransactionRun) (after : Resources) → HasUnused resources.cache.entries → IsUntouched resources before left after → Keeps resources after
kept_untouched resources before left after unused untouched = search arith

-- ---- what was asked was not served

module _ (txn_run : TransactionRun) (cache : Cache) (lack : Lack) (fixed : Fixed) where
  pub lack_at : (asked : Option (ℕ × Request)) (server : ℕ) → Some server ≡ option_map (λ (asked : ℕ × Request). asked.0) asked
      → after_lack txn_run.task cache txn_run.suites txn_run.phase server lack ≡ taken fixed txn_run cache asked (Lacked lack)
  lack_at asked server h2 = search arith

  pub lack_of_none : (asked : Option (ℕ × Request)) → None ≡ option_map (λ (asked : ℕ × Request). asked.0) asked → GoesBy (taken fixed txn_run cache asked (Lacked lack)) On txn_run cache
  lack_of_none asked h1 = search arith

-- ---- a content

module _ (resources : Resources) (txn_run : TransactionRun) (number server : ℕ) (said : Reply) where
  abbrev pub given' : Step
  given' = given (fixed_by resources) txn_run resources.cache.entries number server said

  abbrev pub fetched_by : Option GatheredSuite → Option Content → Step
  fetched_by found content = fetched (fixed_by resources) txn_run.task resources.cache.entries txn_run.suites number found server content

  abbrev pub gives_up' : Step
  gives_up' = give_up txn_run.task resources.cache.entries txn_run.suites (cause.Lost server)

  abbrev pub executes : Learned → Step
  executes just_learned = execute (fixed_by resources) txn_run.task (learned just_learned resources.cache txn_run.suites)

  -- none was given
  pub not_given : given_in said ≡ None → gives_up' ≡ given'
  not_given none = grind arith

  module _ (content : Content) (gave : given_in said ≡ Some content) where
    abbrev pub kept_if : Option GatheredSuite → Option Fetched
    kept_if found = option_map (kept_of txn_run.task number content) (first_at found)

    first_is : (suite : GatheredSuite) (first : Option ReadPoint) → suite.first ≡ first → kept_if (Some suite) ≡ option_map (kept_of txn_run.task number content) first
    first_is suite first was = ap (option_map (kept_of txn_run.task number content)) was

    -- of a suite that had no quorum
    pub not_learned : None ≡ content_kept txn_run number content → gives_up' ≡ given'
    not_learned none = search (none-some, first_is, arith)

    -- of one that had one
    pub content_learned : (fetched : Fetched) → Some fetched ≡ content_kept txn_run number content → executes (Given fetched) ≡ given'
    content_learned fetched is = of (suite_of txn_run.suites number) refl is ∙ ap (fetched_by (suite_of txn_run.suites number)) (sym gave)
      where
        keeps : Fetched → Suites → Step
        keeps one suites = execute (fixed_by resources) txn_run.task (record { suites = suites; cache = shelved resources.cache (Some one) })

        had : (suite : GatheredSuite) (first : Option ReadPoint) → suite_of txn_run.suites number ≡ Some suite → suite.first ≡ first → Some fetched ≡ kept_if (Some suite) → executes (Given fetched) ≡ fetched_by (Some suite) (Some content)
        had suite (Some first) there was is =
            let all : Suites → Step = keeps (kept_of txn_run.task number content first) in
            ap (λ one. keeps one (changed_at (with_content one.content) one.suite (suite_of txn_run.suites one.suite) txn_run.suites)) (same_Some fetched (kept_of txn_run.task number content first) (is ∙ first_is suite (Some first) was))
            ∙ ap (λ found. all (changed_at (with_content content) number found txn_run.suites)) there
            ∙ ap (λ first. keep_content (fixed_by resources) txn_run.task resources.cache.entries txn_run.suites number suite content first server) (sym was)
        had suite None there was is = absurd (none-some fetched (sym (is ∙ first_is suite None was)))

        of : (found : Option GatheredSuite) → suite_of txn_run.suites number ≡ found → Some fetched ≡ kept_if found → executes (Given fetched) ≡ fetched_by found (Some content)
        of found h1 h2 = search (had, none-some, arith)

-- ---- a transaction begins

pub begins_on : (step : Step) (txn_run : TransactionRun) (cache : Cache) → GoesBy step On txn_run cache → (cache ≡ step.cache) × (Some (Running txn_run) ≡ begun Running step.after)
begins_on step txn_run cache steps = search arith

pub begins_ended : (step : Step) (ending : Ending) (txn_run : TransactionRun) (cache : Cache) → GoesBy step (Ended ending) txn_run cache → (cache ≡ step.cache) × (None ≡ begun Running step.after)
begins_ended step ending txn_run cache steps = search arith
