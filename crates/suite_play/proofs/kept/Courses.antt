-- How a transaction goes does not hang on the operations that are not kept of it.
use Rattle.suite_play.proofs.Vocabulary.{◌≡◌, ℕ, zero, suc, Bool, true, false, cond, List, [], ◌∷◌, Option, Some, None, Ok, Err, refl, ap, ◌∙◌, length, Request, Cache, Response, Replied, Lacked, Ending, Changes, Granted, Fixed, Task}
use Rattle.suite_play.proofs.Vocabulary.{Proposal, Phase, Gathering, Fetching, Widening, Preparing, Deciding, Finishing, TransactionRun, After, GoesOn, Ends}
use Rattle.suite_content.specs.declared.content.Content.{Content}
use Rattle.rep_core.specs.Fits.{is_prepared}
use Rattle.rep_core.specs.declared.reply.Reply.{Reply}
use Rattle.rep_core.specs.declared.reply.Verdict.{Verdict}
use Rattle.file_exec.specs.declared.need.Need.TheVariants.{Hold, Know}
use Rattle.suite_collect.specs.declared.told.Said.{Said}
use Rattle.suite_collect.specs.Collecting.{tell, mode_of, Next, Ask, Current, Short, next}
use Rattle.txn_core.specs.Suites.{ReadPoint, GatheredSuite, Suites, suite_of, with_suite, known_of, settled}
use Rattle.txn_core.specs.declared.ending.Cause.{Cause}
use Rattle.txn_core.specs.declared.ending.Cause.TheVariants.{Lost}
use Rattle.txn_core.specs.declared.ending.Ending.TheVariants.{Undecided}
use Rattle.rep_core.specs.declared.stamped.Lack.{Lack}
use Rattle.file_exec.specs.Changes.{answered}
use Rattle.file_exec.specs.declared.executor.Outcome.{Outcome as Executed}
use Rattle.txn_core.specs.Transactions.{Step, Gathered, tell_end, give_up, prepare, locked_at, short_cause, gather_by, raised_or_new, widen_by, widen_one, widened, widen_all, to_widen, heard_on, or_all, open_needed, opened, proceed}
use Rattle.txn_core.specs.Transactions.{execute, request_of, collected, hear, keep_content, fetched, given_in, heard_of, said_to, after_reply, lack_cause, after_lack, after_response, decided, verdict_in, ending_by, cause_of_abort}
use Rattle.rep_core.specs.declared.reply.Verdict.TheVariants as verdict
use Rattle.file_exec.specs.declared.executor.Outcome.TheVariants as exec
use Rattle.suite_play.proofs.kept.Executed.{few, same_executed}

-- a transaction with the operations that are kept of it
abbrev pub cut : Task → Task
cut task = record task { ops = few task.ops }

abbrev pub cut_course : TransactionRun → TransactionRun
cut_course txn_run = record txn_run { task = cut txn_run.task }

abbrev pub cut_after : After TransactionRun → After TransactionRun
cut_after (GoesOn txn_run) = GoesOn (cut_course txn_run)
cut_after (Ends ending) = Ends ending

abbrev pub cut_step : Step → Step
cut_step step = record step { after = cut_after step.after }

-- ---- what it asks

pub asks_the_same : (fixed : Fixed) (task : Task) (suites : Suites) (phase : Phase)
    → request_of fixed (record { task = cut task; suites = suites; phase = phase }) ≡ request_of fixed (record { task = task; suites = suites; phase = phase })
asks_the_same fixed task suites phase = refl

-- ---- what comes of a word

module _ (task : Task) where
  tells : (cache : Cache) (suites : Suites) (verdict : Verdict) (ending : Ending) (servers : List ℕ) → tell_end (cut task) cache suites verdict ending servers ≡ cut_step (tell_end task cache suites verdict ending servers)
  tells cache suites verdict ending [] = refl
  tells cache suites verdict ending (server ∷ servers) = refl

  gives_up : (cache : Cache) (suites : Suites) (cause : Cause) → give_up (cut task) cache suites cause ≡ cut_step (give_up task cache suites cause)
  gives_up cache suites cause = tells cache suites verdict.Aborted (Undecided cause) (locked_at suites)

  prepares : (cache : Cache) (suites : Suites) (outcome : Proposal) (servers : List ℕ) → prepare (cut task) cache suites outcome servers ≡ cut_step (prepare task cache suites outcome servers)
  prepares cache suites outcome [] = refl
  prepares cache suites outcome (server ∷ servers) = refl

  gathers : (cache : Cache) (suites : Suites) (number : ℕ) (next : Next) → gather_by (cut task) cache suites number next ≡ cut_step (gather_by task cache suites number next)
  gathers cache suites number (Short got needed busy) = gives_up cache suites (short_cause number got needed busy)
  gathers cache suites number _ = refl

  widens_by : (cache : Cache) (suites : Suites) (phase : Phase) (number : ℕ) (next : Next) (go_on go_on' : Suites → Step) → ((suites : Suites) → go_on' suites ≡ cut_step (go_on suites))
      → widen_by (cut task) cache suites phase number next go_on' ≡ cut_step (widen_by task cache suites phase number next go_on)
  widens_by cache suites phase number (Current prefix dver members) go_on go_on' same = same suites
  widens_by cache suites phase number (Ask server asked) go_on go_on' same = refl
  widens_by cache suites phase number (Short got needed busy) go_on go_on' same = gives_up cache suites (short_cause number got needed busy)

  widens_one : (cache : Cache) (suites : Suites) (phase : Phase) (changes : Changes) (number : ℕ) (found : Option GatheredSuite) (go_on go_on' : Suites → Step) → ((suites : Suites) → go_on' suites ≡ cut_step (go_on suites))
      → widen_one (cut task) cache suites phase changes number found go_on' ≡ cut_step (widen_one task cache suites phase changes number found go_on)
  widens_one cache suites phase changes number (Some suite) go_on go_on' same =
      widens_by cache (with_suite number (widened changes number suite) suites) phase number (next (widened changes number suite).collector) go_on go_on' same
  widens_one cache suites phase changes number None go_on go_on' same = same suites

  widens : (cache : Cache) (suites : Suites) (granted : Granted) (left : List ℕ) → widen_all (cut task) cache suites granted left ≡ cut_step (widen_all task cache suites granted left)
  widens cache suites granted [] = prepares cache suites (Ok granted) (locked_at suites)
  widens cache suites granted (number ∷ left) =
      widens_one cache suites (Widening (number ∷ left) granted) granted.changes number (suite_of suites number) (λ suites. widen_all task cache suites granted left)
      (λ suites. widen_all (cut task) cache suites granted left) (λ suites. widens cache suites granted left)

  hears_the_same : (fixed : Fixed) (suites : Suites) → heard_on fixed (cut task) suites ≡ heard_on fixed task suites
  hears_the_same fixed suites = ap (answered (known_of suites)) (same_executed fixed.service (known_of suites) task.t task.caller task.ops)

  goes_on_the_same : (all : Gathered) (found : Option Gathered) (go_on go_on' : Gathered → Gathered) → ((all : Gathered) → go_on' all ≡ go_on all) → or_all all found go_on' ≡ or_all all found go_on
  goes_on_the_same all (Some more) go_on go_on' same = same more
  goes_on_the_same all None go_on go_on' same = refl

  opens_the_same : (count : ℕ) (fixed : Fixed) (all : Gathered) → opened count fixed (cut task) all ≡ opened count fixed task all
  opens_the_same zero fixed all = refl
  opens_the_same (suc more) fixed all =
      ap (λ (heard : Executed). or_all all (open_needed task all heard) (λ all. opened more fixed (cut task) all)) (hears_the_same fixed all.suites)
      ∙ goes_on_the_same all (open_needed task all (heard_on fixed task all.suites)) (λ all. opened more fixed task all) (λ all. opened more fixed (cut task) all) (λ all. opens_the_same more fixed all)

  proceeds : (fixed : Fixed) (cache : Cache) (suites : Suites) (heard : Executed) → proceed fixed (cut task) cache suites heard ≡ cut_step (proceed fixed task cache suites heard)
  proceeds fixed cache suites (exec.Need (Hold number mode)) =
      let suite = raised_or_new fixed task cache number mode (suite_of suites number) in gathers cache (with_suite number suite suites) number (next suite.collector)
  proceeds fixed cache suites (exec.Need (Know number)) = refl
  proceeds fixed cache suites (exec.Done answers changes) = widens cache suites (record { answers = answers; changes = changes }) (to_widen changes)
  proceeds fixed cache suites (exec.Refused refusal) = prepares cache suites (Err refusal) (locked_at suites)

  pub executes : (fixed : Fixed) (all : Gathered) → execute fixed (cut task) all ≡ cut_step (execute fixed task all)
  executes fixed all =
      let open' = opened (length all.suites) fixed task all in
      ap (λ (open' : Gathered). proceed fixed (cut task) open'.cache open'.suites (heard_on fixed (cut task) open'.suites)) (opens_the_same (length all.suites) fixed all)
      ∙ ap (proceed fixed (cut task) open'.cache open'.suites) (hears_the_same fixed open'.suites)
      ∙ proceeds fixed open'.cache open'.suites (heard_on fixed task open'.suites)

  collects : (cache : Cache) (suites : Suites) (phase : Phase) (number : ℕ) (suite : GatheredSuite) (next : Next) (go_on go_on' : GatheredSuite → Step) → ((suite : GatheredSuite) → go_on' suite ≡ cut_step (go_on suite))
      → collected (cut task) cache suites phase number suite next go_on' ≡ cut_step (collected task cache suites phase number suite next go_on)
  collects cache suites phase number suite (Ask server asked) go_on go_on' same = refl
  collects cache suites phase number suite (Short got needed busy) go_on go_on' same = gives_up cache (with_suite number suite suites) (short_cause number got needed busy)
  collects cache suites phase number suite (Current prefix dver members) go_on go_on' same = same (settled prefix dver members suite)

  hears : (cache : Cache) (suites : Suites) (phase : Phase) (number : ℕ) (suite : GatheredSuite) (server : ℕ) (asked : Request) (heard : Option Said)
      (go_on go_on' : GatheredSuite → Step) → ((suite : GatheredSuite) → go_on' suite ≡ cut_step (go_on suite))
      → hear (cut task) cache suites phase number suite server asked heard go_on' ≡ cut_step (hear task cache suites phase number suite server asked heard go_on)
  hears cache suites phase number suite server asked (Some heard) go_on go_on' same =
      let now : GatheredSuite = record suite { collector = tell (record { server = server; mode = mode_of asked; said = heard }) suite.collector } in collects cache suites phase number now (next now.collector) go_on go_on' same
  hears cache suites phase number suite server asked None go_on go_on' same = gives_up cache suites (Lost server)

  hears_of : (cache : Cache) (suites : Suites) (phase : Phase) (number : ℕ) (found : Option GatheredSuite) (server : ℕ) (asked : Request) (said : Reply)
      (go_on go_on' : Suites → Step) → ((suites : Suites) → go_on' suites ≡ cut_step (go_on suites))
      → heard_of (cut task) cache suites phase number found server asked said go_on' ≡ cut_step (heard_of task cache suites phase number found server asked said go_on)
  hears_of cache suites phase number (Some suite) server asked said go_on go_on' same =
      hears cache suites phase number suite server asked (said_to asked said) (λ suite. go_on (with_suite number suite suites)) (λ suite. go_on' (with_suite number suite suites)) (λ suite. same (with_suite number suite suites))
  hears_of cache suites phase number None server asked said go_on go_on' same = gives_up cache suites (Lost server)

  keeps : (fixed : Fixed) (cache : Cache) (suites : Suites) (number : ℕ) (suite : GatheredSuite) (content : Content) (first : Option ReadPoint) (server : ℕ)
      → keep_content fixed (cut task) cache suites number suite content first server ≡ cut_step (keep_content fixed task cache suites number suite content first server)
  keeps fixed cache suites number suite content (Some first) server = executes fixed _
  keeps fixed cache suites number suite content None server = gives_up cache suites (Lost server)

  fetches : (fixed : Fixed) (cache : Cache) (suites : Suites) (number : ℕ) (found : Option GatheredSuite) (server : ℕ) (given : Option Content)
      → fetched fixed (cut task) cache suites number found server given ≡ cut_step (fetched fixed task cache suites number found server given)
  fetches fixed cache suites number (Some suite) server (Some content) = keeps fixed cache suites number suite content suite.first server
  fetches fixed cache suites number (Some suite) server None = gives_up cache suites (Lost server)
  fetches fixed cache suites number None server (Some content) = gives_up cache suites (Lost server)
  fetches fixed cache suites number None server None = gives_up cache suites (Lost server)

  goes_prepared : (cache : Cache) (suites : Suites) (outcome : Proposal) (server : ℕ) (left : List ℕ) (is : Bool)
      → cond is (prepare (cut task) cache suites outcome left) (give_up (cut task) cache suites (Lost server)) ≡ cut_step (cond is (prepare task cache suites outcome left) (give_up task cache suites (Lost server)))
  goes_prepared cache suites outcome server left true = prepares cache suites outcome left
  goes_prepared cache suites outcome server left false = gives_up cache suites (Lost server)

  decides : (cache : Cache) (suites : Suites) (said : Reply) → decided (cut task) cache suites said ≡ cut_step (decided task cache suites said)
  decides cache suites said =
      let v = verdict_in said verdict.Aborted in tells cache suites v (ending_by v (cause_of_abort said)) (locked_at suites)

  replies : (fixed : Fixed) (cache : Cache) (suites : Suites) (phase : Phase) (server : ℕ) (asked : Request) (said : Reply)
      → after_reply fixed (cut task) cache suites phase server asked said ≡ cut_step (after_reply fixed task cache suites phase server asked said)
  replies fixed cache suites (Gathering number) server asked said =
      hears_of cache suites (Gathering number) number (suite_of suites number) server asked said (λ suites. execute fixed task (record { suites = suites; cache = cache }))
      (λ suites. execute fixed (cut task) (record { suites = suites; cache = cache })) (λ suites. executes fixed (record { suites = suites; cache = cache }))
  replies fixed cache suites (Fetching number) server asked said = fetches fixed cache suites number (suite_of suites number) server (given_in said)
  replies fixed cache suites (Widening [] granted) server asked said = gives_up cache suites (Lost server)
  replies fixed cache suites (Widening (number ∷ left) granted) server asked said =
      hears_of cache suites (Widening (number ∷ left) granted) number (suite_of suites number) server asked said (λ suites. widen_all task cache suites granted left)
      (λ suites. widen_all (cut task) cache suites granted left) (λ suites. widens cache suites granted left)
  replies fixed cache suites (Preparing [] outcome) server asked said = gives_up cache suites (Lost server)
  replies fixed cache suites (Preparing (now ∷ left) outcome) server asked said = goes_prepared cache suites outcome server left (is_prepared said)
  replies fixed cache suites (Deciding outcome) server asked said = decides cache suites said
  replies fixed cache suites (Finishing [] verdict ending) server asked said = refl
  replies fixed cache suites (Finishing (now ∷ left) verdict ending) server asked said = tells cache suites verdict ending left

  lacks : (cache : Cache) (suites : Suites) (phase : Phase) (server : ℕ) (lacked : Lack) → after_lack (cut task) cache suites phase server lacked ≡ cut_step (after_lack task cache suites phase server lacked)
  lacks cache suites (Finishing [] verdict ending) server lacked = refl
  lacks cache suites (Finishing (now ∷ left) verdict ending) server lacked = tells cache suites verdict ending left
  lacks cache suites _ server lacked = gives_up cache suites (lack_cause server lacked)

  pub hears_response : (fixed : Fixed) (cache : Cache) (suites : Suites) (phase : Phase) (server : ℕ) (asked : Request) (response : Response)
      → after_response fixed (record { task = cut task; suites = suites; phase = phase }) cache server asked response ≡ cut_step (after_response fixed (record { task = task; suites = suites; phase = phase }) cache server asked response)
  hears_response fixed cache suites phase server asked (Replied said) = replies fixed cache suites phase server asked said
  hears_response fixed cache suites phase server asked (Lacked lacked) = lacks cache suites phase server lacked
