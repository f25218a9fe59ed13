-- What is decided is decided on quorums.
use Rattle.txn_core.proofs.Vocabulary.{◌≡◌, ℕ, zero, suc, ◌+◌, Bool, true, false, cond, List, [], ◌∷◌, Option, Some, None, Ok, Err, refl, sym, ap, subst, ◌∙◌, arith, ◌==◌, ◌&&◌, ◌||◌, nat_lt, ◌*◌, eqb-true, false≢true, same_Some, Configuration}
use Rattle.txn_core.proofs.Vocabulary.{Content, Prefix, Answer, LockMode, Request, Reply, Verdict, Lack, Change, Hold, Know, Told, Said, told_since, tell, tell_at, mode_of, Next, Ask, Current, Short, next, Cache, ReadPoint, GatheredSuite}
use Rattle.txn_core.proofs.Vocabulary.{Suites, suite_of, with_suite, settled, sets_votes, change_of, Response, Cause, Ending, Job, Replied, Lacked, Lost, Undecided, Transaction, Sweep, Changes, Granted, Fixed, Task, Proposal, Phase, Gathering}
use Rattle.txn_core.proofs.Vocabulary.{Fetching, Widening, Preparing, Deciding, Finishing, TransactionRun, SweepRun, Doing, Running, RunningSweep, After, Step, Gathered, tell_end, give_up, prepare, locked_at, short_cause, gather_by, widen_by}
use Rattle.txn_core.proofs.Vocabulary.{widen_one, widened, widen_all, to_widen, votes_then, votes_after, opened, or_all, open_needed, open_suite, open_first, opened_with, free_content, heard_on, raised_or_new, keep_content, heard_of, said_to}
use Rattle.txn_core.proofs.Vocabulary.{proceed, execute, collected, hear, fetched, prepared, after_lack, after_response, changes_of, given_in, lack_cause, Agent, Event, Take, Forget, next_of, take_in, take, begin, started, forget, is_idle, has_sense}
use Rattle.txn_core.proofs.Vocabulary.{max_jobs, after_all, IsReady, DecidesOnQuorums, Outcome as Executed}
use Rattle.rep_core.specs.declared.reply.Verdict.TheVariants as verdict
use Rattle.file_exec.specs.declared.executor.Outcome.TheVariants as exec
use Rattle.suite_collect.specs.Collecting as collecting
use Rattle.txn_core.specs.Sweeps as sweep
use Rattle.txn_core.specs.Agents as agents
use Rattle.txn_core.proofs.Setting.{changed_held, changed_keeps}
use Rattle.txn_core.proofs.ToldLists.{all_told-tell}
use Rattle.txn_core.proofs.SuiteQuorums.{or_true, enough_more, tell_since, tell_narrow, tell_mode, Grown, Sound, sound_grown, sound_content}
use Rattle.txn_core.proofs.SuiteQuorums.{sound_settled, Each, each_with, IsNarrow, Settled, But, Wide, among, Ready, IsWidened, InWidening, PhaseReady, LeftReady, self}

-- ---- the widenings

ready_end : (task : Task) (cache : Cache) (suites : Suites) (v : Verdict) (ending : Ending) (servers : List ℕ) → LeftReady (tell_end task cache suites v ending servers).after
ready_end task cache suites v ending servers = search arith

ready_give_up : (task : Task) (cache : Cache) (suites : Suites) (cause : Cause) → LeftReady (give_up task cache suites cause).after
ready_give_up task cache suites cause = ready_end task cache suites verdict.Aborted (Undecided cause) (locked_at suites)

ready_prepare : (task : Task) (cache : Cache) (suites : Suites) (outcome : Proposal) (left : List ℕ) → Each (Ready (changes_of outcome) []) suites → LeftReady (prepare task cache suites outcome left).after
ready_prepare task cache suites outcome left h5 = search arith

sound_widened : (changes : Changes) (number : ℕ) (suite : GatheredSuite) → Sound suite → Sound (widened changes number suite)
sound_widened changes number suite sound = record { first = sound.first; was = sound.was; since = sound.since; mode = sound.mode; quorum = sound.quorum }

wide_current : (changes : Changes) (number : ℕ) (suite : GatheredSuite) (prefix : Prefix) (dver : ℕ) (members : List ℕ) → IsWidened changes number suite → next suite.collector ≡ Current prefix dver members → Wide changes number suite
wide_current changes number suite prefix dver members wide is = search arith

-- another suite has no less to do
less_to_do : (changes : Changes) (now : ℕ) (left : List ℕ) (number : ℕ) (suite : GatheredSuite) → (now == number) ≡ false → Ready changes (now ∷ left) number suite → Ready changes left number suite
less_to_do changes now left number suite other ready = (ready.0, ready.1, λ none. ready.2 (ap (λ b. b || among left number) other ∙ none), ready.3)

still_ready : (changes : Changes) (now : ℕ) (left : List ℕ) (number : ℕ) (suite : GatheredSuite) → (now == number) ≡ false → Ready changes (now ∷ left) number suite → InWidening changes now left number suite
still_ready changes now left number suite other ready = (ready, λ same. absurd (false≢true (sym other ∙ same)))

ready_widen_by : (task : Task) (cache : Cache) (suites : Suites) (left : List ℕ) (granted : Granted) (number : ℕ) (suite : GatheredSuite) (after : Next) (go_on : Suites → Step) → next suite.collector ≡ after
    → Ready granted.changes (number ∷ left) number suite → IsWidened granted.changes number suite → Each (Ready granted.changes (number ∷ left)) suites
    → ((suites : Suites) → Each (Ready granted.changes left) suites → LeftReady (go_on suites).after)
    → LeftReady (widen_by task cache (with_suite number suite suites) (Widening (number ∷ left) granted) number after go_on).after
ready_widen_by task cache suites left granted number suite (Current prefix dver members) go_on is ready wide each more = search (each_with, less_to_do, wide_current, arith)
ready_widen_by task cache suites left granted number suite (Ask server asked) go_on is ready wide each more = search (each_with, still_ready, arith)
ready_widen_by task cache suites left granted number suite (Short had wanting busy) go_on is ready wide each more = ready_give_up task cache (with_suite number suite suites) (short_cause number had wanting busy)

ready_widen_one : (task : Task) (cache : Cache) (suites : Suites) (left : List ℕ) (granted : Granted) (number : ℕ) (found : Option GatheredSuite) (go_on : Suites → Step) → suite_of suites number ≡ found
    → Each (Ready granted.changes (number ∷ left)) suites → ((suites : Suites) → Each (Ready granted.changes left) suites → LeftReady (go_on suites).after)
    → LeftReady (widen_one task cache suites (Widening (number ∷ left) granted) granted.changes number found go_on).after
ready_widen_one task cache suites left granted number (Some suite) go_on there each more =
    let ready = each number suite there in
    let now = widened granted.changes number suite in
    ready_widen_by task cache suites left granted number now (next now.collector) go_on refl
    (sound_widened granted.changes number suite ready.0, ready.1, λ not' sets'. ready.2 not' sets', ready.3)
    (record { widening = record { votes = votes_after granted.changes number suite; told = told_since suite.collector.widening }; is = refl; votes = refl }) each more
ready_widen_one task cache suites left granted number None go_on there each more = more suites (λ other suite is. less_to_do granted.changes number left other suite (differs other suite is (number == other) refl) (each other suite is))
  where
    differs : (other : ℕ) (suite : GatheredSuite) → suite_of suites other ≡ Some suite → (b : Bool) → (number == other) ≡ b → (number == other) ≡ false
    differs other suite is false same = same
    differs other suite is true same = absurd (nothing (sym there ∙ ap (suite_of suites) (eqb-true number other same) ∙ is))
      where
        nothing : ◌≡◌ {A = Option GatheredSuite} None (Some suite) → ⊥
        nothing is = cc

ready_widen : (task : Task) (cache : Cache) (suites : Suites) (granted : Granted) (left : List ℕ) → Each (Ready granted.changes left) suites → LeftReady (widen_all task cache suites granted left).after
ready_widen task cache suites granted [] each = ready_prepare task cache suites (Ok granted) (locked_at suites) each
ready_widen task cache suites granted (number ∷ left) each =
    ready_widen_one task cache suites left granted number (suite_of suites number) _ refl each (λ suites each. ready_widen task cache suites granted left each)

-- a suite that gets votes is to be widened
to_do : (changes : Changes) (number : ℕ) → sets_votes changes number ≡ true → among (to_widen changes) number ≡ true
to_do [] number sets' = cc
to_do (e ∷ changes) number sets' = search (among, or_true, eqb-true, self, to_do changes number, arith)

ready_done : (fixed : Fixed) (task : Task) (suites : Suites) (answers : List Answer) (changes : Changes) → heard_on fixed task suites ≡ exec.Done answers changes → Each Settled suites → Each (Ready changes (to_widen changes)) suites
ready_done fixed task suites answers changes is each number suite there =
    let sound = (each number suite there).0 in (
      sound,
      λ changed'. changed_held fixed task suites answers changes number suite sound.first is there sound.was changed',
      λ none sets'. absurd (false≢true (sym none ∙ to_do changes number sets')),
      changed_keeps fixed task suites answers changes number suite is there,
    )

-- ---- the executor

settled_content : (suites : Suites) (number : ℕ) (suite : GatheredSuite) (content : Option Content) → suite_of suites number ≡ Some suite → Each Settled suites → Each Settled (with_suite number (record suite { content = content }) suites)
settled_content suites number suite content there each =
    let was = each number suite there in
    each_with Settled Settled suites number (record suite { content = content }) (λ other it _ is. is) (sound_content suite content was.0, was.1) each

settled_opened : (n : ℕ) (fixed : Fixed) (task : Task) (all : Gathered) → Each Settled all.suites → Each Settled (opened n fixed task all).suites
settled_opened zero fixed task all each = each
settled_opened (suc n) fixed task all each = of (heard_on fixed task all.suites) (λ more each. settled_opened n fixed task more each)
  where
    or' : (found : Option Gathered) → ((more : Gathered) → found ≡ Some more → Each Settled more.suites) → ((more : Gathered) → Each Settled more.suites → Each Settled (opened n fixed task more).suites)
        → Each Settled (or_all all found (λ all. opened n fixed task all)).suites
    or' (Some more) found_are later = later more (found_are more refl)
    or' None found_are later = each

    with_content : (number : ℕ) (suite : GatheredSuite) (first : ReadPoint) (content : Option Content) (more : Gathered) → suite_of all.suites number ≡ Some suite → opened_with task all number suite first content ≡ Some more
        → Each Settled more.suites
    with_content number suite first (Some content) more there is = subst (λ (more : Gathered). Each Settled more.suites) (same_Some _ more is) (settled_content all.suites number suite (Some content) there each)
    with_content number suite first None more there is = cc

    at_first : (number : ℕ) (suite : GatheredSuite) (first : Option ReadPoint) (more : Gathered) → suite_of all.suites number ≡ Some suite → open_first task all number suite first ≡ Some more → Each Settled more.suites
    at_first number suite (Some first) more there is = with_content number suite first (free_content task all.cache number first) more there is
    at_first number suite None more there is = cc

    at_suite : (number : ℕ) (found : Option GatheredSuite) (more : Gathered) → suite_of all.suites number ≡ found → open_suite task all number found ≡ Some more → Each Settled more.suites
    at_suite number (Some suite) more there is = at_first number suite suite.first more there is
    at_suite number None more there is = cc

    needed' : (heard : Executed) (more : Gathered) → open_needed task all heard ≡ Some more → Each Settled more.suites
    needed' (exec.Need (Know number)) more is = at_suite number (suite_of all.suites number) more refl is
    needed' (exec.Need (Hold number mode)) more is = cc
    needed' _ more is = cc

    of : (heard : Executed) → ((more : Gathered) → Each Settled more.suites → Each Settled (opened n fixed task more).suites) → Each Settled (or_all all (open_needed task all heard) (λ all. opened n fixed task all)).suites
    of heard later = or' (open_needed task all heard) (needed' heard) later

ready_gather : (task : Task) (cache : Cache) (suites : Suites) (number : ℕ) (after : Next) → Each (But number) suites → LeftReady (gather_by task cache suites number after).after
ready_gather task cache suites number after h5 = search (ready_give_up, arith)

-- a suite that is gathered now
but_here : (number : ℕ) (suite : GatheredSuite) → Grown suite → IsNarrow suite → But number number suite
but_here number suite grown narrow = (grown, narrow, λ other. absurd (false≢true (sym other ∙ self number)))

but_raised : (fixed : Fixed) (task : Task) (cache : Cache) (number : ℕ) (mode : LockMode) (suites : Suites) (found : Option GatheredSuite) → suite_of suites number ≡ found → Each Settled suites
    → But number number (raised_or_new fixed task cache number mode found)
but_raised fixed task cache number mode suites None there each = but_here number (raised_or_new fixed task cache number mode None) (λ first is. cc) refl
but_raised fixed task cache number mode suites (Some suite) there each =
    let was = each number suite there in but_here number (raised_or_new fixed task cache number mode (Some suite)) (λ first is. sound_grown suite was.0 first is) was.1

ready_proceed : (fixed : Fixed) (task : Task) (cache : Cache) (suites : Suites) (heard : Executed) → heard_on fixed task suites ≡ heard → Each Settled suites → LeftReady (proceed fixed task cache suites heard).after
ready_proceed fixed task cache suites (exec.Need (Hold number mode)) is each =
    let suite = raised_or_new fixed task cache number mode (suite_of suites number) in
    ready_gather task cache (with_suite number suite suites) number (next suite.collector)
    (each_with Settled (But number) suites number suite (λ other it _ was. (sound_grown it was.0, was.1, λ _. was.0)) (but_raised fixed task cache number mode suites (suite_of suites number) refl each) each)
ready_proceed fixed task cache suites (exec.Need (Know number)) is each = each
ready_proceed fixed task cache suites (exec.Done answers changes) is each = ready_widen task cache suites (record { answers = answers; changes = changes }) (to_widen changes) (ready_done fixed task suites answers changes is each)
ready_proceed fixed task cache suites (exec.Refused refusal) is each = ready_prepare task cache suites (Err refusal) (locked_at suites)
    (λ number suite there. ((each number suite there).0, λ changed'. cc, λ _ sets'. cc, λ change first is. cc))

ready_execute : (fixed : Fixed) (task : Task) (all : Gathered) → Each Settled all.suites → LeftReady (execute fixed task all).after
ready_execute fixed task all each = search (ready_proceed, settled_opened, arith)

-- ---- a reply to a collector

ready_heard : (fixed : Fixed) (task : Task) (cache : Cache) (suites : Suites) (number : ℕ) (found : Option GatheredSuite) (server : ℕ) (asked : Request) (said : Reply) → suite_of suites number ≡ found → Each (But number) suites
    → LeftReady (heard_of task cache suites (Gathering number) number found server asked said (λ suites. execute fixed task (record { suites = suites; cache = cache }))).after
ready_heard fixed task cache suites number None server asked said there each = ready_give_up task cache suites (Lost server)
ready_heard fixed task cache suites number (Some suite) server asked said there each = of (said_to asked said)
  where
    but : (one : Told) → But number number (record suite { collector = tell one suite.collector })
    but one =
        let was = each number suite there in
        but_here number (record suite { collector = tell one suite.collector }) (λ first is. tell_since first.prefix one suite.collector (was.0 first is)) (tell_narrow one suite.collector was.1)

    by : (now : GatheredSuite) → But number number now → (after : Next) → next now.collector ≡ after
        → LeftReady (collected task cache suites (Gathering number) number now after (λ suite. execute fixed task (record { suites = with_suite number suite suites; cache = cache }))).after
    by now was (Ask who question) is = each_with (But number) (But number) suites number now (λ other it _ was. was) was each
    by now was (Short had wanting busy) is = ready_give_up task cache (with_suite number now suites) (short_cause number had wanting busy)
    by now was (Current prefix dver members) is =
        let new = settled prefix dver members now in
        ready_execute fixed task (record { suites = with_suite number new suites; cache = cache })
        (each_with (But number) Settled suites number new (λ other it differs was. (was.2 differs, was.1)) (sound_settled now prefix dver members was.0 was.1 is, was.1) each)

    of : (heard : Option Said) → LeftReady (hear task cache suites (Gathering number) number suite server asked heard (λ suite. execute fixed task (record { suites = with_suite number suite suites; cache = cache }))).after
    of None = ready_give_up task cache suites (Lost server)
    of (Some heard) =
        let one : Told = record { server = server; mode = mode_of asked; said = heard } in
        by (record suite { collector = tell one suite.collector }) (but one) (next (tell one suite.collector)) refl

-- something told of a widening
sound_told : (suite : GatheredSuite) (w : collecting.Widening) (one : Told) → suite.collector.widening ≡ Some w → Sound suite → Sound (record suite { collector = tell one suite.collector })
sound_told suite w one is sound = search (tell_since, tell_mode, all_told-tell, enough_more, arith)

widened_told : (changes : Changes) (number : ℕ) (suite : GatheredSuite) (one : Told) → Sound suite → IsWidened changes number suite → IsWidened changes number (record suite { collector = tell one suite.collector })
widened_told changes number suite one sound wide = record {
  widening = record wide.widening { told = one ∷ wide.widening.told };
  is = ap (λ w. (tell_at w one suite.collector).widening) wide.is;
  votes = wide.votes ∙ of (change_of changes number) suite.first suite.collector.start.votes (tell one suite.collector).start.votes sound.was;
}
  where
    of : (change : Option Change) (first : Option ReadPoint) (a b : Configuration) → first ≡ Some sound.first → votes_then change first a ≡ votes_then change first b
    of change first a b h4 = search arith

ready_told : (changes : Changes) (now : ℕ) (left : List ℕ) (suite : GatheredSuite) (one : Told) → InWidening changes now left now suite → InWidening changes now left now (record suite { collector = tell one suite.collector })
ready_told changes now left suite one was = search (self, sound_told, false≢true, among, widened_told, arith)

-- a Current again
sound_again : (suite : GatheredSuite) (prefix : Prefix) (dver : ℕ) (members : List ℕ) → Sound suite → Sound (settled prefix dver members suite)
sound_again suite prefix dver members sound = search arith

ready_again : (changes : Changes) (now : ℕ) (left : List ℕ) (suite : GatheredSuite) (prefix : Prefix) (dver : ℕ) (members : List ℕ) → InWidening changes now left now suite → next suite.collector ≡ Current prefix dver members
    → Ready changes left now (settled prefix dver members suite)
unfolding sound_again
ready_again changes now left suite prefix dver members was is = search arith

ready_widened : (task : Task) (cache : Cache) (suites : Suites) (number : ℕ) (left : List ℕ) (granted : Granted) (found : Option GatheredSuite) (server : ℕ) (asked : Request) (said : Reply) → suite_of suites number ≡ found
    → Each (InWidening granted.changes number left) suites
    → LeftReady (heard_of task cache suites (Widening (number ∷ left) granted) number found server asked said (λ suites. widen_all task cache suites granted left)).after
ready_widened task cache suites number left granted None server asked said there each = ready_give_up task cache suites (Lost server)
ready_widened task cache suites number left granted (Some suite) server asked said there each = of (said_to asked said)
  where
    by : (now : GatheredSuite) → InWidening granted.changes number left number now → (after : Next) → next now.collector ≡ after
        → LeftReady (collected task cache suites (Widening (number ∷ left) granted) number now after (λ suite. widen_all task cache (with_suite number suite suites) granted left)).after
    by now was (Ask who question) is = each_with (InWidening granted.changes number left) (InWidening granted.changes number left) suites number now (λ other it _ was. was) was each
    by now was (Short had wanting busy) is = ready_give_up task cache (with_suite number now suites) (short_cause number had wanting busy)
    by now was (Current prefix dver members) is =
        let new = settled prefix dver members now in
        ready_widen task cache (with_suite number new suites) granted left
        (each_with (InWidening granted.changes number left) (Ready granted.changes left) suites number new (λ other it differs was. less_to_do granted.changes number left other it differs was.0)
        (ready_again granted.changes number left now prefix dver members was is) each)

    of : (heard : Option Said) → LeftReady (hear task cache suites (Widening (number ∷ left) granted) number suite server asked heard (λ suite. widen_all task cache (with_suite number suite suites) granted left)).after
    of None = ready_give_up task cache suites (Lost server)
    of (Some heard) =
        let one : Told = record { server = server; mode = mode_of asked; said = heard } in
        by (record suite { collector = tell one suite.collector }) (ready_told granted.changes number left suite one (each number suite there)) (next (tell one suite.collector)) refl

-- ---- one response

ready_fetched : (fixed : Fixed) (task : Task) (cache : Cache) (suites : Suites) (number : ℕ) (found : Option GatheredSuite) (server : ℕ) (given : Option Content) → suite_of suites number ≡ found → Each Settled suites
    → LeftReady (fetched fixed task cache suites number found server given).after
ready_fetched fixed task cache suites number None server (Some content) there each = ready_give_up task cache suites (Lost server)
ready_fetched fixed task cache suites number None server None there each = ready_give_up task cache suites (Lost server)
ready_fetched fixed task cache suites number (Some suite) server None there each = ready_give_up task cache suites (Lost server)
ready_fetched fixed task cache suites number (Some suite) server (Some content) there each = of suite.first
  where
    of : (first : Option ReadPoint) → LeftReady (keep_content fixed task cache suites number suite content first server).after
    of None = ready_give_up task cache suites (Lost server)
    of (Some first) = ready_execute fixed task _ (settled_content suites number suite (Some content) there each)

ready_lack : (task : Task) (cache : Cache) (suites : Suites) (phase : Phase) (server : ℕ) (lacked : Lack) → LeftReady (after_lack task cache suites phase server lacked).after
ready_lack task cache suites (Finishing [] v ending) server lacked = tt
ready_lack task cache suites (Finishing (now ∷ left) v ending) server lacked = ready_end task cache suites v ending left
ready_lack task cache suites _ server lacked = ready_give_up task cache suites (lack_cause server lacked)

ready_prepared : (task : Task) (cache : Cache) (suites : Suites) (outcome : Proposal) (server : ℕ) (left : List ℕ) (said : Reply) → Each (Ready (changes_of outcome) []) suites
    → LeftReady (prepared task cache suites outcome server left said).after
ready_prepared task cache suites outcome server left said each = search (ready_prepare, ready_give_up, arith)

ready_response : (fixed : Fixed) (task : Task) (cache : Cache) (suites : Suites) (phase : Phase) (server : ℕ) (asked : Request) (response : Response) → PhaseReady suites phase
    → LeftReady (after_response fixed (record { task = task; suites = suites; phase = phase }) cache server asked response).after
ready_response fixed task cache suites phase server asked (Lacked lacked) ready = ready_lack task cache suites phase server lacked
ready_response fixed task cache suites (Gathering number) server asked (Replied said) ready = ready_heard fixed task cache suites number (suite_of suites number) server asked said refl ready
ready_response fixed task cache suites (Fetching number) server asked (Replied said) ready = ready_fetched fixed task cache suites number (suite_of suites number) server (given_in said) refl ready
ready_response fixed task cache suites (Widening [] granted) server asked (Replied said) ready = ready_give_up task cache suites (Lost server)
ready_response fixed task cache suites (Widening (number ∷ left) granted) server asked (Replied said) ready = ready_widened task cache suites number left granted (suite_of suites number) server asked said refl ready
ready_response fixed task cache suites (Preparing [] outcome) server asked (Replied said) ready = ready_give_up task cache suites (Lost server)
ready_response fixed task cache suites (Preparing (now ∷ left) outcome) server asked (Replied said) ready = ready_prepared task cache suites outcome server left said ready
ready_response fixed task cache suites (Deciding outcome) server asked (Replied said) ready = search (ready_end, arith)
ready_response fixed task cache suites (Finishing [] v ending) server asked (Replied said) ready = tt
ready_response fixed task cache suites (Finishing (now ∷ left) v ending) server asked (Replied said) ready = ready_end task cache suites v ending left

-- ---- all responses

abbrev DoingReady : Option Doing → Type 0
DoingReady (Some (Running txn_run)) = PhaseReady txn_run.suites txn_run.phase
DoingReady (Some (RunningSweep sweep_run)) = Unit {0}
DoingReady None = Unit {0}

left_ready : (after : After TransactionRun) → LeftReady after → DoingReady (agents.left Running after)
left_ready after h1 = search arith

round_ready : (after : After SweepRun) → DoingReady (agents.left RunningSweep after)
round_ready after = search arith

take_ready : (fixed : Fixed) (agent : Agent) (response : Response) (doing : Option Doing) (asked : Option (ℕ × Request)) → DoingReady agent.doing → agent.doing ≡ doing → DoingReady (take_in fixed agent response doing asked).agent.doing
take_ready fixed agent response (Some (Running running)) (Some asked) ready was =
    left_ready _ (ready_response fixed running.task agent.cache running.suites running.phase asked.0 asked.1 response (subst DoingReady was ready))
take_ready fixed agent response (Some (Running running)) None ready was = ready
take_ready fixed agent response (Some (RunningSweep sweep_run)) (Some asked) ready was = round_ready (sweep.after_response fixed.service sweep_run asked.0 response)
take_ready fixed agent response (Some (RunningSweep sweep_run)) None ready was = ready
take_ready fixed agent response None (Some asked) ready was = ready
take_ready fixed agent response None None ready was = ready

all_ready : (fixed : Fixed) (agent : Agent) (events : List Event) → DoingReady agent.doing → DoingReady (after_all fixed agent events).doing
all_ready fixed agent [] ready = ready
all_ready fixed agent (Forget site ∷ events) ready = all_ready fixed (forget agent site) events ready
all_ready fixed agent (Take response ∷ events) ready = all_ready fixed (take fixed agent response).agent events (take_ready fixed agent response agent.doing (next_of fixed agent) ready refl)

begin_ready : (fixed : Fixed) (agent : Agent) (job : Job) → is_idle agent.doing ≡ true → DoingReady (begin fixed agent job).doing
begin_ready fixed agent job idle =
    elim (is_idle agent.doing && has_sense fixed job && nat_lt agent.count max_jobs) as (λ b. DoingReady (cond b (record (started fixed agent job) { count = agent.count + 1 }) agent).doing) [
      | true ↦ of job
      | false ↦ at agent.doing idle
    ]
  where
    at : (doing : Option Doing) → is_idle doing ≡ true → DoingReady doing
    at doing h1 = search arith

    of : (job : Job) → DoingReady (started fixed agent job).doing
    of (Transaction caller site ops) =
        left_ready _ (ready_execute fixed (record { t = 64 * agent.count + agent.index; caller = caller; site = site; ops = ops }) (record { suites = []; cache = agent.cache }) (λ number suite is. cc))
    of (Sweep server) = tt

-- ---- the law

is_ready : (changes : Changes) (number : ℕ) (suite : GatheredSuite) → Ready changes [] number suite → IsReady suite number changes
is_ready changes number suite ready = search arith

ready_in : (suites : Suites) (phase : Phase) (outcome : Proposal) → phase ≡ Deciding outcome → PhaseReady suites phase → Each (Ready (changes_of outcome) []) suites
ready_in suites phase outcome is ready = subst (PhaseReady suites) is ready

pub decides_on_quorums : DecidesOnQuorums
decides_on_quorums fixed agent job events course' outcome number suite idle is deciding there = search (is_ready, ready_in, all_ready, begin_ready, arith)
