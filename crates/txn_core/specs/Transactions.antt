-- How a transaction goes: what it asks next, and what comes of a response that it is told.
use Rattle.std.specs.Prelude.{ℕ, zero, suc, ◌+◌, ◌==◌, Bool, true, false, if◌then◌else◌, List, [], ◌∷◌, length, map, filter, unwrap_or, Option, Some, None, Ok, Err}
use Rattle.vote_core.specs.Quorums.{Configuration}
use Rattle.vote_core.specs.Validity.{max_servers}
use Rattle.suite_content.specs.declared.content.Content.{Content}
use Rattle.suite_content.specs.Contents.{empty_content}
use Rattle.suite_prefix.specs.Copies.{held_by}
use Rattle.suite_prefix.specs.declared.copies.Prefix.{Prefix}
use Rattle.suite_prefix.specs.declared.lock_mode.LockMode.{LockMode}
use Rattle.suite_prefix.specs.declared.lock_mode.LockMode.TheVariants.{Shared}
use Rattle.rep_core.specs.declared.request.Decision.{Decision}
use Rattle.rep_core.specs.declared.request.Decision.TheVariants as decision
use Rattle.rep_core.specs.declared.request.Request.{Request}
use Rattle.rep_core.specs.declared.request.Request.TheVariants as request
use Rattle.rep_core.specs.declared.reply.Verdict.{Verdict}
use Rattle.rep_core.specs.declared.reply.Verdict.TheVariants as verdict
use Rattle.rep_core.specs.declared.reply.Reply.{Reply}
use Rattle.rep_core.specs.declared.reply.Reply.TheVariants as reply
use Rattle.rep_core.specs.declared.stamped.Lack.{Lack}
use Rattle.rep_core.specs.declared.stamped.Lack.TheVariants as lack
use Rattle.suite_prefix.specs.Absent.{absent_prefix}
use Rattle.rep_core.specs.Fits.{is_prepared}
use Rattle.file_exec.specs.declared.need.Need.TheVariants.{Hold, Know}
use Rattle.file_exec.specs.declared.changes.Change.{Change}
use Rattle.file_exec.specs.Changes.{answered}
use Rattle.file_exec.specs.Known.{exec_of}
use Rattle.file_exec.specs.declared.executor.Outcome.{Outcome as Executed}
use Rattle.file_exec.specs.declared.executor.Outcome.TheVariants as exec
use Rattle.suite_collect.specs.declared.told.Said.TheVariants as told
use Rattle.suite_collect.specs.declared.told.Said.{Said}
use Rattle.suite_collect.specs.Collecting.{Next, Ask, Current, Short, collect, raise, widen, tell, request_for, mode_of, next}
use Rattle.weak_cache.specs.Entries.{Cache}
use Rattle.weak_cache.specs.Cache.{hint, content_at, searched, put}
use Rattle.txn_core.specs.Suites.{ReadPoint, GatheredSuite, Suites, suite_of, with_suite, known_of, has_locks, settled}
use Rattle.txn_core.specs.Writing.{change_of, parts_at}
use Rattle.txn_core.specs.declared.response.Response.{Response}
use Rattle.txn_core.specs.declared.ending.Cause.{Cause}
use Rattle.txn_core.specs.declared.ending.Ending.{Ending}
use Rattle.txn_core.specs.declared.response.Response.TheVariants.{Replied, Lacked}
use Rattle.txn_core.specs.declared.ending.Cause.TheVariants.{Unavailable, Busy, Lost, Overruled, HomeDown, Full, Memory}
use Rattle.txn_core.specs.declared.ending.Ending.TheVariants.{Answered, Refused, Undecided}
use Rattle.txn_core.specs.Doing.{Changes, Granted, Fixed, Task, home_of, Proposal, Phase, Gathering, Fetching, Widening, Preparing, Deciding, Finishing, TransactionRun, After, GoesOn, Ends}

-- what comes of a response, with the cache after it
pub record Step : Type 0 where
  pub cache : Cache
  pub after : After TransactionRun

-- a transaction that goes on with these suites in this phase, the cache as it was
abbrev pub on_with : Task → Cache → Suites → Phase → Step
on_with task cache suites phase = record { cache = cache; after = GoesOn (record { task = task; suites = suites; phase = phase }) }

-- ---- last: the end is told to each server that holds a lock

abbrev pub numbers_from : ℕ → ℕ → List ℕ
numbers_from start zero = []
numbers_from start (suc count) = start ∷ numbers_from (start + 1) count

-- the servers that answered that a lock is held, rising
abbrev pub locked_at : Suites → List ℕ
locked_at suites = filter (has_locks suites) (numbers_from 0 max_servers)

abbrev pub tell_end : Task → Cache → Suites → Verdict → Ending → List ℕ → Step
tell_end task cache suites verdict ending [] = record { cache = cache; after = Ends ending }
tell_end task cache suites verdict ending (server ∷ servers) = on_with task cache suites (Finishing (server ∷ servers) verdict ending)

abbrev pub finish : Task → Cache → Suites → Verdict → Ending → Step
finish task cache suites verdict ending = tell_end task cache suites verdict ending (locked_at suites)

-- a cause was met: nothing is decided any more
abbrev pub give_up : Task → Cache → Suites → Cause → Step
give_up task cache suites cause = finish task cache suites verdict.Aborted (Undecided cause)

-- ---- before: each of these servers prepares, and then the home decides

abbrev pub prepare : Task → Cache → Suites → Proposal → List ℕ → Step
prepare task cache suites outcome [] = on_with task cache suites (Deciding outcome)
prepare task cache suites outcome (server ∷ servers) = on_with task cache suites (Preparing (server ∷ servers) outcome)

-- ---- collectors

-- too few votes are to be had
abbrev pub short_cause : ℕ → ℕ → ℕ → Option (ℕ × ℕ) → Cause
short_cause suite got needed (Some busy) = Busy busy.0 busy.1
short_cause suite got needed None = Unavailable suite got needed

-- a suite is gathered: its collector asks, unless too few votes are to be had
abbrev pub gather_by : Task → Cache → Suites → ℕ → Next → Step
gather_by task cache suites number (Short got needed busy) = give_up task cache suites (short_cause number got needed busy)
gather_by task cache suites number asking = on_with task cache suites (Gathering number)

abbrev pub gather : Task → Cache → Suites → ℕ → GatheredSuite → Step
gather task cache suites number suite = gather_by task cache (with_suite number suite suites) number (next suite.collector)

-- from the hint of the site's cache, or from what was never made
abbrev pub start_from : Fixed → Task → Cache → ℕ → Prefix
start_from fixed task cache suite = unwrap_or (hint cache task.site suite) (absent_prefix fixed.service.c0)

abbrev pub raised_or_new : Fixed → Task → Cache → ℕ → LockMode → Option GatheredSuite → GatheredSuite
raised_or_new fixed task cache number mode (Some suite) = record suite { collector = raise suite.collector }
raised_or_new fixed task cache number mode None =
    record { collector = collect mode (start_from fixed task cache number); first = None; mode = Shared; content = None }

-- ---- before: the suites that get votes are widened to them

-- the votes of a suite after what is set of it
abbrev pub votes_then : Option Change → Option ReadPoint → Configuration → Configuration
votes_then (Some change) first before = change.row.votes
votes_then None (Some first) before = first.prefix.votes
votes_then None None before = before

abbrev pub votes_after : Changes → ℕ → GatheredSuite → Configuration
votes_after changes number suite = votes_then (change_of changes number) suite.first suite.collector.start.votes

abbrev pub widened : Changes → ℕ → GatheredSuite → GatheredSuite
widened changes number suite = record suite { collector = widen (votes_after changes number suite) suite.collector }

-- the suites that get votes, rising
abbrev pub to_widen : Changes → List ℕ
to_widen changes = map (λ one. one.0) (filter (λ one. one.1.votes) changes)

-- a suite is widened: it asks, or too few votes are to be had, or nothing has to be asked and the others follow
abbrev pub widen_by : Task → Cache → Suites → Phase → ℕ → Next → (Suites → Step) → Step
widen_by task cache suites phase number (Current prefix dver members) go_on = go_on suites
widen_by task cache suites phase number (Ask server asked) go_on = on_with task cache suites phase
widen_by task cache suites phase number (Short got needed busy) go_on = give_up task cache suites (short_cause number got needed busy)

abbrev pub widen_one : Task → Cache → Suites → Phase → Changes → ℕ → Option GatheredSuite → (Suites → Step) → Step
widen_one task cache suites phase changes number (Some suite) go_on =
    widen_by task cache (with_suite number (widened changes number suite) suites) phase number (next (widened changes number suite).collector) go_on
widen_one task cache suites phase changes number None go_on = go_on suites

-- each of these suites is widened, one after the other; then the servers prepare
abbrev pub widen_all : Task → Cache → Suites → Granted → List ℕ → Step
widen_all task cache suites granted [] = prepare task cache suites (Ok granted) (locked_at suites)
widen_all task cache suites granted (number ∷ left) =
    widen_one task cache suites (Widening (number ∷ left) granted) granted.changes number (suite_of suites number) (λ suites. widen_all task cache suites granted left)

-- ---- first: the executor says what is needed

abbrev pub heard_on : Fixed → Task → Suites → Executed
heard_on fixed task suites = answered (known_of suites) (exec_of fixed.service (known_of suites) task.t task.caller task.ops)

-- what was gathered, and the cache
pub record Gathered : Type 0 where
  pub suites : Suites
  pub cache : Cache

-- a content that is to be had without asking: an empty one of version 0, or one of the cache
abbrev pub free_content : Task → Cache → ℕ → ReadPoint → Option Content
free_content task cache number first =
    if first.dver == 0 then Some (empty_content (held_by first.prefix.kind)) else content_at cache task.site number first.dver

-- what was looked for in the cache is its newest entry from then on
abbrev pub after_search : Task → Cache → ℕ → ReadPoint → Cache
after_search task cache number first = if first.dver == 0 then cache else searched task.site number first.dver cache

abbrev pub opened_with : Task → Gathered → ℕ → GatheredSuite → ReadPoint → Option Content → Option Gathered
opened_with task all number suite first (Some content) = Some (record {
  suites = with_suite number (record suite { content = Some content }) all.suites;
  cache = after_search task all.cache number first;
})
opened_with task all number suite first None = None

abbrev pub open_first : Task → Gathered → ℕ → GatheredSuite → Option ReadPoint → Option Gathered
open_first task all number suite (Some first) = opened_with task all number suite first (free_content task all.cache number first)
open_first task all number suite None = None

abbrev pub open_suite : Task → Gathered → ℕ → Option GatheredSuite → Option Gathered
open_suite task all number (Some suite) = open_first task all number suite suite.first
open_suite task all number None = None

-- all that was gathered, with one content more where that is needed and to be had without asking
abbrev pub open_needed : Task → Gathered → Executed → Option Gathered
open_needed task all (exec.Need (Know number)) = open_suite task all number (suite_of all.suites number)
open_needed task all other = None

-- and so on, at most as often as there are suites
abbrev pub or_all : Gathered → Option Gathered → (Gathered → Gathered) → Gathered
or_all all (Some more) go_on = go_on more
or_all all None go_on = all

abbrev pub opened : ℕ → Fixed → Task → Gathered → Gathered
opened zero fixed task all = all
opened (suc more) fixed task all = or_all all (open_needed task all (heard_on fixed task all.suites)) (λ all. opened more fixed task all)

-- what the executor needs is asked for; where it is done, what it set is carried out
abbrev pub proceed : Fixed → Task → Cache → Suites → Executed → Step
proceed fixed task cache suites (exec.Need (Hold number mode)) = gather task cache suites number (raised_or_new fixed task cache number mode (suite_of suites number))
proceed fixed task cache suites (exec.Need (Know number)) = on_with task cache suites (Fetching number)
proceed fixed task cache suites (exec.Done answers changes) = widen_all task cache suites (record { answers = answers; changes = changes }) (to_widen changes)
proceed fixed task cache suites (exec.Refused refusal) = prepare task cache suites (Err refusal) (locked_at suites)

abbrev pub execute : Fixed → Task → Gathered → Step
execute fixed task all =
    let open' = opened (length all.suites) fixed task all in
    proceed fixed task open'.cache open'.suites (heard_on fixed task open'.suites)

-- ---- what is asked

abbrev pub asked_by : Task → ℕ → Next → Option (ℕ × Request)
asked_by task number (Ask server asked) = Some (server, request_for task.t number asked)
asked_by task number other = None

abbrev pub asked_for : Task → ℕ → Option GatheredSuite → Option (ℕ × Request)
asked_for task number (Some suite) = asked_by task number (next suite.collector)
asked_for task number None = None

abbrev pub fetched_at : Task → ℕ → Option ReadPoint → Option (ℕ × Request)
fetched_at task number (Some first) = Some (first.source, request.Fetch task.t number)
fetched_at task number None = None

abbrev pub fetched_for : Task → ℕ → Option GatheredSuite → Option (ℕ × Request)
fetched_for task number (Some suite) = fetched_at task number suite.first
fetched_for task number None = None

-- what an outcome sets, and as what it is to be recorded
abbrev pub changes_of : Proposal → Changes
changes_of (Ok granted) = granted.changes
changes_of (Err refusal) = []

abbrev pub decision_of : Task → Proposal → Decision
decision_of task (Ok granted) = decision.Answered granted.answers
decision_of task (Err refusal) = decision.Refused task.caller.uid refusal

abbrev pub request_in : Fixed → Task → Suites → Phase → Option (ℕ × Request)
request_in fixed task suites (Gathering number) = asked_for task number (suite_of suites number)
request_in fixed task suites (Fetching number) = fetched_for task number (suite_of suites number)
request_in fixed task suites (Widening [] granted) = None
request_in fixed task suites (Widening (number ∷ left) granted) = asked_for task number (suite_of suites number)
request_in fixed task suites (Preparing [] outcome) = None
request_in fixed task suites (Preparing (server ∷ left) outcome) =
    Some (server, request.Prepare task.t (parts_at suites (changes_of outcome) server))
request_in fixed task suites (Deciding outcome) = Some (home_of fixed.service task.t, request.Decide task.t (decision_of task outcome))
request_in fixed task suites (Finishing [] verdict ending) = None
request_in fixed task suites (Finishing (server ∷ left) verdict ending) = Some (server, request.Finish task.t verdict)

abbrev pub request_of : Fixed → TransactionRun → Option (ℕ × Request)
request_of fixed txn_run = request_in fixed txn_run.task txn_run.suites txn_run.phase

-- ---- what comes of a reply

-- what a server said to a collector; nothing, where the transaction is to end: a lock is lost, or its server is down
abbrev pub is_poll : Request → Bool
is_poll (request.Poll t suite mode) = true
is_poll other = false

abbrev pub said_to : Request → Reply → Option Said
said_to asked (reply.Held prefix dver) = Some (told.Held prefix dver)
said_to asked (reply.Busy holder prepared) = Some (told.Busy holder)
said_to asked reply.Down = if is_poll asked then Some told.Down else None
said_to asked other = None

-- a suite's collector was told: it asks on, or gives up, or it is Current and something else follows
abbrev pub collected : Task → Cache → Suites → Phase → ℕ → GatheredSuite → Next → (GatheredSuite → Step) → Step
collected task cache suites phase number suite (Ask server asked) go_on = on_with task cache (with_suite number suite suites) phase
collected task cache suites phase number suite (Short got needed busy) go_on = give_up task cache (with_suite number suite suites) (short_cause number got needed busy)
collected task cache suites phase number suite (Current prefix dver members) go_on = go_on (settled prefix dver members suite)

abbrev pub hear : Task → Cache → Suites → Phase → ℕ → GatheredSuite → ℕ → Request → Option Said → (GatheredSuite → Step) → Step
hear task cache suites phase number suite server asked (Some said) go_on =
    let after = record suite { collector = tell (record { server = server; mode = mode_of asked; said = said }) suite.collector } in
    collected task cache suites phase number after (next after.collector) go_on
hear task cache suites phase number suite server asked None go_on = give_up task cache suites (Lost server)

-- a content that was fetched; the cache keeps it with the prefix that the first Current gave
abbrev pub keep_content : Fixed → Task → Cache → Suites → ℕ → GatheredSuite → Content → Option ReadPoint → ℕ → Step
keep_content fixed task cache suites number suite content (Some first) server = execute fixed task (record {
  suites = with_suite number (record suite { content = Some content }) suites;
  cache = put fixed.limits (record { site = task.site; suite = number; prefix = first.prefix; dver = first.dver; content = content }) cache;
})
keep_content fixed task cache suites number suite content None server = give_up task cache suites (Lost server)

abbrev pub given_in : Reply → Option Content
given_in (reply.Given dver content) = Some content
given_in other = None

abbrev pub fetched : Fixed → Task → Cache → Suites → ℕ → Option GatheredSuite → ℕ → Option Content → Step
fetched fixed task cache suites number (Some suite) server (Some content) = keep_content fixed task cache suites number suite content suite.first server
fetched fixed task cache suites number suite server given = give_up task cache suites (Lost server)

abbrev pub prepared : Task → Cache → Suites → Proposal → ℕ → List ℕ → Reply → Step
prepared task cache suites outcome server left said =
    if is_prepared said then prepare task cache suites outcome left else give_up task cache suites (Lost server)

-- what the home said; where it said nothing, Aborted
abbrev pub verdict_in : Reply → Verdict → Verdict
verdict_in (reply.Verdict v) before = v
verdict_in other before = before

abbrev pub ending_by : Verdict → Cause → Ending
ending_by (verdict.Answered answers) cause = Answered answers
ending_by (verdict.Refused refusal) cause = Refused refusal
ending_by verdict.Aborted cause = Undecided cause

-- why a Decide did not decide: the home was down, or somebody else had it aborted
abbrev pub cause_of_abort : Reply → Cause
cause_of_abort reply.Down = HomeDown
cause_of_abort other = Overruled

abbrev pub decided : Task → Cache → Suites → Reply → Step
decided task cache suites said =
    let v = verdict_in said verdict.Aborted in finish task cache suites v (ending_by v (cause_of_abort said))

-- the collector of a suite was answered
abbrev pub heard_of : Task → Cache → Suites → Phase → ℕ → Option GatheredSuite → ℕ → Request → Reply → (Suites → Step) → Step
heard_of task cache suites phase number (Some suite) server asked said go_on =
    hear task cache suites phase number suite server asked (said_to asked said) (λ suite. go_on (with_suite number suite suites))
heard_of task cache suites phase number None server asked said go_on = give_up task cache suites (Lost server)

-- a reply of this server to this request
abbrev pub after_reply : Fixed → Task → Cache → Suites → Phase → ℕ → Request → Reply → Step
after_reply fixed task cache suites (Gathering number) server asked said =
    heard_of task cache suites (Gathering number) number (suite_of suites number) server asked said (λ suites. execute fixed task (record { suites = suites; cache = cache }))
after_reply fixed task cache suites (Fetching number) server asked said = fetched fixed task cache suites number (suite_of suites number) server (given_in said)
after_reply fixed task cache suites (Widening [] granted) server asked said = give_up task cache suites (Lost server)
after_reply fixed task cache suites (Widening (number ∷ left) granted) server asked said =
    heard_of task cache suites (Widening (number ∷ left) granted) number (suite_of suites number) server asked said (λ suites. widen_all task cache suites granted left)
after_reply fixed task cache suites (Preparing [] outcome) server asked said = give_up task cache suites (Lost server)
after_reply fixed task cache suites (Preparing (now ∷ left) outcome) server asked said = prepared task cache suites outcome server left said
after_reply fixed task cache suites (Deciding outcome) server asked said = decided task cache suites said
after_reply fixed task cache suites (Finishing [] verdict ending) server asked said = tell_end task cache suites verdict ending []
after_reply fixed task cache suites (Finishing (now ∷ left) verdict ending) server asked said = tell_end task cache suites verdict ending left

-- the server did not serve the request; what a Finish is answered changes nothing
abbrev pub lack_cause : ℕ → Lack → Cause
lack_cause server lack.Full = Full server
lack_cause server lack.Memory = Memory

abbrev pub after_lack : Task → Cache → Suites → Phase → ℕ → Lack → Step
after_lack task cache suites (Finishing [] verdict ending) server lacked = tell_end task cache suites verdict ending []
after_lack task cache suites (Finishing (now ∷ left) verdict ending) server lacked = tell_end task cache suites verdict ending left
after_lack task cache suites other server lacked = give_up task cache suites (lack_cause server lacked)

abbrev pub after_response : Fixed → TransactionRun → Cache → ℕ → Request → Response → Step
after_response fixed txn_run cache server asked (Replied said) = after_reply fixed txn_run.task cache txn_run.suites txn_run.phase server asked said
after_response fixed txn_run cache server asked (Lacked lacked) = after_lack txn_run.task cache txn_run.suites txn_run.phase server lacked
