-- What an execution plans on: the suites as they are seen, and the cache as it will be.
use Rattle.std.specs.Prelude.{ℕ, List, Option}
use Rattle.suite_content.specs.declared.content.Content.{Content}
use Rattle.file_exec.specs.Changes.{answered}
use Rattle.file_exec.specs.Known.{Knowledge, exec_of}
use Rattle.file_exec.specs.Reaching.{Reached}
use Rattle.file_exec.specs.declared.executor.Outcome.{Outcome as Executed}
use Rattle.weak_cache.specs.Cache.{Limited}
use Rattle.txn_core.specs.declared.execution.Execution.{Execution}
use Rattle.txn_core.specs.declared.learned.Learned.{Learned}
use Rattle.txn_core.specs.declared.plan.Plan.{Plan}
use Rattle.txn_core.specs.declared.suites_after.SuitesAfter.{SuitesAfter}
use Rattle.txn_core.specs.declared.next_phase.NextPhase.{NextPhase}
use Rattle.txn_core.specs.declared.cache_after.CacheAfter.{CacheAfter}
use Rattle.txn_core.specs.Doing.{Fixed, Task}
use Rattle.txn_core.specs.Suites.{GatheredSuite, Suites}
use Rattle.txn_core.specs.Transactions.{Gathered, Step, execute}
use Rattle.txn_core.specs.code.Learning.{learned}
use Rattle.txn_core.specs.code.Plans.{IsPlanOf, IsPlayed, fixed_in, new_for, opened_all, seen_on}
use Rattle.txn_core.specs.code.Reaching.{IsReachedIn}
use Rattle.txn_core.specs.code.Seeing.{seen_in}
use Rattle.txn_core.specs.code.NextPhases.{follow}

abbrev pub fixed_at : Execution → CacheAfter → Fixed
fixed_at execution cache_after = fixed_in execution cache_after.cache.now

abbrev pub all_seen : CacheAfter → SuitesAfter → Gathered
all_seen cache_after after = seen_on cache_after (seen_in after)

abbrev pub IsPlanFor : Execution → CacheAfter → SuitesAfter → Plan → Type 0
IsPlanFor execution cache_after after plan = IsPlanOf (fixed_at execution cache_after) execution.task.now (all_seen cache_after after) plan

abbrev pub IsPlayedFor : Execution → CacheAfter → SuitesAfter → List (ℕ × Content) → Executed → Type 0
IsPlayedFor execution cache_after after list outcome = IsPlayed (fixed_at execution cache_after) execution.task.now (all_seen cache_after after) list outcome

-- the suite that an outcome needs, where it was not asked for yet
abbrev pub new_at : Execution → CacheAfter → SuitesAfter → Executed → Option GatheredSuite
new_at execution cache_after after outcome = new_for (fixed_at execution cache_after) execution.task.now (all_seen cache_after after) outcome

-- what the executor answers on what is known of suites
abbrev pub answer_of : Task → Knowledge → Executed
answer_of task known = answered known.suites (exec_of known.service known.suites task.t task.caller task.ops)

-- it came so far on them, with the contents that were to be had without asking
abbrev pub IsReachedWith : Execution → CacheAfter → SuitesAfter → List (ℕ × Content) → Reached → Type 0
IsReachedWith execution cache_after after list reached =
    IsReachedIn execution.fixed_parts.now execution.task.now (opened_all execution.task.now list (all_seen cache_after after)).suites reached

-- ---- once something was learned of suites

abbrev pub executes : Execution → Limited → Learned → Suites → Step
executes execution cache just_learned suites = execute (fixed_in execution cache) execution.task.now (learned just_learned cache suites)

abbrev pub follows : Execution → Limited → Suites → NextPhase → Step
follows execution cache suites next_phase = follow execution.task.now cache.entries suites next_phase

abbrev pub IsPlanBy : Execution → Limited → Learned → Suites → Plan → Type 0
IsPlanBy execution cache just_learned suites plan = IsPlanOf (fixed_in execution cache) execution.task.now (learned just_learned cache suites) plan

abbrev pub IsReachedAfter : Execution → Limited → Learned → Suites → Plan → Reached → Type 0
IsReachedAfter execution cache just_learned suites plan reached =
    IsReachedIn execution.fixed_parts.now execution.task.now (opened_all execution.task.now plan.opened.items (learned just_learned cache suites)).suites reached
