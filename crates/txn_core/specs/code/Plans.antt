-- What an execution sets, told before anything is set.
use Rattle.std.specs.Prelude.{◌≡◌, ℕ, Bool, List, [], ◌∷◌, length, option_map, Option, Some, None}
use Rattle.std.specs.Option.{option_copied}
use Rattle.suite_content.specs.declared.content.Content.{Content}
use Rattle.suite_prefix.specs.declared.lock_mode.LockMode.{LockMode}
use Rattle.suite_collect.specs.Collecting.{raise}
use Rattle.weak_cache.specs.Entries.{Cache}
use Rattle.weak_cache.specs.Cache.{Limited, put}
use Rattle.file_exec.specs.KnownSuites.{KnownSuite}
use Rattle.file_exec.specs.Reaching.{takes}
use Rattle.file_exec.specs.declared.need.Need.TheVariants.{Hold, Know}
use Rattle.file_exec.specs.declared.executor.Outcome.{Outcome as Executed}
use Rattle.file_exec.specs.declared.executor.Outcome.TheVariants as exec
use Rattle.txn_core.specs.declared.execution.Execution.{Execution}
use Rattle.txn_core.specs.declared.plan.Plan.{Plan}
use Rattle.txn_core.specs.declared.cache_after.Fetched.{Fetched}
use Rattle.txn_core.specs.declared.cache_after.CacheAfter.{CacheAfter}
use Rattle.txn_core.specs.Doing.{Fixed, Task}
use Rattle.txn_core.specs.Suites.{ReadPoint, GatheredSuite, Suites, suite_of, with_suite, known_row}
use Rattle.txn_core.specs.Transactions.{Gathered, heard_on, free_content, after_search, opened, raised_or_new}

-- the service of an execution, with the limits of a cache
abbrev pub fixed_in : Execution → Limited → Fixed
fixed_in execution cache = record { service = execution.fixed_parts.now; limits = cache.limits }

-- all that was gathered, with the entries of a cache
abbrev pub all_in : Suites → Limited → Gathered
all_in suites cache = record { suites = suites; cache = cache.entries }

-- ---- the cache

-- the entries of a cache, once what was fetched is put there
abbrev pub shelved : Limited → Option Fetched → Cache
shelved cache (Some one) = put cache.limits (record { site = one.site; suite = one.suite; prefix = one.prefix; dver = one.dver; content = one.content }) cache.entries
shelved cache None = cache.entries

abbrev pub entries_on : CacheAfter → Cache
entries_on cache_after = shelved cache_after.cache.now (option_copied cache_after.fetched)

-- what was gathered, where the cache is seen through a shelf
abbrev pub seen_on : CacheAfter → Suites → Gathered
seen_on cache_after suites = record { suites = suites; cache = entries_on cache_after }

-- ---- contents that are to be had without asking

-- a suite that had a quorum gets its content; one of the cache is its newest from then on
abbrev pub opened_first : Task → Gathered → ℕ → Content → GatheredSuite → Option ReadPoint → Gathered
opened_first task all number content suite (Some first) = record {
  suites = with_suite number (record suite { content = Some content }) all.suites;
  cache = after_search task all.cache number first;
}
opened_first task all number content suite None = all

abbrev pub opened_at : Task → Gathered → ℕ → Content → Option GatheredSuite → Gathered
opened_at task all number content (Some suite) = opened_first task all number content suite suite.first
opened_at task all number content None = all

abbrev pub opened_by : Task → Gathered → ℕ × Content → Gathered
opened_by task all one = opened_at task all one.0 one.1 (suite_of all.suites one.0)

-- one after the other
abbrev pub opened_all : Task → List (ℕ × Content) → Gathered → Gathered
opened_all task [] all = all
opened_all task (one ∷ more) all = opened_all task more (opened_by task all one)

-- the content of a suite, where it had a quorum and the content is to be had without asking
abbrev pub free_first : Task → Cache → ℕ → Option ReadPoint → Option Content
free_first task cache number (Some first) = free_content task cache number first
free_first task cache number None = None

abbrev pub free_of : Task → Cache → ℕ → Option GatheredSuite → Option Content
free_of task cache number (Some suite) = free_first task cache number suite.first
free_of task cache number None = None

-- what the executor needs, where that is such a content
abbrev pub to_open : Task → Gathered → Executed → Option (ℕ × Content)
to_open task all (exec.Need (Know number)) = option_map (λ content. (number, content)) (free_of task all.cache number (suite_of all.suites number))
to_open task all other = None

-- ---- a suite that is asked for

-- a suite that is asked for the first time
abbrev pub new_unless : Fixed → Task → Cache → ℕ → LockMode → Option GatheredSuite → Option GatheredSuite
new_unless fixed task cache number mode (Some suite) = None
new_unless fixed task cache number mode None = Some (raised_or_new fixed task cache number mode None)

abbrev pub new_for : Fixed → Task → Gathered → Executed → Option GatheredSuite
new_for fixed task all (exec.Need (Hold number mode)) = new_unless fixed task all.cache number mode (suite_of all.suites number)
new_for fixed task all other = None

-- it is put among the suites; and one that is among them is raised
abbrev pub raised_at : ℕ → Option GatheredSuite → Suites → Suites
raised_at number (Some suite) suites = with_suite number (record suite { collector = raise suite.collector }) suites
raised_at number None suites = suites

abbrev pub with_asked_at : ℕ → Option GatheredSuite → Suites → Suites
with_asked_at number (Some suite) suites = with_suite number suite suites
with_asked_at number None suites = raised_at number (suite_of suites number) suites

abbrev pub with_asked : Executed → Option GatheredSuite → Suites → Suites
with_asked (exec.Need (Hold number mode)) new suites = with_asked_at number new suites
with_asked other new suites = suites

-- ---- the plan

-- the contents that are to be had without asking, and the executor's answer with them
pub record IsPlayed (fixed : Fixed) (task : Task) (all : Gathered) (list : List (ℕ × Content)) (outcome : Executed) : Type 0 where
  pub gathered : opened (length all.suites) fixed task all ≡ opened_all task list all
  pub answer : outcome ≡ heard_on fixed task (opened_all task list all).suites

-- and the suite that it asks for, where that is a new one
pub record IsPlanOf (fixed : Fixed) (task : Task) (all : Gathered) (plan : Plan) : Type 0 where
  pub played : IsPlayed fixed task all plan.opened.items plan.outcome
  pub new : plan.new ≡ new_for fixed task all plan.outcome

-- all that was gathered once a plan was carried out
abbrev pub carried_out : Task → Plan → Gathered → Gathered
carried_out task plan all =
    let more = opened_all task plan.opened.items all in
    record more { suites = with_asked plan.outcome plan.new more.suites }

-- ---- what was fetched

-- a content as it is kept with what its suite's first quorum gave
abbrev pub kept_of : Task → ℕ → Content → ReadPoint → Fetched
kept_of task number content first = record { site = task.site; suite = number; prefix = first.prefix; dver = first.dver; content = content }

-- whether a suite had a quorum, its content is not there, and another is of its kind
abbrev pub known_in : Option GatheredSuite → Option KnownSuite
known_in (Some suite) = option_map (known_row suite) suite.first
known_in None = None

abbrev pub takes_in : Option GatheredSuite → Content → Bool
takes_in suite content = takes (known_in suite) content
