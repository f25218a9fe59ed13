-- What a transaction learned of a suite, set.
use Rattle.std.specs.Prelude.{◌≡◌, ◌<◌, ℕ, Bool, true, false, not, ◌||◌, is_some, option_map, Option, Some, None}
use Rattle.suite_content.specs.declared.content.Content.{Content}
use Rattle.suite_prefix.specs.LockModes.{serves}
use Rattle.rep_core.specs.Store.{is_used_up}
use Rattle.weak_cache.specs.Entries.{max_sites}
use Rattle.weak_cache.specs.Cache.{Limited}
use Rattle.txn_core.specs.declared.learned.Learned.{Learned}
use Rattle.txn_core.specs.declared.learned.Learned.TheVariants.{Nothing, Quorum, Content as Given}
use Rattle.txn_core.specs.declared.cache_after.Fetched.{Fetched}
use Rattle.txn_core.specs.Doing.{TransactionRun}
use Rattle.txn_core.specs.Suites.{GatheredSuite, Suites, suite_of}
use Rattle.txn_core.specs.Transactions.{Gathered}
use Rattle.txn_core.specs.code.Plans.{shelved, kept_of, takes_in}
use Rattle.txn_core.specs.code.Seeing.{learned_suites, first_at}

-- what the cache is to keep
abbrev pub kept_by : Learned → Option Fetched
kept_by (Given fetched) = Some fetched
kept_by other = None

-- all that was gathered, once it was set
abbrev pub learned : Learned → Limited → Suites → Gathered
learned just_learned cache suites = record { suites = learned_suites just_learned suites; cache = shelved cache (kept_by just_learned) }

-- a suite had no quorum, or gets one in its mode or a stronger one
abbrev pub goes_on : Option GatheredSuite → Bool
goes_on (Some suite) = not (is_some suite.first) || serves suite.collector.mode suite.mode
goes_on None = true

-- more is known by it, and nothing else than before
abbrev pub adds : Learned → Suites → Bool
adds Nothing suites = true
adds (Quorum number pending) suites = goes_on (suite_of suites number)
adds (Given fetched) suites = takes_in (suite_of suites fetched.suite) fetched.content

-- what the cache is to keep is of one of its sites, and its prefix not used up
pub record IsKeepable (fetched : Fetched) : Type 0 where
  pub site : fetched.site < max_sites
  pub unused : is_used_up fetched.prefix.pver ≡ false

abbrev pub Fits : Learned → Type 0
Fits Nothing = Unit {0}
Fits (Quorum number pending) = Unit {0}
Fits (Given fetched) = IsKeepable fetched

-- what is kept with the content of a suite that had a quorum
abbrev pub content_kept : TransactionRun → ℕ → Content → Option Fetched
content_kept txn_run number content = option_map (kept_of txn_run.task number content) (first_at (suite_of txn_run.suites number))
