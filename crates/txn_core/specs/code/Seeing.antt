-- The suites of a transaction, as they are once something more is known.
use Rattle.std.specs.Prelude.{ℕ, ◌==◌, ◌∷◌, if◌then◌else◌, is_some, Option, Some, None, option_map}
use Rattle.std.specs.Option.{option_copied, option_or}
use Rattle.suite_content.specs.declared.content.Content.{Content}
use Rattle.suite_prefix.specs.declared.lock_mode.LockMode.{LockMode}
use Rattle.suite_collect.specs.Collecting.{tell}
use Rattle.file_exec.specs.Known.{Known}
use Rattle.file_exec.specs.KnownSuites.{KnownSuite}
use Rattle.txn_core.specs.declared.pending_quorum.PendingQuorum.{PendingQuorum}
use Rattle.txn_core.specs.declared.learned.Learned.{Learned}
use Rattle.txn_core.specs.declared.learned.Learned.TheVariants.{Nothing, Quorum, Content as Given}
use Rattle.txn_core.specs.declared.suites_after.SuitesAfter.{SuitesAfter}
use Rattle.txn_core.specs.declared.suites_after.SuiteView.{SuiteView}
use Rattle.txn_core.specs.Suites.{ReadPoint, GatheredSuite, Suites, suite_of, with_suite, row_with}

-- a suite once it has a quorum
abbrev pub settled_with : PendingQuorum → GatheredSuite → GatheredSuite
settled_with pending suite = record suite {
  collector = tell pending.last suite.collector;
  first = option_or suite.first pending.first;
  mode = suite.collector.mode;
}

-- a suite once its content is there
abbrev pub with_content : Content → GatheredSuite → GatheredSuite
with_content content suite = record suite { content = Some content }

-- the suite of a number, once something was learned
abbrev pub told_of : Learned → ℕ → GatheredSuite → GatheredSuite
told_of Nothing number suite = suite
told_of (Quorum place pending) number suite = if place == number then settled_with pending suite else suite
told_of (Given fetched) number suite = if fetched.suite == number then with_content fetched.content suite else suite

-- the suites, once it was set
abbrev pub changed_at : (GatheredSuite → GatheredSuite) → ℕ → Option GatheredSuite → Suites → Suites
changed_at change number (Some suite) suites = with_suite number (change suite) suites
changed_at change number None suites = suites

abbrev pub learned_suites : Learned → Suites → Suites
learned_suites Nothing suites = suites
learned_suites (Quorum number pending) suites = changed_at (settled_with pending) number (suite_of suites number) suites
learned_suites (Given fetched) suites = changed_at (with_content fetched.content) fetched.suite (suite_of suites fetched.suite) suites

abbrev pub seen_in : SuitesAfter → Suites
seen_in after = learned_suites after.just_learned.now after.suites.now.pairs

-- ---- what is known of a suite

pub record Viewed : Type 0 where
  pub first : Option ReadPoint
  pub mode : LockMode
  pub content : Option Content

abbrev pub suite_view_of : SuiteView → Viewed
suite_view_of suite_view = record { first = option_copied suite_view.first; mode = suite_view.mode; content = option_copied suite_view.content }

abbrev pub view_of_suite : GatheredSuite → Viewed
view_of_suite suite = record { first = suite.first; mode = suite.mode; content = suite.content }

abbrev pub first_at : Option GatheredSuite → Option ReadPoint
first_at (Some suite) = suite.first
first_at None = None

-- what an execution knows of it
abbrev pub known_of_view : Viewed → Option KnownSuite
known_of_view suite_view = option_map (λ first. record { mode = suite_view.mode; row = row_with first.prefix.kind first.prefix suite_view.content; opened = is_some suite_view.content }) suite_view.first

abbrev pub with_known : ℕ → Option KnownSuite → Known → Known
with_known number (Some it) known = (number, it) ∷ known
with_known number None known = known

abbrev pub known_by : ℕ → Viewed → Known → Known
known_by number suite_view known = with_known number (known_of_view suite_view) known
