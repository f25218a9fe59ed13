-- From which list the first Current of a suite came.
use Rattle.std.specs.Prelude.{◌≡◌, ℕ, List, ◌++◌, None}
use Rattle.suite_prefix.specs.declared.copies.Prefix.{Prefix}
use Rattle.suite_prefix.specs.declared.lock_mode.LockMode.{LockMode}
use Rattle.suite_collect.specs.declared.told.Told.{Told}
use Rattle.suite_collect.specs.Collecting.{Collector, Current, all_told, next}
use Rattle.txn_core.specs.Suites.{ReadPoint, GatheredSuite}

-- the collector at that moment: nothing was widened then
abbrev pub early_collector : Prefix → LockMode → List Told → Collector
early_collector start mode told = record { start = start; mode = mode; told = told; widening = None }

-- once so much was told, the collector gave it
pub record FirstFrom (suite : GatheredSuite) (first : ReadPoint) : Type 0 where
  pub mode : LockMode
  pub members : List ℕ
  pub earlier : List Told
  pub later : List Told
  pub parts : all_told suite.collector ≡ later ++ earlier
  pub gave : next (early_collector suite.collector.start mode earlier) ≡ Current first.prefix first.dver members
