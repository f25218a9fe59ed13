-- The fields of `GatheredSuite` as contracts see them, and what they keep.
use Rattle.std.specs.Prelude.{◌≡◌, true}
use Rattle.txn_core.specs.declared.suites.GatheredSuite.TheInside.{Inside}
use Rattle.txn_core.specs.Suites.{GatheredSuite}
use Rattle.txn_core.specs.code.Unused.{SawUnused, first_unused}

abbrev pub suite_of : Inside → GatheredSuite
suite_of fields =
    let gathered = fields.gathered.value in
    record { collector = gathered.collect.collector; first = gathered.first; mode = gathered.mode; content = gathered.content }

pub record IsUnused (fields : Inside) : Type 0 where
  pub saw : SawUnused fields.gathered.value.collect.collector
  pub first : first_unused fields.gathered.value.first ≡ true
