-- What a server takes of a suite, by the changes that there are.
use Rattle.std.specs.Prelude.{ℕ, [], unwrap_or, Option}
use Rattle.rep_core.specs.declared.request.Take.{Take}
use Rattle.txn_core.specs.Doing.{Changes}
use Rattle.txn_core.specs.Suites.{GatheredSuite}
use Rattle.txn_core.specs.Writing.{change_of, take_from}

abbrev pub changes_in : Option Changes → Changes
changes_in changes = unwrap_or changes []

abbrev pub take_of : GatheredSuite → ℕ → Option Changes → ℕ → Take
take_of suite server changes number = take_from suite server suite.first (change_of (changes_in changes) number)
