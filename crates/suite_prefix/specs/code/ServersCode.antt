-- A set of servers as it is told apart from others, in a value that has one.
use Rattle.std.specs.Coded.{Coded, coded_ℕ}
use Rattle.std.specs.FinSet.{FinSet, code}
use Rattle.std.specs.Ordering.{nat_cmp}

abbrev pub servers_code : Coded (FinSet nat_cmp)
servers_code = code coded_ℕ
