-- Sets of servers, judged.
use Rattle.std.specs.Prelude.{ℕ, nat_lt, Bool}
use Rattle.std.specs.List.{list_all}
use Rattle.std.specs.Ordering.{nat_cmp}
use Rattle.std.specs.FinSet.{FinSet, items}

-- whether all servers of a set are numbered below this
abbrev pub are_below : ℕ → FinSet nat_cmp → Bool
are_below end servers = list_all (λ server. nat_lt server end) (items servers)
