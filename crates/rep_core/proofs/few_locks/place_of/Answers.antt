use Rattle.std.proofs.lemmas.List.Sorted.{IsPartitionPoint-from_clause}
use Rattle.std.proofs.Common.{rules}
use Rattle.rep_core.proofs.Searching.{stands_before, before_down, partitioned, count_point}
use Rattle.rep_core.proofs.few_locks.place_of.Goals as goal

pub returns-clause-place : goal.returns-clause-place
returns-clause-place c =
    let locks = c.args.locks.now in
    let p = stands_before c.args.t c.args.suite in
    let point = IsPartitionPoint-from_clause p locks c.partition_point.result c.partition_point.ensures.partitioned (partitioned p (before_down c.args.t c.args.suite) locks c.requires) (λ a r f' k. search rules) in
    count_point p locks c.partition_point.result c.partition_point.ensures.bound point
