use Rattle.sorted_map.proofs.Vocabulary.{rules, IsPartitionPoint-from_clause}
use Rattle.sorted_map.proofs.InBlocks.{below, pairs_parted, first_point}
use Rattle.sorted_map.proofs.roomy.first_place.Goals as goal

pub returns : goal.returns
returns g c =
    let o = g.met.K.Ord.total in
    let key = c.args.key.now in
    let pairs = c.args.pairs.now in
    let point = IsPartitionPoint-from_clause (below o key) pairs c.partition_point.result c.partition_point.ensures.partitioned (pairs_parted o key pairs c.requires) (λ a r f' k. search rules) in
    first_point o key pairs c.partition_point.result c.partition_point.ensures.bound point
