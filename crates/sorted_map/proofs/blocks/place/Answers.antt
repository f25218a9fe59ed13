use Rattle.sorted_map.proofs.Vocabulary.{rules, IsPartitionPoint-from_clause}
use Rattle.sorted_map.proofs.InBlocks.{partitioned, starts_at, in_place}
use Rattle.sorted_map.proofs.blocks.place.Goals as goal

pub returns-clause-place : goal.returns-clause-place
returns-clause-place g c =
    let o = g.met.K.Ord.total in
    let key = c.args.key.now in
    let blocks = c.args.rest.now in
    let point = IsPartitionPoint-from_clause (starts_at o key) blocks c.partition_point.result c.partition_point.ensures.partitioned (partitioned o key blocks c.requires.blocks c.requires.ordered) (λ a r f' k. search rules) in
    λ first ordered. in_place o key first blocks c.partition_point.result c.requires.blocks ordered c.partition_point.ensures.bound point
