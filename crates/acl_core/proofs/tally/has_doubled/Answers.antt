use Rattle.std.proofs.Common.{◌∙◌}
use Rattle.acl_core.proofs.Numbers.{beside_doubled}
use Rattle.acl_core.proofs.tally.has_doubled.Goals as goal

pub returns : goal.returns
returns c =
    c.has_neighbours.ensures
    ∙ beside_doubled c.args.numbers.now c.sort_unstable.new.self c.sort_unstable.ensures.permutation c.sort_unstable.ensures.sorted
