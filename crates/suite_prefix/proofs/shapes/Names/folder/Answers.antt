use Rattle.suite_prefix.proofs.Names.{name_at_middle, folder_at_end}
use Rattle.suite_prefix.proofs.shapes.Names.folder.Goals as goal

pub known-requires : goal.known-requires
known-requires c = name_at_middle c.loop-name.pairs.items c.in-Some.name.now c.in-Some.suite c.in-Some.rest c.loop-name.others c.args.self.now c.in-Some.ensures c.loop-name.invariant.so_far c.requires.are_names

pub from_ordered-requires : goal.from_ordered-requires
from_ordered-requires c =
    folder_at_end c.loop-name.pairs.items c.loop-name.others c.args.self.now c.in_default.ensures c.loop-name.invariant.so_far c.requires.rise
