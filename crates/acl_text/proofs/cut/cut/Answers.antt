use Rattle.std.proofs.Common.{arith}
use Rattle.acl_text.proofs.Splits.{split_whole, split_at_first}
use Rattle.acl_text.proofs.cut.cut.Goals as goal

pub returns-then-place-bytes : goal.returns-then-place-bytes
returns-then-place-bytes c =
    split_at_first c.args.separator c.args.bytes.now c.place_of-place.result c.place_of-place.ensures.place (omega arith)

pub returns-else-place-bytes : goal.returns-else-place-bytes
returns-else-place-bytes c = split_whole _ c.args.bytes.now (omega arith)
