use Rattle.std.proofs.Common.{arith}
use Rattle.acl_text.proofs.Splits.{first_place, no_place, split_whole, split_at_first}
use Rattle.acl_text.proofs.cut.cut_line.Goals as goal

pub returns-in-Some : goal.returns-in-Some
returns-in-Some c =
    let found = first_place 10 c.args.text.now c.in-Some.place c.in-Some.ensures in
    split_at_first 10 c.args.text.now c.in-Some.place found.0 (omega (arith, c.in-Some.ensures.0.high))

pub returns-in-None : goal.returns-in-None
returns-in-None c =
    let none = no_place 10 c.args.text.now c.in-None.ensures in
    split_whole _ c.args.text.now (omega (arith, none))
