use Rattle.acl_text.proofs.Vocabulary.{take, ap, sym, arith, take_all}
use Rattle.acl_text.proofs.Splits.{first_place, no_place}
use Rattle.acl_text.proofs.cut.uncommented.Goals as goal

pub returns-in-Some : goal.returns-in-Some
returns-in-Some c = ap (λ n. take n c.args.line.now) (first_place 35 c.args.line.now c.in-Some.place c.in-Some.ensures).0

pub returns-in-None : goal.returns-in-None
returns-in-None c =
    let none = no_place 35 c.args.line.now c.in-None.ensures in
    sym (take_all _ c.args.line.now (omega (arith, none)))
