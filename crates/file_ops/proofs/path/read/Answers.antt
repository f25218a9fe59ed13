use Rattle.file_ops.proofs.Vocabulary.{sym, ◌∙◌, eqb-false}
use Rattle.file_ops.proofs.PathFacts.{longer_path}
use Rattle.file_ops.proofs.path.read.Goals as goal

pub returns : goal.returns
returns c =
    let same = longer_path c.args.text.now c.in-Some.rest.now c.in-Some.ensures.cases.0 c.in-Some.ensures.cases.1 (eqb-false _ _ (sym c.is_empty.ensures ∙ c.if-is_empty.false)) in
    rw same c.collect.ensures
