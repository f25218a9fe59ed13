use Rattle.file_ops.proofs.Vocabulary.{ap, ◌∙◌, ok_map, plain_named}
use Rattle.file_ops.proofs.LastName.{last_name-split}
use Rattle.file_ops.proofs.walk.last_name.Goals as goal

pub returns : goal.returns
returns c = ap (ok_map plain_named) c.ok_or.ensures.value ∙ last_name-split c.args.names.now c.split_last.result c.split_last.ensures.cases
