use Rattle.acl_text.proofs.Vocabulary.{ap, sym, ◌∙◌, colon, parts_left}
use Rattle.acl_text.proofs.FieldLists.{many_fields}
use Rattle.acl_text.proofs.item.read_fields.Goals as goal

pub returns-then-is_some : goal.returns-then-is_some
returns-then-is_some c =
    sym (many_fields c.args.names.now c.args.word.now c.args.rest c.cut.result.1 c.cut-2.result.1 c.cut.result.0.now c.cut-2.result.0.now
    (ap (parts_left colon) c.in-Some.is ∙ c.cut.ensures) (ap (parts_left colon) c.in-Some-rest.is ∙ c.cut-2.ensures) (c.if-is_some.ensures))
