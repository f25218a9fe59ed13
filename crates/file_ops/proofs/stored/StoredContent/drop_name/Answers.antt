use Rattle.file_ops.proofs.Vocabulary.{ap, ◌∙◌, with_name, with-without_name}
use Rattle.suite_content.specs.declared.content.Content.TheVariants as content
use Rattle.file_ops.proofs.CapacityLaws.{remove_keeps}
use Rattle.file_ops.proofs.stored.StoredContent.drop_name.Goals as goal

pub returns-in-Names-clause-capacity : goal.returns-in-Names-clause-capacity
returns-in-Names-clause-capacity c =
    rw c.in-Names.is (remove_keeps c.in-Names.names c.remove.new.self c.args.name.now c.remove.result c.remove.ensures.pairs c.remove.ensures.before c.remove.ensures.room)

pub returns-in-Names-clause-back : goal.returns-in-Names-clause-back
returns-in-Names-clause-back c =
    rw c.in-Names.is
    (λ number there. ap content.Names (ap (λ names. with_name names c.args.name.now number) c.remove.ensures.pairs ∙ with-without_name c.in-Names.names.pairs c.args.name.now number c.remove.ensures.was_ordered there))
