use Rattle.acl_text.proofs.Vocabulary.{sym, ap, ◌∙◌, number_in}
use Rattle.acl_text.proofs.NameLookups.{number_in-shown}
use Rattle.acl_text.proofs.names.NameTable.number_of.Goals as goal

pub returns : goal.returns
returns c =
    c.copied.ensures ∙ c.get.ensures.value ∙ sym (number_in-shown (λ key. key.items) c.self.inside.numbers.entries c.args.name.now)
    ∙ ap (λ table. number_in table c.args.name.now) c.self.view_is
