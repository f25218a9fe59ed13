use Rattle.suite_content.proofs.Vocabulary.{sym, ◌∙◌, ap, names_in}
use Rattle.suite_content.proofs.Lists.{no_names}
use Rattle.suite_content.proofs.name_list.NameList.is_empty.Goals as goal

pub returns : goal.returns
returns c =
    (λ empty. sym c.self.view_is ∙ ap names_in (c.is_empty.ensures.0 empty), λ empty. c.is_empty.ensures.1 (no_names c.self.inside.folder (c.self.view_is ∙ empty)))
