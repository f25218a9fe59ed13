use Rattle.acl_text.proofs.Vocabulary.{sym, ◌∙◌, ap, map, length, length-map, nil_from_length}
use Rattle.acl_text.proofs.names.NameTable.is_empty.Goals as goal

pub returns : goal.returns
returns c =
    let entries = c.self.inside.numbers.entries in (
      λ empty. sym c.self.view_is ∙ ap (map (λ e. (e.0.items, e.1))) (nil_from_length entries (c.is_empty.ensures.0 empty)),
      λ empty. c.is_empty.ensures.1 (sym (length-map entries (λ e. (e.0.items, e.1))) ∙ ap length (c.self.view_is ∙ empty)),
    )
