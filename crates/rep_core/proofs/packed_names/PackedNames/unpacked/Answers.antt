use Rattle.rep_core.proofs.Vocabulary.{ap, ◌∙◌, parts, unnumbered}
use Rattle.suite_content.specs.Folders.{names_in}
use Rattle.rep_core.proofs.PackedNames.{names-unnumbered}
use Rattle.rep_core.proofs.packed_names.PackedNames.unpacked.Goals as goal

pub returns : goal.returns
returns c =
    c.from.ensures
    ∙ ap names_in (c.in_ok-folder.ensures.value ∙ c.from_ordered.ensures.pairs ∙ c.in_ok-entries.ensures ∙ ap (λ t. unnumbered (parts t)) c.as_slice.ensures)
    ∙ names-unnumbered (parts c.self.inside.text)
    ∙ c.self.view_is
