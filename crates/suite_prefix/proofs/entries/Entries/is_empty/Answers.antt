use Rattle.suite_prefix.proofs.Vocabulary.{length, sym, ap, ◌∙◌, eqb-true, eq-eqb, entries_in, entry_at}
use Rattle.suite_prefix.proofs.Loop.{length_listed, none_listed}
use Rattle.suite_prefix.proofs.entries.Entries.is_empty.Goals as goal

pub returns : goal.returns
returns c =
    let count = c.self.inside.count in
    let bytes = c.self.inside.bytes.now in (
      λ none. sym c.self.view_is ∙ ap (λ n. entries_in n bytes) (eqb-true count 0 none) ∙ none_listed entry_at bytes,
      λ empty. eq-eqb count 0 (sym (length_listed entry_at count bytes c.self.invariant) ∙ ap length (c.self.view_is ∙ empty)),
    )
