use Rattle.suite_content.proofs.Vocabulary.{ℕ, List, is_some, sym, ◌∙◌, ap, number_of}
use Rattle.sorted_map.specs.Roomy.{Roomy}
use Rattle.std.specs.Arc.{arc_value}
use Rattle.suite_content.specs.FolderLaws.{without_absent}
use Rattle.suite_content.proofs.Lists.{none_if}
use Rattle.suite_content.proofs.folder_names.take_name.Goals as goal

pub returns-then-not-contains_key-clause-ok : goal.returns-then-not-contains_key-clause-ok
returns-then-not-contains_key-clause-ok c =
    sym (without_absent (arc_value c.args.names.now).pairs c.args.name.now (none_if _ (c.if-not-contains_key.ensures ∙ ap (λ (map : Roomy (List ℕ) ℕ). is_some (number_of map.pairs c.args.name.now)) c.deref.ensures)))
