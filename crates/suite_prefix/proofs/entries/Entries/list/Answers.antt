use Rattle.suite_prefix.proofs.Vocabulary.{◌<◌, List, map, sym, ap, subst, ◌∙◌, All, IsAcl, EntryShape, entry_from}
use Rattle.suite_prefix.proofs.entries.Entries.list.Goals as goal

pub entries_in-requires-clause-known : goal.entries_in-requires-clause-known
entries_in-requires-clause-known c = subst (λ (entries : List EntryShape). All (λ (entry : EntryShape). entry.permissions < 8) entries) (sym c.self.view_is) c.requires.known

pub from_canonical-requires : goal.from_canonical-requires
from_canonical-requires c = subst IsAcl (ap (map entry_from) (sym c.self.view_is) ∙ sym c.in_ok-entries.ensures) c.requires.acl
