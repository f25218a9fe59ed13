use Rattle.acl_text.proofs.Vocabulary.{◌≡◌, ◌++◌, ◌∷◌, [], ap, ◌∙◌, map, number_in}
use Rattle.acl_text.proofs.NameLookups.{shown-insert_entry, absent_without_fault}
use Rattle.acl_text.proofs.names.NameTable.add.Goals as goal

pub returns-clause-added : goal.returns-clause-added
returns-clause-added c =
    let key = c.in_ok-name.name in
    let bytes : key.items ≡ c.args.name.now = c.in_ok-name.ensures.items in
    let old = c.self.view_is in
    let absent = absent_without_fault c.args.self.now c.args.name.now c.in_default.ensures in
    let absent_here = ap (λ table. number_in table key.items) old ∙ ap (number_in c.args.self.now) bytes ∙ absent in
    ap (map (λ e. (e.0.items, e.1))) c.in_ok-insert.ensures.entries
    ∙ shown-insert_entry (λ k. k.items) c.self.inside.numbers.entries key c.args.id absent_here
    ∙ ap (λ table. table ++ (key.items, c.args.id) ∷ []) old
    ∙ ap (λ name. c.args.self.now ++ (name, c.args.id) ∷ []) bytes
