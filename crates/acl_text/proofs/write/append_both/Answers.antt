use Rattle.acl_text.proofs.Vocabulary.{◌≡◌, ◌++◌, ap, sym, ◌∙◌, append_assoc, flat_map, Access, Default, default_entries, line_text, long_lines, mask_of}
use Rattle.acl_text.proofs.EntryByEntry.{on_ok}
use Rattle.acl_text.proofs.write.append_both.Goals as goal

pub returns-in-Some-clause-appended : goal.returns-in-Some-clause-appended
returns-in-Some-clause-appended c =
    let old = c.args.text.now.items in
    let access = c.args.lists.now.access in
    let default = default_entries c.args.lists.now.default in
    let first : c.append_lines.new.text.items ≡ old ++ long_lines Access access =
    c.in_ok-append_lines.ensures.appended
    ∙ ap (λ m. old ++ flat_map (line_text Access m) c.entries-access.result.now) c.mask_of.ensures
    ∙ ap (λ list. old ++ long_lines Access list) c.entries-access.ensures.value in
    let shown : c.in-Some.default ≡ default = sym (ap default_entries c.in-Some.is) in
    on_ok c.append_lines-in-Some.result c.append_lines-in-Some.ensures.appended (λ appended.
    appended
    ∙ ap (λ m. c.append_lines.new.text.items ++ flat_map (line_text Default m) c.entries-in-Some.result.now) (c.mask_of-mask.ensures ∙ ap mask_of (c.entries.ensures.value ∙ shown))
    ∙ ap (λ list. c.append_lines.new.text.items ++ flat_map (line_text Default (mask_of default)) list) (c.entries-in-Some.ensures.value ∙ shown)
    ∙ ap (λ text. text ++ long_lines Default default) first
    ∙ append_assoc old (long_lines Access access) (long_lines Default default))
