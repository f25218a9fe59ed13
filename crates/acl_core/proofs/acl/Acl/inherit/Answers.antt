use Rattle.acl_core.proofs.Vocabulary.{◌≡◌, ◌∙◌, ap, map, subst, sym, true, list_any, Entry, IsAcl, cut_to, has_mask, inherited, limit_of, Mask, same_tag}
use Rattle.std.specs.Arc.{arc_slice_items}
use Rattle.acl_core.proofs.OneEntry.{any_kept, some_of}
use Rattle.acl_core.proofs.Inheriting.{inherited_acl}
use Rattle.acl_core.proofs.acl.Acl.inherit.Goals as goal

value : (c : goal.In_ok-entries-2) → arc_slice_items c.in_ok-entries-2.entries ≡ inherited c.args.self.now c.args.mode
value c =
    let list = c.args.self.now in
    let shown : arc_slice_items c.self.inside.entries ≡ list = c.self.view_is in
    let masked : c.is_some-masked.result ≡ has_mask list =
    c.is_some-masked.ensures ∙ some_of c.mask_of.result ∙ ap (list_any (λ (e : Entry). true)) (sym c.mask_of.ensures)
    ∙ sym (any_kept (λ e. same_tag e.tag Mask) c.deref.result.now) ∙ ap has_mask (c.deref.ensures.value ∙ shown) in
    c.in_ok-entries-2.ensures
    ∙ c.in_ok-entries.ensures
    ∙ ap (λ m. map (λ (e : Entry). cut_to (limit_of m c.args.mode e.tag) e) c.deref-2.result.now) masked
    ∙ ap (map (λ (e : Entry). cut_to (limit_of (has_mask list) c.args.mode e.tag) e)) (c.deref-2.ensures.value ∙ shown)

pub invariant_of-result : goal.invariant_of-result
invariant_of-result c = subst IsAcl (sym (value c)) (inherited_acl c.args.self.now c.args.mode (subst IsAcl (c.self.view_is) c.self.invariant))

pub returns-clause-list : goal.returns-clause-list
returns-clause-list c = value c

pub returns-clause-acl : goal.returns-clause-acl
returns-clause-acl c = subst IsAcl (sym (value c)) (inherited_acl c.args.self.now c.args.mode (subst IsAcl (c.self.view_is) c.self.invariant))
