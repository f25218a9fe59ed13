-- Laws of `==` on the two lists of a file or a folder.
use Rattle.std.specs.Prelude.{◌&&◌}
use Rattle.std.specs.Option.{option_eq}
use Rattle.std.specs.Cmp.{IsEquivalence, IsPartialEquivalence, partial_equiv_from_equiv}
use Rattle.std.specs.Cmp.Lexicographic.{pointwise, options_equiv}
use Rattle.std.proofs.lemmas.Bool.{and_parts, and_from}
use Rattle.acl_core.specs.Tags.{same_entry}
use Rattle.acl_core.specs.Pairs.{same_lists}
use Rattle.acl_core.specs.code.EntryLaws.{same_list_laws}

same_default_laws : IsEquivalence (option_eq (pointwise same_entry))
same_default_laws = options_equiv same_list_laws

pub same_lists_laws : IsEquivalence same_lists
same_lists_laws = record {
  refl = λ a. and_from (pointwise same_entry a.access a.access) (option_eq (pointwise same_entry) a.default a.default) (same_list_laws.refl a.access) (same_default_laws.refl a.default);
  symm = λ a b i. same_list_laws.symm a.access b.access i && same_default_laws.symm a.default b.default i;
  congr = λ a b c same.
      let parts = and_parts (pointwise same_entry a.access b.access) (option_eq (pointwise same_entry) a.default b.default) same in
      λ i. same_list_laws.congr a.access b.access c.access parts.0 i && same_default_laws.congr a.default b.default c.default parts.1 i;
}

pub same_lists_partial_laws : IsPartialEquivalence same_lists
same_lists_partial_laws = partial_equiv_from_equiv same_lists_laws
