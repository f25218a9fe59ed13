-- The shape in which a copy is written, and that it spells the copy.
use Rattle.suite_prefix.proofs.Vocabulary.{◌≡◌, ℕ, List, [], ◌∷◌, map, Option, None, Some, refl, ap, ◌∙◌, IfSome, mod-eq_of_lt, Entry, Lists, IsAcl, number_of, qualifier, Replica, Form, EntryShape, default_entries, default_of, Shape, entry_from}
use Rattle.suite_prefix.proofs.Vocabulary.{copy_of}
use Rattle.acl_core.specs.declared.perms.Perms.{Perms}
use Rattle.acl_core.proofs.EntryEquality.{same_by_fields}

abbrev pub entry_shape : Entry → EntryShape
entry_shape entry = record { tag = entry.tag; number = qualifier entry.tag; permissions = number_of entry.perms }

abbrev pub shape_of : Form → Replica → Shape
shape_of form copy = record {
  form = form;
  identity = record { pver = copy.prefix.pver; kind = copy.prefix.kind; owner = copy.prefix.owner; group = copy.prefix.group };
  entries = map entry_shape copy.prefix.acl.access;
  default = map entry_shape (default_entries copy.prefix.acl.default);
  votes = copy.prefix.votes;
  dver = copy.dver;
  content = copy.content;
}

perms_of : ℕ → Perms
perms_of bits = record { 0 = bits }

entry_back : (entry : Entry) → entry_from (entry_shape entry) ≡ entry
unfolding perms_of
entry_back entry = same_by_fields _ entry refl (ap perms_of (mod-eq_of_lt entry.known))

pub entries_back : (entries : List Entry) → map entry_from (map entry_shape entries) ≡ entries
entries_back [] = refl
entries_back (entry ∷ entries) = ap (λ e. e ∷ map entry_from (map entry_shape entries)) (entry_back entry) ∙ ap (λ es. entry ∷ es) (entries_back entries)

-- a list with an entry is the default list of its entries
some_of : (list : List Entry) → IsAcl list → default_of list ≡ Some list
some_of [] acl = let none = acl.accepted.valid.one_user_obj in absurd cc
some_of (entry ∷ entries) acl = refl

pub default_back : (default : Option (List Entry)) → IfSome default IsAcl → default_of (map entry_from (map entry_shape (default_entries default))) ≡ default
default_back None acl = refl
default_back (Some list) acl = ap default_of (entries_back list) ∙ some_of list acl

with_acl : Replica → Lists → Replica
with_acl copy acl = record { prefix = record { pver = copy.prefix.pver; kind = copy.prefix.kind; owner = copy.prefix.owner; group = copy.prefix.group; acl = acl; votes = copy.prefix.votes }; dver = copy.dver; content = copy.content }

pub copy_back : (form : Form) (copy : Replica) → IfSome copy.prefix.acl.default IsAcl → copy_of (shape_of form copy) ≡ copy
unfolding with_acl
copy_back form copy acl = ap (with_acl copy) (λ i. record { access = entries_back copy.prefix.acl.access i; default = default_back copy.prefix.acl.default acl i })
