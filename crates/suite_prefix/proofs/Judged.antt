-- A shape spells a valid copy if each of its parts does.
use Rattle.suite_prefix.proofs.Vocabulary.{◌≡◌, ◌<◌, ◌≤◌, ◌^◌, true, List, [], ◌∷◌, length, map, None, refl, subst, sym, ap, ◌∙◌, All, IfSome, IsTrue, default_of, and_parts, length-map, All-map, mod-eq_of_lt, Tag, Entry, IsAcl, arith, IsCanonical}
use Rattle.suite_prefix.proofs.Vocabulary.{number_of, qualifier, Content, Bytes, Names, Prefix, Form, One, Two, EntryShape, IsContent, CanHold, most_entries, most_servers, SpellsCopy, is_canonical, numbers_belong, entries_rise, content_rises}
use Rattle.suite_prefix.proofs.Vocabulary.{FitsForm, ContentFits, IsWithin, IsSound, MakeLists, MakesDefault, Shape, copy_of, entry_from}
use Rattle.acl_core.specs.Entries.{entry_of}
use Rattle.suite_prefix.proofs.Written.{entries_again}
use Rattle.suite_prefix.proofs.Orders.{canonical_if_rise, folder_if_rise}

-- a canonical shape, part by part
pub record Canonical (shape : Shape) : Type 0 where
  pub belongs : IsTrue (numbers_belong shape.entries)
  pub rises : IsTrue (entries_rise shape.entries)
  pub default_belongs : IsTrue (numbers_belong shape.default)
  pub default_rises : IsTrue (entries_rise shape.default)
  pub content : IsTrue (content_rises shape.content)

pub canonical_parts : (shape : Shape) → IsTrue (is_canonical shape) → Canonical shape
canonical_parts shape canonical = search (and_parts, arith)

pub content_is_canonical : (shape : Shape) → IsTrue (is_canonical shape) → IsTrue (content_rises shape.content)
content_is_canonical shape canonical = (canonical_parts shape canonical).content

-- the default list of some entries
default_acl : (entries : List Entry) → MakesDefault entries → IsCanonical entries → IfSome (default_of entries) IsAcl
default_acl [] makes canonical = tt
default_acl (e ∷ es) makes canonical = record { accepted = makes; canonical = canonical }

content_spelled : (content : Content) → ContentFits content → content_rises content ≡ true → IsWithin content → IsContent content
content_spelled (Bytes bytes) fits rises within = record { few = within; bytes_fit = fits }
content_spelled (Names names) fits rises within = record { few = within.few; rising = folder_if_rise names rises; are_names = within.are_names; suites_fit = fits }

-- what keeps to the limits of a form can be held by it
can_hold : (form : Form) (prefix : Prefix) → (form ≡ One → prefix.acl.default ≡ None) → length prefix.acl.access ≤ most_entries form → All (λ rep. rep.0 < most_servers form) prefix.votes.reps → CanHold form prefix
can_hold One prefix no_default few known = record { no_default = no_default refl; few_entries = few; old_servers = known }
can_hold Two prefix no_default few known = tt

as_many : (entries : List EntryShape) → length (map entry_from entries) ≡ length entries
as_many entries = simp length-map

pub spells : (shape : Shape) → FitsForm shape → IsTrue (is_canonical shape) → IsSound shape → MakeLists shape.entries shape.default → SpellsCopy shape
spells shape fits canonical sound accepted = record {
  permissions_known = sound.permissions_known;
  default_known = sound.default_known;
  valid = record {
    prefix = record {
      fits = record {
        acl = search (canonical_if_rise, canonical_parts, default_acl, arith);
        votes = sound.votes.valid;
        pver = fits.pver;
        owner = fits.owner;
        group = fits.group;
        qualifiers = record {
          access = All-map (λ (entry : Entry). qualifier entry.tag < 2 ^ 32) entry_from shape.entries fits.numbers;
          default = subst (All (λ (entry : Entry). qualifier entry.tag < 2 ^ 32)) (sym (entries_again (map entry_from shape.default)))
              (All-map (λ (entry : Entry). qualifier entry.tag < 2 ^ 32) entry_from shape.default fits.default_numbers);
        };
        r = fits.r;
        w = fits.w;
      };
      absent_is_version_0 = sound.rules.absent_is_version_0;
      nothing = sound.rules.nothing;
      default_of_folder = sound.rules.default_of_folder;
    };
    content = content_spelled shape.content fits.content (canonical_parts shape canonical).content sound.rules.within;
    kinds_agree = fits.kinds_agree;
    absent_holds_version_0 = sound.rules.absent_holds_version_0;
    version_0_is_empty = sound.rules.version_0_is_empty;
    dver_fits = fits.dver;
  };
  held =
      can_hold shape.form (copy_of shape).prefix (λ one. ap (λ entries. default_of (map entry_from entries)) (fits.no_default one))
      (subst (λ n. n ≤ most_entries shape.form) (sym (as_many shape.entries)) sound.few) sound.votes.known;
  content_held = sound.content_held;
}

-- an entry of the list of mode 000
pub grants_nothing_if : (e : EntryShape) (tag : Tag) → e.tag ≡ tag → e.permissions ≡ 0 → entry_from e ≡ entry_of tag 0
grants_nothing_if e tag same none = ap (λ t. entry_of t e.permissions) same ∙ ap (entry_of tag) none

pub tag_if_nothing : (e : EntryShape) (tag : Tag) → entry_from e ≡ entry_of tag 0 → e.tag ≡ tag
tag_if_nothing e tag same = ap (λ entry. entry.tag) same

pub none_if_nothing : (e : EntryShape) (tag : Tag) → e.permissions < 8 → entry_from e ≡ entry_of tag 0 → e.permissions ≡ 0
none_if_nothing e tag known same = let numbers = ap (λ entry. number_of entry.perms) same in sym (mod-eq_of_lt known) ∙ numbers
