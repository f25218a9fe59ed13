-- The tests of valid prefixes and copies are true exactly of these, where the parts fit their types; and the parts of valid copies do.
use Rattle.suite_prefix.proofs.Vocabulary.{◌≡◌, ℕ, suc, true, List, [], ◌∷◌, Option, None, Some, is_some, length, refl, ap, arith, ◌==◌, nat_lt, IsTrue, ◌&&◌, not, if◌then◌else◌, and_parts, nat_tests, Entry, same_lists_decides, kind_of}
use Rattle.suite_prefix.proofs.Vocabulary.{empty_content, Content, Bytes, Names, PrefixKind, Absent, Prefix, Replica, PrefixFits, IsPrefix, IsNothing, IsContent, IsCopy, held_by, closed_lists, is_closed, is_nothing, keeps_rules, is_valid_prefix}
use Rattle.suite_prefix.proofs.Vocabulary.{is_absent, holds, is_empty, is_within_limits, version_agrees, is_valid_copy}
use Rattle.std.specs.Cmp.{unsigned_Decides}
use Rattle.suite_prefix.specs.TestsExact.{ContentFits, CopyFits, TestsAreExact}

-- ---- prefixes

nothing_if : (prefix : Prefix) → IsTrue (is_nothing prefix) → IsNothing prefix
nothing_if prefix passes =
    let fronts = and_parts ((prefix.owner == 0) && (prefix.group == 0)) (is_closed prefix.acl) passes in
    let numbers = and_parts (prefix.owner == 0) (prefix.group == 0) fronts.0 in
    record {
      no_owner = (unsigned_Decides prefix.owner 0).0 numbers.0;
      no_group = (unsigned_Decides prefix.group 0).0 numbers.1;
      closed = (same_lists_decides prefix.acl closed_lists).0 fronts.1;
    }

above : (n : ℕ) → nat_lt 0 n ≡ true → n ≡ 0 → ⊥
above n passes none = grind (arith, nat_tests)

some_above : (n : ℕ) → nat_lt 0 (suc n) ≡ true
some_above n = grind (arith, nat_tests)

no_list : (o : Option (List Entry)) → not (is_some o) ≡ true → o ≡ None
no_list None passes = refl
no_list (Some list) passes = absurd cc

prefix_if : (kind : PrefixKind) (prefix : Prefix) → prefix.kind ≡ kind → PrefixFits prefix → IsTrue (keeps_rules kind prefix) → IsPrefix prefix
prefix_if kind prefix h2 h3 h4 = search (and_parts, nothing_if, above, no_list, arith)

if_prefix : (kind : PrefixKind) (prefix : Prefix) → prefix.kind ≡ kind → IsPrefix prefix → IsTrue (keeps_rules kind prefix)
if_prefix kind prefix h2 h3 = search arith

-- a prefix that passes and fits is valid
pub valid_prefix_if_passes : (prefix : Prefix) → PrefixFits prefix → IsTrue (is_valid_prefix prefix) → IsPrefix prefix
valid_prefix_if_passes prefix = prefix_if prefix.kind prefix refl

-- a valid prefix passes
pub valid_prefix_passes : (prefix : Prefix) → IsPrefix prefix → IsTrue (is_valid_prefix prefix)
valid_prefix_passes prefix = if_prefix prefix.kind prefix refl

-- ---- contents

kinds_if : (kind : PrefixKind) (content : Content) → IsTrue (holds kind content) → kind_of content ≡ held_by kind
kinds_if kind content h2 = search arith

nil_if : {A : Type 0} (xs : List A) → IsTrue (length xs == 0) → xs ≡ []
nil_if [] passes = refl
nil_if (x ∷ xs) passes = let none = (unsigned_Decides (length (x ∷ xs)) 0).0 passes in absurd (omega arith)

empty_if : (content : Content) → IsTrue (is_empty content) → content ≡ empty_content (kind_of content)
empty_if (Bytes bytes) passes = ap Bytes (nil_if bytes passes)
empty_if (Names names) passes = ap Names (nil_if names passes)

within_if : (content : Content) → ContentFits content → IsTrue (is_within_limits content) → IsContent content
within_if (Bytes bytes) fits passes = record { few = grind (arith, nat_tests); bytes_fit = fits }
within_if (Names names) fits passes = record { few = grind (arith, nat_tests); rising = fits.rising; are_names = fits.are_names; suites_fit = fits.suites_fit }

content_fits : (content : Content) → IsContent content → ContentFits content
content_fits (Bytes bytes) within = within.bytes_fit
content_fits (Names names) within = record { rising = within.rising; are_names = within.are_names; suites_fit = within.suites_fit }

-- ---- versions of contents

record Agrees (dver : ℕ) (kind : PrefixKind) (content : Content) : Type 0 where
  pub absent_holds_version_0 : kind ≡ Absent → dver ≡ 0
  pub version_0_is_empty : dver ≡ 0 → content ≡ empty_content (kind_of content)

agrees_if : (dver : ℕ) (kind : PrefixKind) (content : Content) → IsTrue (if nat_lt 0 dver then not (is_absent kind) else is_empty content) → Agrees dver kind content
agrees_if dver kind content h3 = search (empty_if, above, some_above, arith)

-- ---- copies

-- a copy that passes and fits is valid
pub valid_copy_if_passes : (copy : Replica) → CopyFits copy → IsTrue (is_valid_copy copy) → IsCopy copy
valid_copy_if_passes copy fits passes =
    let kind = copy.prefix.kind in
    let three = and_parts (is_valid_prefix copy.prefix && holds kind copy.content && version_agrees copy) (is_within_limits copy.content) passes in
    let two = and_parts (is_valid_prefix copy.prefix && holds kind copy.content) (version_agrees copy) three.0 in
    let one = and_parts (is_valid_prefix copy.prefix) (holds kind copy.content) two.0 in
    let agrees = agrees_if copy.dver kind copy.content two.1 in
    record {
      prefix = valid_prefix_if_passes copy.prefix fits.prefix one.0;
      content = within_if copy.content fits.content three.1;
      kinds_agree = kinds_if kind copy.content one.1;
      absent_holds_version_0 = agrees.absent_holds_version_0;
      version_0_is_empty = agrees.version_0_is_empty;
      dver_fits = fits.dver;
    }

-- a valid copy passes
pub valid_copy_passes : (copy : Replica) → IsCopy copy → IsTrue (is_valid_copy copy)
valid_copy_passes copy valid = search arith

-- a valid copy fits
pub valid_copy_fits : (copy : Replica) → IsCopy copy → CopyFits copy
valid_copy_fits copy valid = record { prefix = valid.prefix.fits; dver = valid.dver_fits; content = content_fits copy.content valid.content }

pub tests_are_exact : TestsAreExact
tests_are_exact = search (valid_prefix_if_passes, valid_prefix_passes, valid_copy_if_passes, valid_copy_passes, valid_copy_fits, arith)
