-- Laws of `==` on contents: it is equality.
use Rattle.std.specs.Prelude.{◌≡◌, true}
use Rattle.std.specs.Bool.{Decides}
use Rattle.std.specs.Cmp.{IsEquivalence, IsPartialEquivalence, partial_equiv_from_equiv}
use Rattle.std.proofs.Common.{refl, ap}
use Rattle.std.proofs.lemmas.Bool.Decides.{Decides-like}
use Rattle.std.proofs.lemmas.Cmp.{nat_list_eq_equiv}
use Rattle.std.proofs.lemmas.Slice.Eq.{bytes_eq-Decides}
use Rattle.suite_content.specs.declared.content.Content.{Content}
use Rattle.suite_content.specs.declared.content.Content.TheVariants.{Bytes, Names}
use Rattle.suite_content.specs.Contents.{same_content}
use Rattle.suite_content.specs.code.Equality.{same_folder_laws, same_folder_decides}

itself : (a : Content) → same_content a a ≡ true
itself (Bytes a) = nat_list_eq_equiv.refl a
itself (Names a) = same_folder_laws.refl a

swapped : (a b : Content) → same_content a b ≡ same_content b a
swapped (Bytes a) (Bytes b) = nat_list_eq_equiv.symm a b
swapped (Bytes a) (Names b) = refl
swapped (Names a) (Bytes b) = refl
swapped (Names a) (Names b) = same_folder_laws.symm a b

alike : (a b c : Content) → same_content a b ≡ true → same_content a c ≡ same_content b c
alike (Bytes a) (Bytes b) (Bytes c) same = nat_list_eq_equiv.congr a b c same
alike (Bytes a) (Bytes b) (Names c) same = refl
alike (Bytes a) (Names b) c same = cc
alike (Names a) (Bytes b) c same = cc
alike (Names a) (Names b) (Bytes c) same = refl
alike (Names a) (Names b) (Names c) same = same_folder_laws.congr a b c same

pub same_content_laws : IsEquivalence same_content
same_content_laws = record { refl = itself; symm = swapped; congr = alike }

pub same_content_partial_laws : IsPartialEquivalence same_content
same_content_partial_laws = partial_equiv_from_equiv same_content_laws

-- `==` tells exactly the different contents apart
pub same_content_decides : (a b : Content) → Decides (same_content a b) (a ≡ b)
same_content_decides (Bytes a) (Bytes b) = Decides-like _ (ap Bytes) (λ same. cc) (bytes_eq-Decides a b)
same_content_decides (Bytes a) (Names b) = (λ same. cc, λ same. cc)
same_content_decides (Names a) (Bytes b) = (λ same. cc, λ same. cc)
same_content_decides (Names a) (Names b) = Decides-like _ (ap Names) (λ same. cc) (same_folder_decides a b)
