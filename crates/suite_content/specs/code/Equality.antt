-- Laws of `==` on what files and folders hold: it is equality.
use Rattle.std.specs.Prelude.{◌≡◌, ℕ, nat_eq, ◌&&◌, List}
use Rattle.std.specs.Bool.{Decides}
use Rattle.std.specs.Cmp.{IsEquivalence, IsPartialEquivalence, partial_equiv_from_equiv}
use Rattle.std.specs.Cmp.Lexicographic.{pointwise, lists_equiv}
use Rattle.std.proofs.Common.{refl, ap}
use Rattle.std.proofs.lemmas.Bool.Decides.{Decides-eqb, Decides-and, Decides-like}
use Rattle.std.proofs.lemmas.Cmp.{nat_list_eq_equiv, nat_eq_equiv, on_equiv, and_equiv}
use Rattle.std.proofs.lemmas.Slice.Eq.{bytes_eq-Decides, slice_eq-Decides}
use Rattle.suite_content.specs.Folders.{same_folder, same_names}

pub same_folder_laws : IsEquivalence same_folder
same_folder_laws = lists_equiv (and_equiv (on_equiv (λ (p : List ℕ × ℕ). p.0) nat_list_eq_equiv) (on_equiv (λ (p : List ℕ × ℕ). p.1) nat_eq_equiv))

pub same_folder_partial_laws : IsPartialEquivalence same_folder
same_folder_partial_laws = partial_equiv_from_equiv same_folder_laws

pub same_names_laws : IsEquivalence same_names
same_names_laws = lists_equiv nat_list_eq_equiv

pub same_names_partial_laws : IsPartialEquivalence same_names
same_names_partial_laws = partial_equiv_from_equiv same_names_laws

-- `==` tells exactly the different ones apart

same_entry_decides : (a b : List ℕ × ℕ) → Decides (pointwise nat_eq a.0 b.0 && nat_eq a.1 b.1) (a ≡ b)
same_entry_decides a b =
    Decides-like _ (λ both i. (both.0 i, both.1 i)) (λ same. (ap (λ p. p.0) same, ap (λ p. p.1) same)) (Decides-and _ _ (bytes_eq-Decides a.0 b.0) (Decides-eqb a.1 b.1))

pub same_folder_decides : (a b : List (List ℕ × ℕ)) → Decides (same_folder a b) (a ≡ b)
same_folder_decides a b = slice_eq-Decides same_entry_decides a b (same_folder a b) refl

pub same_names_decides : (a b : List (List ℕ)) → Decides (same_names a b) (a ≡ b)
same_names_decides a b = slice_eq-Decides bytes_eq-Decides a b (same_names a b) refl
