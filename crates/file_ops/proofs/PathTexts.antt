-- The names of a path, written, are its text again.
use Rattle.file_ops.proofs.Vocabulary.{◌≡◌, ℕ, Bool, List, [], ◌∷◌, Some, refl, sym, ap, ◌∙◌, slice_split, eqb-true, none-some, same_Some, cond_some, join_with_byte-slice_split, is_slash, names_of, written, arith}
use Rattle.file_ops.proofs.PathFacts.{other_first, after_slash}

pub written_back : (text : List ℕ) (names : List (List ℕ)) → names_of text ≡ Some names → written names ≡ text
written_back [] names is = absurd (none-some _ is)
written_back (byte ∷ rest) names is = by (is_slash byte) refl
  where
    behind : (rest : List ℕ) → names_of (47 ∷ rest) ≡ Some names → written names ≡ 47 ∷ rest
    behind [] is = ap written (sym (same_Some [] names is))
    behind (next ∷ rest) is =
        let parts = slice_split is_slash (next ∷ rest) in
        let same = (cond_some _ parts names (sym (after_slash next rest) ∙ is)).1 in
        ap written (sym same) ∙ ap (λ t. 47 ∷ t) (join_with_byte-slice_split 47 (next ∷ rest))

    by : (slash : Bool) → is_slash byte ≡ slash → written names ≡ byte ∷ rest
    by slash h1 = search (none-some, other_first, eqb-true, behind, arith)

-- names that were read of a text are read of it as it is written again
pub read_back : (text : List ℕ) (names : List (List ℕ)) → names_of text ≡ Some names → names_of (written names) ≡ Some names
read_back text names is = ap names_of (written_back text names is) ∙ is
