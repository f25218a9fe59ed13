-- The order of two lists of bytes, found byte by byte.
use Rattle.suite_content.proofs.Vocabulary.{◌≡◌, ℕ, ◌+◌, List, [], ◌∷◌, length, drop, refl, ◌∙◌, arith, min, nat_cmp, slice_cmp, nat_tests, length-drop}

-- one list is empty
one_ended : (xs ys : List ℕ) → min (length xs) (length ys) ≡ 0 → nat_cmp (length xs) (length ys) ≡ slice_cmp nat_cmp xs ys
one_ended [] [] short = refl
one_ended [] (y ∷ ys) short = grind (arith, nat_tests)
one_ended (x ∷ xs) [] short = grind (arith, nat_tests)
one_ended (x ∷ xs) (y ∷ ys) short = absurd (omega arith)

shifted : (i m n : ℕ) → nat_cmp (i + m) (i + n) ≡ nat_cmp m n
shifted i m n = grind (arith, nat_tests)

-- where one list ends, the lengths decide
pub at_end : (xs ys : List ℕ) (i : ℕ) → i ≡ min (length xs) (length ys) → nat_cmp (length xs) (length ys) ≡ slice_cmp nat_cmp (drop i xs) (drop i ys)
at_end xs ys i is =
    let p = length-drop i xs in
    let q = length-drop i ys in
    let m : length xs ≡ i + length (drop i xs) = omega arith in
    let n : length ys ≡ i + length (drop i ys) = omega arith in
    (λ j. nat_cmp (m j) (n j)) ∙ shifted i (length (drop i xs)) (length (drop i ys)) ∙ one_ended (drop i xs) (drop i ys) (omega arith)
