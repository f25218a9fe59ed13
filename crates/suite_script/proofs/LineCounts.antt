-- No more lines say something than there are.
use Rattle.suite_script.proofs.Vocabulary.{ℕ, ◌+◌, ◌≤◌, List, [], ◌∷◌, length, inl, inr, arith, cases_Bool, is_skipped, lines_from}

pub length-lines_from : (number : ℕ) (lines : List (List ℕ)) → length (lines_from number lines) ≤ length lines
length-lines_from number [] = omega arith
length-lines_from number (line ∷ more) =
    let later = length-lines_from (number + 1) more in
    elim (cases_Bool (is_skipped line)) [
      | inl skipped ↦ rw skipped (omega (arith, later))
      | inr says ↦ rw says (omega (arith, later))
    ]
