-- The words of a line in phrases, between words that are a semicolon.
use Rattle.std.specs.Prelude.{ℕ, Bool, List, [], ◌∷◌, codes}
use Rattle.std.specs.List.{slice_split}
use Rattle.std.specs.Str.{bytes_eq}
use Rattle.script_text.specs.Words.{words}

abbrev pub is_semicolon : List ℕ → Bool
is_semicolon word = bytes_eq word (codes ";")

-- what is left: of the phrase that is being read, and the phrases after it
pub record Remaining : Type 0 where
  pub here : List (List ℕ)
  pub later : List (List (List ℕ))

abbrev pub remaining_in : List (List (List ℕ)) → Remaining
remaining_in [] = record { here = []; later = [] }
remaining_in (phrase ∷ phrases) = record { here = phrase; later = phrases }

abbrev pub remaining_of : List ℕ → Remaining
remaining_of line = remaining_in (slice_split is_semicolon (words line))
