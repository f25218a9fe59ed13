-- A folder's names as one text, with a comma between each two.
use Rattle.std.specs.Prelude.{ℕ, ◌==◌, List, map, All}
use Rattle.std.specs.List.{slice_split}
use Rattle.suite_content.specs.Folders.{IsFolder}
use Rattle.suite_content.specs.Names.{IsName}

-- what stands between the commas of a text
abbrev pub parts : List ℕ → List (List ℕ)
parts text = slice_split (λ byte. byte == 44) text

-- names as a folder has them, each with the number 0
abbrev pub unnumbered : List (List ℕ) → List (List ℕ × ℕ)
unnumbered names = map (λ name. (name, 0)) names

-- names that a folder may have, each below the next
pub record AreInOrder (names : List (List ℕ)) : Type 0 where
  pub each : All IsName names
  pub rising : IsFolder (unnumbered names)
