-- The words of a line: what stands between spaces and tabs.
use Rattle.std.specs.Prelude.{◌≡◌, ℕ, ◌==◌, nat_lt, Bool, false, ◌||◌, List, [], ◌∷◌, length, filter}
use Rattle.std.specs.List.{slice_split}

-- a space or a tab
abbrev pub is_blank : ℕ → Bool
is_blank byte = (byte == 32) || (byte == 9)

abbrev pub words : List ℕ → List (List ℕ)
words line = filter (λ word. nat_lt 0 (length word)) (slice_split is_blank line)

-- the first byte, if there is one, is not blank
abbrev pub BeginsWithWord : List ℕ → Type 0
BeginsWithWord [] = Unit {0}
BeginsWithWord (byte ∷ line) = is_blank byte ≡ false
