-- A path as its names are kept, and the text that is seen of them.
use Rattle.std.specs.Prelude.{◌≡◌, ℕ, List, ◌∷◌, Some, None}
use Rattle.std.specs.List.{join_with_byte}
use Rattle.file_ops.specs.declared.path.Reading.{Reading}
use Rattle.file_ops.specs.declared.path.Reading.TheVariants.{Path, Text}
use Rattle.file_ops.specs.Paths.{names_of}

-- names as they are written: a slash before each of them, and the root folder as a slash alone
abbrev pub written : List (List ℕ) → List ℕ
written names = 47 ∷ join_with_byte 47 names

abbrev pub text_of : Reading → List ℕ
text_of (Path names) = written names.items
text_of (Text bytes) = bytes.items

-- names are kept of a path, and bytes of what is none
abbrev pub IsRead : Reading → Type 0
IsRead (Path names) = names_of (written names.items) ≡ Some names.items
IsRead (Text bytes) = names_of bytes.items ≡ None
