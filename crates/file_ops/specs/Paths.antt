-- Paths as text: `/`, which is the root folder, or one to eight times `/` and a name.
use Rattle.std.specs.Prelude.{ℕ, ◌==◌, nat_le, Bool, ◌&&◌, not, if◌then◌else◌, List, [], ◌∷◌, length, Option, Some, None, codes}
use Rattle.std.specs.List.{list_all, slice_split}
use Rattle.std.specs.Str.{bytes_eq}
use Rattle.suite_content.specs.Limits.{max_name}
use Rattle.suite_content.specs.Names.{is_name_byte}
use Rattle.file_ops.specs.Limits.{max_path_names}

abbrev pub is_slash : ℕ → Bool
is_slash byte = byte == 47

-- whether a list of bytes is a name: `IsName` as a test
abbrev pub is_name : List ℕ → Bool
is_name bytes =
    nat_le 1 (length bytes) && nat_le (length bytes) max_name && list_all is_name_byte bytes
    && not (bytes_eq bytes (codes ".")) && not (bytes_eq bytes (codes ".."))

-- one to eight names
abbrev pub some_names : List (List ℕ) → Option (List (List ℕ))
some_names parts =
    if nat_le 1 (length parts) && nat_le (length parts) max_path_names && list_all is_name parts then Some parts else None

-- the names of a path, from its parts between slashes: nothing stands before the first slash, and after it nothing, or one to eight names
abbrev pub names_between : List (List ℕ) → Option (List (List ℕ))
names_between ([] ∷ [] ∷ []) = Some []
names_between ([] ∷ parts) = some_names parts
names_between _ = None

-- the names that a text leads through, from the root folder down, where it is a path
abbrev pub names_of : List ℕ → Option (List (List ℕ))
names_of text = names_between (slice_split is_slash text)
