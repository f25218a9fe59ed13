-- Limits of this project.
use Rattle.std.specs.Prelude.{ℕ}

-- the most operations of a transaction
abbrev pub max_operations : ℕ
max_operations = 8

-- the most names of a path
abbrev pub max_path_names : ℕ
max_path_names = 8
