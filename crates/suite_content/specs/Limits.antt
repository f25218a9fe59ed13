-- Limits of this project.
use Rattle.std.specs.Prelude.{ℕ}

-- the most bytes of a name
abbrev pub max_name : ℕ
max_name = 64

-- the most names of a folder
abbrev pub max_names : ℕ
max_names = 1024

-- the most bytes of a file
abbrev pub max_content : ℕ
max_content = 65536
