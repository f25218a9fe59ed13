-- Names in a folder: 1 to 64 bytes of POSIX's portable filename character set, and neither `.` nor `..`, which stand for the folder itself and the one above it.
use Rattle.std.specs.Prelude.{◌≢◌, ℕ, ◌≤◌, ◌==◌, nat_le, Bool, IsTrue, ◌&&◌, ◌||◌, List, length, All, codes}
use Rattle.std.specs.List.{list_any}
use Rattle.suite_content.specs.Limits.{max_name}

-- A to Z and a to z
abbrev pub is_letter : ℕ → Bool
is_letter byte = (nat_le 65 byte && nat_le byte 90) || (nat_le 97 byte && nat_le byte 122)

-- 0 to 9
abbrev pub is_digit : ℕ → Bool
is_digit byte = nat_le 48 byte && nat_le byte 57

-- whether a byte may stand in a name
abbrev pub is_name_byte : ℕ → Bool
is_name_byte byte = is_letter byte || is_digit byte || list_any (λ mark. byte == mark) (codes "._-")

-- bytes are a name
pub record IsName (bytes : List ℕ) : Type 0 where
  pub nonempty : 1 ≤ length bytes
  pub short : length bytes ≤ max_name
  pub portable : All (λ byte. IsTrue (is_name_byte byte)) bytes
  pub not_dot : bytes ≢ codes "."
  pub not_dot_dot : bytes ≢ codes ".."
