-- Names of users and groups, each with its number: two finite maps, in the order in which names came.
use Rattle.std.specs.Prelude.{ℕ, nat_le, Bool, ◌&&◌, not, if◌then◌else◌, List, length, Option, Some, None, is_some, Result, Ok, Err}
use Rattle.std.specs.Char.{is_ascii_digit}
use Rattle.std.specs.List.{list_all}
use Rattle.std.specs.Str.{bytes_eq}
use Rattle.std.specs.Map.{lookup}
use Rattle.acl_text.specs.declared.names.NameError.{NameError}
use Rattle.acl_text.specs.declared.names.NameError.TheVariants.{BadName, NameTwice, Memory}
use Rattle.acl_text.specs.Qualifiers.{is_name_byte}

pub record Tables : Type 0 where
  pub users : List (List ℕ × ℕ)
  pub groups : List (List ℕ × ℕ)

-- the number of a name
abbrev pub number_in : List (List ℕ × ℕ) → List ℕ → Option ℕ
number_in table name = lookup (bytes_eq name) table

-- 1 to 64 bytes of a name, and not digits alone
abbrev pub is_name : List ℕ → Bool
is_name name = nat_le 1 (length name) && nat_le (length name) 64 && list_all is_name_byte name && not (list_all is_ascii_digit name)

-- why a name is not taken into a table
abbrev pub name_fault : List (List ℕ × ℕ) → List ℕ → Option NameError
name_fault table name =
    if not (is_name name) then Some BadName else if is_some (number_in table name) then Some NameTwice else None

-- the fault that an answer names; an answer without one is success, or says that memory ran out
abbrev pub fault_in : {T : Type 0} → Result T NameError → Option NameError
fault_in (Ok done) = None
fault_in (Err BadName) = Some BadName
fault_in (Err NameTwice) = Some NameTwice
fault_in (Err Memory) = None
