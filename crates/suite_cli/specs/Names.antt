-- Names with their numbers as words of the command line: `user:lisa=1001`, `group:toolies=200`.
use Rattle.std.specs.Prelude.{ℕ, ◌+◌, ◌==◌, nat_eq, nat_lt, if◌then◌else◌, List, [], ◌∷◌, ◌++◌, length, drop, codes, Option, Some, None, Result, Ok, Err}
use Rattle.std.specs.List.{starts_with, before_last, after_last}
use Rattle.acl_text.specs.Tables.{Tables, name_fault}
use Rattle.acl_text.specs.declared.names.NameError.{NameError}
use Rattle.script_text.specs.Numbers.{number_up_to}
use Rattle.suite_script.specs.Words.{Word, max_id}

-- a name with its number
abbrev pub Given : Type 0
Given = List ℕ × ℕ

abbrev pub numbered : List ℕ → Option ℕ → Option Given
numbered name None = None
numbered name (Some number) = Some (name, number)

-- what ends the name, and what the number is: the last `=` and all after it
abbrev pub given_in : Word → Option Given
given_in text =
    if nat_lt (length (after_last (λ byte. byte == 61) text)) (length text)
    then numbered (before_last (λ byte. byte == 61) text) (number_up_to max_id (after_last (λ byte. byte == 61) text))
    else None

-- a table with one name more, where it takes the name
abbrev pub taken : List Given → Given → Option NameError → Option (List Given)
taken table given None = Some (table ++ given ∷ [])
taken table given (Some error) = None

abbrev pub added : List Given → Option Given → Option (List Given)
added table None = None
added table (Some given) = taken table given (name_fault table given.0)

abbrev pub with_users : Tables → Option (List Given) → Option Tables
with_users names None = None
with_users names (Some users) = Some (record names { users = users })

abbrev pub with_groups : Tables → Option (List Given) → Option Tables
with_groups names None = None
with_groups names (Some groups) = Some (record names { groups = groups })

abbrev pub user_mark : List ℕ
user_mark = codes "user:"

abbrev pub group_mark : List ℕ
group_mark = codes "group:"

-- the names that are known after a word
abbrev pub name_in : Tables → Word → Option Tables
name_in names word =
    if starts_with nat_eq word user_mark then with_users names (added names.users (given_in (drop (length user_mark) word)))
    else if starts_with nat_eq word group_mark then with_groups names (added names.groups (given_in (drop (length group_mark) word)))
    else None

-- what follows a word: nothing where it is bad, which is told by its place
abbrev pub after_name : ℕ → Option Tables → (Tables → Result Tables ℕ) → Result Tables ℕ
after_name place None next = Err place
after_name place (Some known) next = next known

-- the names of some words; or the place of the first that is bad, counted on from a place
abbrev pub names_from : ℕ → Tables → List Word → Result Tables ℕ
names_from place names [] = Ok names
names_from place names (word ∷ words) = after_name place (name_in names word) (λ known. names_from (place + 1) known words)
