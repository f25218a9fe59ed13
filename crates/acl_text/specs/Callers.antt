-- A caller as text: its groups' numbers with commas between them, its own group's first.
use Rattle.std.specs.Prelude.{ℕ, ◌==◌, nat_le, if◌then◌else◌, List, [], ◌∷◌, length, Option, Some, None}
use Rattle.std.specs.List.{slice_split}
use Rattle.std.specs.Option.{option_and_then}
use Rattle.acl_core.specs.Identity.{Identity}
use Rattle.acl_text.specs.Qualifiers.{max_id}
use Rattle.script_text.specs.Numbers.{number_up_to}

-- the numbers of some parts, where each is the number of a user or a group
abbrev pub ids_in : List (List ℕ) → Option (List ℕ)
ids_in [] = Some []
ids_in (part ∷ parts) = joined (number_up_to max_id part) (ids_in parts)
  where
    joined : Option ℕ → Option (List ℕ) → Option (List ℕ)
    joined (Some number) (Some numbers) = Some (number ∷ numbers)
    joined _ _ = None

-- the most groups beside a caller's own; a limit of this project
abbrev pub max_groups : ℕ
max_groups = 32

-- a caller's own group and its other groups, from their numbers
abbrev pub caller_with : ℕ → List ℕ → Option Identity
caller_with uid [] = None
caller_with uid (gid ∷ groups) =
    if nat_le (length groups) max_groups then Some (record { uid = uid; gid = gid; groups = groups }) else None

-- a caller of some user: between commas its own group and its other groups
abbrev pub caller_in : ℕ → List ℕ → Option Identity
caller_in uid text = option_and_then (caller_with uid) (ids_in (slice_split (λ byte. byte == 44) text))
