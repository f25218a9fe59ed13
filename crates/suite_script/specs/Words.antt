-- The words of a line, read from the left: what they say, and the words after it.
use Rattle.std.specs.Prelude.{ℕ, List, [], ◌∷◌, Result, Ok, Err}
use Rattle.acl_core.specs.Identity.{Identity}
use Rattle.acl_text.specs.Callers as callers
use Rattle.acl_text.specs.Qualifiers as qualifiers
use Rattle.script_text.specs.Numbers.{number_up_to}
use Rattle.file_ops.specs.Steps.{◌>>=◌, found_or}
use Rattle.suite_script.specs.declared.fault.LineFault.{LineFault}
use Rattle.suite_script.specs.declared.fault.LineFault.TheVariants.{Form}

abbrev pub Word : Type 0
Word = List ℕ

-- what some words say, and the words after them
pub record Taken (A : Type 0) : Type 0 where
  pub value : A
  pub rest : List Word

-- the next word
abbrev pub word : List Word → Result (Taken Word) LineFault
word [] = Err Form
word (first ∷ words) = Ok (record { value = first; rest = words })

-- nothing more
abbrev pub at_end : List Word → Result (Unit {0}) LineFault
at_end [] = Ok tt
at_end (first ∷ words) = Err Form

-- a number up to a limit
abbrev pub number : ℕ → List Word → Result (Taken ℕ) LineFault
number limit words = do
  next ← word words
  number ← found_or (number_up_to limit next.value) Form
  Ok (record { value = number; rest = next.rest })

-- the number of a user or a group
abbrev pub max_id : ℕ
max_id = qualifiers.max_id

abbrev pub id : List Word → Result (Taken ℕ) LineFault
id words = number max_id words

-- a caller of some user: between commas its own group and its other groups
abbrev pub caller_in : ℕ → Word → Result Identity LineFault
caller_in uid text = found_or (callers.caller_in uid text) Form

-- a caller: its user, and its groups
abbrev pub caller : List Word → Result (Taken Identity) LineFault
caller words = do
  uid ← id words
  next ← word uid.rest
  caller ← caller_in uid.value next.value
  Ok (record { value = caller; rest = next.rest })
