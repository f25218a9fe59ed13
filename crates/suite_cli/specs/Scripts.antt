-- A script of the plain table: `root` with the root folder's owner, group and list; then names of users
-- and groups; then transactions, a line each.
use Rattle.std.specs.Prelude.{ℕ, Bool, ◌||◌, List, codes, Result, Ok}
use Rattle.std.specs.Str.{bytes_eq}
use Rattle.acl_core.specs.Identity.{Identity}
use Rattle.acl_text.specs.Tables.{Tables}
use Rattle.file_ops.specs.declared.operation.Op.{Op}
use Rattle.file_ops.specs.Steps.{◌>>=◌}
use Rattle.suite_script.specs.declared.fault.LineFault.{LineFault}
use Rattle.suite_script.specs.declared.fault.ScriptFault.{ScriptFault}
use Rattle.suite_script.specs.declared.root.Root.{Root}
use Rattle.suite_script.specs.Operations.{operations}
use Rattle.suite_script.specs.Scripts.{Language, Script, headed, language_of, root_in, script_of, whole}
use Rattle.suite_script.specs.Words.{Word, caller}

-- a transaction, and who asks for it
pub record Job : Type 0 where
  pub caller : Identity
  pub ops : List Op

-- what follows the word `do`
abbrev pub job_in : Tables → List Word → Result Job LineFault
job_in names words = do
  caller ← caller words
  ops ← operations names caller.rest
  Ok (record { caller = caller.value; ops = ops })

-- the words that begin the lines of a script
abbrev pub is_root : Word → Bool
is_root text = bytes_eq text (codes "root")

abbrev pub is_do : Word → Bool
is_do text = bytes_eq text (codes "do")

abbrev pub is_known : Word → Bool
is_known text = is_root text || is_do text

abbrev pub language : Root → Language Job
language root = language_of is_known is_do (λ names first words. job_in names words)

-- a script as text: what it says, or its first faulty line
abbrev pub script_in : List ℕ → Result (Script Root Job) ScriptFault
script_in text = script_of language (headed is_known (codes "root") root_in (whole text))
