-- Who asks for what, as words.
use Rattle.std.specs.Prelude.{ℕ, ◌+◌, Bool, if◌then◌else◌, List, [], ◌∷◌, codes, Option, Some, None, Result, Ok}
use Rattle.std.specs.List.{find}
use Rattle.std.specs.Str.{bytes_eq}
use Rattle.acl_core.specs.Identity.{Identity}
use Rattle.acl_core.specs.Permissions.{may_read, may_write, may_execute}
use Rattle.acl_core.specs.declared.perms.Perms.{Perms}
use Rattle.file_ops.specs.Steps.{◌>>=◌, ◌>>◌, found_or}
use Rattle.history_judge.specs.declared.history.CallRequest.{CallRequest}
use Rattle.history_judge.specs.declared.history.CallRequest.TheVariants.{Ops, Test}
use Rattle.suite_script.specs.declared.fault.LineFault.{LineFault}
use Rattle.suite_script.specs.declared.fault.LineFault.TheVariants.{Form}
use Rattle.suite_script.specs.code.Kept.{kept}
use Rattle.suite_script.specs.Operations.{operations}
use Rattle.suite_script.specs.Scripts.{no_names}
use Rattle.suite_script.specs.Words.{Word, at_end, caller, word}

-- who asks for what
pub record Request : Type 0 where
  pub caller : Identity
  pub asked : CallRequest

-- permissions: r, w and x, some of them and in this order
abbrev pub permissions : List (Word × ℕ)
permissions =
    (codes "r", may_read) ∷ (codes "w", may_write) ∷ (codes "x", may_execute)
    ∷ (codes "rw", may_read + may_write) ∷ (codes "rx", may_read + may_execute) ∷ (codes "wx", may_write + may_execute)
    ∷ (codes "rwx", may_read + may_write + may_execute) ∷ []

abbrev pub perms_of : Option (Word × ℕ) → Option Perms
perms_of (Some known) = Some (record { 0 = known.1 })
perms_of None = None

abbrev pub perms_in : Word → Option Perms
perms_in text = perms_of (find (λ known. bytes_eq text known.0) permissions)

-- a test: a path, and what is wanted there
abbrev pub test_in : List Word → Result CallRequest LineFault
test_in words = do
  path ← word words
  wanted ← word path.rest
  perms ← found_or (perms_in wanted.value) Form
  at_end wanted.rest
  Ok (Test path.value perms)

-- operations: of too many, which are refused for that, one more than there may be
abbrev pub operations_in : List Word → Result CallRequest LineFault
operations_in words = do
  ops ← operations no_names words
  Ok (Ops (kept ops))

abbrev pub is_test : Word → Bool
is_test text = bytes_eq text (codes "test")

-- a test, or operations
abbrev pub asked_in : List Word → Result CallRequest LineFault
asked_in [] = operations_in []
asked_in (first ∷ words) = if is_test first then test_in words else operations_in (first ∷ words)

-- a caller, and what it asks for
abbrev pub request_in : List Word → Result Request LineFault
request_in words = do
  caller ← caller words
  asked ← asked_in caller.rest
  Ok (record { caller = caller.value; asked = asked })
