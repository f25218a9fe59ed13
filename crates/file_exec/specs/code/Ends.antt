-- What a transaction comes to whose operation does not go on.
use Rattle.std.specs.Prelude.{ℕ, ◌+◌, Option, Some, None}
use Rattle.file_exec.specs.declared.executor.Outcome.{Outcome}
use Rattle.file_exec.specs.declared.executor.Outcome.TheVariants as outcome
use Rattle.file_exec.specs.declared.stop.Stop.{Stop}
use Rattle.file_exec.specs.declared.stop.Stop.TheVariants as stop

-- the operation stands at a place counted from 0, and its refusal names it, counted from 1; nothing, where memory was refused
abbrev pub end_of : ℕ → Stop → Option Outcome
end_of at (stop.Needs need) = Some (outcome.Need need)
end_of at (stop.Refused why) = Some (outcome.Refused (record { op = at + 1; why = why }))
end_of at stop.Memory = None
