-- The lines of a script after its header and names: events, and so many of them at once.
use Rattle.std.specs.Prelude.{ℕ, Bool, List, [], ◌∷◌, codes, is_some, Option, Some, None, Result, Ok, Err}
use Rattle.std.specs.List.{find}
use Rattle.std.specs.Str.{bytes_eq}
use Rattle.acl_text.specs.Tables.{Tables}
use Rattle.file_ops.specs.Steps.{◌>>=◌, ◌>>◌}
use Rattle.txn_core.specs.declared.job.Job.{Job}
use Rattle.txn_core.specs.declared.job.Job.TheVariants.{Transaction, Sweep}
use Rattle.run_core.specs.declared.event.Event.TheVariants as event
use Rattle.suite_script.specs.declared.fault.LineFault.{LineFault}
use Rattle.suite_script.specs.declared.fault.LineFault.TheVariants.{Form}
use Rattle.suite_script.specs.Forms.{last_site, max_steps}
use Rattle.suite_script.specs.Operations.{operations}
use Rattle.suite_script.specs.Words.{Taken, Word, at_end, caller, number}
use Rattle.suite_play.specs.declared.command.Command.{Command}
use Rattle.suite_play.specs.declared.command.Command.TheVariants.{Event, Steps, Run, Audit}
use Rattle.suite_play.specs.declared.verb.EventVerb.{EventVerb}
use Rattle.suite_play.specs.declared.verb.EventVerb.TheVariants as verb
use Rattle.suite_play.specs.declared.places.Places.{Places}

-- how the first word of a line is written
abbrev pub spelling : EventVerb → Word
spelling verb.Begin = codes "begin"
spelling verb.Sweep = codes "sweep"
spelling verb.Step = codes "step"
spelling verb.Run = codes "run"
spelling verb.Crash = codes "crash"
spelling verb.Return = codes "return"
spelling verb.Forget = codes "forget"
spelling verb.Audit = codes "audit"

abbrev pub verbs : List EventVerb
verbs = verb.Begin ∷ verb.Sweep ∷ verb.Step ∷ verb.Run ∷ verb.Crash ∷ verb.Return ∷ verb.Forget ∷ verb.Audit ∷ []

abbrev pub verb_in : Word → Option EventVerb
verb_in text = find (λ verb. bytes_eq text (spelling verb)) verbs

abbrev pub is_command : Word → Bool
is_command text = is_some (verb_in text)

-- a transaction, for a caller, at a site
abbrev pub transaction_in : Tables → List Word → Result Job LineFault
transaction_in names words = do
  caller ← caller words
  site ← number last_site caller.rest
  ops ← operations names site.rest
  Ok (Transaction caller.value site.value ops)

-- a transaction that an agent begins
abbrev pub begin_in : Places → Tables → List Word → Result Command LineFault
begin_in places names words = do
  agent ← number places.last_agent words
  job ← transaction_in names agent.rest
  Ok (Event (event.Begin agent.value job))

-- a sweep of a server that an agent begins
abbrev pub sweep_in : Places → List Word → Result Command LineFault
sweep_in places words = do
  agent ← number places.last_agent words
  server ← number places.last_server agent.rest
  at_end server.rest
  Ok (Event (event.Begin agent.value (Sweep server.value)))

-- how many steps: one, where no number is left
abbrev pub steps_in : List Word → Result (Taken ℕ) LineFault
steps_in [] = Ok (record { value = 1; rest = [] })
steps_in (next ∷ words) = number max_steps (next ∷ words)

abbrev pub step_in : Places → List Word → Result Command LineFault
step_in places words = do
  agent ← number places.last_agent words
  steps ← steps_in agent.rest
  at_end steps.rest
  Ok (Steps agent.value steps.value)

abbrev pub run_in : Places → List Word → Result Command LineFault
run_in places words = do
  agent ← number places.last_agent words
  at_end agent.rest
  Ok (Run agent.value)

-- the number of a server, which is all that is left
abbrev pub server_in : Places → List Word → Result ℕ LineFault
server_in places words = do
  server ← number places.last_server words
  at_end server.rest
  Ok server.value

abbrev pub crash_in : Places → List Word → Result Command LineFault
crash_in places words = do
  server ← server_in places words
  Ok (Event (event.Crash server))

abbrev pub return_in : Places → List Word → Result Command LineFault
return_in places words = do
  server ← server_in places words
  Ok (Event (event.Return server))

abbrev pub forget_in : Places → List Word → Result Command LineFault
forget_in places words = do
  agent ← number places.last_agent words
  site ← number last_site agent.rest
  at_end site.rest
  Ok (Event (event.Forget agent.value site.value))

abbrev pub audit_in : Places → List Word → Result Command LineFault
audit_in places words = do
  server ← server_in places words
  Ok (Audit server)

-- what the words after a verb say
abbrev pub said_by : Places → Tables → EventVerb → List Word → Result Command LineFault
said_by places names verb.Begin words = begin_in places names words
said_by places names verb.Sweep words = sweep_in places words
said_by places names verb.Step words = step_in places words
said_by places names verb.Run words = run_in places words
said_by places names verb.Crash words = crash_in places words
said_by places names verb.Return words = return_in places words
said_by places names verb.Forget words = forget_in places words
said_by places names verb.Audit words = audit_in places words

abbrev pub said_after : Places → Tables → Option EventVerb → List Word → Result Command LineFault
said_after places names (Some verb) words = said_by places names verb words
said_after places names None words = Err Form

-- a line that begins with a word, and the words after it
abbrev pub command_in : Places → Tables → Word → List Word → Result Command LineFault
command_in places names first words = said_after places names (verb_in first) words
