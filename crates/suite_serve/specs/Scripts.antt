-- A script of jobs: a header as `play` has it, but for the line of agents; names; then jobs, and at most once the word
-- `together`. The jobs above it are done one after the other, those below it by all agents at once.
use Rattle.std.specs.Prelude.{ℕ, suc, ◌+◌, ◌-◌, Bool, false, if◌then◌else◌, nat_lt, List, [], ◌∷◌, codes, Option, Some, None, Result, Ok, Err}
use Rattle.std.specs.Str.{bytes_eq}
use Rattle.std.specs.Str.Lines.{lines}
use Rattle.file_ops.specs.Steps.{◌>>=◌, ok_map}
use Rattle.script_text.specs.Words.{words}
use Rattle.vote_core.specs.Validity.{max_servers}
use Rattle.suite_prefix.specs.SettingsRules.{Opening}
use Rattle.txn_core.specs.declared.job.Job as jobs
use Rattle.suite_script.specs.declared.fault.LineFault.TheVariants.{Form}
use Rattle.suite_script.specs.declared.fault.ScriptFault.{ScriptFault}
use Rattle.suite_script.specs.Scripts.{Headed, Language, Pending, Script, headed, language_of, script_of, whole}
use Rattle.suite_script.specs.Words.{Word}
use Rattle.suite_play.specs.Headers.{count_in, opening_lines}
use Rattle.suite_serve.specs.Commands.{command_in, is_command, is_known}
use Rattle.suite_serve.specs.declared.command.Command.{Command}
use Rattle.suite_serve.specs.declared.command.Command.TheVariants.{Job, Together}

-- the header of a script that so many agents carry out
abbrev pub header : ℕ → Pending → Result (Headed Opening) ScriptFault
header agents script = do
  servers ← headed is_known (codes "servers") (count_in max_servers) script
  opening_lines is_known servers.value agents servers.rest

abbrev pub language : Opening → Language Command
language settings = language_of is_known is_command (command_in (settings.servers - 1))

-- ---- `together`

abbrev pub begins_together : List Word → Bool
begins_together [] = false
begins_together (first ∷ words) = bytes_eq first (codes "together")

-- the numbers of the lines that begin with `together`, from a line on, which has this number
abbrev pub togethers_from : ℕ → List (List ℕ) → List ℕ
togethers_from number [] = []
togethers_from number (line ∷ more) =
    if begins_together (words line) then number ∷ togethers_from (number + 1) more else togethers_from (number + 1) more

abbrev pub second : List ℕ → Option ℕ
second (first ∷ other ∷ more) = Some other
second _ = None

-- the line of a text that says it once more
abbrev pub second_together : List ℕ → Option ℕ
second_together text = second (togethers_from 1 (lines text))

abbrev pub at_line : ℕ → ScriptFault
at_line line = record { line = line; fault = Form }

-- such a line is faulty; of a script's faulty lines the first is told
abbrev pub said_once : {A : Type 0} → Option ℕ → Result A ScriptFault → Result A ScriptFault
said_once None given = given
said_once (Some line) (Ok script) = Err (at_line line)
said_once (Some line) (Err fault) = Err (if nat_lt line fault.line then at_line line else fault)

-- a script as text, for so many agents: what it says, or its first faulty line
abbrev pub script_in : ℕ → List ℕ → Result (Script Opening Command) ScriptFault
script_in agents text = said_once (second_together text) (script_of language (header agents (whole text)))

-- ---- jobs

-- the jobs of some lines, in their order
abbrev pub jobs_of : List Command → List jobs.Job
jobs_of [] = []
jobs_of (Job job ∷ more) = job ∷ jobs_of more
jobs_of (Together ∷ more) = jobs_of more

-- how many of them stand above `together`: all, where no line says it
abbrev pub above_together : List Command → ℕ
above_together [] = 0
above_together (Job job ∷ more) = suc (above_together more)
above_together (Together ∷ more) = 0

-- what a script asks for: the settings of its servers, its jobs, and how many of these are done one after the other
pub record Plan : Type 0 where
  pub settings : Opening
  pub jobs : List jobs.Job
  pub alone : ℕ

abbrev pub plan_of : Script Opening Command → Plan
plan_of script = record { settings = script.header; jobs = jobs_of script.owns; alone = above_together script.owns }

abbrev pub plan_in : ℕ → List ℕ → Result Plan ScriptFault
plan_in agents text = ok_map plan_of (script_in agents text)
