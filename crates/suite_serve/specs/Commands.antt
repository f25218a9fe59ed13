-- The lines of a script of jobs after its header and names.
use Rattle.std.specs.Prelude.{ℕ, Bool, ◌||◌, List, [], ◌∷◌, codes, is_some, Option, Some, None, Result, Ok, Err}
use Rattle.std.specs.List.{find}
use Rattle.std.specs.Str.{bytes_eq}
use Rattle.acl_text.specs.Tables.{Tables}
use Rattle.file_ops.specs.Steps.{◌>>=◌, ◌>>◌}
use Rattle.txn_core.specs.declared.job.Job.TheVariants.{Sweep}
use Rattle.suite_script.specs.declared.fault.LineFault.{LineFault}
use Rattle.suite_script.specs.declared.fault.LineFault.TheVariants.{Form}
use Rattle.suite_script.specs.Words.{Word, at_end, number}
use Rattle.suite_play.specs.Commands.{transaction_in}
use Rattle.suite_serve.specs.declared.command.Command.{Command}
use Rattle.suite_serve.specs.declared.command.Command.TheVariants.{Job, Together}
use Rattle.suite_serve.specs.declared.verb.JobVerb.{JobVerb}
use Rattle.suite_serve.specs.declared.verb.JobVerb.TheVariants as verb

-- how the first word of a line is written
abbrev pub spelling : JobVerb → Word
spelling verb.Do = codes "do"
spelling verb.Sweep = codes "sweep"
spelling verb.Together = codes "together"

abbrev pub verbs : List JobVerb
verbs = verb.Do ∷ verb.Sweep ∷ verb.Together ∷ []

abbrev pub verb_in : Word → Option JobVerb
verb_in text = find (λ verb. bytes_eq text (spelling verb)) verbs

abbrev pub is_command : Word → Bool
is_command text = is_some (verb_in text)

-- the words that begin the lines of a header, of which none tells how many agents there are
abbrev pub is_header : Word → Bool
is_header text = bytes_eq text (codes "servers") || bytes_eq text (codes "votes") || bytes_eq text (codes "root") || bytes_eq text (codes "cache") || bytes_eq text (codes "old")

abbrev pub is_known : Word → Bool
is_known text = is_header text || is_command text

-- a transaction, for a caller, at a site
abbrev pub do_in : Tables → List Word → Result Command LineFault
do_in names words = do
  job ← transaction_in names words
  Ok (Job job)

-- a sweep of a server; they are numbered from 0 to the last one
abbrev pub sweep_in : ℕ → List Word → Result Command LineFault
sweep_in last_server words = do
  server ← number last_server words
  at_end server.rest
  Ok (Job (Sweep server.value))

-- all jobs below are done by all agents at once
abbrev pub together_in : List Word → Result Command LineFault
together_in words = do
  at_end words
  Ok Together

-- what the words after a verb say
abbrev pub said_by : ℕ → Tables → JobVerb → List Word → Result Command LineFault
said_by last_server names verb.Do words = do_in names words
said_by last_server names verb.Sweep words = sweep_in last_server words
said_by last_server names verb.Together words = together_in words

abbrev pub said_after : ℕ → Tables → Option JobVerb → List Word → Result Command LineFault
said_after last_server names (Some verb) words = said_by last_server names verb words
said_after last_server names None words = Err Form

-- a line that begins with a word, and the words after it
abbrev pub command_in : ℕ → Tables → Word → List Word → Result Command LineFault
command_in last_server names first words = said_after last_server names (verb_in first) words
