-- A script prints the same of what is kept of its transactions.
use Rattle.std.proofs.Common.{◌≡◌, ℕ, ◌+◌, List, [], ◌∷◌, ◌++◌, map, Result, refl, ◌∙◌, ap}
use Rattle.file_ops.specs.Rows.{PlainTable, opening}
use Rattle.file_ops.specs.Transactions.{replies, table_after}
use Rattle.suite_script.proofs.Seen.{same_output}
use Rattle.suite_script.proofs.Steps.{kept_enough}
use Rattle.suite_script.specs.Outputs.{script_output}
use Rattle.suite_script.specs.Scripts.{Headed, Language, script_of}
use Rattle.suite_script.specs.declared.fault.ScriptFault.{ScriptFault}
use Rattle.suite_script.specs.declared.root.Root.{Root}
use Rattle.suite_cli.specs.Outputs.{lines_of, outcome_line, settings_of, table_lines}
use Rattle.suite_cli.specs.Scripts.{Job, language}
use Rattle.suite_cli.specs.code.Kept.{kept_job, kept_jobs}
use Rattle.suite_cli.specs.code.Playing.{after_job, line_of}

kept_lines : (table : PlainTable) (number : ℕ) (jobs : List Job) → table_lines table number (map kept_job jobs) ≡ table_lines table number jobs
kept_lines table number [] = refl
kept_lines table number (job ∷ jobs) =
    ap (λ outcome. outcome_line number (replies outcome) ++ table_lines (table_after table number job.caller outcome) (number + 1) (map kept_job jobs))
    (kept_enough table.service table.rows number job.caller job.ops)
    ∙ ap (λ later. line_of table number job ++ later) (kept_lines (after_job table number job) (number + 1) jobs)

-- the language of what is kept, under any root folder
abbrev pub kept_language : Root → Language Job
kept_language root = kept_jobs

pub kept_output : (given : Result (Headed Root) ScriptFault) → script_output lines_of (script_of kept_language given) ≡ script_output lines_of (script_of language given)
kept_output given = same_output kept_job language lines_of lines_of (λ root jobs. kept_lines (opening (settings_of root)) 0 jobs) given
