-- A script's transactions as the code reads them: of the operations it keeps no more than tell what the transaction makes.
use Rattle.std.specs.Prelude.{List, Result}
use Rattle.acl_text.specs.Tables.{Tables}
use Rattle.file_ops.specs.Steps.{ok_map}
use Rattle.suite_script.specs.Scripts.{Language, language_of}
use Rattle.suite_script.specs.Words.{Word}
use Rattle.suite_script.specs.declared.fault.LineFault.{LineFault}
use Rattle.suite_script.specs.code.Kept.{kept}
use Rattle.suite_cli.specs.Scripts.{Job, is_do, is_known, job_in}

abbrev pub kept_job : Job → Job
kept_job job = record job { ops = kept job.ops }

-- what follows the word `do`, so far as it is kept
abbrev pub kept_job_in : Tables → List Word → Result Job LineFault
kept_job_in names words = ok_map kept_job (job_in names words)

abbrev pub kept_jobs : Language Job
kept_jobs = language_of is_known is_do (λ names first words. kept_job_in names words)
