-- What the lines of a script print, played one after the other on a table.
use Rattle.std.proofs.Common.{◌≡◌, ◌∙◌, ℕ, ◌+◌, List, [], ◌∷◌, ◌++◌, Ok, codes, refl, ap, sym}
use Rattle.file_ops.specs.Rows.{PlainTable, opening}
use Rattle.suite_script.proofs.Playing.{opened_output}
use Rattle.suite_script.specs.Gathering.{comes_to}
use Rattle.suite_script.specs.Playing.{prints_from}
use Rattle.suite_script.specs.Scripts.{Pending, headed, owns, root_in, whole}
use Rattle.suite_script.specs.declared.root.Root.{Root}
use Rattle.suite_cli.proofs.KeptJobs.{kept_language, kept_output}
use Rattle.suite_cli.specs.Outputs.{lines_of, settings_of, table_lines, table_output}
use Rattle.suite_cli.specs.Scripts.{Job, is_known}
use Rattle.suite_cli.specs.code.Playing.{after_job, line_of}

lines_are : (table : PlainTable) (number : ℕ) (jobs : List Job) → prints_from line_of after_job table number jobs ≡ table_lines table number jobs
lines_are table number [] = refl
lines_are table number (job ∷ later) = ap (λ rest. line_of table number job ++ rest) (lines_are (after_job table number job) (number + 1) later)

-- what a script comes to of which the header was read
pub played_output : (text : List ℕ) (root : Root) (rest : Pending) → headed is_known (codes "root") root_in (whole text) ≡ Ok (record { value = root; rest = rest })
    → comes_to [] (prints_from line_of after_job (opening (settings_of root)) 0) (owns (kept_language root) rest) ≡ table_output text
played_output text root rest read =
    ap (λ (lines : List Job → List ℕ). comes_to [] lines (owns (kept_language root) rest)) (λ i later. lines_are (opening (settings_of root)) 0 later i)
    ∙ sym (opened_output kept_language lines_of (headed is_known (codes "root") root_in (whole text)) root rest read)
    ∙ kept_output (headed is_known (codes "root") root_in (whole text))
