-- From the jobs of a script's lines to what the script asks for.
use Rattle.suite_serve.proofs.Vocabulary.{◌≡◌, ◌∙◌, ap, ap₂, sym, refl, ℕ, List, [], ◌∷◌, map, Option, Some, None, Result, Ok, Err, suc, ◌-◌, ok_map, kept_job}
use Rattle.suite_serve.proofs.Vocabulary.{Opening, owns_seen, Headed, Pending, Script, owns, script_of, scripted, ScriptError, ScriptFault, GivesScript, Plan}
use Rattle.suite_serve.proofs.Vocabulary.{above_together, at_line, jobs_of, language, plan_of, said_once, commands, kept_command, kept_plan, GivesJobs}
use Rattle.suite_serve.proofs.Vocabulary.{first_error, jobs_and_alone, Command, Together, JobLines}
use Rattle.suite_serve.specs.declared.command.Command.TheVariants.{Job}
use Rattle.txn_core.specs.declared.job.Job as jobs
use Rattle.suite_script.specs.declared.fault.ScriptError.TheVariants as script

-- ---- what is kept of lines

kept_jobs : (lines : List Command) → jobs_of (map kept_command lines) ≡ map kept_job (jobs_of lines)
kept_jobs [] = refl
kept_jobs (Job job ∷ more) = ap (λ (js : List jobs.Job). kept_job job ∷ js) (kept_jobs more)
kept_jobs (Together ∷ more) = kept_jobs more

kept_alone : (lines : List Command) → above_together (map kept_command lines) ≡ above_together lines
kept_alone [] = refl
kept_alone (Job job ∷ more) = ap suc (kept_alone more)
kept_alone (Together ∷ more) = refl

abbrev plan_with : Opening → List jobs.Job × ℕ → Plan
plan_with settings read = record { settings = settings; jobs = read.0; alone = read.1 }

kept_lines : (settings : Opening) (lines : List Command)
    → kept_plan (plan_of (record { header = settings; owns = lines })) ≡ plan_with settings (jobs_and_alone (map kept_command lines))
kept_lines settings lines = ap₂ (λ (js : List jobs.Job) (n : ℕ). plan_with settings (js, n)) (sym (kept_jobs lines)) (sym (kept_alone lines))

of_lines : (settings : Opening) (given : Result (List Command) ScriptFault)
    → ok_map kept_plan (ok_map plan_of (scripted settings given)) ≡ ok_map (plan_with settings) (ok_map jobs_and_alone (ok_map (map kept_command) given))
of_lines settings (Ok lines) = ap Ok (kept_lines settings lines)
of_lines settings (Err fault) = refl

-- ---- a script whose header was read

of_script : (settings : Opening) (rest : Pending) (lines : JobLines) (header : Result (Headed Opening) ScriptFault) → lines ≡ record { last_server = settings.servers - 1 }
    → header ≡ Ok (record { value = settings; rest = rest })
    → ok_map kept_plan (ok_map plan_of (script_of language header)) ≡ ok_map (plan_with settings) (ok_map jobs_and_alone (owns (commands lines) rest))
of_script settings rest lines header places is =
    ap (λ h. ok_map kept_plan (ok_map plan_of (script_of language h))) is ∙ of_lines settings (owns (language settings) rest)
    ∙ ap (λ given. ok_map (plan_with settings) (ok_map jobs_and_alone given))
    (sym (owns_seen kept_command (language settings) rest.begun rest.names rest.lines) ∙ ap (λ ls. owns (commands ls) rest) (sym places))

pub read_whole : (settings : Opening) (rest : Pending) (lines : JobLines) (header : Result (Headed Opening) ScriptFault) (read : List jobs.Job) (alone : ℕ)
    → lines ≡ record { last_server = settings.servers - 1 } → header ≡ Ok (record { value = settings; rest = rest }) → ok_map jobs_and_alone (owns (commands lines) rest) ≡ Ok (read, alone)
    → ok_map kept_plan (ok_map plan_of (script_of language header)) ≡ Ok (record { settings = settings; jobs = read; alone = alone })
read_whole settings rest lines header read alone places is jobs = of_script settings rest lines header places is ∙ ap (ok_map (plan_with settings)) jobs

pub faulty_lines : (settings : Opening) (rest : Pending) (lines : JobLines) (header : Result (Headed Opening) ScriptFault) (fault : ScriptFault)
    → lines ≡ record { last_server = settings.servers - 1 } → header ≡ Ok (record { value = settings; rest = rest }) → owns (commands lines) rest ≡ Err fault
    → ok_map kept_plan (ok_map plan_of (script_of language header)) ≡ Err fault
faulty_lines settings rest lines header fault places is faulty =
    of_script settings rest lines header places is ∙ ap (λ given. ok_map (plan_with settings) (ok_map jobs_and_alone given)) faulty

pub faulty_header : (header : Result (Headed Opening) ScriptFault) (fault : ScriptFault) → header ≡ Err fault → ok_map kept_plan (ok_map plan_of (script_of language header)) ≡ Err fault
faulty_header header fault is = ap (λ h. ok_map kept_plan (ok_map plan_of (script_of language h))) is

-- ---- `together` said once more

abbrev planned : Result (Script Opening Command) ScriptFault → Result Plan ScriptFault
planned given = ok_map kept_plan (ok_map plan_of given)

pub said_more : (line : ℕ) (given : Result (Script Opening Command) ScriptFault) (plan : Plan) → planned given ≡ Ok plan → planned (said_once (Some line) given) ≡ Err (at_line line)
said_more line (Ok script) plan is = refl
said_more line (Err fault) plan is = cc

same_fault : (given : Result (Script Opening Command) ScriptFault) (fault : ScriptFault) → planned given ≡ Err fault → given ≡ Err fault
same_fault (Ok script) fault is = cc
same_fault (Err other) fault is = let same : Err other ≡ Err fault = is in cc

-- a script that is faulty in any case
pub faulty : (second : Option ℕ) (error : ScriptError) (given : Result (Script Opening Command) ScriptFault) → GivesScript {A = Plan} (Err error) (planned given)
    → GivesScript {A = Plan} (Err (first_error second error)) (planned (said_once second given))
faulty None (script.Faulty fault) given is = is
faulty (Some line) (script.Faulty fault) given is = ap (λ r. planned (said_once (Some line) r)) (same_fault given fault is)
faulty None script.Memory given is = tt
faulty (Some line) script.Memory given is = tt

-- a line was faulty, or memory ran out at it
pub faulty_jobs : (settings : Opening) (rest : Pending) (lines : JobLines) (header : Result (Headed Opening) ScriptFault) (error : ScriptError)
    → lines ≡ record { last_server = settings.servers - 1 } → header ≡ Ok (record { value = settings; rest = rest }) → GivesJobs (Err error) (owns (commands lines) rest)
    → GivesScript {A = Plan} (Err error) (planned (script_of language header))
faulty_jobs settings rest lines header (script.Faulty fault) places is wrong = faulty_lines settings rest lines header fault places is wrong
faulty_jobs settings rest lines header script.Memory places is wrong = tt
