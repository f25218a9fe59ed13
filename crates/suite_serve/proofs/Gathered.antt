-- The jobs of lines, gathered line by line.
use Rattle.suite_serve.proofs.Vocabulary.{◌≡◌, ◌∙◌, ap, ap₂, sym, refl, arith, ℕ, ◌+◌, suc, List, [], ◌∷◌, ◌++◌, length, Option, Some, None, Result, Ok, Err}
use Rattle.suite_serve.proofs.Vocabulary.{unwrap_or, length-append, ok_map, with_own, Checks, fault_of, ScriptError, ScriptFault, above_together, jobs_of}
use Rattle.suite_serve.proofs.Vocabulary.{GivesJobs, jobs_and_alone, Command, Together}
use Rattle.std.proofs.lemmas.List.{append-nil, append_assoc}
use Rattle.suite_serve.specs.declared.command.Command.TheVariants.{Job}
use Rattle.txn_core.specs.declared.job.Job as jobs
use Rattle.suite_script.specs.declared.fault.ScriptError.TheVariants as script

-- the jobs that were gathered, with those of the lines that are left, and how many stand above `together`
abbrev pub jobs_after : List jobs.Job → Option ℕ → List Command → List jobs.Job × ℕ
jobs_after gathered alone [] = (gathered, unwrap_or alone (length gathered))
jobs_after gathered alone (Job job ∷ more) = jobs_after (gathered ++ job ∷ []) alone more
jobs_after gathered alone (Together ∷ more) = jobs_after gathered (Some (unwrap_or alone (length gathered))) more

no_more : (alone : Option ℕ) (count : ℕ) → unwrap_or alone count ≡ unwrap_or alone (count + 0)
no_more alone count = ap (unwrap_or alone) (omega arith)

after_are : (gathered : List jobs.Job) (alone : Option ℕ) (lines : List Command)
    → jobs_after gathered alone lines ≡ (gathered ++ jobs_of lines, unwrap_or alone (length gathered + above_together lines))
after_are gathered alone [] = λ i. (sym (append-nil gathered) i, no_more alone (length gathered) i)
after_are gathered alone (Job job ∷ more) =
    let count : length (gathered ++ job ∷ []) + above_together more ≡ length gathered + suc (above_together more) = simp length-append (omega arith) in
    after_are (gathered ++ job ∷ []) alone more
    ∙ ap₂ (λ (all : List jobs.Job) (n : ℕ). (all, n)) (append_assoc gathered (job ∷ []) (jobs_of more)) (ap (unwrap_or alone) count)
after_are gathered alone (Together ∷ more) =
    after_are gathered (Some (unwrap_or alone (length gathered))) more
    ∙ ap (λ (n : ℕ). (gathered ++ jobs_of more, n)) (no_more alone (length gathered))

pub all_are : (given : Result (List Command) ScriptFault) → ok_map (jobs_after [] None) given ≡ ok_map jobs_and_alone given
all_are (Ok lines) = ap Ok (after_are [] None lines) ∙ ap (λ (n : ℕ). Ok (jobs_of lines, n)) (omega arith)
all_are (Err fault) = refl

-- ---- one line more

pub one_job : (gathered : List jobs.Job) (alone : Option ℕ) (job : jobs.Job) (later : Result (List Command) ScriptFault)
    → ok_map (jobs_after gathered alone) (with_own (Job job) later) ≡ ok_map (jobs_after (gathered ++ job ∷ []) alone) later
one_job gathered alone job (Ok lines) = refl
one_job gathered alone job (Err fault) = refl

pub one_together : (gathered : List jobs.Job) (alone : Option ℕ) (later : Result (List Command) ScriptFault)
    → ok_map (jobs_after gathered alone) (with_own Together later) ≡ ok_map (jobs_after gathered (Some (unwrap_or alone (length gathered)))) later
one_together gathered alone (Ok lines) = refl
one_together gathered alone (Err fault) = refl

-- a fault that is met is the first of all
pub first_fault : (gathered : List jobs.Job) (alone : Option ℕ) (left given : Result (List Command) ScriptFault) (fault : ScriptFault)
    → ok_map (jobs_after gathered alone) left ≡ ok_map (jobs_after [] None) given → left ≡ Err fault → given ≡ Err fault
first_fault gathered alone left (Ok lines) fault same is = let bad : Err fault ≡ Ok (jobs_after [] None lines) = sym (ap (ok_map (jobs_after gathered alone)) is) ∙ same in cc
first_fault gathered alone left (Err other) fault same is = let met : Err fault ≡ ok_map (jobs_after [] None) (Err other) = sym (ap (ok_map (jobs_after gathered alone)) is) ∙ same in cc

-- a fault that is found below a line is the first of all
pub fault_below : (gathered : List jobs.Job) (alone : Option ℕ) (own : Command) (left later given : Result (List Command) ScriptFault) (error : ScriptError)
    → ok_map (jobs_after gathered alone) left ≡ ok_map (jobs_after [] None) given → left ≡ with_own own later → Checks (Err error) (fault_of later) → GivesJobs (Err error) given
fault_below gathered alone own left (Ok lines) given (script.Faulty fault) same next checks = cc
fault_below gathered alone own left (Err other) given (script.Faulty fault) same next checks =
    let found : Some other ≡ Some fault = checks in
    let faulty : left ≡ Err fault = next ∙ cc in
    first_fault gathered alone left given fault same faulty
fault_below gathered alone own left later given script.Memory same next checks = tt
