-- What `serve` has done.
use Rattle.std.proofs.Common.{◌≡◌, ◌∙◌, ap, sym, refl, subst, inl, inr, ℕ, ◌≤◌, List, [], ◌++◌, length, append_assoc, append-nil, Option, Some, None, Result, Ok, Err}
use Rattle.byte_streams.specs.Endings.{Finishes, SaysMemory, faulty, max_input, memory_line, no_memory}
use Rattle.byte_streams.specs.Streams.{Adds, one_more}
use Rattle.byte_streams.specs.Whole.{Explains, IsWhole, RanOut}
use Rattle.byte_streams.specs.declared.reading.ReadError.{ReadError}
use Rattle.byte_streams.specs.declared.reading.ReadError.TheVariants as read
use Rattle.file_ops.specs.Steps.{ok_map}
use Rattle.suite_script.proofs.Gathering.{adds_both}
use Rattle.suite_script.specs.Faults.{fault_line}
use Rattle.suite_script.specs.Gathering as gathering
use Rattle.suite_script.specs.Outputs.{Done}
use Rattle.suite_script.specs.declared.fault.ScriptFault.{ScriptFault}
use Rattle.suite_script.specs.declared.fault.ScriptError.{ScriptError}
use Rattle.suite_script.specs.declared.fault.ScriptError.TheVariants as script
use Rattle.suite_script.specs.declared.play_error.PlayError.{PlayError}
use Rattle.suite_script.specs.declared.play_error.PlayError.TheVariants as play
use Rattle.suite_cli.proofs.Ran.{IsReadable, lack_readable, whole_readable}
use Rattle.suite_cli.specs.Outputs.{certified_line}
use Rattle.byte_streams.specs.Programs.{LacksMemory, Streams}
use Rattle.suite_cli.specs.Runs.{Concludes, Reports, ServesOn, ServesScript, Tells}
use Rattle.suite_cli.specs.code.Errors.{Told, of_play, of_read, of_script}
use Rattle.suite_serve.specs.Readings.{GivesScript}
use Rattle.suite_serve.specs.Scripts.{Plan, plan_in}
use Rattle.suite_serve.specs.Served.{Came, IsServed, job_lines}
use Rattle.suite_serve.specs.code.Kept.{kept_plan}

-- ---- a script whose jobs were carried out

abbrev whole : Came → List ℕ
whole came = job_lines came.ends ++ certified_line came.steps

pub concludes : (plan : Plan) (came : Came) (status : ℕ) (before after : Option (List ℕ)) (failures failures_after : ℕ) → IsServed plan came → Tells (Done (whole came)) status before after failures failures_after
    → Concludes plan status before after failures failures_after
concludes plan came status before after failures failures_after served tells = inl (Done (whole came), ((came, (served, refl)), tells))

-- its lines were written, and then the last one, or that memory ran out
pub reported : (came : Came) (status : ℕ) (before now after : Option (List ℕ)) (failures failures_now failures_after : ℕ)
    → gathering.Prints (Ok tt) (job_lines came.ends) [] before now failures failures_now → Reports (Ok came.steps) status now after failures_now failures_after
    → Tells (Done (whole came)) status before after failures failures_after
reported came status before now after failures failures_now failures_after prints reports =
    let so = prints.0 in
    let lines : Adds before (job_lines came.ends) now = subst (λ (text : List ℕ). Adds before text now) (sym (append-nil so.front) ∙ so.cut) so.added in
    elim reports [
      | inl finishes ↦ elim finishes [
        | inl all ↦ inl (all.0, adds_both before now after (job_lines came.ends) (certified_line came.steps) lines all.1)
        | inr failed ↦ inr (inr (failed.0, failed.1 ∙ ap one_more prints.1))
      ]
      | inr lacks ↦ inr (inl (
        lacks.0,
        elim lacks.1 [
          | inl added ↦ inl (job_lines came.ends, ((certified_line came.steps, refl), adds_both before now after (job_lines came.ends) memory_line lines added))
          | inr failed ↦ inr (failed ∙ ap one_more prints.1)
        ],
      ))
    ]

-- memory ran out among its lines
broken_off : (came : Came) (status : ℕ) (before now after : Option (List ℕ)) (failures failures_now failures_after : ℕ)
    → gathering.Prints (Err play.Memory) (job_lines came.ends) [] before now failures failures_now → status ≡ no_memory → SaysMemory now after failures_now failures_after
    → Tells (Done (whole came)) status before after failures failures_after
broken_off came status before now after failures failures_now failures_after prints is says =
    let so = prints.0.1 in
    let rest = prints.0.0 in
    let begun = sym (append_assoc so.front rest (certified_line came.steps)) ∙ ap (λ (text : List ℕ). text ++ certified_line came.steps) so.cut in
    inr (inl (
      is,
      elim says [
        | inl added ↦ inl (so.front, ((rest ++ certified_line came.steps, begun), adds_both before now after so.front memory_line so.added added))
        | inr failed ↦ inr (failed ∙ ap one_more prints.1)
      ],
    ))

-- its lines were not written to their end
pub not_written : (error : PlayError) (plan : Plan) (came : Came) (status : ℕ) (before now after : Option (List ℕ)) (failures failures_now failures_after : ℕ) → IsServed plan came
    → gathering.Prints (Err error) (job_lines came.ends) [] before now failures failures_now
    → Told (of_play error) status now after failures_now failures_after → Concludes plan status before after failures failures_after
not_written (play.Faulty fault) plan came status before now after failures failures_now failures_after served prints told = absurd prints
not_written play.WriteFailed plan came status before now after failures failures_now failures_after served prints told =
    concludes plan came status before after failures failures_after served (inr (inr (told.0, told.1.1 ∙ prints)))
not_written play.Memory plan came status before now after failures failures_now failures_after served prints told =
    concludes plan came status before after failures failures_after served (broken_off came status before now after failures failures_now failures_after prints told.0 told.1)

-- ---- a script that has a fault

told_fault : (fault : ScriptFault) (status : ℕ) (before after : Option (List ℕ)) (failures failures_after : ℕ) → Finishes (fault_line fault) faulty status before after failures failures_after
    → ServesScript (Err fault) status before after failures failures_after
told_fault fault status before after failures failures_after finishes = elim finishes [ inl all ↦ inl all | inr failed ↦ inr (inr failed) ]

-- ---- where nothing is told of the input

pub lacked : (agents : ℕ) (streams : Streams) (status : ℕ) (input : Option (List ℕ)) → IsReadable streams input → LacksMemory streams status → ServesOn agents streams status input
lacked agents streams status None readable lacks = tt
lacked agents streams status (Some input) readable lacks = inr (inl (lacks, readable))

pub unread : (error : ReadError) (agents : ℕ) (streams : Streams) (status : ℕ) (input : Option (List ℕ)) → Explains error input max_input streams.failed_reads streams.failed_reads_after
    → RanOut error input max_input streams.input_after streams.failed_reads streams.failed_reads_after
    → Told (of_read error) status streams.written streams.written_after streams.failed_writes streams.failed_writes_after → ServesOn agents streams status input
unread read.Memory agents streams status input explains ran told = lacked agents streams status input (lack_readable streams input ran) told
unread read.Failed agents streams status None explains ran told = tt
unread read.Failed agents streams status (Some input) explains ran told = inr (inr (told.0, inl (told.1, inl explains)))
unread read.TooLong agents streams status None explains ran told = tt
unread read.TooLong agents streams status (Some input) explains ran told = inr (inr (told.0, inl (told.1, inr explains)))

-- ---- after it was read

pub served_input : (agents : ℕ) (streams : Streams) (status : ℕ) (text : List ℕ) (input : Option (List ℕ)) → IsWhole input max_input text
    → ServesScript (plan_in agents text) status streams.written streams.written_after streams.failed_writes streams.failed_writes_after → ServesOn agents streams status input
served_input agents streams status text None whole serves = tt
served_input agents streams status text (Some input) whole serves =
    inl (subst (λ (one : List ℕ). (length one ≤ max_input) × ServesScript (plan_in agents one) status streams.written streams.written_after streams.failed_writes streams.failed_writes_after) whole.0 (whole.1, serves))

same_ok : (a b : Plan) (given : Result Plan ScriptFault) → given ≡ Ok a → given ≡ Ok b → a ≡ b
same_ok a b given one two = cc

same_err : (a b : ScriptFault) (given : Result Plan ScriptFault) → given ≡ Err a → given ≡ Err b → a ≡ b
same_err a b given one two = cc

no_ok : (fault : ScriptFault) (plan : Plan) (given : Result Plan ScriptFault) → given ≡ Err fault → given ≡ Ok plan → ⊥
no_ok fault plan given one two = cc

-- the plan that was read is the one that the script has
pub served_plan : (given : Result Plan ScriptFault) (plan : Plan) (status : ℕ) (before after : Option (List ℕ)) (failures failures_after : ℕ) → ok_map kept_plan given ≡ Ok plan
    → Concludes plan status before after failures failures_after → ServesScript given status before after failures failures_after
served_plan (Ok read) plan status before after failures failures_after is concludes = subst (λ (one : Plan). Concludes one status before after failures failures_after)
    (sym (same_ok (kept_plan read) plan (Ok (kept_plan read)) refl is)) concludes
served_plan (Err fault) plan status before after failures failures_after is concludes = absurd (no_ok fault plan (Err fault) refl is)

faulty_plan : (given : Result Plan ScriptFault) (fault : ScriptFault) (status : ℕ) (before after : Option (List ℕ)) (failures failures_after : ℕ) → ok_map kept_plan given ≡ Err fault
    → Finishes (fault_line fault) faulty status before after failures failures_after → ServesScript given status before after failures failures_after
faulty_plan (Ok read) fault status before after failures failures_after is finishes = absurd (no_ok fault (kept_plan read) (Ok (kept_plan read)) is refl)
faulty_plan (Err other) fault status before after failures failures_after is finishes =
    told_fault other status before after failures failures_after (subst (λ (one : ScriptFault). Finishes (fault_line one) faulty status before after failures failures_after) (sym (same_err other fault (Err other) refl is)) finishes)

-- the script was not read
pub not_scripted : (error : ScriptError) (agents : ℕ) (streams : Streams) (status : ℕ) (text : List ℕ) (input : Option (List ℕ)) → IsWhole input max_input text → streams.failed_reads_after ≡ streams.failed_reads
    → GivesScript (Err error) (ok_map kept_plan (plan_in agents text))
    → Told (of_script error) status streams.written streams.written_after streams.failed_writes streams.failed_writes_after → ServesOn agents streams status input
not_scripted (script.Faulty fault) agents streams status text input whole kept gives told =
    elim told [
      | inl finishes ↦ served_input agents streams status text input whole (faulty_plan (plan_in agents text) fault status streams.written streams.written_after streams.failed_writes streams.failed_writes_after gives finishes)
      | inr lacks ↦ lacked agents streams status input (whole_readable streams text input whole kept) lacks
    ]
not_scripted script.Memory agents streams status text input whole kept gives told = lacked agents streams status input (whole_readable streams text input whole kept) told
