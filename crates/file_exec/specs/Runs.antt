-- A course followed step by step on what is known: the form for code, which goes one look after another. It is the executor's.
use Rattle.std.specs.Prelude.{◌≡◌, ℕ, ◌||◌, if◌then◌else◌, List, [], ◌∷◌, Ok, Err}
use Rattle.acl_core.specs.Identity.{Identity}
use Rattle.file_ops.specs.declared.operation.Op.{Op}
use Rattle.file_ops.specs.declared.service.Service.{Service}
use Rattle.suite_prefix.specs.declared.lock_mode.LockMode.TheVariants.{Exclusive}
use Rattle.file_exec.specs.Courses.{Course, Give, Refuse, Look, Read, Set}
use Rattle.file_exec.specs.Operations.{transaction}
use Rattle.file_exec.specs.declared.need.Need.TheVariants.{Hold, Know}
use Rattle.file_exec.specs.Following.{Edits, is_set, looked, content_read}
use Rattle.file_exec.specs.Known.{Known, known_rows, is_met, Heard, Needs, Done, exec_of}

-- what it comes to after these edits
abbrev pub run : {A E : Type 0} → Known → Edits → Course A E → Heard A E
run known edits (Give given) = Done (Ok (record { given = given; edits = edits }))
run known edits (Refuse why) = Done (Err why)
run known edits (Look suite mode later) =
    if is_met known (Hold suite mode) then run known edits (later (looked (known_rows known) edits suite)) else Needs (Hold suite mode)
run known edits (Read suite later) =
    if is_set edits suite || is_met known (Know suite)
    then run known edits (later (content_read (known_rows known) edits suite))
    else Needs (Know suite)
run known edits (Set suite edit later) =
    if is_met known (Hold suite Exclusive) then run known ((suite, edit) ∷ edits) later else Needs (Hold suite Exclusive)

-- what follows on what a course came to
abbrev pub then_run : {A B E : Type 0} → Known → (A → Course B E) → Heard A E → Heard B E
then_run known next (Needs need) = Needs need
then_run known next (Done (Ok ended)) = run known ended.edits (next ended.given)
then_run known next (Done (Err why)) = Done (Err why)

-- the executor runs a transaction
abbrev pub ExecRuns : Type 0
ExecRuns = (service : Service) (known : Known) (t : ℕ) (caller : Identity) (ops : List Op) → exec_of service known t caller ops ≡ run known [] (transaction service t caller ops)
