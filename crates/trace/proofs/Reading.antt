-- A script that is read again once it was looked through.
use Rattle.std.proofs.Common.{◌≡◌, ℕ, true, List, [], ◌++◌, Option, Some, None, Result, Ok, Err, append-nil, refl, ◌∙◌, ap, sym, subst}
use Rattle.std.proofs.lemmas.Bool.{false≢true}
use Rattle.std.specs.Prelude.{IsErr, IsErrAnd}
use Rattle.byte_streams.specs.Streams.{Adds, one_more}
use Rattle.suite_play.proofs.KeptLines.{kept_output}
use Rattle.suite_play.proofs.Lines.{kept_language}
use Rattle.suite_play.specs.Headers.{header}
use Rattle.suite_play.specs.Outputs.{language, lines_of, places_of, play_output}
use Rattle.suite_play.specs.code.Kept.{commands}
use Rattle.suite_play.specs.declared.command.Command.{Command}
use Rattle.suite_play.specs.declared.places.Places.{Places}
use Rattle.suite_prefix.specs.SettingsRules.{Opening}
use Rattle.suite_script.proofs.Gathering.{adds_both, failed}
use Rattle.suite_script.specs.Gathering.{WroteSoFar}
use Rattle.suite_script.specs.Outputs.{Output, Done, Faulty, Finds, is_done, script_output}
use Rattle.suite_script.specs.Progress.{GivesOwn, Heads, fault_of}
use Rattle.suite_script.specs.Readings.{play_error_of}
use Rattle.suite_script.specs.Scripts.{Pending, owns, script_of, scripted, whole, with_own}
use Rattle.suite_script.specs.declared.fault.ScriptError.{ScriptError}
use Rattle.suite_script.specs.declared.fault.ScriptError.TheVariants as script
use Rattle.suite_script.specs.declared.fault.ScriptFault.{ScriptFault}
use Rattle.suite_script.specs.declared.play_error.PlayError.{PlayError}
use Rattle.suite_script.specs.declared.play_error.PlayError.TheVariants as play
use Rattle.trace.specs.Traced.{Ends, TellsEnd, TellsOf, Traces}
use Rattle.trace.specs.code.Reading.{AddsSome, Opens, Reads, left_in}
use Rattle.trace.specs.declared.tracer.Script.{Script}

-- ---- some text is written

pub some_of : (told after : Option (List ℕ)) (text left : List ℕ) → WroteSoFar told text left after → AddsSome told after
some_of told after text left so = record { text = so.front; added = so.added }

adds_nothing : (told : Option (List ℕ)) → Adds told [] told
adds_nothing None = tt
adds_nothing (Some text) = ap Some (sym (append-nil text))

pub some_none : (told : Option (List ℕ)) → AddsSome told told
some_none told = record { text = []; added = adds_nothing told }

pub some_more : (told now after : Option (List ℕ)) → AddsSome told now → AddsSome now after → AddsSome told after
some_more told now after first later =
    record { text = first.text ++ later.text; added = adds_both told now after first.text later.text first.added later.added }

pub some_written : (told now after : Option (List ℕ)) (text left : List ℕ) → AddsSome told now → WroteSoFar now text left after → AddsSome told after
some_written told now after text left some so = some_more told now after some (some_of now after text left so)

pub some_added : (told now after : Option (List ℕ)) (text : List ℕ) → AddsSome told now → Adds now text after → AddsSome told after
some_added told now after text some added = some_more told now after some (record { text = text; added = added })

-- ---- a header

pub opened : (before after : Pending) (text : List ℕ) (settings : Opening) → before ≡ whole text → Heads {A = Opening} (Ok settings) after (header before)
    → header (whole text) ≡ Ok (record { value = settings; rest = after })
opened before after text settings same read = ap header (sym same) ∙ read

unread : (error : ScriptError) (before after : Pending) (text : List ℕ) → before ≡ whole text → Heads {A = Opening} (Err error) after (header before) → Opens (Err error) (header (whole text))
unread (script.Faulty fault) before after text same read = ap header (sym same) ∙ read
unread script.Memory before after text same read = tt

pub not_opened : (result : Result Script ScriptError) (error : ScriptError) (before after : Pending) (text : List ℕ) → IsErr result × IsErrAnd result (λ e. e ≡ error) → before ≡ whole text
    → Heads {A = Opening} (Err error) after (header before) → Opens result (header (whole text))
not_opened result error before after text fails same read = rw (failed result error fails) (unread error before after text same read)

-- ---- the lines that are left

-- a line more was read
read_on : (own : Command) (before after : Result (List Command) ScriptFault) → before ≡ with_own own after → fault_of after ≡ fault_of before
read_on own before (Ok later) is = sym (ap fault_of is)
read_on own before (Err fault) is = sym (ap fault_of is)

read_more : (own : Command) (settings now : Opening) (before after : Pending) (fault : Option ScriptFault) → left_in settings before ≡ with_own own (left_in settings after)
    → now ≡ settings → fault_of (left_in settings before) ≡ fault → fault_of (left_in now after) ≡ fault
read_more own settings now before after fault is same first =
    ap (λ one. fault_of (left_in one after)) same ∙ read_on own (left_in settings before) (left_in settings after) is ∙ first

pub read_given : (next : Option Command) (own : Command) (settings now : Opening) (before after : Pending) (fault : Option ScriptFault) → next ≡ Some own
    → GivesOwn {A = Command} (Ok next) (left_in settings before) (left_in settings after) → now ≡ settings → fault_of (left_in settings before) ≡ fault
    → fault_of (left_in now after) ≡ fault
read_given next own settings now before after fault is gives same first =
    let given = subst (λ (one : Option Command). GivesOwn {A = Command} (Ok one) (left_in settings before) (left_in settings after)) is gives in
    read_more own settings now before after fault given same first

-- a line could not be read
read_stops : (error : ScriptError) (before after : Result (List Command) ScriptFault) (fault : Option ScriptFault) (told now : Option (List ℕ)) (failures failures_now : ℕ)
    → GivesOwn {A = Command} (Err error) before after → fault_of before ≡ fault → AddsSome told now → failures_now ≡ failures
    → Reads (Err (play_error_of error)) fault told now failures failures_now
read_stops (script.Faulty given) before after fault told now failures failures_now is same some kept = sym same ∙ ap fault_of is
read_stops script.Memory before after fault told now failures failures_now is same some kept = (some, kept)

pub reads_stopped : (result : Result (Unit {0}) PlayError) (error : ScriptError) (before after : Result (List Command) ScriptFault) (fault : Option ScriptFault)
    (told now : Option (List ℕ)) (failures failures_now : ℕ) → IsErr result × IsErrAnd result (λ e. e ≡ play_error_of error) → GivesOwn {A = Command} (Err error) before after
    → fault_of before ≡ fault → AddsSome told now → failures_now ≡ failures → Reads result fault told now failures failures_now
reads_stopped result error before after fault told now failures failures_now fails is same some kept =
    rw (failed result (play_error_of error) fails) (read_stops error before after fault told now failures failures_now is same some kept)

-- memory ran out, or a write failed, or another error is handed on
pub reads_memory : (result : Result (Unit {0}) PlayError) (fault : Option ScriptFault) (told now : Option (List ℕ)) (failures failures_now : ℕ)
    → IsErr result × IsErrAnd result (λ e. e ≡ play.Memory) → AddsSome told now → failures_now ≡ failures → Reads result fault told now failures failures_now
reads_memory result fault told now failures failures_now fails some kept = rw (failed result play.Memory fails) (some, kept)

pub reads_unwritten : (result : Result (Unit {0}) PlayError) (fault : Option ScriptFault) (told now : Option (List ℕ)) (failures failures_now failures_after : ℕ)
    → IsErr result × IsErrAnd result (λ e. e ≡ play.WriteFailed) → failures_now ≡ failures → failures_after ≡ one_more failures_now → Reads result fault told now failures failures_after
reads_unwritten result fault told now failures failures_now failures_after fails kept more = rw (failed result play.WriteFailed fails) (more ∙ ap one_more kept)

pub reads_handed : (result : Result (Unit {0}) PlayError) (error : PlayError) (fault : Option ScriptFault) (told now : Option (List ℕ)) (failures failures_now : ℕ)
    → IsErr result × IsErrAnd result (λ e. e ≡ error) → Reads (Err error) fault told now failures failures_now → Reads result fault told now failures failures_now
reads_handed result error fault told now failures failures_now fails reads = rw (failed result error fails) reads

-- the next line, by the places of a header
pub next_gives : (places : Places) (settings : Opening) (result : Result (Option Command) ScriptError) (before after : Pending) → places ≡ places_of settings
    → GivesOwn result (owns (commands places) before) (owns (commands places) after) → GivesOwn result (left_in settings before) (left_in settings after)
next_gives places settings result before after same gives =
    subst (λ (one : Places). GivesOwn result (owns (commands one) before) (owns (commands one) after)) same gives

-- ---- a script that has no fault

-- no line of it has one
faultless_in : (settings : Opening) (left : Result (List Command) ScriptFault) → is_done (script_output lines_of (scripted settings left)) ≡ true → fault_of left ≡ None
faultless_in settings (Ok later) done = refl
faultless_in settings (Err fault) done = absurd (false≢true done)

pub faultless : (text : List ℕ) (settings : Opening) (rest : Pending) → header (whole text) ≡ Ok (record { value = settings; rest = rest })
    → is_done (play_output text) ≡ true → fault_of (left_in settings rest) ≡ None
faultless text settings rest read done =
    let same : script_output lines_of (scripted settings (left_in settings rest)) ≡ play_output text =
    sym (ap (λ one. script_output lines_of (script_of kept_language one)) read) ∙ kept_output (header (whole text))
    in
    faultless_in settings (left_in settings rest) (ap is_done same ∙ done)

-- any text may be told of it
any_of : (output : Output) (told after : Option (List ℕ)) → is_done output ≡ true → AddsSome told after → TellsOf output told after
any_of (Done text) told after done some = record { told = some.text; may = tt; added = some.added }
any_of (Faulty line) told after done some = absurd (false≢true done)

-- what came of it is no fault
pub told_of_faultless : (result : Result (Unit {0}) PlayError) (fault : Option ScriptFault) (output : Output) (told after : Option (List ℕ)) (failures failures_after : ℕ)
    → fault ≡ None → is_done output ≡ true → Reads result fault told after failures failures_after → Traces result output told after failures failures_after
told_of_faultless (Ok nothing) fault output told after failures failures_after none done reads = (done, (any_of output told after done reads.0, reads.1))
told_of_faultless (Err (play.Faulty given)) fault output told after failures failures_after none done reads = cc
told_of_faultless (Err play.WriteFailed) fault output told after failures failures_after none done reads = (done, reads)
told_of_faultless (Err play.Memory) fault output told after failures failures_after none done reads = (any_of output told after done reads.0, reads.1)

-- ---- a script that is looked through

nothing_of : (output : Output) (told : Option (List ℕ)) → TellsOf output told told
nothing_of (Done text) told = record { told = []; may = tt; added = adds_nothing told }
nothing_of (Faulty line) told = record { told = []; may = refl; added = adds_nothing told }

-- what that found, where it is an error
pub looked_through : (error : ScriptError) (output : Output) (told : Option (List ℕ)) (failures : ℕ) → Finds (Err error) output → Traces (Err (play_error_of error)) output told told failures failures
looked_through (script.Faulty fault) output told failures is = (is, (refl, refl))
looked_through script.Memory output told failures is = (nothing_of output told, refl)

-- a header that could not be read is the fault that is told
pub unopened : (error : ScriptError) (text : List ℕ) → Opens (Err error) (header (whole text)) → Finds (Err error) (play_output text)
unopened (script.Faulty fault) text is = ap (λ one. script_output lines_of (script_of language one)) is
unopened script.Memory text is = tt

-- ---- the program

pub ended : (text : List ℕ) (came : Result (Unit {0}) PlayError) (before now after : Option (List ℕ)) (failures failures_now failures_after status : ℕ)
    → Traces came (play_output text) before now failures failures_now → TellsEnd came status now after failures_now failures_after → Ends text before after failures failures_after status
ended text came before now after failures failures_now failures_after status traced told_end =
    record { came = came; now = now; failures_now = failures_now; traced = traced; ended = told_end }
