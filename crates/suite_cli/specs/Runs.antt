-- What a command that ended has done.
use Rattle.std.specs.Prelude.{◌≡◌, Bool, true, false, alloc_error, Vec, ℕ, ◌≤◌, ◌⊎◌, List, ◌++◌, length, Option, Some, None, Result, Ok, Err}
use Rattle.byte_streams.specs.Endings.{Finishes, SaysMemory, bad_words, done, faulty, max_input, memory_line, no_memory, no_stream}
use Rattle.byte_streams.specs.Programs.{IsReadWithin, LacksMemory, StoppedUnread, Streams}
use Rattle.byte_streams.specs.Streams.{Adds, one_more}
use Rattle.run_certify.specs.declared.fault.CertifyFault.{CertifyFault}
use Rattle.run_certify.specs.declared.fault.CertifyFault.TheVariants as certify
use Rattle.suite_args.specs.CommandLine.{Asked, agents_of}
use Rattle.suite_args.specs.CommandLine as asked
use Rattle.suite_script.specs.Faults.{fault_line}
use Rattle.suite_script.specs.Outputs.{Output, Done, Faulty, IsBegun}
use Rattle.suite_script.specs.Scripts.{no_names}
use Rattle.suite_cli.specs.Names.{names_from}
use Rattle.suite_script.specs.declared.fault.ScriptFault.{ScriptFault}
use Rattle.suite_serve.specs.Scripts.{Plan, plan_in}
use Rattle.suite_serve.specs.Served.{Came, IsServed, job_lines}
use Rattle.suite_serve.specs.code.Kept.{kept_plan}
use Rattle.suite_cli.specs.Outputs.{acl_output, certified_line, command_line_fault, mismatch_line, script_output_of, text_fault_line, word_fault_line}
use Rattle.suite_cli.specs.declared.command_error.CommandError.{CommandError}
use Rattle.suite_cli.specs.declared.command_error.CommandError.TheVariants as error
use Rattle.std.specs.declared.alloc.AllocError.{AllocError}
use Rattle.std.specs.declared.alloc.Global.{Global}
use Rattle.acl_text.specs.declared.names.NameError.{NameError}
use Rattle.acl_text.specs.declared.names.NameError.TheVariants as name
use Rattle.acl_text.specs.Tables.{Tables}

-- the status where what was done is no run
abbrev pub mismatched : ℕ
mismatched = 5

-- all that is written for an output, with its status
abbrev pub Writes : Output → ℕ → Option (List ℕ) → Option (List ℕ) → Type 0
Writes (Done text) status before after = (status ≡ done) × Adds before text after
Writes (Faulty text) status before after = (status ≡ faulty) × Adds before text after

-- a write failed and was counted
abbrev pub WriteFailed : Streams → Type 0
WriteFailed streams = streams.failed_writes_after ≡ one_more streams.failed_writes

-- nothing was written, since a read failed and was counted or the input passed its limit; or a write failed
abbrev pub StreamFailed : List ℕ → Streams → Type 0
StreamFailed input streams = StoppedUnread input streams ⊎ WriteFailed streams

-- memory ran out, and that was said: behind the front of an output, which is empty where the output tells a fault; or a write failed
abbrev pub BreaksOff : Output → Streams → ℕ → Type 0
BreaksOff output streams status =
    (status ≡ no_memory)
    × (((front : List ℕ) × (IsBegun output front × Adds streams.written (front ++ memory_line) streams.written_after))
    ⊎ WriteFailed streams)

-- for the input that a stream tells, which is within the limit, all of the command's output is written with its status; or memory
-- ran out, and it is not the input that failed; or a stream failed
abbrev pub RunsOn : (List ℕ → Output) → Streams → ℕ → Option (List ℕ) → Type 0
RunsOn output streams status None = Unit {0}
RunsOn output streams status (Some input) =
    ((length input ≤ max_input) × Writes (output input) status streams.written streams.written_after)
    ⊎ ((BreaksOff (output input) streams status × IsReadWithin input streams) ⊎ ((status ≡ no_stream) × StreamFailed input streams))

abbrev pub Runs : (List ℕ → Output) → Streams → ℕ → Type 0
Runs output streams status = RunsOn output streams status streams.input

-- nothing was read
abbrev pub IsUnread : Streams → Type 0
IsUnread streams = (streams.input_after ≡ streams.input) × (streams.failed_reads_after ≡ streams.failed_reads)

-- the words were refused with this line
abbrev pub Refuses : List ℕ → Streams → ℕ → Type 0
Refuses line streams status =
    IsUnread streams
    × (LacksMemory streams status
    ⊎ Finishes line bad_words status streams.written streams.written_after streams.failed_writes streams.failed_writes_after)

-- some text on how to use the program was written; nothing is said of that text
abbrev pub Helps : Streams → ℕ → Type 0
Helps streams status =
    IsUnread streams
    × (((status ≡ done) × ((text : List ℕ) × Adds streams.written text streams.written_after))
    ⊎ (LacksMemory streams status ⊎ ((status ≡ no_stream) × WriteFailed streams)))

-- `acl` has run under the names of its words; or a name was bad, and the line of its place was written
abbrev pub RunsAcl : Result Tables ℕ → Streams → ℕ → Type 0
RunsAcl (Ok names) streams status = Runs (acl_output names) streams status
RunsAcl (Err place) streams status = Refuses (word_fault_line place) streams status

-- ---- `serve`

-- of an output that is not gathered first: it was written whole, with its status; or memory ran out on the way, and that was said; or a write failed
abbrev pub Tells : Output → ℕ → Option (List ℕ) → Option (List ℕ) → ℕ → ℕ → Type 0
Tells output status before after failures failures_after =
    Writes output status before after
    ⊎ (((status ≡ no_memory) × (((front : List ℕ) × (IsBegun output front × Adds before (front ++ memory_line) after)) ⊎ (failures_after ≡ one_more failures)))
    ⊎ ((status ≡ no_stream) × (failures_after ≡ one_more failures)))

-- what is printed for jobs: a line for each, of what came of them in one run of servers and agents, and last how many requests were served in it
abbrev pub Prints : Plan → Output → Type 0
Prints plan output = (came : Came) × (IsServed plan came × (output ≡ Done (job_lines came.ends ++ certified_line came.steps)))

-- jobs were carried out, and what came of them was told; or that it was no run, and nothing else; or memory ran out before
abbrev pub Concludes : Plan → ℕ → Option (List ℕ) → Option (List ℕ) → ℕ → ℕ → Type 0
Concludes plan status before after failures failures_after =
    ((output : Output) × (Prints plan output × Tells output status before after failures failures_after))
    ⊎ (Finishes mismatch_line mismatched status before after failures failures_after
    ⊎ ((status ≡ no_memory) × SaysMemory before after failures failures_after))

-- a script was read: it was carried out; or its first fault was told
abbrev pub ServesScript : Result Plan ScriptFault → ℕ → Option (List ℕ) → Option (List ℕ) → ℕ → ℕ → Type 0
ServesScript (Ok plan) status before after failures failures_after = Concludes (kept_plan plan) status before after failures failures_after
ServesScript (Err fault) status before after failures failures_after = Tells (Faulty (fault_line fault)) status before after failures failures_after

-- for the input that a stream tells, which is within the limit, the script that it has was served; or memory ran out before, and it is not the input that
-- failed; or a stream failed
abbrev pub ServesOn : ℕ → Streams → ℕ → Option (List ℕ) → Type 0
ServesOn agents streams status None = Unit {0}
ServesOn agents streams status (Some input) =
    ((length input ≤ max_input) × ServesScript (plan_in agents input) status streams.written streams.written_after streams.failed_writes streams.failed_writes_after)
    ⊎ ((LacksMemory streams status × IsReadWithin input streams) ⊎ ((status ≡ no_stream) × StreamFailed input streams))

-- the script that the input has was carried out by so many agents
abbrev pub Serves : ℕ → Streams → ℕ → Type 0
Serves agents streams status = ServesOn agents streams status streams.input

-- where the words tell how many agents there are
abbrev pub ServesBy : Option ℕ → Streams → ℕ → Type 0
ServesBy (Some agents) streams status = Serves agents streams status
ServesBy None streams status = Refuses command_line_fault streams status

-- the last line of `serve` was written
abbrev pub Reports : Result ℕ CertifyFault → ℕ → Option (List ℕ) → Option (List ℕ) → ℕ → ℕ → Type 0
Reports (Ok steps) status before after failures failures_after =
    Finishes (certified_line steps) done status before after failures failures_after ⊎ ((status ≡ no_memory) × SaysMemory before after failures failures_after)
Reports (Err certify.Mismatch) status before after failures failures_after = Finishes mismatch_line mismatched status before after failures failures_after
Reports (Err certify.Memory) status before after failures failures_after = (status ≡ no_memory) × SaysMemory before after failures failures_after

-- ---- all commands

-- what the words ask for was done
abbrev pub Does : Asked → Streams → ℕ → Type 0
Does (asked.plays script) streams status = Runs (script_output_of script) streams status
Does (asked.acl names) streams status = RunsAcl (names_from 1 no_names names) streams status
Does (asked.serves text) streams status = ServesBy (agents_of text) streams status
Does asked.help streams status = Helps streams status
Does asked.topic streams status = Helps streams status ⊎ Refuses command_line_fault streams status
Does asked.nothing streams status = Refuses command_line_fault streams status

-- what the words of `acl` said: names, or the place of a bad one
abbrev pub GivesNames : Result Tables CommandError → Result Tables ℕ → Type 0
GivesNames (Ok names) given = given ≡ Ok names
GivesNames (Err (error.BadWord place)) given = given ≡ Err place
GivesNames (Err error.Memory) given = Unit {0}
GivesNames (Err other) given = ⊥

abbrev pub GivesName : Result Bool AllocError → Tables → Option Tables → Type 0
GivesName (Ok true) after given = given ≡ Some after
GivesName (Ok false) after given = given ≡ None
GivesName (Err error) after given = Unit {0}

-- whether a name was added
abbrev pub is_added : Result (Unit {0}) NameError → Result Bool AllocError
is_added (Ok nothing) = Ok true
is_added (Err name.Memory) = Err alloc_error
is_added (Err error) = Ok false

-- a list's text was printed anew, or is faulty
abbrev pub GivesList : Result (Vec ℕ Global) CommandError → Output → Type 0
GivesList (Ok text) output = output ≡ Done text.items
GivesList (Err (error.List fault)) output = output ≡ Faulty (text_fault_line fault)
GivesList (Err error.Memory) output = Unit {0}
GivesList (Err other) output = ⊥
