-- What a command has done that reads its input.
use Rattle.std.proofs.Common.{arith, ◌≡◌, ℕ, ◌≤◌, List, [], length, Option, Some, None, Result, Ok, Err, refl, ◌∙◌, ap, sym, subst, inl, inr}
use Rattle.byte_streams.specs.Endings.{SaysMemory, TellsLine, done, faulty, max_input, memory_line, no_memory, no_stream}
use Rattle.byte_streams.specs.Streams.{Adds, one_more}
use Rattle.byte_streams.specs.Whole.{Explains, IsWhole, IsWithin, RanOut}
use Rattle.byte_streams.specs.declared.reading.ReadError.{ReadError}
use Rattle.byte_streams.specs.declared.reading.ReadError.TheVariants as read
use Rattle.suite_script.proofs.Gathering.{adds_both, begun_nothing}
use Rattle.suite_script.specs.Faults.{fault_line}
use Rattle.suite_script.specs.Gathering.{BrokeOff, Plays}
use Rattle.suite_script.specs.Outputs.{Output, Done, Faulty}
use Rattle.suite_script.specs.declared.play_error.PlayError.{PlayError}
use Rattle.suite_script.specs.declared.play_error.PlayError.TheVariants as play
use Rattle.suite_cli.specs.Outputs.{text_fault_line}
use Rattle.byte_streams.specs.Programs.{IsReadWithin, LacksMemory, Streams}
use Rattle.suite_cli.specs.Runs.{BreaksOff, GivesList, IsUnread, RunsOn, WriteFailed, Writes}
use Rattle.suite_cli.specs.code.Errors.{ComesTo, Told, of_play, of_read}
use Rattle.suite_cli.specs.declared.command_error.CommandError.{CommandError}
use Rattle.suite_cli.specs.declared.command_error.CommandError.TheVariants as error

-- ---- what a command comes to

-- a command that calls another comes to what that comes to
pub comes_to : {A B : ℕ → Option (List ℕ) → ℕ → Type 0} (result : Result ℕ CommandError) (written : Option (List ℕ)) (failures : ℕ)
    → ((status : ℕ) (after : Option (List ℕ)) (failures_after : ℕ) → A status after failures_after → B status after failures_after)
    → ComesTo result written failures A → ComesTo result written failures B
comes_to (Ok status) written failures each came = each status written failures came
comes_to (Err error) written failures each came = λ status after failures_after told. each status after failures_after (came status after failures_after told)

-- what is known of the streams, but for the input, which is told apart
abbrev pub streams_of : (left written after : Option (List ℕ)) (reads reads_after writes writes_after : ℕ) → Streams
streams_of left written after reads reads_after writes writes_after = record {
  input = None;
  input_after = left;
  written = written;
  written_after = after;
  failed_reads = reads;
  failed_reads_after = reads_after;
  failed_writes = writes;
  failed_writes_after = writes_after;
}

-- ---- what was read

-- it is not the input that failed
abbrev pub IsReadable : Streams → Option (List ℕ) → Type 0
IsReadable streams None = Unit {0}
IsReadable streams (Some input) = IsReadWithin input streams

-- where nothing was read
unread_within : (streams : Streams) (input : Option (List ℕ)) → streams.input_after ≡ input → streams.failed_reads_after ≡ streams.failed_reads → IsReadable streams input
unread_within streams None left same = tt
unread_within streams (Some input) left same = (inr (subst (λ (one : Option (List ℕ)). IsWithin (Some input) max_input one) (sym left) (omega arith)), same)

pub unread_readable : (streams : Streams) → IsUnread streams → IsReadable streams streams.input
unread_readable streams unread = unread_within streams streams.input unread.0 unread.1

-- where it was read whole
pub whole_readable : (streams : Streams) (text : List ℕ) (input : Option (List ℕ)) → IsWhole input max_input text → streams.failed_reads_after ≡ streams.failed_reads → IsReadable streams input
whole_readable streams text None whole same = tt
whole_readable streams text (Some input) whole same = (inl (subst (λ (one : List ℕ). length one ≤ max_input) whole.0 whole.1), same)

-- where memory ran out as it was read
pub lack_readable : (streams : Streams) (input : Option (List ℕ)) → RanOut read.Memory input max_input streams.input_after streams.failed_reads streams.failed_reads_after → IsReadable streams input
lack_readable streams None ran = tt
lack_readable streams (Some input) ran = (inr ran.0, ran.1)

-- ---- before the input was read

pub ran_out : (output : List ℕ → Output) (streams : Streams) (status : ℕ) (input : Option (List ℕ)) → IsReadable streams input → LacksMemory streams status → RunsOn output streams status input
ran_out output streams status None readable lacks = tt
ran_out output streams status (Some input) readable lacks =
    inr (inl ((lacks.0, elim lacks.1 [ inl added ↦ inl ([], (begun_nothing (output input), added)) | inr failed ↦ inr failed ]), readable))

pub not_read : (error : ReadError) (output : List ℕ → Output) (streams : Streams) (status : ℕ) (input : Option (List ℕ))
    → Explains error input max_input streams.failed_reads streams.failed_reads_after → RanOut error input max_input streams.input_after streams.failed_reads streams.failed_reads_after
    → Told (of_read error) status streams.written streams.written_after streams.failed_writes streams.failed_writes_after → RunsOn output streams status input
not_read read.Memory output streams status input explains ran told = ran_out output streams status input (lack_readable streams input ran) told
not_read read.Failed output streams status None explains ran told = tt
not_read read.Failed output streams status (Some input) explains ran told = inr (inr (told.0, inl (told.1, inl explains)))
not_read read.TooLong output streams status None explains ran told = tt
not_read read.TooLong output streams status (Some input) explains ran told = inr (inr (told.0, inl (told.1, inr explains)))

-- ---- after it was read

pub all_written : (output : List ℕ → Output) (streams : Streams) (status : ℕ) (text : List ℕ) (input : Option (List ℕ)) → IsWhole input max_input text
    → Writes (output text) status streams.written streams.written_after → RunsOn output streams status input
all_written output streams status text None whole writes = tt
all_written output streams status text (Some input) whole writes =
    inl (subst (λ (one : List ℕ). (length one ≤ max_input) × Writes (output one) status streams.written streams.written_after) whole.0 (whole.1, writes))

broken : (output : List ℕ → Output) (streams : Streams) (status : ℕ) (text : List ℕ) (input : Option (List ℕ)) → IsWhole input max_input text
    → IsReadable streams input → BreaksOff (output text) streams status → RunsOn output streams status input
broken output streams status text None whole readable breaks = tt
broken output streams status text (Some input) whole readable breaks = inr (inl (subst (λ (one : List ℕ). BreaksOff (output one) streams status) whole.0 breaks, readable))

pub write_failed : (output : List ℕ → Output) (streams : Streams) (input : Option (List ℕ)) → WriteFailed streams → RunsOn output streams no_stream input
write_failed output streams None failed = tt
write_failed output streams (Some input) failed = inr (inr (refl, inr failed))

pub writes_text : (output : Output) (text : List ℕ) (before after : Option (List ℕ)) → output ≡ Done text → Adds before text after → Writes output done before after
writes_text output text before after is added = rw is (refl, added)

pub writes_fault : (output : Output) (line : List ℕ) (before after : Option (List ℕ)) → output ≡ Faulty line → Adds before line after → Writes output faulty before after
writes_fault output line before after is added = rw is (refl, added)

-- a fault was told, and nothing was written before
pub told_fault : (output : List ℕ → Output) (streams : Streams) (status : ℕ) (text line : List ℕ) (input : Option (List ℕ)) → IsWhole input max_input text → streams.failed_reads_after ≡ streams.failed_reads → output text ≡ Faulty line
    → TellsLine line faulty status streams.written streams.written_after streams.failed_writes streams.failed_writes_after → RunsOn output streams status input
told_fault output streams status text line input whole same is told =
    elim told [
      | inl finishes ↦ elim finishes [
        | inl all ↦ subst (λ (one : ℕ). RunsOn output streams one input) (sym all.0) (all_written output streams faulty text input whole (writes_fault (output text) line streams.written streams.written_after is all.1))
        | inr failed ↦ subst (λ (one : ℕ). RunsOn output streams one input) (sym failed.0) (write_failed output streams input failed.1)
      ]
      | inr lacks ↦ ran_out output streams status input (whole_readable streams text input whole same) lacks
    ]

-- a write failed
pub not_written : (output : List ℕ → Output) (streams : Streams) (status : ℕ) (input now : Option (List ℕ)) (failures : ℕ) → failures ≡ one_more streams.failed_writes
    → Told error.Stream status now streams.written_after failures streams.failed_writes_after → RunsOn output streams status input
not_written output streams status input now failures failed told =
    subst (λ (one : ℕ). RunsOn output streams one input) (sym told.0) (write_failed output streams input (told.1.1 ∙ failed))

-- memory ran out behind the front of an output
broke : (output : List ℕ → Output) (streams : Streams) (status : ℕ) (text : List ℕ) (input now : Option (List ℕ)) (failures : ℕ) → IsWhole input max_input text → streams.failed_reads_after ≡ streams.failed_reads
    → BrokeOff (output text) streams.written now → failures ≡ streams.failed_writes → status ≡ no_memory
    → SaysMemory now streams.written_after failures streams.failed_writes_after → RunsOn output streams status input
broke output streams status text input now failures whole kept so same is says =
    broken output streams status text input whole (whole_readable streams text input whole kept) (
      is,
      elim says [
        | inl added ↦ inl (so.front, (so.begun, adds_both streams.written now streams.written_after so.front memory_line so.added added))
        | inr failed ↦ inr (failed ∙ ap one_more same)
      ],
    )

-- a script was not played to its end
pub not_played : (error : PlayError) (output : List ℕ → Output) (streams : Streams) (status : ℕ) (text : List ℕ) (input now : Option (List ℕ)) (failures : ℕ) → IsWhole input max_input text → streams.failed_reads_after ≡ streams.failed_reads
    → Plays (Err error) (output text) streams.written now streams.failed_writes failures
    → Told (of_play error) status now streams.written_after failures streams.failed_writes_after → RunsOn output streams status input
not_played (play.Faulty fault) output streams status text input now failures whole kept plays told =
    told_fault output streams status text (fault_line fault) input whole kept plays.0 (rw (plays.1.0, plays.1.1) at told)
not_played play.WriteFailed output streams status text input now failures whole kept plays told = not_written output streams status input now failures plays told
not_played play.Memory output streams status text input now failures whole kept plays told = broke output streams status text input now failures whole kept plays.0 plays.1 told.0 told.1

-- there was no list to print
pub not_listed : (error : CommandError) (output : List ℕ → Output) (streams : Streams) (status : ℕ) (text : List ℕ) (input : Option (List ℕ)) → IsWhole input max_input text → streams.failed_reads_after ≡ streams.failed_reads
    → GivesList (Err error) (output text)
    → Told error status streams.written streams.written_after streams.failed_writes streams.failed_writes_after → RunsOn output streams status input
not_listed (error.List fault) output streams status text input whole kept gives told = told_fault output streams status text (text_fault_line fault) input whole kept gives told
not_listed error.Memory output streams status text input whole kept gives told = ran_out output streams status input (whole_readable streams text input whole kept) told
not_listed error.CommandLine output streams status text input whole kept gives told = absurd gives
not_listed (error.BadWord place) output streams status text input whole kept gives told = absurd gives
not_listed (error.Script fault) output streams status text input whole kept gives told = absurd gives
not_listed error.Stream output streams status text input whole kept gives told = absurd gives
