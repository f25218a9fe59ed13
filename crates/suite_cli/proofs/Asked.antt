-- What was done is what the words ask for.
use Rattle.std.proofs.Common.{arith, ℕ, zero, suc, ◌≤◌, ◌&&◌, nat_le, List, Option, Some, None, Result, Ok, Err, inl, inr, subst}
use Rattle.std.specs.Prelude.{IfSome}
use Rattle.std.specs.Str.Parse.{digits_value}
use Rattle.std.proofs.lemmas.Bool.{and_parts, cases_Bool}
use Rattle.std.proofs.lemmas.Bool.Decides.{nat_tests}
use Rattle.acl_text.specs.Tables.{Tables}
use Rattle.script_text.specs.Numbers.{is_number, number_up_to}
use Rattle.byte_streams.specs.Endings.{Finishes, done}
use Rattle.suite_args.specs.Answering.{Answers, AnswersServe}
use Rattle.suite_args.specs.CommandLine.{Asked, acl, agents_of, at_least_one, help, max_agents, nothing, plays, serves, topic}
use Rattle.suite_args.specs.declared.request.Invocation.TheVariants.{Acl, Help, Plays, Serve}
use Rattle.suite_args.specs.declared.request.ArgsError.{ArgsError}
use Rattle.suite_args.specs.declared.request.ArgsError.TheVariants.{CommandLine, Memory}
use Rattle.suite_args.specs.declared.script.Script.{Script}
use Rattle.suite_cli.proofs.Ran.{ran_out, unread_readable}
use Rattle.suite_cli.proofs.Served.{lacked}
use Rattle.suite_cli.specs.Names.{names_from}
use Rattle.suite_cli.specs.Outputs.{acl_output, command_line_fault, script_output_of}
use Rattle.byte_streams.specs.Programs.{LacksMemory, Streams}
use Rattle.suite_cli.specs.Runs.{Does, GivesNames, Helps, IsUnread, Refuses, Runs, RunsAcl, Serves, ServesBy}
use Rattle.suite_cli.specs.code.Errors.{Told, of_args}
use Rattle.suite_cli.specs.declared.command_error.CommandError.{CommandError}
use Rattle.suite_cli.specs.declared.command_error.CommandError.TheVariants as error
use Rattle.suite_script.specs.Scripts.{no_names}

-- ---- answers to `serve`

not_plays : (agents : Option ℕ) (given : Script) → AnswersServe agents (Ok (Plays given)) → ⊥
not_plays (Some number) given is = is
not_plays None given is = is

not_acl : (agents : Option ℕ) (given : List (List ℕ)) → AnswersServe agents (Ok (Acl given)) → ⊥
not_acl (Some number) given is = is
not_acl None given is = is

not_help : (agents : Option ℕ) (text : List ℕ) → AnswersServe agents (Ok (Help text)) → ⊥
not_help (Some number) text is = is
not_help None text is = is

number_fits : (limit : ℕ) (word : List ℕ) → IfSome (number_up_to limit word) (λ number. number ≤ limit)
number_fits limit word =
    elim (cases_Bool (is_number word && nat_le (digits_value 10 word) limit)) [
      | inl fits ↦
          let parts = and_parts (is_number word) (nat_le (digits_value 10 word) limit) fits in
          let within : digits_value 10 word ≤ limit = grind (arith, nat_tests, parts) in
          rw fits within
      | inr none ↦ rw none tt
    ]

bounded : (number : Option ℕ) (given : ℕ) → IfSome number (λ n. n ≤ max_agents) → AnswersServe (at_least_one number) (Ok (Serve given)) → (1 ≤ given) × (given ≤ 64)
bounded (Some zero) given few is = absurd is
bounded (Some (suc more)) given few is = (omega arith, omega arith)
bounded None given few is = absurd is

-- the number of agents is within its bounds
pub agents_fit : (asked : Asked) (given : ℕ) → Answers asked (Ok (Serve given)) → (1 ≤ given) × (given ≤ 64)
agents_fit (plays script) given is = absurd is
agents_fit (acl names) given is = absurd is
agents_fit (serves text) given is = bounded (number_up_to max_agents text) given (number_fits max_agents text) is
agents_fit help given is = absurd is
agents_fit topic given is = absurd is
agents_fit nothing given is = absurd is

served_by : (agents : Option ℕ) (streams : Streams) (status given : ℕ) → AnswersServe agents (Ok (Serve given)) → Serves given streams status → ServesBy agents streams status
served_by (Some number) streams status given is ran = subst (λ (n : ℕ). Serves n streams status) is ran
served_by None streams status given is ran = absurd is

pub serve_done : (asked : Asked) (streams : Streams) (status given : ℕ) → Answers asked (Ok (Serve given)) → Serves given streams status → Does asked streams status
serve_done (plays script) streams status given answers ran = absurd answers
serve_done (acl names) streams status given answers ran = absurd answers
serve_done (serves text) streams status given answers ran = served_by (agents_of text) streams status given answers ran
serve_done help streams status given answers ran = absurd answers
serve_done topic streams status given answers ran = absurd answers
serve_done nothing streams status given answers ran = absurd answers

serve_ran_out : (agents : Option ℕ) (streams : Streams) (status : ℕ) → IsUnread streams → LacksMemory streams status → ServesBy agents streams status
serve_ran_out (Some number) streams status unread lacks = lacked number streams status streams.input (unread_readable streams unread) lacks
serve_ran_out None streams status unread lacks = (unread, inl lacks)

serve_refused : (agents : Option ℕ) (streams : Streams) (status : ℕ) → AnswersServe agents (Err CommandLine) → Refuses command_line_fault streams status → ServesBy agents streams status
serve_refused (Some number) streams status answers refuses = absurd answers
serve_refused None streams status answers refuses = refuses

refuse_done : (asked : Asked) (streams : Streams) (status : ℕ) → Answers asked (Err CommandLine) → Refuses command_line_fault streams status → Does asked streams status
refuse_done (plays script) streams status answers refuses = absurd answers
refuse_done (acl names) streams status answers refuses = absurd answers
refuse_done (serves text) streams status answers refuses = serve_refused (agents_of text) streams status answers refuses
refuse_done help streams status answers refuses = absurd answers
refuse_done topic streams status answers refuses = inr refuses
refuse_done nothing streams status answers refuses = refuses

-- ---- answers to all commands

pub script_done : (asked : Asked) (streams : Streams) (status : ℕ) (given : Script) → Answers asked (Ok (Plays given)) → Runs (script_output_of given) streams status → Does asked streams status
script_done (plays script) streams status given answers runs = rw (← answers) runs
script_done (acl names) streams status given answers runs = absurd answers
script_done (serves text) streams status given answers runs = absurd (not_plays (agents_of text) given answers)
script_done help streams status given answers runs = absurd answers
script_done topic streams status given answers runs = absurd answers
script_done nothing streams status given answers runs = absurd answers

pub acl_done : (asked : Asked) (streams : Streams) (status : ℕ) (given : List (List ℕ)) → Answers asked (Ok (Acl given)) → RunsAcl (names_from 1 no_names given) streams status → Does asked streams status
acl_done (plays script) streams status given answers runs = absurd answers
acl_done (acl names) streams status given answers runs = rw (← answers) runs
acl_done (serves text) streams status given answers runs = absurd (not_acl (agents_of text) given answers)
acl_done help streams status given answers runs = absurd answers
acl_done topic streams status given answers runs = absurd answers
acl_done nothing streams status given answers runs = absurd answers

helped : (streams : Streams) (status : ℕ) (line : List ℕ) → IsUnread streams → Finishes line done status streams.written streams.written_after streams.failed_writes streams.failed_writes_after → Helps streams status
helped streams status line unread finishes = (unread, elim finishes [ inl whole ↦ inl (whole.0, (line, whole.1)) | inr failed ↦ inr (inr failed) ])

pub help_done : (asked : Asked) (streams : Streams) (status : ℕ) (text line : List ℕ) → Answers asked (Ok (Help text)) → IsUnread streams
    → Finishes line done status streams.written streams.written_after streams.failed_writes streams.failed_writes_after → Does asked streams status
help_done (plays script) streams status text line answers unread finishes = absurd answers
help_done (acl names) streams status text line answers unread finishes = absurd answers
help_done (serves words) streams status text line answers unread finishes = absurd (not_help (agents_of words) text answers)
help_done help streams status text line answers unread finishes = helped streams status line unread finishes
help_done topic streams status text line answers unread finishes = inl (helped streams status line unread finishes)
help_done nothing streams status text line answers unread finishes = absurd answers

acl_ran_out : (names : Result Tables ℕ) (streams : Streams) (status : ℕ) → IsUnread streams → LacksMemory streams status → RunsAcl names streams status
acl_ran_out (Ok names) streams status unread lacks = ran_out (acl_output names) streams status streams.input (unread_readable streams unread) lacks
acl_ran_out (Err place) streams status unread lacks = (unread, inl lacks)

lack_done : (asked : Asked) (streams : Streams) (status : ℕ) → IsUnread streams → LacksMemory streams status → Does asked streams status
lack_done (plays script) streams status unread lacks = ran_out (script_output_of script) streams status streams.input (unread_readable streams unread) lacks
lack_done (acl names) streams status unread lacks = acl_ran_out (names_from 1 no_names names) streams status unread lacks
lack_done (serves text) streams status unread lacks = serve_ran_out (agents_of text) streams status unread lacks
lack_done help streams status unread lacks = (unread, inr (inl lacks))
lack_done topic streams status unread lacks = inl (unread, inr (inl lacks))
lack_done nothing streams status unread lacks = (unread, inl lacks)

-- ---- words that were refused

pub not_asked : (error : ArgsError) (asked : Asked) (streams : Streams) (status : ℕ) → Answers asked (Err error) → IsUnread streams
    → Told (of_args error) status streams.written streams.written_after streams.failed_writes streams.failed_writes_after → Does asked streams status
not_asked CommandLine asked streams status answers unread told = refuse_done asked streams status answers (unread, inr told)
not_asked Memory asked streams status answers unread told = lack_done asked streams status unread told

-- a word of `acl` was
pub not_named : (error : CommandError) (given : Result Tables ℕ) (streams : Streams) (status : ℕ) → GivesNames (Err error) given → IsUnread streams
    → Told error status streams.written streams.written_after streams.failed_writes streams.failed_writes_after → RunsAcl given streams status
not_named (error.BadWord place) given streams status gives unread told = rw gives (unread, elim told [ inl finishes ↦ inr finishes | inr lacks ↦ inl lacks ])
not_named error.Memory given streams status gives unread told = acl_ran_out given streams status unread told
not_named error.CommandLine given streams status gives unread told = absurd gives
not_named (error.Script fault) given streams status gives unread told = absurd gives
not_named (error.List fault) given streams status gives unread told = absurd gives
not_named error.Stream given streams status gives unread told = absurd gives
