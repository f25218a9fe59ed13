-- Which answers there may be to what the words ask for.
use Rattle.std.specs.Prelude.{◌≡◌, ⊤, ℕ, List, [], Option, Some, None, Result, Ok, Err, codes}
use Rattle.std.specs.Prelude.{if◌then◌else◌, unwrap_or}
use Rattle.std.specs.Str.{bytes_eq}
use Rattle.clap.specs.Words.{Row, Text, all_of, first_of}
use Rattle.clap.specs.declared.error.kind.ErrorKind.{ErrorKind}
use Rattle.clap.specs.declared.error.kind.ErrorKind.TheVariants.{DisplayHelp, OutOfMemory}
use Rattle.suite_args.specs.CommandLine.{Asked, acl, agents_of, help, nothing, plays, serves, topic}
use Rattle.suite_args.specs.declared.request.ArgsError.{ArgsError}
use Rattle.suite_args.specs.declared.request.ArgsError.TheVariants.{CommandLine, Memory}
use Rattle.suite_args.specs.declared.request.Invocation.{Invocation}
use Rattle.suite_args.specs.declared.request.Invocation.TheVariants.{Acl, Help, Plays, Serve}
use Rattle.suite_args.specs.declared.script.Script.TheVariants.{Play, Table}

-- `serve` by so many agents, where that number is told
abbrev pub AnswersServe : Option ℕ → Result Invocation ArgsError → Type 0
AnswersServe (Some agents) (Ok (Serve given)) = given ≡ agents
AnswersServe None (Err CommandLine) = ⊤
AnswersServe agents (Err Memory) = ⊤
AnswersServe agents answer = ⊥

-- memory may always run out; but for that there is one answer, save that `help` may refuse the
-- words after it
abbrev pub Answers : Asked → Result Invocation ArgsError → Type 0
Answers (plays script) (Ok (Plays given)) = given ≡ script
Answers (acl names) (Ok (Acl given)) = given ≡ names
Answers (serves text) answer = AnswersServe (agents_of text) answer
Answers help (Ok (Help text)) = ⊤
Answers topic (Ok (Help text)) = ⊤
Answers topic (Err CommandLine) = ⊤
Answers nothing (Err CommandLine) = ⊤
Answers asked (Err Memory) = ⊤
Answers asked answer = ⊥

-- what the command that a parse found asks for
abbrev pub asked_in : Option (Text × List Row) → Asked
asked_in None = nothing
asked_in (Some command) =
    if bytes_eq command.0 (codes "acl") then acl (unwrap_or (all_of (codes "NAME") command.1) [])
    else (if bytes_eq command.0 (codes "table") then plays Table
    else (if bytes_eq command.0 (codes "play") then plays Play
    else (if bytes_eq command.0 (codes "serve") then serves (unwrap_or (first_of (codes "agents") command.1) []) else nothing)))

-- what a parse without matches comes to
abbrev pub AnswersTo : ErrorKind → Result Invocation ArgsError → Type 0
AnswersTo OutOfMemory answer = answer ≡ Err Memory
AnswersTo DisplayHelp answer = Answers help answer
AnswersTo kind answer = Answers nothing answer
