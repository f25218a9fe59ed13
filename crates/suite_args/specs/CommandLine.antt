-- What a command line of the program asks for. `--` ends the options, as the Utility Syntax Guidelines of POSIX have it. Before it
-- a word that begins with two hyphens is a long option, perhaps with a value behind `=`, and one that begins with one and has more
-- is short options.
use Rattle.std.specs.Prelude.{◌==◌, ◌++◌, ℕ, suc, List, [], ◌∷◌, Option, Some, None, Result, Ok, Err, codes}
use Rattle.std.specs.Prelude.{find, if◌then◌else◌, is_some, map, option_and_then, slice_get}
use Rattle.std.specs.Option.{option_map_or}
use Rattle.std.specs.Str.{bytes_eq, chars}
use Rattle.clap.specs.Lexer.{long_of, short_of}
use Rattle.clap.specs.Words.{Text}
use Rattle.script_text.specs.Numbers.{number_up_to}
use Rattle.suite_args.specs.declared.script.Script.{Script}
use Rattle.suite_args.specs.declared.script.Script.TheVariants.{Play, Table}

pub data Asked : Type 0 where
  -- a command that plays a script
  plays : Script → Asked
  -- `acl`, with these names
  acl : List Text → Asked
  -- `serve`, with this text for the number of agents
  serves : Text → Asked
  -- a text on how to use the program
  help : Asked
  -- `help`, perhaps with a command of which to tell
  topic : Asked
  -- nothing: this is no command line of the program
  nothing : Asked

-- ---- what words are

pub data Token : Type 0 where
  -- `--`
  ends : Token
  -- `--help`, and `-h` with anything after it
  helps : Token
  -- `--agents`, with what is attached to it, as in `--agents=4`
  agents : Option Text → Token
  -- any other option
  unknown : Token
  -- no option
  operand : Text → Token

abbrev pub long_option : Text → Option Text → Token
long_option name value =
    if bytes_eq (codes "agents") name then agents value
    else (if bytes_eq (codes "help") name then (if is_some value then unknown else helps) else unknown)

abbrev pub short_option : ℕ → Token
short_option flag = if 104 == flag then helps else unknown

-- short options by the first character behind the hyphen, which a text that is no UTF-8 may lack
abbrev pub option_or_operand : Option (Text × Option Text) → Text → Token
option_or_operand (Some option) word = long_option option.0 option.1
option_or_operand None word = option_map_or short_option (option_and_then (λ flags. slice_get (chars flags) 0) (short_of word)) (operand word)

abbrev pub tokens : List Text → List Token
tokens [] = []
tokens (word ∷ words) =
    if bytes_eq word (codes "--") then ends ∷ map operand words else option_or_operand (long_of word) word ∷ tokens words

-- ---- what they ask for

-- what is known once some words were read
pub data Known : Type 0 where
  -- no command was named
  unnamed : Known
  -- `acl`, and these names
  names : List Text → Known
  script : Script → Known
  -- `serve`, and nothing of the number of agents, that it is the next word, or its text
  untold : Known
  awaited : Known
  told : Text → Known

abbrev pub with_value : Option Text → Known
with_value None = awaited
with_value (Some text) = told text

-- what is known with one more word; or what is asked for, whatever words follow
abbrev pub with_token : Token → Known → Result Known Asked
with_token unknown known = Err nothing
with_token ends awaited = Err nothing
with_token ends known = Ok known
with_token helps awaited = Err nothing
with_token helps known = Err help
with_token (agents value) untold = Ok (with_value value)
with_token (agents value) known = Err nothing
with_token (operand word) (names words) = Ok (names (words ++ word ∷ []))
with_token (operand word) awaited = Ok (told word)
with_token (operand word) known = Err nothing

-- what is asked for where no more words come
abbrev pub asked_at_end : Known → Asked
asked_at_end (names words) = acl words
asked_at_end (script kind) = plays kind
asked_at_end (told text) = serves text
asked_at_end known = nothing

abbrev pub asked_after : Result Known Asked → (Known → Asked) → Asked
asked_after (Ok known) next = next known
asked_after (Err asked) next = asked

abbrev pub asked_of : Known → List Token → Asked
asked_of known [] = asked_at_end known
asked_of known (token ∷ rest) = asked_after (with_token token known) (λ next. asked_of next rest)

-- the commands, with what the words after them ask for
abbrev pub commands : List (Text × (List Token → Asked))
commands =
    (codes "acl", asked_of (names []))
    ∷ (codes "table", asked_of (script Table))
    ∷ (codes "play", asked_of (script Play))
    ∷ (codes "serve", asked_of untold)
    ∷ (codes "help", λ words. topic)
    ∷ []

-- the words after the program's name
abbrev pub asked_by : List Text → Asked
asked_by [] = nothing
asked_by (word ∷ words) =
    option_map_or (λ command. command.1 (tokens words))
    (find (λ command. bytes_eq command.0 word) commands)
    (asked_of unnamed (tokens (word ∷ words)))

-- ---- the number of agents

abbrev pub max_agents : ℕ
max_agents = 64

abbrev pub at_least_one : Option ℕ → Option ℕ
at_least_one (Some (suc more)) = Some (suc more)
at_least_one _ = None

-- the number that a text tells: decimal digits, from 1 to 64
abbrev pub agents_of : Text → Option ℕ
agents_of text = at_least_one (number_up_to max_agents text)
