-- The votes of all that a line says are valid.
use Rattle.suite_play.proofs.Vocabulary.{ℕ, zero, suc, List, [], ◌∷◌, Option, Some, None, Result, Ok, Err, IfOk, AllByRecursion, slice_split, Op, both, AllGiveValidVotes, GivesValidVotes, VotesAreValid, Opening, each_of, Pending, owns}
use Rattle.suite_play.proofs.Vocabulary.{Word, at_end, caller, number, ScriptFault, Job, Transaction, Sweep, begin_in, said_after, said_by, server_in, steps_in, transaction_in, verb_in, language, places_of, endless, Command}
use Rattle.acl_text.specs.Tables.{Tables}
use Rattle.file_ops.specs.declared.operation.Action.{Action}
use Rattle.script_text.specs.Phrases.{is_semicolon}
use Rattle.suite_script.proofs.ValidOperations.{AllHaveValidVotes, HasValidVotes, after_any, after_end, then_holds, valid_operations}
use Rattle.suite_script.specs.Operations.{operations}
use Rattle.suite_script.specs.Forms.{last_site}
use Rattle.suite_play.specs.Promised.{events_in, events_of, steps_of}
use Rattle.suite_play.specs.declared.places.Places.{Places}
use Rattle.suite_play.specs.declared.command.Command.TheVariants.{Event}
use Rattle.file_ops.specs.declared.operation.Action.TheVariants as action
use Rattle.run_core.specs.declared.event.Event.TheVariants as event
use Rattle.suite_play.specs.declared.verb.EventVerb as lines
use Rattle.suite_play.specs.declared.verb.EventVerb.TheVariants as line

-- ---- operations

gives : (done : Action) → HasValidVotes done → GivesValidVotes done
gives (action.Make kind init (Some votes)) valid = valid
gives (action.Make kind init None) valid = tt
gives (action.SetVotes votes) valid = valid
gives _ valid = tt

all_give : (ops : List Op) → AllHaveValidVotes ops → AllGiveValidVotes ops
all_give [] valid = tt
all_give (op ∷ ops) valid = (gives op.action valid.0, all_give ops valid.1)

-- ---- lines

-- steps give no votes
steps_valid : (agent count : ℕ) → VotesAreValid (steps_of agent count)
unfolding steps_of
steps_valid agent zero = tt
steps_valid agent (suc more) = (tt, steps_valid agent more)

abbrev LineIsValid : Command → Type 0
LineIsValid command = VotesAreValid (events_in command)

-- what a job gives
abbrev JobIsValid : Job → Type 0
JobIsValid (Transaction caller site ops) = AllGiveValidVotes ops
JobIsValid (Sweep server) = Unit {0}

valid_transaction : (names : Tables) (words : List Word) → IfOk (transaction_in names words) JobIsValid
valid_transaction names words =
    after_any _ (caller words) _ (λ caller. after_any _ (number last_site caller.rest) _ (λ site.
    then_holds AllHaveValidVotes _ (operations names site.rest) _ (valid_operations names (slice_split is_semicolon site.rest)) (λ ops all. all_give ops all)))

begun_valid : (agent : ℕ) (job : Job) → JobIsValid job → LineIsValid (Event (event.Begin agent job))
begun_valid agent (Transaction caller site ops) valid = (valid, tt)
begun_valid agent (Sweep server) valid = (tt, tt)

valid_begin : (places : Places) (names : Tables) (words : List Word) → IfOk (begin_in places names words) LineIsValid
valid_begin places names words =
    after_any _ (number places.last_agent words) _ (λ agent.
    then_holds JobIsValid _ (transaction_in names agent.rest) _ (valid_transaction names agent.rest) (λ job valid. begun_valid agent.value job valid))

valid_said : (places : Places) (names : Tables) (verb : lines.EventVerb) (words : List Word) → IfOk (said_by places names verb words) LineIsValid
valid_said places names line.Begin words = valid_begin places names words
valid_said places names line.Sweep words =
    after_any _ (number places.last_agent words) _ (λ agent. after_any _ (number places.last_server agent.rest) _ (λ server. after_end _ (at_end server.rest) _ (tt, tt)))
valid_said places names line.Step words =
    after_any _ (number places.last_agent words) _ (λ agent. after_any _ (steps_in agent.rest) _ (λ steps. after_end _ (at_end steps.rest) _ (steps_valid agent.value steps.value)))
valid_said places names line.Run words = after_any _ (number places.last_agent words) _ (λ agent. after_end _ (at_end agent.rest) _ (steps_valid agent.value endless))
valid_said places names line.Forget words =
    after_any _ (number places.last_agent words) _ (λ agent. after_any _ (number last_site agent.rest) _ (λ site. after_end _ (at_end site.rest) _ (tt, tt)))
valid_said places names line.Audit words = after_any _ (server_in places words) _ (λ server. tt)
valid_said places names _ words = after_any _ (server_in places words) _ (λ server. (tt, tt))

valid_after : (places : Places) (names : Tables) (verb : Option lines.EventVerb) (words : List Word) → IfOk (said_after places names verb words) LineIsValid
valid_after places names (Some verb) words = valid_said places names verb words
valid_after places names None words = tt

-- ---- scripts

each_event : (lines : List Command) → AllByRecursion LineIsValid lines → VotesAreValid (events_of lines)
each_event [] valid = tt
each_event (command ∷ lines) valid = both (events_in command) (events_of lines) valid.0 (each_event lines valid.1)

all_valid : (given : Result (List Command) ScriptFault) → IfOk given (AllByRecursion LineIsValid) → IfOk given (λ lines. VotesAreValid (events_of lines))
all_valid (Ok lines) valid = each_event lines valid
all_valid (Err fault) valid = tt

pub valid_lines : (given : Opening) (rest : Pending) → IfOk (owns (language given) rest) (λ lines. VotesAreValid (events_of lines))
valid_lines given rest =
    all_valid (owns (language given) rest)
    (each_of LineIsValid (language given) rest.begun rest.names rest.lines (λ names first words. valid_after (places_of given) names (verb_in first) words))
