-- The run of a script, line by line.
use Rattle.suite_play.proofs.Vocabulary.{◌≡◌, ℕ, zero, suc, false, List, [], ◌∷◌, ◌++◌, append_assoc, Option, Some, None, Result, Ok, Err, refl, ◌∙◌, ap, sym, subst, Bool, IfOk, true, not, flat_map, list_all, and_parts, false≢true}
use Rattle.suite_play.proofs.Vocabulary.{append-nil, IsAccepted, Opening, Fixed, Step, EndedJob, World, step, CanBe, VotesAreValid, front, promised, ScriptFault, Pending, Script, owns, script_of, scripted, whole, Command, header, language}
use Rattle.suite_play.proofs.Vocabulary.{all_lines, endless, played, outcome_line, outcome_text, Event}
use Rattle.vote_core.specs.Validity.{IsValid}
use Rattle.run_core.specs.declared.done.Done.{Done}
use Rattle.run_core.specs.Runs.{after, dones, outcomes}
use Rattle.run_core.proofs.Appending.{dones-append, outcomes-append}
use Rattle.law_headline.specs.Promises.{IsPromised}
use Rattle.suite_play.specs.Promised.{events_in, events_of, is_audit, LinesAreEvents, PlayIsPromised, steps_of}
use Rattle.suite_play.specs.Playing.{steps}
use Rattle.suite_play.specs.declared.command.Command.TheVariants as line
use Rattle.suite_play.proofs.ValidLines.{valid_lines}

-- ---- what a line makes of a world

steps_world : (fixed : Fixed) (world : World) (agent count : ℕ) → (steps fixed world agent count).world ≡ after fixed world (steps_of agent count)
unfolding steps steps_of
steps_world fixed world agent zero = refl
steps_world fixed world agent (suc more) = steps_world fixed (step fixed world (Step agent)).world agent more

pub line_world : (fixed : Fixed) (world : World) (command : Command) → (played fixed world command).world ≡ after fixed world (events_in command)
line_world fixed world (line.Steps agent count) = steps_world fixed world agent count
line_world fixed world (line.Run agent) = steps_world fixed world agent endless
line_world fixed world _ = refl

-- ---- and what it prints

one_text : (o : Option EndedJob) (served : _) (later : List Done) → outcome_text o ++ flat_map outcome_line (outcomes later) ≡ flat_map outcome_line (outcomes (record { served = served; outcome = o } ∷ later))
one_text None served later = refl
one_text (Some outcome) served later = refl

steps_text : (fixed : Fixed) (world : World) (agent count : ℕ) → (steps fixed world agent count).text ≡ flat_map outcome_line (outcomes (dones fixed world (steps_of agent count)))
unfolding steps steps_of
steps_text fixed world agent zero = refl
steps_text fixed world agent (suc more) =
    let once = step fixed world (Step agent) in
    ap (λ rest. outcome_text once.done.outcome ++ rest) (steps_text fixed once.world agent more)
    ∙ one_text once.done.outcome once.done.served (dones fixed once.world (steps_of agent more))

line_jobs : (fixed : Fixed) (world : World) (command : Command) → is_audit command ≡ false → (played fixed world command).text ≡ flat_map outcome_line (outcomes (dones fixed world (events_in command)))
line_jobs fixed world (line.Event event) is =
    let once = step fixed world event in
    sym (append-nil (outcome_text once.done.outcome)) ∙ one_text once.done.outcome once.done.served []
line_jobs fixed world (line.Steps agent count) is = steps_text fixed world agent count
line_jobs fixed world (line.Run agent) is = steps_text fixed world agent endless
line_jobs fixed world (line.Audit server) is = absurd (false≢true (sym is))

abbrev printed : Fixed → World → List Event → List ℕ
printed fixed world events = flat_map outcome_line (outcomes (dones fixed world events))

texts_more : (jobs later : List EndedJob) → flat_map outcome_line (jobs ++ later) ≡ flat_map outcome_line jobs ++ flat_map outcome_line later
texts_more [] later = refl
texts_more (job ∷ jobs) later =
    ap (λ text. outcome_line job ++ text) (texts_more jobs later)
    ∙ sym (append_assoc (outcome_line job) (flat_map outcome_line jobs) (flat_map outcome_line later))

printed_more : (fixed : Fixed) (world : World) (events later : List Event) → printed fixed world (events ++ later) ≡ printed fixed world events ++ printed fixed (after fixed world events) later
printed_more fixed world events later =
    ap (λ done. flat_map outcome_line (outcomes done)) (dones-append fixed world events later)
    ∙ ap (flat_map outcome_line) (outcomes-append (dones fixed world events) (dones fixed (after fixed world events) later))
    ∙ texts_more (outcomes (dones fixed world events)) (outcomes (dones fixed (after fixed world events) later))

asks_none : (b : Bool) → not b ≡ true → b ≡ false
asks_none true is = absurd (false≢true is)
asks_none false is = refl

lines_jobs : (fixed : Fixed) (world : World) (lines : List Command) → list_all (λ line. not (is_audit line)) lines ≡ true → all_lines fixed world lines ≡ printed fixed world (events_of lines)
lines_jobs fixed world [] none = refl
lines_jobs fixed world (command ∷ later) none =
    let parts = and_parts (not (is_audit command)) (list_all (λ line. not (is_audit line)) later) none in
    let next = (played fixed world command).world in
    ap (λ text. text ++ all_lines fixed next later) (line_jobs fixed world command (asks_none (is_audit command) parts.0))
    ∙ ap (λ text. printed fixed world (events_in command) ++ text) (lines_jobs fixed next later parts.1 ∙ ap (λ world. printed fixed world (events_of later)) (line_world fixed world command))
    ∙ sym (printed_more fixed world (events_in command) (events_of later))

pub lines_are_events : LinesAreEvents
lines_are_events = record { world = line_world; jobs = line_jobs; audits = λ fixed world server. refl; lines = lines_jobs }

-- ---- what is promised of a script

same_script : (a b : Script Opening Command) → ◌≡◌ {A = Result (Script Opening Command) ScriptFault} (Ok a) (Ok b) → a ≡ b
same_script a b is = cc

header_is : (given : Opening) (left : Result (List Command) ScriptFault) (script : Script Opening Command) → scripted given left ≡ Ok script → given ≡ script.header
header_is given (Ok lines) script is = ap (λ (script : Script Opening Command). script.header) (same_script (record { header = given; owns = lines }) script is)
header_is given (Err fault) script is = cc

lines_are : (given : Opening) (left : Result (List Command) ScriptFault) (script : Script Opening Command) → scripted given left ≡ Ok script → left ≡ Ok script.owns
lines_are given (Ok lines) script is = ap (λ (script : Script Opening Command). Ok script.owns) (same_script (record { header = given; owns = lines }) script is)
lines_are given (Err fault) script is = cc

-- a script whose header was read, and is accepted
pub play_promised : (text : List ℕ) (given : Opening) (rest : Pending) → header (whole text) ≡ Ok (record { value = given; rest = rest }) → IsAccepted given → IsValid given.c0 → PlayIsPromised text
play_promised text given rest read accepted c0 script is before later events =
    let left = owns (language given) rest in
    let so : scripted given left ≡ Ok script = sym (ap (script_of language) read) ∙ is in
    let valid = subst (λ (left : Result (List Command) ScriptFault). IfOk left (λ lines. VotesAreValid (events_of lines))) (lines_are given left script so) (valid_lines given rest) in
    let can : CanBe given before = front given before later (record { accepted = accepted; c0 = c0; votes = subst VotesAreValid events valid }) in
    subst (λ (given : Opening). CanBe given before × IsPromised given before) (header_is given left script so) (can, promised given before can)
