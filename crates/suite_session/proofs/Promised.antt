-- What a session leaves is what its events made.
use Rattle.suite_session.proofs.Vocabulary.{◌≡◌, ℕ, zero, suc, ◌+◌, ◌-◌, Bool, true, false, List, [], ◌∷◌, ◌++◌, take, if◌then◌else◌, is_some, Option, Some}
use Rattle.suite_session.proofs.Vocabulary.{None, Result, Ok, Err, refl, sym, subst, arith, IfOk, false≢true, append-nil, Tables, ok_map, Op, front, goes_on}
use Rattle.suite_session.proofs.Vocabulary.{opens, promised, AllGiveValidVotes, CanBe, VotesAreValid, Event, Passes, asked, below, later_said, next_in, said}
use Rattle.suite_session.proofs.Vocabulary.{ScriptDesk, words, line_world, valid_lines, command_in, is_command, said_after, verb_in, is_known, played}
use Rattle.suite_session.proofs.Vocabulary.{places_of, events_in, events_of, kept_command, Command, Audit, Run, Steps, Places, Opening, Named, Own, Said}
use Rattle.suite_session.proofs.Vocabulary.{followed, is_skipped, name_line, named_line, own_line, Line, Word, LineFault, Form, IsMadeBy, IsPromisedOf}
use Rattle.suite_session.proofs.Vocabulary.{SessionIsPromised, begins_headed, events_by, events_said, ways, asks, head_of, heads, opened_of, own_of, told}
use Rattle.suite_session.proofs.Vocabulary.{PlayService, fixed_of, Transaction, Sweep}
use Rattle.script_desk.specs.Doing.{headed}
use Rattle.suite_play.specs.declared.command.Command.TheVariants.{Event as event_line}
use Rattle.run_core.specs.declared.event.Event.TheVariants as event
use Rattle.suite_session.specs.declared.play_service.PlayService.TheVariants as service

-- ---- the votes of what lines say are valid

abbrev LineIsValid : Command → Type 0
LineIsValid command = VotesAreValid (events_in command)

all_taken : (count : ℕ) (ops : List Op) → AllGiveValidVotes ops → AllGiveValidVotes (take count ops)
all_taken zero ops valid = tt
all_taken (suc count) [] valid = tt
all_taken (suc count) (op ∷ ops) valid = (valid.0, all_taken count ops valid.1)

kept_valid : (command : Command) → LineIsValid command → LineIsValid (kept_command command)
kept_valid (event_line (event.Begin agent (Transaction caller site ops))) valid = (all_taken 9 ops valid.0, tt)
kept_valid (event_line (event.Begin agent (Sweep server))) valid = valid
kept_valid (event_line (event.Step agent)) valid = valid
kept_valid (event_line (event.Crash server)) valid = valid
kept_valid (event_line (event.Return server)) valid = valid
kept_valid (event_line (event.Forget agent site)) valid = valid
kept_valid (event_line (event.Lack agent lack)) valid = valid
kept_valid (Steps agent count) valid = valid
kept_valid (Run agent) valid = valid
kept_valid (Audit server) valid = valid

kept_ok : (given : Result Command LineFault) → IfOk given LineIsValid → IfOk (ok_map kept_command given) LineIsValid
kept_ok (Ok command) valid = kept_valid command valid
kept_ok (Err fault) valid = tt

-- one line, as the only one of a script with as many servers and agents
opening_with : Places → Opening → Opening
opening_with places settings = record settings { servers = places.last_server + 1; agents = places.last_agent + 1 }

same_places : (places : Places) (settings : Opening) → places_of (opening_with places settings) ≡ places
unfolding opening_with
same_places places settings =
    let servers : (places.last_server + 1) - 1 ≡ places.last_server = omega arith in
    let agents : (places.last_agent + 1) - 1 ≡ places.last_agent = omega arith in
    rw (servers, agents) refl

said_alone : (begins : Bool) (own : Result Command LineFault) (named : Result Tables LineFault) → (begins ≡ false → IfOk own LineIsValid)
    → IfOk (followed 0 (if begins then own_line own else named_line named) (λ known. Ok []) (Ok [])) (λ lines. VotesAreValid (events_of lines)) → IfOk own LineIsValid
said_alone true (Ok command) named none valid = subst VotesAreValid (append-nil (events_in command)) valid
said_alone true (Err fault) named none valid = tt
said_alone false own named none valid = none refl

none_said : {V : Type 0} (verb : Option V) (says : Option V → Result Command LineFault) → says None ≡ Err Form → is_some verb ≡ false → IfOk (says verb) LineIsValid
none_said (Some verb) says nothing none = absurd (false≢true (sym none))
none_said None says nothing none = subst (λ (said : Result Command LineFault). IfOk said LineIsValid) (sym nothing) tt

one_valid : (settings : Opening) (names : Tables) (first : Word) (later : List Word) → IfOk (command_in (places_of settings) names first later) LineIsValid
one_valid settings names first later =
    said_alone (is_command first) (command_in (places_of settings) names first later) (name_line is_known true names first later) (none_said (verb_in first) (λ verb. said_after (places_of settings) names verb later) refl)
    (valid_lines settings (record { lines = record { number = 0; words = first ∷ later } ∷ []; end = 1; names = names; begun = true }))

own_valid : (state : PlayService) (names : Tables) (first : Word) (later : List Word) → IfOk (own_of state names first later) LineIsValid
own_valid (service.Heading heading) names first later = tt
own_valid (service.Open open_service) names first later =
    kept_ok (command_in open_service.places names first later)
    (subst (λ (places : Places). IfOk (command_in places names first later) LineIsValid) (same_places open_service.places open_service.settings)
    (one_valid (opening_with open_service.places open_service.settings) names first later))

abbrev SaidIsValid : Said Command → Type 0
SaidIsValid (Own command) = LineIsValid command
SaidIsValid (Named names) = Unit {0}

own_said : (given : Result Command LineFault) → IfOk given LineIsValid → IfOk (own_line given) SaidIsValid
own_said (Ok command) valid = valid
own_said (Err fault) valid = tt

named_said : (given : Result Tables LineFault) → IfOk (named_line {A = Command} given) SaidIsValid
named_said (Ok names) = tt
named_said (Err fault) = tt

either : (begins : Bool) (own named : Result (Said Command) LineFault) → IfOk own SaidIsValid → IfOk named SaidIsValid → IfOk (if begins then own else named) SaidIsValid
either true own named first second = first
either false own named first second = second

later_valid : (desk : ScriptDesk PlayService) (first : Word) (later : List Word) → IfOk (later_said ways desk (first ∷ later)) SaidIsValid
later_valid desk first later =
    either (is_command first) (own_line (own_of desk.service desk.names first later)) (named_line (name_line is_known false desk.names first later))
    (own_said (own_of desk.service desk.names first later) (own_valid desk.service desk.names first later))
    (named_said (name_line is_known false desk.names first later))

-- ---- a line

-- nothing happened
stays : (state : PlayService) (events : List Event) → IsMadeBy state events → IsMadeBy state (events ++ [])
stays state events made = subst (IsMadeBy state) (sym (append-nil events)) made

settled_stays : (state : PlayService) (events : List Event) → IsMadeBy state events → IsMadeBy (ways.settled state) events
settled_stays (service.Heading heading) events made = made
settled_stays (service.Open open_service) events made = made

own_made : (state : PlayService) (events : List Event) (command : Command) → LineIsValid command → IsMadeBy state events → IsMadeBy (ways.after state command) (events ++ events_in command)
own_made (service.Heading heading) events command valid made = absurd made
own_made (service.Open open_service) events command valid made =
    let opened = open_service.world in
    (goes_on opened events (events_in command) (played (fixed_of opened.given) opened.world command).world made.0 valid (line_world (fixed_of opened.given) opened.world command), made.1)

below_made : (desk : ScriptDesk PlayService) (events : List Event) (line : Result (Said Command) LineFault) → IfOk line SaidIsValid → IsMadeBy desk.service events
    → IsMadeBy (next_in desk (below ways desk line)).service (events ++ events_said line)
below_made desk events (Ok (Named names)) valid made = stays (ways.settled desk.service) events (settled_stays desk.service events made)
below_made desk events (Ok (Own command)) valid made = own_made desk.service events command valid made
below_made desk events (Err fault) valid made = stays desk.service events made

asked_made : (desk : ScriptDesk PlayService) (events : List Event) (answer : Result (List ℕ) LineFault) → IsMadeBy desk.service events → IsMadeBy (next_in desk (asked answer)).service (events ++ [])
asked_made desk events (Ok text) made = stays desk.service events made
asked_made desk events (Err fault) made = stays desk.service events made

said_made : (desk : ScriptDesk PlayService) (events : List Event) (head : Result PlayService LineFault) (answer : Result (List ℕ) LineFault) (line : Result (Said Command) LineFault) → IfOk line SaidIsValid
    → IsMadeBy desk.service events → (heads asks : Bool) → heads ≡ false
    → IsMadeBy (next_in desk (if heads then headed desk head else if asks then asked answer else below ways desk line)).service (events ++ (if heads then [] else if asks then [] else events_said line))
said_made desk events head answer line valid made true asks other = absurd (false≢true (sym other))
said_made desk events head answer line valid made false true other = asked_made desk events answer made
said_made desk events head answer line valid made false false other = below_made desk events line valid made

words_made : (desk : ScriptDesk PlayService) (events : List Event) (line : List Word) → IsMadeBy desk.service events → begins_headed desk.service line ≡ false
    → IsMadeBy (next_in desk (said ways desk line)).service (events ++ events_by desk line)
words_made desk events [] made other = stays desk.service events made
words_made desk events (first ∷ later) made other =
    said_made desk events (head_of desk.service first later) (told desk.service first later) (later_said ways desk (first ∷ later)) (later_valid desk first later) made
    (heads desk.service first) (asks first) other

line_made : (desk : ScriptDesk PlayService) (events : List Event) (line : List ℕ) → IsMadeBy desk.service events → (skipped : Bool)
    → (if skipped then false else begins_headed desk.service (words line)) ≡ false
    → IsMadeBy (next_in desk (if skipped then Passes [] else said ways desk (words line))).service (events ++ (if skipped then [] else events_by desk (words line)))
line_made desk events line made true other = stays desk.service events made
line_made desk events line made false other = words_made desk events (words line) made other

-- ---- the law

moments : (state : PlayService) (events : List Event) → IsMadeBy state events → IsPromisedOf state events
moments (service.Heading heading) events made = tt
moments (service.Open open_service) events made = λ before later parts.
    let can = front open_service.world.given before later (subst (CanBe open_service.world.given) parts made.0.can_be) in
    (can, promised open_service.world.given before can)

pub session_promised : SessionIsPromised
session_promised = record {
  opens = λ settings accepted c0. (opens (opened_of settings).world accepted c0 refl, refl);
  goes_on = λ desk events line made other. line_made desk events line made (is_skipped line) other;
  promised = moments;
}
