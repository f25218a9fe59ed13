-- Line by line a session below its header prints what `play` prints, and none of the lines is faulty.
use Rattle.suite_session.proofs.Vocabulary.{◌≡◌, ◌∙◌, ℕ, ◌+◌, Bool, true, false, ◌&&◌, List, [], ◌∷◌, ◌++◌, codes, if◌then◌else◌, Result, Ok, Err, refl, sym}
use Rattle.suite_session.proofs.Vocabulary.{ap, subst, false≢true, bytes_eq-Decides, bytes_eq, Tables, done, status_of_kind, Does, Keeps, Passes, after_line}
use Rattle.suite_session.proofs.Vocabulary.{asked, below, kind_in, kind_of_line, next_in, said, text_in, ScriptDesk, words, is_command, is_known, all_lines}
use Rattle.suite_session.proofs.Vocabulary.{Command, followed, group_line, is_group, is_skipped, is_user, later_line, lines_from, misplaced, name_line}
use Rattle.suite_session.proofs.Vocabulary.{named_line, own_line, owns_in, user_line, with_own, Word, LineFault, ScriptFault, LinesBelowArePlayed}
use Rattle.suite_session.proofs.Vocabulary.{language_below, told_for, ways, after_own, asks, head_of, heads, own_of, told, OpenService, PlayService, fixed_of}
use Rattle.script_desk.specs.Doing.{headed}
use Rattle.suite_session.specs.declared.play_service.PlayService.TheVariants as service

-- ---- words that begin lines of another kind

at_equal : (P : Word → Bool) (first word : Word) → P first ≡ true → P word ≡ false → (is : Bool) → bytes_eq first word ≡ is → bytes_eq first word ≡ false
at_equal P first word holds fails false same = same
at_equal P first word holds fails true same = absurd (false≢true (sym (subst (λ (text : Word). P text ≡ false) (sym ((bytes_eq-Decides first word).0 same)) fails) ∙ holds))

other_word : (P : Word → Bool) (first word : Word) → P first ≡ true → P word ≡ false → bytes_eq first word ≡ false
other_word P first word holds fails = at_equal P first word holds fails (bytes_eq first word) refl

no_head : (is_fresh same : Bool) → same ≡ false → (is_fresh && same) ≡ false
no_head true same is = is
no_head false same is = refl

-- neither a line of the header, nor one that asks
record IsBelow (open_service : OpenService) (first : Word) : Type 0 where
  heads : heads (service.Open open_service) first ≡ false
  asks : asks first ≡ false

-- words that are told from those that begin such a line
record TellsApart (P : Word → Bool) : Type 0 where
  old : P (codes "old") ≡ false
  row : P (codes "row") ≡ false
  content : P (codes "content") ≡ false
  copies : P (codes "copies") ≡ false
  locks : P (codes "locks") ≡ false
  room : P (codes "room") ≡ false

commands_apart : TellsApart is_command
commands_apart = record { old = refl; row = refl; content = refl; copies = refl; locks = refl; room = refl }

users_apart : TellsApart is_user
users_apart = record { old = refl; row = refl; content = refl; copies = refl; locks = refl; room = refl }

groups_apart : TellsApart is_group
groups_apart = record { old = refl; row = refl; content = refl; copies = refl; locks = refl; room = refl }

below_by : (P : Word → Bool) (open_service : OpenService) (first : Word) → P first ≡ true → TellsApart P → IsBelow open_service first
below_by P open_service first holds apart =
    let other : (word : Word) → P word ≡ false → bytes_eq first word ≡ false = λ word fails. other_word P first word holds fails in
    record {
      heads = no_head open_service.is_fresh (bytes_eq first (codes "old")) (other (codes "old") apart.old);
      asks = rw (other (codes "row") apart.row, other (codes "content") apart.content, other (codes "copies") apart.copies, other (codes "locks") apart.locks, other (codes "room") apart.room) refl;
    }

command_below : (open_service : OpenService) (first : Word) → is_command first ≡ true → IsBelow open_service first
command_below open_service first is = below_by is_command open_service first is commands_apart

-- a name that a line gives, whether a command came before or not
record GivesName (open_service : OpenService) (names : Tables) (first : Word) (later : List Word) (given : Tables) : Type 0 where
  is_below : IsBelow open_service first
  anywhere : name_line is_known false names first later ≡ Ok given

name_given : (open_service : OpenService) (names : Tables) (first : Word) (later : List Word) (given : Tables) (user group : Bool) → is_user first ≡ user → is_group first ≡ group
    → (if user then user_line names later else if group then group_line names later else Err (misplaced is_known first)) ≡ Ok given
    → IsBelow open_service first
name_given open_service names first later given true group first_is is_other is = below_by is_user open_service first first_is users_apart
name_given open_service names first later given false true first_is is_other is = below_by is_group open_service first is_other groups_apart
name_given open_service names first later given false false first_is is_other is = absurd cc

gives_name : (open_service : OpenService) (names : Tables) (first : Word) (later : List Word) (given : Tables) (begun : Bool) → name_line is_known begun names first later ≡ Ok given → GivesName open_service names first later given
gives_name open_service names first later given true is = absurd cc
gives_name open_service names first later given false is = record {
  is_below = name_given open_service names first later given (is_user first) (is_group first) refl refl is;
  anywhere = is;
}

-- ---- a line

same_owns : (a b : List Command) → ◌≡◌ {A = Result (List Command) ScriptFault} (Ok a) (Ok b) → a ≡ b
same_owns a b is = cc

same_tables : (a b : Tables) → ◌≡◌ {A = Result Tables LineFault} (Ok a) (Ok b) → a ≡ b
same_tables a b is = cc

no_tables : (fault : LineFault) (given : Tables) → ◌≡◌ {A = Result Tables LineFault} (Err fault) (Ok given) → ⊥
no_tables fault given is = cc

-- what follows a command, where nothing has a fault
record GoesOn (command : Command) (later : Result (List Command) ScriptFault) (owns : List Command) : Type 0 where
  rest : List Command
  is : later ≡ Ok rest
  all : owns ≡ command ∷ rest

goes_on : (command : Command) (later : Result (List Command) ScriptFault) (owns : List Command) → with_own command later ≡ Ok owns → GoesOn command later owns
goes_on command (Ok rest) owns is = record { rest = rest; is = refl; all = sym (same_owns (command ∷ rest) owns is) }
goes_on command (Err fault) owns is = absurd cc

abbrev pub desk_of : Tables → OpenService → ScriptDesk PlayService
desk_of names open_service = record { names = names; service = service.Open open_service }

abbrev pub printed : OpenService → List Command → List ℕ
printed open_service owns = all_lines (fixed_of open_service.world.given) open_service.world.world owns

-- each line calls for status 0
abbrev pub AreRight : ScriptDesk PlayService → List (List ℕ) → Type 0
AreRight desk [] = Unit {0}
AreRight desk (line ∷ later) = (status_of_kind (kind_of_line ways desk line) ≡ done) × AreRight (after_line ways desk line) later

-- lines are told this text, and none is faulty
abbrev pub Prints : ScriptDesk PlayService → ℕ → List (List ℕ) → List ℕ → Type 0
Prints desk number lines text = (told_for desk number lines ≡ text) × AreRight desk lines

-- the same of a line that does this, and those after it
abbrev pub Goes : ℕ → Does (ScriptDesk PlayService) → ScriptDesk PlayService → List (List ℕ) → List ℕ → Type 0
Goes number does desk more text =
    (text_in number does ++ told_for (next_in desk does) (number + 1) more ≡ text) × ((status_of_kind (kind_in does) ≡ done) × AreRight (next_in desk does) more)

-- a line that tells nothing
pub goes_quietly : (number : ℕ) (desk next : ScriptDesk PlayService) (more : List (List ℕ)) (text : List ℕ) → Prints next (number + 1) more text → Goes number (Keeps [] next) desk more text
goes_quietly number desk next more text later = (later.0, (refl, later.1))

pub passes_quietly : (number : ℕ) (desk : ScriptDesk PlayService) (more : List (List ℕ)) (text : List ℕ) → Prints desk (number + 1) more text → Goes number (Passes []) desk more text
passes_quietly number desk more text later = (later.0, (refl, later.1))

-- lines are played, from any desk on
abbrev ArePlayed : List (List ℕ) → Type 0
ArePlayed lines =
    (names : Tables) (open_service : OpenService) (begun : Bool) (number : ℕ) (owns : List Command)
    → owns_in (language_below open_service) begun names (lines_from number lines) ≡ Ok owns → Prints (desk_of names open_service) number lines (printed open_service owns)

command_played : (more : List (List ℕ)) → ArePlayed more → (names : Tables) (open_service : OpenService) (number : ℕ) (command : Command) (owns : List Command)
    → GoesOn command (owns_in (language_below open_service) true names (lines_from (number + 1) more)) owns
    → Goes number (Keeps (ways.line (service.Open open_service) command) (record { names = names; service = ways.after (service.Open open_service) command })) (desk_of names open_service) more (printed open_service owns)
command_played more played_on names open_service number command owns goes =
    let later = played_on names (after_own open_service command) true (number + 1) goes.rest goes.is in (
      ap (λ text. ways.line (service.Open open_service) command ++ text) later.0 ∙ ap (printed open_service) (sym goes.all),
      (refl, later.1),
    )

line_played : (more : List (List ℕ)) → ArePlayed more → (names : Tables) (open_service : OpenService) (begun : Bool) (number : ℕ) (owns : List Command)
    (head : Result PlayService LineFault) (answer : Result (List ℕ) LineFault) (own : Result Command LineFault) (named anywhere : Result Tables LineFault) (first : Word) (heads_it asks_it command : Bool)
    → heads (service.Open open_service) first ≡ heads_it → asks first ≡ asks_it
    → (command ≡ true → IsBelow open_service first)
    → ((given : Tables) → named ≡ Ok given → IsBelow open_service first × (anywhere ≡ Ok given))
    → followed number (if command then own_line own else named_line named) (λ known. owns_in (language_below open_service) begun known (lines_from (number + 1) more))
    (owns_in (language_below open_service) true names (lines_from (number + 1) more)) ≡ Ok owns
    → let desk = desk_of names open_service in
    let does = if heads_it then headed desk head else if asks_it then asked answer else below ways desk (if command then own_line own else named_line anywhere) in
    Goes number does desk more (printed open_service owns)
line_played more played_on names open_service begun number owns head answer own named anywhere first true asks_it true is_head is_asked commands gives is =
    absurd (false≢true (sym (commands refl).heads ∙ is_head))
line_played more played_on names open_service begun number owns head answer own named anywhere first false true true is_head is_asked commands gives is =
    absurd (false≢true (sym (commands refl).asks ∙ is_asked))
line_played more played_on names open_service begun number owns head answer (Ok command) named anywhere first false false true is_head is_asked commands gives is =
    command_played more played_on names open_service number command owns (goes_on command (owns_in (language_below open_service) true names (lines_from (number + 1) more)) owns is)
line_played more played_on names open_service begun number owns head answer (Err fault) named anywhere first false false true is_head is_asked commands gives is = absurd cc
line_played more played_on names open_service begun number owns head answer own (Ok given) anywhere first true asks_it false is_head is_asked commands gives is =
    absurd (false≢true (sym (gives given refl).0.heads ∙ is_head))
line_played more played_on names open_service begun number owns head answer own (Ok given) anywhere first false true false is_head is_asked commands gives is =
    absurd (false≢true (sym (gives given refl).0.asks ∙ is_asked))
line_played more played_on names open_service begun number owns head answer own (Ok given) (Ok known) first false false false is_head is_asked commands gives is =
    let same : known ≡ given = same_tables known given (gives given refl).1 in
    let fresh = record open_service { is_fresh = false } in
    goes_quietly number (desk_of names open_service) (desk_of known fresh) more (printed open_service owns)
    (subst (λ (known : Tables). Prints (desk_of known fresh) (number + 1) more (printed open_service owns)) (sym same) (played_on given fresh begun (number + 1) owns is))
line_played more played_on names open_service begun number owns head answer own (Ok given) (Err fault) first false false false is_head is_asked commands gives is =
    absurd (no_tables fault given (gives given refl).1)
line_played more played_on names open_service begun number owns head answer own (Err fault) anywhere first heads_it asks_it false is_head is_asked commands gives is = absurd cc

words_played : (more : List (List ℕ)) → ArePlayed more → (names : Tables) (open_service : OpenService) (begun : Bool) (number : ℕ) (owns : List Command) (line : List Word)
    → followed number (later_line (language_below open_service) begun names line) (λ known. owns_in (language_below open_service) begun known (lines_from (number + 1) more))
    (owns_in (language_below open_service) true names (lines_from (number + 1) more)) ≡ Ok owns
    → let desk = desk_of names open_service in Goes number (said ways desk line) desk more (printed open_service owns)
words_played more played_on names open_service begun number owns [] is = absurd cc
words_played more played_on names open_service begun number owns (first ∷ later) is =
    line_played more played_on names open_service begun number owns (head_of (service.Open open_service) first later) (told (service.Open open_service) first later)
    (own_of (service.Open open_service) names first later) (name_line is_known begun names first later) (name_line is_known false names first later) first
    (heads (service.Open open_service) first) (asks first) (is_command first) refl refl (command_below open_service first)
    (λ given named. let gives = gives_name open_service names first later given begun named in (gives.is_below, gives.anywhere)) is

one_played : (line : List ℕ) (more : List (List ℕ)) → ArePlayed more → (names : Tables) (open_service : OpenService) (begun : Bool) (number : ℕ) (owns : List Command) (skipped : Bool)
    → owns_in (language_below open_service) begun names (if skipped then lines_from (number + 1) more else record { number = number; words = words line } ∷ lines_from (number + 1) more) ≡ Ok owns
    → let desk = desk_of names open_service in
    let does = if skipped then Passes [] else said ways desk (words line) in
    Goes number does desk more (printed open_service owns)
one_played line more played_on names open_service begun number owns true is =
    passes_quietly number (desk_of names open_service) more (printed open_service owns) (played_on names open_service begun (number + 1) owns is)
one_played line more played_on names open_service begun number owns false is = words_played more played_on names open_service begun number owns (words line) is

pub are_played : (lines : List (List ℕ)) → ArePlayed lines
are_played [] names open_service begun number owns is = (ap (printed open_service) (same_owns [] owns is), tt)
are_played (line ∷ more) names open_service begun number owns is = one_played line more (are_played more) names open_service begun number owns (is_skipped line) is

pub lines_below_are_played : LinesBelowArePlayed
lines_below_are_played names open_service begun number lines owns is = (are_played lines names open_service begun number owns is).0
