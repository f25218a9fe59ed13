-- What each line of a session does, where its lines are those of a script.
use Rattle.std.specs.Prelude.{◌≡◌, ◌⊎◌, ℕ, Bool, false, if◌then◌else◌, List, [], ◌∷◌, refl, Result, Ok, Err}
use Rattle.acl_text.specs.Tables.{Tables}
use Rattle.line_session.specs.declared.line_kind.LineKind.{LineKind}
use Rattle.line_session.specs.declared.line_kind.LineKind.TheVariants.{Kept, Passing, Faulty}
use Rattle.script_desk.specs.declared.desk.ScriptDesk.{ScriptDesk}
use Rattle.script_text.specs.Words.{words}
use Rattle.suite_script.specs.Faults.{fault_line}
use Rattle.suite_script.specs.Scripts.{Named, Own, Said, is_skipped, language_of, later_line}
use Rattle.suite_script.specs.Words.{Word}
use Rattle.suite_script.specs.declared.fault.LineFault.{LineFault}
use Rattle.suite_script.specs.declared.fault.LineFault.TheVariants.{Form}

-- what a command has of its own: which words begin its lines; what the lines of its header leave, and which line is one of them; which lines ask
-- something, and what they are told; what its own lines say, what they print, and what they leave; and what is left once a name was given
pub record Ways (Service Saying : Type 0) : Type 0 where
  pub is_known : Word → Bool
  pub begins : Word → Bool
  pub own : Service → Tables → Word → List Word → Result Saying LineFault
  pub heads : Service → Word → Bool
  pub head : Service → Word → List Word → Result Service LineFault
  pub asks : Word → Bool
  pub told : Service → Word → List Word → Result (List ℕ) LineFault
  pub line : Service → Saying → List ℕ
  pub after : Service → Saying → Service
  pub settled : Service → Service

abbrev pub ways_of : {Service Saying : Type 0} → (Word → Bool) → (Word → Bool) → (Service → Tables → Word → List Word → Result Saying LineFault) → (Service → Word → Bool)
    → (Service → Word → List Word → Result Service LineFault) → (Word → Bool) → (Service → Word → List Word → Result (List ℕ) LineFault)
    → (Service → Saying → List ℕ) → (Service → Saying → Service) → (Service → Service) → Ways Service Saying
ways_of is_known begins own heads head asks told line after settled = record {
  is_known = is_known;
  begins = begins;
  own = own;
  heads = heads;
  head = head;
  asks = asks;
  told = told;
  line = line;
  after = after;
  settled = settled;
}

-- what a line does: it passes, and this is told; it is kept, and this is told and left; or it has a fault
pub data Does (State : Type 0) : Type 0 where
  Passes : List ℕ → Does State
  Keeps : List ℕ → State → Does State
  Fails : LineFault → Does State

abbrev pub kind_in : {State : Type 0} → Does State → LineKind
kind_in (Passes text) = Passing
kind_in (Keeps text left) = Kept
kind_in (Fails fault) = Faulty

abbrev pub text_in : {State : Type 0} → ℕ → Does State → List ℕ
text_in number (Passes text) = text
text_in number (Keeps text left) = text
text_in number (Fails fault) = fault_line (record { line = number; fault = fault })

abbrev pub next_in : {State : Type 0} → State → Does State → State
next_in state (Passes text) = state
next_in state (Keeps text left) = left
next_in state (Fails fault) = state

-- a line of the header
abbrev pub headed : {Service : Type 0} → ScriptDesk Service → Result Service LineFault → Does (ScriptDesk Service)
headed desk (Ok service) = Keeps [] (record desk { service = service })
headed desk (Err fault) = Fails fault

-- a line that asks
abbrev pub asked : {State : Type 0} → Result (List ℕ) LineFault → Does State
asked (Ok text) = Passes text
asked (Err fault) = Fails fault

-- a line below the header: a name is known from then on, or a line of the command's own is carried out
abbrev pub below : {Service Saying : Type 0} → Ways Service Saying → ScriptDesk Service → Result (Said Saying) LineFault → Does (ScriptDesk Service)
below ways desk (Ok (Named names)) = Keeps [] (record { names = names; service = ways.settled desk.service })
below ways desk (Ok (Own own)) = Keeps (ways.line desk.service own) (record desk { service = ways.after desk.service own })
below ways desk (Err fault) = Fails fault

-- what a line below the header says: users and groups may be named anywhere
abbrev pub later_said : {Service Saying : Type 0} → Ways Service Saying → ScriptDesk Service → List Word → Result (Said Saying) LineFault
later_said ways desk words = later_line (language_of ways.is_known ways.begins (ways.own desk.service)) false desk.names words

abbrev pub said : {Service Saying : Type 0} → Ways Service Saying → ScriptDesk Service → List Word → Does (ScriptDesk Service)
said ways desk [] = Fails Form
said ways desk (first ∷ words) =
    if ways.heads desk.service first then headed desk (ways.head desk.service first words)
    else if ways.asks first then asked (ways.told desk.service first words)
    else below ways desk (later_said ways desk (first ∷ words))

-- what a line does; an empty one and a comment pass, and nothing is told
abbrev pub does : {Service Saying : Type 0} → Ways Service Saying → ScriptDesk Service → List ℕ → Does (ScriptDesk Service)
does ways desk line = if is_skipped line then Passes [] else said ways desk (words line)

abbrev pub kind_of_line : {Service Saying : Type 0} → Ways Service Saying → ScriptDesk Service → List ℕ → LineKind
kind_of_line ways desk line = kind_in (does ways desk line)

abbrev pub text_of : {Service Saying : Type 0} → Ways Service Saying → ScriptDesk Service → ℕ → List ℕ → List ℕ
text_of ways desk number line = text_in number (does ways desk line)

abbrev pub after_line : {Service Saying : Type 0} → Ways Service Saying → ScriptDesk Service → List ℕ → ScriptDesk Service
after_line ways desk line = next_in desk (does ways desk line)

-- ---- where memory runs out

-- a line of the command's own stopped
pub record StoppedIn {Service Saying : Type 0} (ways : Ways Service Saying) (Stops : Service → Saying → Service → Type 0) (desk : ScriptDesk Service) (words : List Word) (left : ScriptDesk Service) : Type 0 where
  pub own : Saying
  pub is_said : later_said ways desk words ≡ Ok (Own own)
  pub names : left.names ≡ desk.names
  pub service : Stops desk.service own left.service

-- nothing has changed, or a line of the command's own stopped
abbrev pub leaves_of : {Service Saying : Type 0} → Ways Service Saying → (Service → Saying → Service → Type 0) → ScriptDesk Service → List Word → ScriptDesk Service → Type 0
leaves_of ways Stops desk words left = (left ≡ desk) ⊎ StoppedIn ways Stops desk words left

abbrev pub leaves_in : {Service Saying : Type 0} → Ways Service Saying → (Service → Saying → Service → Type 0) → ScriptDesk Service → List ℕ → ScriptDesk Service → Type 0
leaves_in ways Stops desk line left = leaves_of ways Stops desk (words line) left

-- ---- a law

-- a line that is not kept changes nothing
pub quiet_in : {State : Type 0} (state : State) (does : Does State) → (kind_in does ≡ Kept → ⊥) → next_in state does ≡ state
quiet_in state (Passes text) other = refl
quiet_in state (Keeps text left) other = absurd (other refl)
quiet_in state (Fails fault) other = refl

pub quiet_line : {Service Saying : Type 0} (ways : Ways Service Saying) (desk : ScriptDesk Service) (line : List ℕ) → (kind_of_line ways desk line ≡ Kept → ⊥) → after_line ways desk line ≡ desk
quiet_line ways desk line other = quiet_in desk (does ways desk line) other
