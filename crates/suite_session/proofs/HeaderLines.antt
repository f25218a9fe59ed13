-- A line of the header, as `play` finds it in a text and as a session comes to it.
use Rattle.suite_session.proofs.Vocabulary.{◌≡◌, ◌∙◌, ℕ, ◌+◌, Bool, true, false, List, [], ◌∷◌, if◌then◌else◌, Result, Ok, Err, refl, sym, ap, subst, bytes_eq}
use Rattle.suite_session.proofs.Vocabulary.{◌>>=◌, Keeps, Passes, said, ScriptDesk, words, is_known, Headed, Pending, header_line_in, is_skipped, lines_from}
use Rattle.suite_session.proofs.Vocabulary.{misplaced, no_names, said_at, words_after, Word, LineFault, ScriptFault, Line, ways, head_of, heads, PlayService}
use Rattle.suite_script.specs.Scripts.{headed}
use Rattle.suite_session.proofs.Played.{Goes, Prints, goes_quietly, passes_quietly}

-- ---- one step after another

pub record Bound {A B E : Type 0} (given : Result A E) (next : A → Result B E) (last : B) : Type 0 where
  pub value : A
  pub is : given ≡ Ok value
  pub later : next value ≡ Ok last

pub both_steps : {A B E : Type 0} (given : Result A E) (next : A → Result B E) (last : B) → ◌>>=◌ given next ≡ Ok last → Bound given next last
both_steps (Ok value) next last is = record { value = value; is = refl; later = is }
both_steps (Err why) next last is = absurd cc

was_said : {A : Type 0} (number : ℕ) (given : Result A LineFault) (value : A) → said_at number given ≡ Ok value → given ≡ Ok value
was_said number (Ok given) value is = cc
was_said number (Err fault) value is = absurd cc

pub same_headed : {A : Type 0} (a b : Headed A) → ◌≡◌ {A = Result (Headed A) ScriptFault} (Ok a) (Ok b) → a ≡ b
same_headed a b is = cc

-- ---- the line

record IsFirst (begins : Word) (line later : List Word) : Type 0 where
  first : Word
  is : line ≡ first ∷ later
  begins_it : bytes_eq first begins ≡ true

same_words : (a b : List Word) → ◌≡◌ {A = Result (List Word) LineFault} (Ok a) (Ok b) → a ≡ b
same_words a b is = cc

is_first : (begins first : Word) (words later : List Word) (same : Bool) → bytes_eq first begins ≡ same → (if same then Ok words else Err (misplaced is_known first)) ≡ Ok later → IsFirst begins (first ∷ words) later
is_first begins first words later true same is = record { first = first; is = ap (λ (rest : List Word). first ∷ rest) (same_words words later is); begins_it = same }
is_first begins first words later false same is = absurd cc

begins_so : (begins : Word) (line later : List Word) → words_after is_known begins line ≡ Ok later → IsFirst begins line later
begins_so begins [] later is = absurd cc
begins_so begins (first ∷ words) later is = is_first begins first words later (bytes_eq first begins) refl is

-- a script of which the header is being read: its lines from one of this number on
abbrev pub script_at : ℕ → ℕ → List (List ℕ) → Pending
script_at end number lines = record { lines = lines_from number lines; end = end; names = no_names; begun = false }

record IsRead {A : Type 0} (begins : Word) (reading : List Word → Result A LineFault) (line : List Word) (rest : Pending) (got : Headed A) : Type 0 where
  later : List Word
  is_first : IsFirst begins line later
  reads : reading later ≡ Ok got.value
  rest_is : got.rest ≡ rest

is_read : {A : Type 0} (begins : Word) (reading : List Word → Result A LineFault) (end number : ℕ) (line : List Word) (more : List (List ℕ)) (got : Headed A)
    → headed is_known begins reading (record (script_at end (number + 1) more) { lines = record { number = number; words = line } ∷ lines_from (number + 1) more }) ≡ Ok got
    → IsRead begins reading line (script_at end (number + 1) more) got
is_read {A = A} begins reading end number line more got is =
    let script : Pending = record (script_at end (number + 1) more) { lines = record { number = number; words = line } ∷ lines_from (number + 1) more } in
    let found = both_steps (header_line_in is_known begins script script.lines) _ got is in
    let inner = both_steps (said_at number (words_after is_known begins line)) _ found.value found.is in
    let line_is = same_headed _ found.value inner.later in
    let value = both_steps (said_at found.value.value.number (reading found.value.value.words)) _ got found.later in
    let got_is = same_headed _ got value.later in
    record {
      later = inner.value;
      is_first = begins_so begins line inner.value (was_said number (words_after is_known begins line) inner.value inner.is);
      reads =
          ap (λ (one : Headed Line). reading one.value.words) line_is
          ∙ was_said found.value.value.number (reading found.value.value.words) value.value value.is
          ∙ ap (λ (one : Headed A). Ok one.value) got_is;
      rest_is = sym (ap (λ (one : Headed A). one.rest) got_is) ∙ sym (ap (λ (one : Headed Line). one.rest) line_is);
    }

-- ---- the session

abbrev pub begins_as : PlayService → ScriptDesk PlayService
begins_as state = record { names = no_names; service = state }

-- where a line that begins so is read, it is one of the header, and leaves this
abbrev pub Takes : {A : Type 0} → Word → (List Word → Result A LineFault) → (A → PlayService) → PlayService → Type 0
Takes {A = A} begins reading next state =
    (first : Word) (later : List Word) (value : A) → bytes_eq first begins ≡ true → reading later ≡ Ok value → (heads state first ≡ true) × (head_of state first later ≡ Ok (next value))

-- the line was read, and what is printed from there on is all that is printed
pub record IsHeaded {A : Type 0} (reading : List Word → Result A LineFault) (next : A → PlayService) (end : ℕ) (got : Headed A) (Printing : List ℕ → Type 0) : Type 0 where
  pub later : List Word
  pub reads : reading later ≡ Ok got.value
  pub number : ℕ
  pub left : List (List ℕ)
  pub rest_is : got.rest ≡ script_at end number left
  pub prints : (text : List ℕ) → Prints (begins_as (next got.value)) number left text → Printing text

takes_it : (state after : PlayService) (first : Word) (later : List Word) → heads state first ≡ true → head_of state first later ≡ Ok after → said ways (begins_as state) (first ∷ later) ≡ Keeps [] (begins_as after)
takes_it state after first later is_head leaves = rw (is_head, leaves) refl

words_headed : {A : Type 0} (begins : Word) (reading : List Word → Result A LineFault) (next : A → PlayService) (state : PlayService) → Takes begins reading next state
    → (end number : ℕ) (line : List Word) (more : List (List ℕ)) (got : Headed A) → IsRead begins reading line (script_at end (number + 1) more) got
    → IsHeaded reading next end got (Goes number (said ways (begins_as state) line) (begins_as state) more)
words_headed begins reading next state takes end number line more got read =
    let taken = takes read.is_first.first read.later got.value read.is_first.begins_it read.reads in
    record {
      later = read.later;
      reads = read.reads;
      number = number + 1;
      left = more;
      rest_is = read.rest_is;
      prints = λ text later.
          subst (λ (line : List Word). Goes number (said ways (begins_as state) line) (begins_as state) more text) (sym read.is_first.is)
          (subst (λ does. Goes number does (begins_as state) more text) (sym (takes_it state (next got.value) read.is_first.first read.later taken.0 taken.1))
          (goes_quietly number (begins_as state) (begins_as (next got.value)) more text later));
    }

-- the lines from one on have it
abbrev HasHeader : {A : Type 0} → Word → (List Word → Result A LineFault) → (A → PlayService) → PlayService → ℕ → List (List ℕ) → Type 0
HasHeader {A = A} begins reading next state end lines =
    (number : ℕ) (got : Headed A) → headed is_known begins reading (script_at end number lines) ≡ Ok got → IsHeaded reading next end got (Prints (begins_as state) number lines)

one_headed : {A : Type 0} (begins : Word) (reading : List Word → Result A LineFault) (next : A → PlayService) (state : PlayService) → Takes begins reading next state
    → (end : ℕ) (line : List ℕ) (more : List (List ℕ)) → HasHeader begins reading next state end more → (number : ℕ) (got : Headed A) (skipped : Bool)
    → headed is_known begins reading (record (script_at end (number + 1) more) { lines = if skipped then lines_from (number + 1) more else record { number = number; words = words line } ∷ lines_from (number + 1) more }) ≡ Ok got
    → IsHeaded reading next end got (Goes number (if skipped then Passes [] else said ways (begins_as state) (words line)) (begins_as state) more)
one_headed begins reading next state takes end line more later number got true is =
    let rest = later (number + 1) got is in
    record {
      later = rest.later;
      reads = rest.reads;
      number = rest.number;
      left = rest.left;
      rest_is = rest.rest_is;
      prints = λ text printed. passes_quietly number (begins_as state) more text (rest.prints text printed);
    }
one_headed begins reading next state takes end line more later number got false is =
    words_headed begins reading next state takes end number (words line) more got (is_read begins reading end number (words line) more got is)

pub header_line : {A : Type 0} (begins : Word) (reading : List Word → Result A LineFault) (next : A → PlayService) (state : PlayService) → Takes begins reading next state
    → (end : ℕ) (lines : List (List ℕ)) → HasHeader begins reading next state end lines
header_line begins reading next state takes end [] number got is = absurd cc
header_line begins reading next state takes end (line ∷ more) number got is =
    one_headed begins reading next state takes end line more (header_line begins reading next state takes end more) number got (is_skipped line) is
