-- What the program has done when it ends.
use Rattle.std.specs.Prelude.{◌≡◌, ℕ, ◌⊎◌, Bool, true, false, List, [], ◌∷◌, Option, Some}
use Rattle.byte_streams.specs.Endings.{Finishes, Lacks, TellsLine, done}
use Rattle.byte_streams.specs.Programs.{Obeys, RunsOn, Streams}
use Rattle.forms.specs.Answers.{IsAnswer}
use Rattle.forms.specs.declared.Question.{Question}
use Rattle.forms.specs.declared.Wish.{Wish}
use Rattle.forms.specs.declared.Wish.TheVariants.{Table, Answer}

-- the answer was written, or a write failed
pub record WritesAnswer (question : Question) (given : List ℕ) (before after : Option (List ℕ)) (failures failures_after status : ℕ) : Type 0 where
  pub text : List ℕ
  pub is : IsAnswer question given text
  pub written : Finishes text done status before after failures failures_after

abbrev pub Ends : Question → List ℕ → Option (List ℕ) → Option (List ℕ) → ℕ → ℕ → ℕ → Type 0
Ends question given before after failures failures_after status =
    WritesAnswer question given before after failures failures_after status ⊎ Lacks status before after failures failures_after

-- a question about what the program reads was answered; or that was not read whole
abbrev pub Runs : Question → Streams → ℕ → Type 0
Runs question streams status =
    RunsOn (λ given. Ends question given streams.written streams.written_after streams.failed_writes streams.failed_writes_after status) streams status streams.input

-- the same, or memory ran out
pub record WritesTable (streams : Streams) (status : ℕ) : Type 0 where
  pub text : List ℕ
  pub unread : streams.input_after ≡ streams.input
  pub written : TellsLine text done status streams.written streams.written_after streams.failed_writes streams.failed_writes_after

-- what words ask for was done
abbrev pub Does : Wish → Streams → ℕ → Type 0
Does Table streams status = WritesTable streams status
Does (Answer question) streams status = Runs question streams status

-- ---- what the words ask for

-- an answer, or nothing
abbrev pub is_other : Option Wish → Bool
is_other (Some Table) = false
is_other wish = true

-- no word asks for the table, and others do not
abbrev pub Asks : List (List ℕ) → Option Wish → Type 0
Asks [] wish = wish ≡ Some Table
Asks (word ∷ words) wish = is_other wish ≡ true

-- what they ask for was done
pub record DoesOf (words : List (List ℕ)) (streams : Streams) (status : ℕ) : Type 0 where
  pub wish : Option Wish
  pub is : Asks words wish
  pub done : Obeys Does wish streams status
