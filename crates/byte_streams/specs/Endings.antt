-- How a program ends: its last line, and its exit status.
use Rattle.std.specs.Prelude.{◌≡◌, ◌⊎◌, ℕ, List, [], ◌∷◌, ◌++◌, codes, Vec, Option, Result, Ok, Err}
use Rattle.std.specs.declared.alloc.AllocError.{AllocError}
use Rattle.std.specs.declared.alloc.Global.{Global}
use Rattle.byte_streams.specs.Streams.{Adds, one_more}

-- the statuses
abbrev pub done : ℕ
done = 0

abbrev pub bad_words : ℕ
bad_words = 2

abbrev pub faulty : ℕ
faulty = 3

abbrev pub no_memory : ℕ
no_memory = 4

abbrev pub no_stream : ℕ
no_stream = 6

-- the most bytes of an input; a limit of this project
abbrev pub max_input : ℕ
max_input = 16777216

-- the line that says that memory ran out
abbrev pub memory_line : List ℕ
memory_line = codes "fault memory" ++ 10 ∷ []

-- a text was written whole, with its status; or a write failed
abbrev pub Finishes : List ℕ → ℕ → ℕ → Option (List ℕ) → Option (List ℕ) → ℕ → ℕ → Type 0
Finishes text status result before after failures failures_after =
    ((result ≡ status) × Adds before text after) ⊎ ((result ≡ no_stream) × (failures_after ≡ one_more failures))

-- it was said that memory ran out, or a write failed
abbrev pub SaysMemory : Option (List ℕ) → Option (List ℕ) → ℕ → ℕ → Type 0
SaysMemory before after failures failures_after = Adds before memory_line after ⊎ (failures_after ≡ one_more failures)

-- the same, with its status
abbrev pub Lacks : ℕ → Option (List ℕ) → Option (List ℕ) → ℕ → ℕ → Type 0
Lacks status before after failures failures_after = (status ≡ no_memory) × SaysMemory before after failures failures_after

-- a line was written with its status, or a write failed; or there was no memory for the line
abbrev pub FinishesLine : Result (Vec ℕ Global) AllocError → ℕ → ℕ → Option (List ℕ) → Option (List ℕ) → ℕ → ℕ → Type 0
FinishesLine (Ok line) status result before after failures failures_after = Finishes line.items status result before after failures failures_after
FinishesLine (Err error) status result before after failures failures_after = Lacks result before after failures failures_after

abbrev pub TellsLine : List ℕ → ℕ → ℕ → Option (List ℕ) → Option (List ℕ) → ℕ → ℕ → Type 0
TellsLine line status result before after failures failures_after =
    Finishes line status result before after failures failures_after ⊎ Lacks result before after failures failures_after
