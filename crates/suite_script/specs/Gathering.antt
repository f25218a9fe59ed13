-- Scripts that are played, and text that is gathered and written in pieces.
use Rattle.std.specs.Prelude.{◌≡◌, ℕ, nat_lt, if◌then◌else◌, List, [], ◌++◌, length, Option, Result, Ok, Err}
use Rattle.byte_streams.specs.Streams.{Adds, one_more}
use Rattle.byte_streams.specs.declared.traits.WriteFailed.{WriteFailed}
use Rattle.suite_script.specs.Faults.{fault_line}
use Rattle.suite_script.specs.Outputs.{Output, Done, Faulty, IsBegun, script_output}
use Rattle.suite_script.specs.declared.fault.ScriptFault.{ScriptFault}
use Rattle.suite_script.specs.declared.play_error.PlayError.{PlayError}
use Rattle.suite_script.specs.declared.play_error.PlayError.TheVariants as play

-- ---- what is written

-- so much of a text is written that this is left
pub record WroteSoFar (before : Option (List ℕ)) (text left : List ℕ) (after : Option (List ℕ)) : Type 0 where
  pub front : List ℕ
  pub cut : front ++ left ≡ text
  pub added : Adds before front after

-- all of an output is written
abbrev pub Wrote : Output → Option (List ℕ) → Option (List ℕ) → Type 0
Wrote (Done text) before after = Adds before text after
Wrote (Faulty line) before after = ⊥

-- it was broken off
pub record BrokeOff (output : Output) (before after : Option (List ℕ)) : Type 0 where
  pub front : List ℕ
  pub begun : IsBegun output front
  pub added : Adds before front after

-- ---- text that is gathered

-- a text of so many bytes is written
abbrev pub long_enough : ℕ
long_enough = 65536

-- what is gathered still
abbrev pub still_gathered : List ℕ → List ℕ
still_gathered text = if nat_lt (length text) long_enough then text else []

-- it is written where it is long enough, and else gathered still; where a write failed it was counted
abbrev pub Moves : Result (Unit {0}) WriteFailed → List ℕ → List ℕ → Option (List ℕ) → Option (List ℕ) → ℕ → ℕ → Type 0
Moves (Ok nothing) gathered left before after failures failures_after =
    WroteSoFar before gathered left after × (failures_after ≡ failures) × (left ≡ still_gathered gathered)
Moves (Err error) gathered left before after failures failures_after = failures_after ≡ one_more failures

-- the same of a line that is played in pieces; where memory ran out, some of its text may be written
abbrev pub Prints : Result (Unit {0}) PlayError → List ℕ → List ℕ → Option (List ℕ) → Option (List ℕ) → ℕ → ℕ → Type 0
Prints (Ok nothing) gathered left before after failures failures_after = WroteSoFar before gathered left after × (failures_after ≡ failures)
Prints (Err play.Memory) gathered left before after failures failures_after = ((rest : List ℕ) × WroteSoFar before gathered rest after) × (failures_after ≡ failures)
Prints (Err play.WriteFailed) gathered left before after failures failures_after = failures_after ≡ one_more failures
Prints (Err (play.Faulty fault)) gathered left before after failures failures_after = ⊥

-- ---- scripts

-- a script was played: what it prints is written; or it is faulty, and nothing is written; or a write failed, or memory ran out
abbrev pub Plays : Result (Unit {0}) PlayError → Output → Option (List ℕ) → Option (List ℕ) → ℕ → ℕ → Type 0
Plays (Ok nothing) output before after failures failures_after = Wrote output before after × (failures_after ≡ failures)
Plays (Err (play.Faulty fault)) output before after failures failures_after = (output ≡ Faulty (fault_line fault)) × ((after ≡ before) × (failures_after ≡ failures))
Plays (Err play.WriteFailed) output before after failures failures_after = failures_after ≡ one_more failures
Plays (Err play.Memory) output before after failures failures_after = BrokeOff output before after × (failures_after ≡ failures)

-- what a script comes to, of which some lines were played: what these printed, and what the lines that are left print; or the first fault
abbrev pub comes_to : {Own : Type 0} → List ℕ → (List Own → List ℕ) → Result (List Own) ScriptFault → Output
comes_to printed lines left = script_output (λ later. printed ++ lines later) left
