-- Calls that are alike.
use Rattle.std.specs.Prelude.{◌≡◌, ℕ, ◌<◌, ◌≤◌, List, length, slice_get, Contains, Some, None}
use Rattle.file_ops.specs.declared.operation.Action.{Action}
use Rattle.file_ops.specs.declared.operation.Action.TheVariants as action
use Rattle.file_ops.specs.declared.operation.Op.{Op}
use Rattle.file_ops.specs.Paths.{names_of}
use Rattle.history_judge.specs.declared.history.CallRequest.{CallRequest}
use Rattle.history_judge.specs.declared.history.CallRequest.TheVariants.{Ops}
use Rattle.history_judge.specs.declared.history.Call.{Call}

-- an operation that makes nothing does the same whatever the number of its transaction is
abbrev pub IsNoMake : Action → Type 0
IsNoMake (action.Make kind init votes) = ⊥
IsNoMake _ = Unit {0}

pub record DoSame (op other : Op) : Type 0 where
  pub names : names_of op.path ≡ names_of other.path
  pub action : op.action ≡ other.action
  pub makes_none : IsNoMake op.action

-- as many, and the same by places
pub record AreSameAt (ops others : List Op) : Type 0 where
  pub long : length ops ≡ length others
  pub same : (place : ℕ) (op other : Op) → slice_get ops place ≡ Some op → slice_get others place ≡ Some other → DoSame op other

abbrev pub AskSame : CallRequest → CallRequest → Type 0
AskSame (Ops ops) (Ops others) = AreSameAt ops others
AskSame _ _ = ⊥

-- two calls of one caller for the same, which makes nothing; both were not told, and the first was called no later
pub record AreAlike (call other : Call) : Type 0 where
  pub untold : call.told ≡ None
  pub other_untold : other.told ≡ None
  pub called : call.called ≤ other.called
  pub caller : call.caller ≡ other.caller
  pub asked : AskSame call.asked other.asked

-- A call waits for a pending one that is alike, has a lower number and is not among those that were placed.
pub record Waits (history : List Call) (pending early : List ℕ) (number : ℕ) : Type 0 where
  pub other : ℕ
  pub lower : other < number
  pub among : Contains pending other
  pub new : Contains early other → ⊥
  pub call : Call
  pub other_call : Call
  pub at : slice_get history number ≡ Some call
  pub other_at : slice_get history other ≡ Some other_call
  pub alike : AreAlike other_call call
