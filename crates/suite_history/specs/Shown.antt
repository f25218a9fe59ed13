-- What is printed of a history, and the exit status.
use Rattle.std.specs.FinSet.{empty}
use Rattle.std.specs.Prelude.{◌≡◌, ℕ, Bool, true, false, List, [], ◌∷◌, ◌++◌, length, slice_get, codes, decimal, Option, Some, None, Result, Ok, Err}
use Rattle.std.specs.List.{flat_map}
use Rattle.byte_streams.specs.Endings.{done}
use Rattle.file_ops.specs.Rows.{PlainTable, opening}
use Rattle.suite_prefix.specs.SettingsRules.{Opening}
use Rattle.vote_core.specs.Quorums.{Configuration}
use Rattle.vote_core.specs.declared.TheConstants.{MAX_SERVERS}
use Rattle.history_judge.specs.declared.history.Call.{Call}
use Rattle.history_judge.specs.declared.verdict.Judgement.{Judgement}
use Rattle.history_judge.specs.declared.verdict.Judgement.TheVariants.{Order, NoOrder}
use Rattle.history_judge.specs.Verdicts.{IsVerdict}
use Rattle.suite_script.specs.declared.fault.ScriptError.{ScriptError}
use Rattle.suite_script.specs.declared.fault.ScriptError.TheVariants.{Faulty, Memory}
use Rattle.suite_script.specs.declared.root.Root.{Root}
use Rattle.suite_script.specs.Faults.{line_feed}
use Rattle.suite_history.specs.declared.shown.Printed.{Printed}
use Rattle.suite_history.specs.Histories.{History, history_in}

-- the table is one of all the servers that there may be, with one vote of the first, and the root folder alone
abbrev pub c0 : Configuration
c0 = record { reps = (0, 1) ∷ []; r = 1; w = 1 }

abbrev pub settings_of : Root → Opening
settings_of root = record {
  servers = MAX_SERVERS;
  agents = 1;
  c0 = c0;
  root_owner = root.owner;
  root_group = root.group;
  root_acl = root.acl;
  budget = 0;
  quota = 0;
  slots = 0;
  old = empty;
}

-- one plain table has so many calls
abbrev pub yes_text : ℕ → List ℕ
yes_text calls = codes "one table: " ++ decimal calls ++ codes " calls" ++ line_feed

-- none has what was told up to a line
abbrev pub no_text : ℕ → List ℕ
no_text line = codes "no: line " ++ decimal line ++ codes " fits no" ++ codes " order" ++ line_feed

-- a call as the number of the line on which it was made
abbrev pub call_text : Option Call → List ℕ
call_text (Some call) = decimal call.called ++ line_feed
call_text None = []

-- the calls of an order, where they are asked for
abbrev pub order_text : Bool → List Call → List ℕ → List ℕ
order_text true calls order = flat_map (λ number. call_text (slice_get calls number)) order
order_text false calls order = []

-- what is printed, with its status
pub record Shown : Type 0 where
  pub text : List ℕ
  pub status : ℕ

-- the exit status where there is no order
abbrev pub no_order : ℕ
no_order = 1

abbrev pub shown_of : Bool → List Call → Judgement → Shown
shown_of tells_order calls (Order order) = record { text = yes_text (length calls) ++ order_text tells_order calls order.items; status = done }
shown_of tells_order calls (NoOrder line) = record { text = no_text line; status = no_order }

-- What is shown of calls is a verdict on them.
pub record IsJudged (tells_order : Bool) (table : PlainTable) (calls : List Call) (shown : Shown) : Type 0 where
  pub verdict : Judgement
  pub is_verdict : IsVerdict table calls verdict
  pub is : shown ≡ shown_of tells_order calls verdict

-- What is shown of a history is a verdict on its calls, on the table that its root folder opens.
pub record IsShownOf (text : List ℕ) (tells_order : Bool) (shown : Shown) : Type 0 where
  pub history : History
  pub reads : history_in text ≡ Ok history
  pub judged : IsJudged tells_order (opening (settings_of history.root)) history.calls shown

abbrev pub shown_in : Printed → Shown
shown_in answer = record { text = answer.text.items; status = answer.status }

-- a history was judged; or this is its first fault; or memory ran out
abbrev pub Shows : List ℕ → Bool → Result Printed ScriptError → Type 0
Shows text tells_order (Ok answer) = IsShownOf text tells_order (shown_in answer)
Shows text tells_order (Err (Faulty fault)) = history_in text ≡ Err fault
Shows text tells_order (Err Memory) = Unit {0}
