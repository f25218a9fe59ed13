-- Histories as text.
use Rattle.std.specs.Prelude.{ℕ, ◌+◌, Bool, true, false, if◌then◌else◌, is_some, List, [], ◌∷◌, ◌++◌, length, codes, slice_get, slice_set, Option, Some, None, Result, Ok, Err}
use Rattle.std.specs.Ordering.{nat_cmp}
use Rattle.std.specs.Str.Lines.{lines}
use Rattle.sorted_map.specs.SortedMap.{get, insert, remove}
use Rattle.acl_core.specs.Identity.{Identity}
use Rattle.file_ops.specs.Steps.{◌>>=◌}
use Rattle.history_judge.specs.declared.history.CallRequest.{CallRequest}
use Rattle.history_judge.specs.declared.history.Call.{Call}
use Rattle.history_judge.specs.declared.history.Seen.{Seen}
use Rattle.history_judge.specs.declared.history.Seen.TheVariants.{SomeAnswers}
use Rattle.history_judge.specs.declared.history.CallReply.{CallReply}
use Rattle.suite_script.specs.declared.fault.LineFault.{LineFault}
use Rattle.suite_script.specs.declared.fault.LineFault.TheVariants.{Order}
use Rattle.suite_script.specs.declared.fault.ScriptFault.{ScriptFault}
use Rattle.suite_script.specs.declared.root.Root.{Root}
use Rattle.suite_script.specs.Scripts.{headed, is_skipped, root_in, said_at, whole}
use Rattle.suite_history.specs.declared.line.Said.{Said}
use Rattle.suite_history.specs.declared.line.Said.TheVariants as said
use Rattle.suite_history.specs.Lines.{is_known, line_in}

-- what some lines say: whether `root` stood among them, the calls, and which of them were told nothing yet, by their clients' names
pub record Heard : Type 0 where
  pub rooted : Bool
  pub calls : List Call
  pub waiting : List (ℕ × ℕ)

abbrev pub nothing : Heard
nothing = record { rooted = false; calls = []; waiting = [] }

-- a call that was made, and perhaps told, on a line
abbrev pub made_on : ℕ → Identity → CallRequest → Option CallReply → Call
made_on line caller asked told = record { caller = caller; asked = asked; called = line; told = told }

-- what was told on a line
abbrev pub told_on : ℕ → Seen → CallReply
told_on line seen = record { at = line; seen = seen }

-- one call more
abbrev pub with_call : Heard → Call → Heard
with_call heard call = record heard { calls = heard.calls ++ call ∷ [] }

-- the call at a place was told this
abbrev pub told_at : List Call → ℕ → CallReply → Option Call → List Call
told_at calls place told (Some call) = slice_set calls place (record call { told = Some told })
told_at calls place told None = calls

-- a call whose name is that of no call that was told nothing yet
abbrev pub called : Heard → ℕ → ℕ → Identity → CallRequest → Bool → Result Heard LineFault
called heard line name caller asked true = Err Order
called heard line name caller asked false =
    Ok (record { rooted = heard.rooted; calls = heard.calls ++ made_on line caller asked None ∷ []; waiting = insert nat_cmp heard.waiting name (length heard.calls) })

-- what the call of a name was told
abbrev pub told : Heard → ℕ → ℕ → Seen → Option ℕ → Result Heard LineFault
told heard line name seen None = Err Order
told heard line name seen (Some place) =
    Ok (record { rooted = heard.rooted; calls = told_at heard.calls place (told_on line seen) (slice_get heard.calls place); waiting = remove nat_cmp heard.waiting name })

-- what a line says behind others
abbrev pub said_on : Heard → ℕ → Said → Result Heard LineFault
said_on heard line said.Root = if heard.rooted then Err Order else Ok (record heard { rooted = true })
said_on heard line (said.Do caller asked) = Ok (with_call heard (made_on line caller asked (Some (told_on line SomeAnswers))))
said_on heard line (said.Call name caller asked) = called heard line name caller asked (is_some (get nat_cmp heard.waiting name))
said_on heard line (said.Ret name seen) = told heard line name seen (get nat_cmp heard.waiting name)

-- a line that says something; a line, which may say nothing
abbrev pub spoken_on : Heard → ℕ → List ℕ → Result Heard LineFault
spoken_on heard number line = do
  said ← line_in line
  said_on heard number said

abbrev pub line_on : Heard → ℕ → List ℕ → Result Heard LineFault
line_on heard number line = if is_skipped line then Ok heard else spoken_on heard number line

-- what some lines say behind others, of which the first one has this number; or the first faulty one
abbrev pub heard_from : Heard → ℕ → List (List ℕ) → Result Heard ScriptFault
heard_from heard number [] = Ok heard
heard_from heard number (line ∷ more) = do
  next ← said_at number (line_on heard number line)
  heard_from next (number + 1) more

-- a history: what its root folder is, and its calls
pub record History : Type 0 where
  pub root : Root
  pub calls : List Call

-- a history as text: its first line is `root`
abbrev pub history_in : List ℕ → Result History ScriptFault
history_in text = do
  root ← headed is_known (codes "root") root_in (whole text)
  heard ← heard_from nothing 1 (lines text)
  Ok (record { root = root.value; calls = heard.calls })
