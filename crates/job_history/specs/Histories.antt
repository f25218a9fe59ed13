-- The history of jobs, as text.
use Rattle.std.specs.Prelude.{◌≡◌, ℕ, Bool, true, if◌then◌else◌, List, [], ◌++◌, slice_get, codes, decimal, Option, Some}
use Rattle.std.specs.List.{flat_map}
use Rattle.suite_script.specs.Faults.{line_feed}
use Rattle.txn_core.specs.declared.ending.Ending.{Ending}
use Rattle.job_history.specs.declared.event.HistoryEvent.{HistoryEvent}
use Rattle.job_history.specs.declared.event.Span.{Span}
use Rattle.job_history.specs.Calls.{Asked}
use Rattle.job_history.specs.Events.{AreOrdered, are_right, events_of}
use Rattle.job_history.specs.Told.{is_judged, told_text}

-- what is said of a job: that it was told how it ended, or that it was called for this
abbrev pub said_text : HistoryEvent → List ℕ → Ending → List ℕ
said_text event call ending =
    if event.is_end then codes "ret " ++ decimal event.job ++ codes " " ++ told_text ending
    else codes "call " ++ decimal event.job ++ codes " " ++ call

-- a comment, where a history's table cannot have told it
abbrev pub mark_text : Bool → List ℕ
mark_text judged = if judged then [] else codes "# "

abbrev pub event_line : HistoryEvent → List ℕ → Ending → List ℕ
event_line event call ending = mark_text (is_judged ending) ++ said_text event call ending ++ line_feed

abbrev pub line_at : HistoryEvent → Option (List ℕ) → Option Ending → List ℕ
line_at event (Some call) (Some ending) = event_line event call ending
line_at event _ _ = []

-- the line of an event, whose job stands at its number among these
abbrev pub line_of : List (List ℕ) → List Ending → HistoryEvent → List ℕ
line_of calls endings event = line_at event (slice_get calls event.job) (slice_get endings event.job)

abbrev pub lines_of : List (List ℕ) → List Ending → List HistoryEvent → List ℕ
lines_of calls endings events = flat_map (line_of calls endings) events

-- A history of jobs has the lines above all calls, and then two lines of each job, in the order of the numbers that were drawn: where it was called,
-- and, at a later number, where it was told.
pub record IsHistory (calls : Asked) (endings : List Ending) (spans : List Span) (text : List ℕ) : Type 0 where
  pub right : are_right spans ≡ true
  pub events : List HistoryEvent
  pub ordered : AreOrdered (events_of 0 spans) events
  pub is : text ≡ calls.opening ++ lines_of calls.texts endings events
