-- What a request and its reply are to the machine of one suite.
use Rattle.std.specs.Prelude.{ℕ, ◌==◌, Bool, true, false, ◌&&◌, ◌||◌, not, if◌then◌else◌, List, [], ◌∷◌, Option, Some, None}
use Rattle.suite_prefix.specs.LockModes.{is_exclusive}
use Rattle.rep_core.specs.declared.request.Part.{Part}
use Rattle.rep_core.specs.declared.request.Request.{Request}
use Rattle.rep_core.specs.declared.request.Request.TheVariants as request
use Rattle.rep_core.specs.declared.reply.Reply.{Reply}
use Rattle.rep_core.specs.declared.reply.Reply.TheVariants as reply
use Rattle.law_suite_machine.specs.Machine.{Hold, Verdict, World}
use Rattle.law_suite_machine.specs.Events.{Event, Grant, Raise, Hear, Prepare, Overrule, Finish, Lose}
use Rattle.law_server_moves.specs.Views.{ended_as}
use Rattle.law_server_moves.specs.Preparing.{part_of, left_of}

-- ---- locks that stay

abbrev pub is_prepared : Option Hold → Bool
is_prepared None = false
is_prepared (Some hold) = hold.prepared

-- where the transaction's lock at a server is broken: all others, and that one if it is prepared
abbrev pub left_by_break : World → ℕ → ℕ → ℕ → ℕ → Bool
left_by_break w i t j u = not ((j == i) && (u == t)) || is_prepared (w.lock j u)

-- where a server crashes: those at others, and there the prepared ones
abbrev pub left_by_crash : World → ℕ → ℕ → ℕ → Bool
left_by_crash w i j u = not (j == i) || is_prepared (w.lock j u)

-- ---- events

abbrev pub prepare_of : ℕ → ℕ → World → Option Part → List Event
prepare_of i t w (Some part) = Prepare i t (left_of part (w.copy i)) ∷ []
prepare_of i t w None = []

-- a verdict is recorded once
abbrev pub first_verdict : Option Verdict → Event → List Event
first_verdict None event = event ∷ []
first_verdict (Some old) event = []

-- What a server's reply to a request is to the machine of the suite z, whether anybody hears it or not, with its home for each transaction: one event, or none. What a
-- decision is to the suite only its agent knows: it is `decision`.
abbrev pub moves : ℕ → (ℕ → ℕ) → Event → ℕ → World → Request → Reply → List Event
moves z home decision i w (request.Poll t suite mode) (reply.Held prefix dver) = if z == suite then Grant i t (is_exclusive mode) ∷ [] else []
moves z home decision i w (request.Upgrade t suite) (reply.Held prefix dver) = if z == suite then Raise i t ∷ [] else []
moves z home decision i w (request.Prepare t parts) reply.Prepared = prepare_of i t w (part_of z parts)
moves z home decision i w (request.Decide t decided) (reply.Verdict said) = if home t == i then first_verdict (w.verdict t) decision else []
moves z home decision i w (request.Resolve t) (reply.Verdict said) = if home t == i then first_verdict (w.verdict t) (Overrule t) else []
moves z home decision i w (request.Finish t verdict) reply.Done = Finish i t (ended_as verdict) ∷ []
moves z home decision i w (request.Break t suite) reply.Done = if z == suite then Lose (left_by_break w i t) ∷ [] else []
moves z home decision i w request.Crash reply.Done = Lose (left_by_crash w i) ∷ []
moves z home decision i w _ _ = []

-- and what its agent then hears: of its lock
abbrev pub hears : ℕ → ℕ → Request → Reply → List Event
hears z i (request.Poll t suite mode) (reply.Held prefix dver) = if z == suite then Hear i t (is_exclusive mode) ∷ [] else []
hears z i (request.Upgrade t suite) (reply.Held prefix dver) = if z == suite then Hear i t true ∷ [] else []
hears z i _ _ = []
