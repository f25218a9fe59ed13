-- A request that is served twice, as one is that was sent again since its reply was lost: at once, or later.
use Rattle.std.specs.Prelude.{◌≡◌, ◌≢◌, ℕ, ◌==◌, ◌&&◌, ◌||◌, not, Bool, true, false, List, [], ◌∷◌}
use Rattle.rep_core.specs.declared.request.Part.{Part}
use Rattle.rep_core.specs.declared.request.Request.{Request}
use Rattle.rep_core.specs.declared.request.Request.TheVariants as request
use Rattle.rep_core.specs.declared.reply.Reply.TheVariants as reply
use Rattle.rep_core.specs.declared.reply.Verdict.{Verdict}
use Rattle.rep_core.specs.declared.stamped.Stamped.{Stamped}
use Rattle.suite_content.specs.declared.content.Content.{Content}
use Rattle.suite_prefix.specs.declared.copies.Prefix.{Prefix}
use Rattle.suite_prefix.specs.declared.lock_mode.LockMode.{LockMode}
use Rattle.rep_core.specs.State.{State}
use Rattle.rep_core.specs.Service.{reply_of, after}
use Rattle.rep_core.specs.Serving.{is_full, served, step}
use Rattle.rep_core.specs.Consistency.{IsConsistent}
use Rattle.rep_core.specs.Laws.{after_all, finished_by, asks_record}

-- ---- at once

-- A server that a request made of another stays as it is when the request is served again, and answers the same: but to a Crash, since it
-- is down.
pub record StaysSo (st new : State) (asked : Request) : Type 0 where
  pub changes_nothing : after new asked ≡ new
  pub answered : asked ≢ request.Crash → reply_of new asked ≡ reply_of st asked

-- a request that is served again at once changes nothing more, and is answered the same
abbrev pub AgainAtOnce : Type 0
AgainAtOnce = (st : State) (asked : Request) → StaysSo st (after st asked) asked

-- ---- later

-- a request, with the stamp that it is sent with
abbrev pub sent : ℕ → Request → Stamped Request
sent stamp asked = record { stamp = stamp; value = asked }

-- the server once it served a request, and then was asked others
abbrev pub later_on : State → Stamped Request → List (Stamped Request) → State
later_on st asked later = after_all (served st asked) later

-- a server stays as it is when the request is served there, and while it is up answers as the other did
pub record StaysLater (st new : State) (asked : Request) : Type 0 where
  pub changes_nothing : after new asked ≡ new
  pub answered : new.up ≡ true → reply_of new asked ≡ reply_of st asked

-- whether one of these requests that passes the test is served at a server while it is up
abbrev pub served_by : (Request → Bool) → State → List (Stamped Request) → Bool
served_by test st [] = false
served_by test st (asked ∷ later) = (test asked.value && st.up && not (is_full st asked)) || served_by test (step st asked) later

-- whether a request asks for a lock of the transaction, where it may have none
abbrev pub is_poll : ℕ → Request → Bool
is_poll t (request.Poll u suite mode) = u == t
is_poll t _ = false

-- whether a request takes a lock of the transaction
abbrev pub is_taking : ℕ → Request → Bool
is_taking t (request.Finish u verdict) = u == t
is_taking t (request.Break u suite) = u == t
is_taking t request.Crash = true
is_taking t _ = false

-- A request that is served again later changes nothing more, and is answered the same while the server is up: a Decide or a Resolve that was told a
-- verdict, always; a Prepare that was told Prepared, until its transaction is finished there; a Finish, until its transaction polls there;
-- and, at a consistent server, a Poll or an Upgrade that was told Held, and a Fetch that was given a content, until a lock of its transaction
-- is taken there.
pub record AgainLater : Type 0 where
  pub recorded : (st : State) (stamp : ℕ) (asked : Request) (later : List (Stamped Request)) (t : ℕ) (verdict : Verdict) → asks_record t asked ≡ true
      → reply_of st asked ≡ reply.Verdict verdict → StaysLater st (later_on st (sent stamp asked) later) asked
  pub prepared : (st : State) (stamp t : ℕ) (parts : List Part) (later : List (Stamped Request)) → reply_of st (request.Prepare t parts) ≡ reply.Prepared
      → finished_by t (served st (sent stamp (request.Prepare t parts))) later ≡ false → StaysLater st (later_on st (sent stamp (request.Prepare t parts)) later)
      (request.Prepare t parts)
  pub finished : (st : State) (stamp t : ℕ) (verdict : Verdict) (later : List (Stamped Request)) → reply_of st (request.Finish t verdict) ≡ reply.Done
      → served_by (is_poll t) (served st (sent stamp (request.Finish t verdict))) later ≡ false
      → StaysLater st (later_on st (sent stamp (request.Finish t verdict)) later) (request.Finish t verdict)
  pub polled : (st : State) (stamp t suite : ℕ) (mode : LockMode) (prefix : Prefix) (dver : ℕ) (later : List (Stamped Request)) → IsConsistent st
      → is_full st (sent stamp (request.Poll t suite mode)) ≡ false → reply_of st (request.Poll t suite mode) ≡ reply.Held prefix dver
      → served_by (is_taking t) (served st (sent stamp (request.Poll t suite mode))) later ≡ false
      → StaysLater st (later_on st (sent stamp (request.Poll t suite mode)) later) (request.Poll t suite mode)
  pub upgraded : (st : State) (stamp t suite : ℕ) (prefix : Prefix) (dver : ℕ) (later : List (Stamped Request)) → IsConsistent st
      → is_full st (sent stamp (request.Upgrade t suite)) ≡ false → reply_of st (request.Upgrade t suite) ≡ reply.Held prefix dver
      → served_by (is_taking t) (served st (sent stamp (request.Upgrade t suite))) later ≡ false
      → StaysLater st (later_on st (sent stamp (request.Upgrade t suite)) later) (request.Upgrade t suite)
  pub fetched : (st : State) (stamp t suite dver : ℕ) (content : Content) (later : List (Stamped Request)) → IsConsistent st
      → reply_of st (request.Fetch t suite) ≡ reply.Given dver content → served_by (is_taking t) (served st (sent stamp (request.Fetch t suite))) later ≡ false
      → StaysLater st (later_on st (sent stamp (request.Fetch t suite)) later) (request.Fetch t suite)
