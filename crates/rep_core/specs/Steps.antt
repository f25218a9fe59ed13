-- What one request may change.
use Rattle.std.specs.Prelude.{◌≡◌, ℕ, ◌⊎◌, ◌==◌, Bool, true, false, List, Contains}
use Rattle.rep_core.specs.declared.lock.Lock.{Lock}
use Rattle.rep_core.specs.declared.request.Request.{Request}
use Rattle.rep_core.specs.declared.request.Request.TheVariants as request
use Rattle.rep_core.specs.declared.reply.Reply.{Reply}
use Rattle.rep_core.specs.declared.reply.Reply.TheVariants as reply
use Rattle.rep_core.specs.declared.stamped.Stamped.{Stamped}
use Rattle.rep_core.specs.State.{State}
use Rattle.rep_core.specs.Service.{reply_of, after}
use Rattle.rep_core.specs.Serving.{step}

-- whether a reply says that nothing changed
abbrev pub is_quiet : Reply → Bool
is_quiet (reply.Held prefix dver) = false
is_quiet (reply.Busy holder prepared) = true
is_quiet reply.Lost = true
is_quiet (reply.Given dver content) = true
is_quiet reply.Prepared = false
is_quiet (reply.Verdict verdict) = false
is_quiet reply.Done = false
is_quiet (reply.Locked locks) = true
is_quiet reply.Down = true

abbrev pub QuietRepliesChangeNothing : Type 0
QuietRepliesChangeNothing = (st : State) (asked : Request) → is_quiet (reply_of st asked) ≡ true → after st asked ≡ st

-- whether a request is a Prepare of the transaction
abbrev pub is_prepare : ℕ → Request → Bool
is_prepare t (request.Prepare u parts) = u == t
is_prepare t _ = false

-- the transaction's lock on the suite is prepared
pub record WasPrepared (locks : List Lock) (t suite : ℕ) : Type 0 where
  pub lock : Lock
  pub there : Contains locks lock
  pub of_it : lock.t ≡ t
  pub on_it : lock.suite ≡ suite
  pub prepared : lock.prepared ≡ true

-- a lock that is prepared was so before, or its transaction is being prepared
abbrev pub PreparedByPrepare : Type 0
PreparedByPrepare = (st : State) (asked : Stamped Request) (lock : Lock) → Contains (step st asked).locks lock → lock.prepared ≡ true → (is_prepare lock.t asked.value ≡ true) ⊎ WasPrepared st.locks lock.t lock.suite
