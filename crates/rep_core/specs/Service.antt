-- What each request is answered, and what it changes. Of a server that is up first, then of any server.
use Rattle.std.specs.Prelude.{ℕ, ◌==◌, Bool, true, false, ◌&&◌, ◌||◌, not, if◌then◌else◌, List, [], ◌∷◌, ◌++◌, length, Option, Some, None}
use Rattle.std.specs.List.{list_all}
use Rattle.std.specs.Ordering.{nat_cmp}
use Rattle.sorted_map.specs.SortedMap.{insert}
use Rattle.suite_prefix.specs.declared.copies.Replica.{Replica}
use Rattle.file_ops.specs.declared.audit.AuditItem.{AuditItem}
use Rattle.file_ops.specs.declared.refusal.Why.{Why}
use Rattle.file_ops.specs.declared.refusal.Why.TheVariants.{Denied}
use Rattle.rep_core.specs.declared.lock.Lock.{Lock}
use Rattle.suite_prefix.specs.declared.lock_mode.LockMode.{LockMode}
use Rattle.suite_prefix.specs.declared.lock_mode.LockMode.TheVariants.{Exclusive}
use Rattle.rep_core.specs.declared.request.Part.{Part}
use Rattle.rep_core.specs.declared.request.Decision.{Decision}
use Rattle.rep_core.specs.declared.request.Decision.TheVariants as decision
use Rattle.rep_core.specs.declared.request.Request.{Request}
use Rattle.rep_core.specs.declared.request.Request.TheVariants as request
use Rattle.rep_core.specs.declared.reply.Verdict.{Verdict}
use Rattle.rep_core.specs.declared.reply.Verdict.TheVariants as verdict
use Rattle.rep_core.specs.declared.reply.Reply.{Reply}
use Rattle.rep_core.specs.declared.reply.Reply.TheVariants as reply
use Rattle.rep_core.specs.Locks.{in_the_way, has_lock, has_prepared, has_lock_for, locked, with_prepared, released, broken, prepared_locks}
use Rattle.rep_core.specs.Store.{copy_of, is_sound_part, lists_twice, intended, finished}
use Rattle.rep_core.specs.State.{State, record_of}

-- ---- Poll, Upgrade, Fetch

abbrev pub held : Replica → Reply
held copy = reply.Held copy.prefix copy.dver

abbrev pub given : Replica → Reply
given copy = reply.Given copy.dver copy.content

-- the lock is held, unless another stands in the way
abbrev pub locking_reply : Option Lock → Replica → Reply
locking_reply (Some other) copy = reply.Busy other.t other.prepared
locking_reply None copy = held copy

abbrev pub after_locking : Option Lock → ℕ → ℕ → LockMode → State → State
after_locking (Some other) t suite mode st = st
after_locking None t suite mode st = record st { locks = locked t suite mode st.locks }

abbrev pub poll_reply : State → ℕ → ℕ → LockMode → Reply
poll_reply st t suite mode = locking_reply (in_the_way t suite mode st.locks) (copy_of st.store suite)

abbrev pub after_poll : State → ℕ → ℕ → LockMode → State
after_poll st t suite mode = after_locking (in_the_way t suite mode st.locks) t suite mode st

abbrev pub upgrade_reply : State → ℕ → ℕ → Reply
upgrade_reply st t suite = if has_lock t suite st.locks then poll_reply st t suite Exclusive else reply.Lost

abbrev pub after_upgrade : State → ℕ → ℕ → State
after_upgrade st t suite = if has_lock t suite st.locks then after_poll st t suite Exclusive else st

abbrev pub fetch_reply : State → ℕ → ℕ → Reply
fetch_reply st t suite =
    if has_lock t suite st.locks then given (copy_of st.store suite) else reply.Lost

-- ---- Prepare

-- nothing is left to be prepared
abbrev pub stands_prepared : State → ℕ → List Part → Bool
stands_prepared st t parts = has_prepared t st.locks || (length parts == 0)

-- each part's lock is there, no suite stands twice, and each part is sound
abbrev pub can_prepare : State → ℕ → List Part → Bool
can_prepare st t parts = list_all (has_lock_for t st.locks) parts && not (lists_twice parts) && list_all (is_sound_part st.store) parts

abbrev pub prepare_reply : State → ℕ → List Part → Reply
prepare_reply st t parts = if stands_prepared st t parts || can_prepare st t parts then reply.Prepared else reply.Lost

-- whether a Prepare changes anything
abbrev pub prepares : State → ℕ → List Part → Bool
prepares st t parts = not (stands_prepared st t parts) && can_prepare st t parts

abbrev pub after_prepare : State → ℕ → List Part → State
after_prepare st t parts =
    if prepares st t parts
    then record st { store = intended t parts st.store; locks = with_prepared t parts st.locks }
    else st

-- ---- Decide, Resolve, Finish

-- what a decision records
abbrev pub verdict_of : Decision → Verdict
verdict_of (decision.Answered replies) = verdict.Answered replies
verdict_of (decision.Refused uid refusal) = verdict.Refused refusal

-- what it adds to the audit: an item for a denial
abbrev pub denial_of : ℕ → ℕ → ℕ → Why → Option AuditItem
denial_of t uid op (Denied denial) = Some (record { t = t; uid = uid; op = op; denial = denial })
denial_of t uid op _ = None

abbrev pub audit_of : ℕ → Decision → Option AuditItem
audit_of t (decision.Answered replies) = None
audit_of t (decision.Refused uid refusal) = denial_of t uid refusal.op refusal.why

-- the verdict of a denial that the audit has
abbrev pub denied : AuditItem → Verdict
denied item = verdict.Refused (record { op = item.op; why = Denied item.denial })

abbrev pub with_item : Option AuditItem → List AuditItem → List AuditItem
with_item None audit = audit
with_item (Some item) audit = audit ++ item ∷ []

-- a record is written once
abbrev pub recorded : Option Verdict → Verdict → Verdict
recorded (Some old) new = old
recorded None new = new

abbrev pub after_record : Option Verdict → ℕ → Verdict → Option AuditItem → State → State
after_record (Some old) t new item st = st
after_record None t new item st = record st { verdicts = insert nat_cmp st.verdicts t new; audit = with_item item st.audit }

abbrev pub is_answered : Verdict → Bool
is_answered (verdict.Answered replies) = true
is_answered (verdict.Refused refusal) = false
is_answered verdict.Aborted = false

abbrev pub after_finish : State → ℕ → Verdict → State
after_finish st t verdict = record st { store = finished t (is_answered verdict) st.store; locks = released t st.locks }

abbrev pub after_crash : State → State
after_crash st = record st { locks = prepared_locks st.locks; up = false }

-- ---- a server that is up

abbrev pub reply_up : State → Request → Reply
reply_up st (request.Poll t suite mode) = poll_reply st t suite mode
reply_up st (request.Upgrade t suite) = upgrade_reply st t suite
reply_up st (request.Fetch t suite) = fetch_reply st t suite
reply_up st (request.Prepare t parts) = prepare_reply st t parts
reply_up st (request.Decide t decision) = reply.Verdict (recorded (record_of st t) (verdict_of decision))
reply_up st (request.Resolve t) = reply.Verdict (recorded (record_of st t) verdict.Aborted)
reply_up st (request.Finish t verdict) = reply.Done
reply_up st (request.Break t suite) = reply.Done
reply_up st request.Locks = reply.Locked st.locks
reply_up st request.Crash = reply.Done
reply_up st request.Return = reply.Done

abbrev pub after_up : State → Request → State
after_up st (request.Poll t suite mode) = after_poll st t suite mode
after_up st (request.Upgrade t suite) = after_upgrade st t suite
after_up st (request.Fetch t suite) = st
after_up st (request.Prepare t parts) = after_prepare st t parts
after_up st (request.Decide t decision) = after_record (record_of st t) t (verdict_of decision) (audit_of t decision) st
after_up st (request.Resolve t) = after_record (record_of st t) t verdict.Aborted None st
after_up st (request.Finish t verdict) = after_finish st t verdict
after_up st (request.Break t suite) = record st { locks = broken t suite st.locks }
after_up st request.Locks = st
after_up st request.Crash = after_crash st
after_up st request.Return = st

-- ---- any server

abbrev pub reply_down : Request → Reply
reply_down request.Return = reply.Done
reply_down _ = reply.Down

abbrev pub after_down : State → Request → State
after_down st request.Return = record st { up = true }
after_down st _ = st

-- what a request is answered
abbrev pub reply_of : State → Request → Reply
reply_of st request = if st.up then reply_up st request else reply_down request

-- what it leaves of the server, but for the stamp
abbrev pub after : State → Request → State
after st request = if st.up then after_up st request else after_down st request
