-- The ways in which a request may change a server. What holds however it changes holds after any request.
use Rattle.rep_core.proofs.Vocabulary.{◌≡◌, ℕ, Bool, true, false, cond, List, Option, None, arith, ◌&&◌, ◌||◌, nat_tests, nat_cmp, insert, AuditItem, LockMode, Exclusive, Decision, Part, Request, Verdict, Stamped, in_the_way, has_lock, locked}
use Rattle.rep_core.proofs.Vocabulary.{with_prepared, broken, is_used_up, intended, overfills, State, record_of, after, after_up, after_down, prepares, after_finish, after_crash, with_item, verdict_of, audit_of, asks_too_much, is_full, step}
use Rattle.rep_core.specs.declared.request.Request.TheVariants as request
use Rattle.rep_core.specs.declared.reply.Verdict.TheVariants as verdict

-- ---- what changes make of a server

-- the transaction has a lock
abbrev pub with_locked : ℕ → ℕ → LockMode → State → State
with_locked t suite mode st = record st { locks = locked t suite mode st.locks }

-- a Prepare is kept
abbrev pub laid : ℕ → List Part → State → State
laid t parts st = record st { store = intended t parts st.store; locks = with_prepared t parts st.locks }

-- a verdict is recorded
abbrev pub recording : ℕ → Verdict → Option AuditItem → State → State
recording t new item st = record st { verdicts = insert nat_cmp st.verdicts t new; audit = with_item item st.audit }

-- what holds of a request and of the server after it, for each way in which this server changes
pub record Ways (st : State) (P : Request → State → Type 0) : Type 0 where
  pub same : (asked : Request) → P asked st
  pub poll : (t suite : ℕ) (mode : LockMode) → in_the_way t suite mode st.locks ≡ None → P (request.Poll t suite mode) (with_locked t suite mode st)
  pub upgrade : (t suite : ℕ) → has_lock t suite st.locks ≡ true → in_the_way t suite Exclusive st.locks ≡ None → P (request.Upgrade t suite) (with_locked t suite Exclusive st)
  pub prepare : (t : ℕ) (parts : List Part) → prepares st t parts ≡ true → overfills t st.store parts ≡ false → P (request.Prepare t parts) (laid t parts st)
  pub decide : (t : ℕ) (decision : Decision) → record_of st t ≡ None → P (request.Decide t decision) (recording t (verdict_of decision) (audit_of t decision) st)
  pub resolve : (t : ℕ) → record_of st t ≡ None → P (request.Resolve t) (recording t verdict.Aborted None st)
  pub finish : (t : ℕ) (verdict : Verdict) → st.up ≡ true → P (request.Finish t verdict) (after_finish st t verdict)
  pub break : (t suite : ℕ) → P (request.Break t suite) (record st { locks = broken t suite st.locks })
  pub crash : P request.Crash (after_crash st)
  pub return : P request.Return (record st { up = true })

module _ (st : State) (P : Request → State → Type 0) (ways : Ways st P) where
  by_prepare : (t : ℕ) (parts : List Part) (kept full : Bool) → prepares st t parts ≡ kept → overfills t st.store parts ≡ full → (kept && full) ≡ false → P (request.Prepare t parts) (cond kept (laid t parts st) st)
  by_prepare t parts kept full h4 h5 h6 = search arith

  up : (asked : Request) → st.up ≡ true → asks_too_much st asked ≡ false → P asked (after_up st asked)
  up asked h1 h2 = search arith

  down : (asked : Request) → P asked (after_down st asked)
  down asked = search arith

  -- after a request that asks not too much
  pub by_request : (asked : Request) → (st.up ≡ true → asks_too_much st asked ≡ false) → P asked (after st asked)
  by_request asked room = search arith

room_up : (a b c d : Bool) → (a || b || (c && d)) ≡ false → c ≡ true → d ≡ false
room_up a b c d none is = grind (arith, nat_tests)

-- where a server is not full, the request asks not too much
pub room : (st : State) (asked : Stamped Request) → is_full st asked ≡ false → st.up ≡ true → asks_too_much st asked.value ≡ false
room st asked none is = room_up (is_used_up st.stamp) (is_used_up asked.stamp) st.up (asks_too_much st asked.value) none is

-- after any request, full or not: a stamp changes nothing
pub by_step : (st : State) (P : Request → State → Type 0) → Ways st P → ((asked : Request) (new : State) (stamp : ℕ) → P asked new → P asked (record new { stamp = stamp })) → (asked : Stamped Request) → P asked.value (step st asked)
by_step st h1 ways stamped asked = search arith
