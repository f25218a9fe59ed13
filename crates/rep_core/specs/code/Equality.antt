-- When two requests, two replies, and what they hold, are the same: where all their parts are. `==` tells it.
use Rattle.std.specs.Prelude.{◌≡◌, ◌==◌, Bool, true, false, ◌&&◌, List}
use Rattle.std.specs.Bool.{Decides}
use Rattle.std.specs.Cmp.{IsEquivalence, IsPartialEquivalence, partial_equiv_from_equiv, decided, nat_eq_equiv, on_per, on_equiv, and_per, and_equiv}
use Rattle.std.specs.Cmp.Lexicographic.{pointwise, pointwise_decides}
use Rattle.std.proofs.Common.{refl, ap}
use Rattle.std.proofs.lemmas.Bool.Decides.{Decides-eqb, Decides-and, Decides-like}
use Rattle.suite_content.specs.Contents.{same_content}
use Rattle.suite_content.specs.code.ContentEquality.{same_content_decides}
use Rattle.suite_prefix.specs.declared.lock_mode.LockMode.{LockMode}
use Rattle.suite_prefix.specs.declared.lock_mode.LockMode.TheVariants.{Shared, Exclusive}
use Rattle.suite_prefix.specs.code.Equality.{same_prefix, same_prefix_decides, same_replica, same_replica_decides}
use Rattle.file_ops.specs.code.AnswerEquality.{same_answers, same_answers_decides}
use Rattle.file_ops.specs.code.RefusalEquality.{same_refusal, same_refusal_decides}
use Rattle.rep_core.specs.declared.lock.Lock.{Lock}
use Rattle.rep_core.specs.declared.request.Take.{Take}
use Rattle.rep_core.specs.declared.request.Take.TheVariants as take
use Rattle.rep_core.specs.declared.request.Part.{Part}
use Rattle.rep_core.specs.declared.request.Decision.{Decision}
use Rattle.rep_core.specs.declared.request.Decision.TheVariants as decision
use Rattle.rep_core.specs.declared.request.Request.{Request}
use Rattle.rep_core.specs.declared.request.Request.TheVariants as request
use Rattle.rep_core.specs.declared.stamped.Stamped.{Stamped}
use Rattle.rep_core.specs.declared.reply.Verdict.{Verdict}
use Rattle.rep_core.specs.declared.reply.Verdict.TheVariants as verdict
use Rattle.rep_core.specs.declared.reply.Reply.{Reply}
use Rattle.rep_core.specs.declared.reply.Reply.TheVariants as reply

abbrev pub same_bool : Bool → Bool → Bool
same_bool true b = b
same_bool false true = false
same_bool false false = true

abbrev pub same_mode : LockMode → LockMode → Bool
same_mode Shared Shared = true
same_mode Exclusive Exclusive = true
same_mode _ _ = false

abbrev pub same_lock : Lock → Lock → Bool
same_lock a b = (a.t == b.t) && ((a.suite == b.suite) && (same_mode a.mode b.mode && same_bool a.prepared b.prepared))

abbrev pub same_locks : List Lock → List Lock → Bool
same_locks a b = pointwise same_lock a b

abbrev pub same_take : Take → Take → Bool
same_take take.Keep take.Keep = true
same_take (take.Prefix a) (take.Prefix b) = same_prefix a b
same_take (take.Whole a) (take.Whole b) = same_replica a b
same_take _ _ = false

abbrev pub same_part : Part → Part → Bool
same_part a b = (a.suite == b.suite) && (same_mode a.mode b.mode && same_take a.take b.take)

abbrev pub same_parts : List Part → List Part → Bool
same_parts a b = pointwise same_part a b

abbrev pub same_decision : Decision → Decision → Bool
same_decision (decision.Answered a) (decision.Answered b) = same_answers a b
same_decision (decision.Refused uid a) (decision.Refused other b) = (uid == other) && same_refusal a b
same_decision _ _ = false

abbrev pub same_verdict : Verdict → Verdict → Bool
same_verdict (verdict.Answered a) (verdict.Answered b) = same_answers a b
same_verdict (verdict.Refused a) (verdict.Refused b) = same_refusal a b
same_verdict verdict.Aborted verdict.Aborted = true
same_verdict _ _ = false

abbrev pub same_request : Request → Request → Bool
same_request (request.Poll t suite mode) (request.Poll u other wanted) = (t == u) && ((suite == other) && same_mode mode wanted)
same_request (request.Upgrade t suite) (request.Upgrade u other) = (t == u) && (suite == other)
same_request (request.Fetch t suite) (request.Fetch u other) = (t == u) && (suite == other)
same_request (request.Prepare t a) (request.Prepare u b) = (t == u) && same_parts a b
same_request (request.Decide t a) (request.Decide u b) = (t == u) && same_decision a b
same_request (request.Resolve t) (request.Resolve u) = t == u
same_request (request.Finish t a) (request.Finish u b) = (t == u) && same_verdict a b
same_request (request.Break t suite) (request.Break u other) = (t == u) && (suite == other)
same_request request.Locks request.Locks = true
same_request request.Crash request.Crash = true
same_request request.Return request.Return = true
same_request _ _ = false

abbrev pub same_reply : Reply → Reply → Bool
same_reply (reply.Held a dver) (reply.Held b other) = same_prefix a b && (dver == other)
same_reply (reply.Busy t prepared) (reply.Busy u other) = (t == u) && same_bool prepared other
same_reply reply.Lost reply.Lost = true
same_reply (reply.Given dver a) (reply.Given other b) = (dver == other) && same_content a b
same_reply reply.Prepared reply.Prepared = true
same_reply (reply.Verdict a) (reply.Verdict b) = same_verdict a b
same_reply reply.Done reply.Done = true
same_reply (reply.Locked a) (reply.Locked b) = same_locks a b
same_reply reply.Down reply.Down = true
same_reply _ _ = false

-- with their stamps
abbrev pub same_stamped : {T : Type 0} → (T → T → Bool) → Stamped T → Stamped T → Bool
same_stamped same a b = (a.stamp == b.stamp) && same a.value b.value

-- ---- they are the same where they are equal

same_bool_decides : (a b : Bool) → Decides (same_bool a b) (a ≡ b)
same_bool_decides true true = (λ same. refl, λ same. refl)
same_bool_decides true false = (λ same. cc, λ same. cc)
same_bool_decides false true = (λ same. cc, λ same. cc)
same_bool_decides false false = (λ same. refl, λ same. refl)

same_mode_decides : (a b : LockMode) → Decides (same_mode a b) (a ≡ b)
same_mode_decides Shared Shared = (λ same. refl, λ same. refl)
same_mode_decides Shared Exclusive = (λ same. cc, λ same. cc)
same_mode_decides Exclusive Shared = (λ same. cc, λ same. cc)
same_mode_decides Exclusive Exclusive = (λ same. refl, λ same. refl)

pub same_lock_decides : (a b : Lock) → Decides (same_lock a b) (a ≡ b)
same_lock_decides a b =
    Decides-like _ (λ same i. record { t = same.0 i; suite = same.1.0 i; mode = same.1.1.0 i; prepared = same.1.1.1 i })
    (λ same. (ap (λ l. l.t) same, (ap (λ l. l.suite) same, (ap (λ l. l.mode) same, ap (λ l. l.prepared) same))))
    (Decides-and _ _ (Decides-eqb a.t b.t) (Decides-and _ _ (Decides-eqb a.suite b.suite) (Decides-and _ _ (same_mode_decides a.mode b.mode) (same_bool_decides a.prepared b.prepared))))

pub same_locks_decides : (a b : List Lock) → Decides (same_locks a b) (a ≡ b)
same_locks_decides a b = pointwise_decides same_lock_decides a b

pub same_take_decides : (a b : Take) → Decides (same_take a b) (a ≡ b)
same_take_decides take.Keep take.Keep = (λ same. refl, λ same. refl)
same_take_decides (take.Prefix a) (take.Prefix b) = Decides-like _ (ap take.Prefix) (λ same. cc) (same_prefix_decides a b)
same_take_decides (take.Whole a) (take.Whole b) = Decides-like _ (ap take.Whole) (λ same. cc) (same_replica_decides a b)
same_take_decides _ _ = (λ same. cc, λ same. cc)

pub same_part_decides : (a b : Part) → Decides (same_part a b) (a ≡ b)
same_part_decides a b =
    Decides-like _ (λ same i. record { suite = same.0 i; mode = same.1.0 i; take = same.1.1 i })
    (λ same. (ap (λ p. p.suite) same, (ap (λ p. p.mode) same, ap (λ p. p.take) same)))
    (Decides-and _ _ (Decides-eqb a.suite b.suite) (Decides-and _ _ (same_mode_decides a.mode b.mode) (same_take_decides a.take b.take)))

pub same_parts_decides : (a b : List Part) → Decides (same_parts a b) (a ≡ b)
same_parts_decides a b = pointwise_decides same_part_decides a b

pub same_decision_decides : (a b : Decision) → Decides (same_decision a b) (a ≡ b)
same_decision_decides (decision.Answered a) (decision.Answered b) = Decides-like _ (ap decision.Answered) (λ same. cc) (same_answers_decides a b)
same_decision_decides (decision.Refused uid a) (decision.Refused other b) =
    Decides-like _ (λ same i. decision.Refused (same.0 i) (same.1 i)) (λ same. (cc, cc)) (Decides-and _ _ (Decides-eqb uid other) (same_refusal_decides a b))
same_decision_decides _ _ = (λ same. cc, λ same. cc)

pub same_verdict_decides : (a b : Verdict) → Decides (same_verdict a b) (a ≡ b)
same_verdict_decides (verdict.Answered a) (verdict.Answered b) = Decides-like _ (ap verdict.Answered) (λ same. cc) (same_answers_decides a b)
same_verdict_decides (verdict.Refused a) (verdict.Refused b) = Decides-like _ (ap verdict.Refused) (λ same. cc) (same_refusal_decides a b)
same_verdict_decides verdict.Aborted verdict.Aborted = (λ same. refl, λ same. refl)
same_verdict_decides _ _ = (λ same. cc, λ same. cc)

pub same_request_decides : (a b : Request) → Decides (same_request a b) (a ≡ b)
same_request_decides (request.Poll t suite mode) (request.Poll u other wanted) =
    Decides-like _ (λ same i. request.Poll (same.0 i) (same.1.0 i) (same.1.1 i)) (λ same. (cc, (cc, cc)))
    (Decides-and _ _ (Decides-eqb t u) (Decides-and _ _ (Decides-eqb suite other) (same_mode_decides mode wanted)))
same_request_decides (request.Upgrade t suite) (request.Upgrade u other) =
    Decides-like _ (λ same i. request.Upgrade (same.0 i) (same.1 i)) (λ same. (cc, cc)) (Decides-and _ _ (Decides-eqb t u) (Decides-eqb suite other))
same_request_decides (request.Fetch t suite) (request.Fetch u other) =
    Decides-like _ (λ same i. request.Fetch (same.0 i) (same.1 i)) (λ same. (cc, cc)) (Decides-and _ _ (Decides-eqb t u) (Decides-eqb suite other))
same_request_decides (request.Prepare t a) (request.Prepare u b) =
    Decides-like _ (λ same i. request.Prepare (same.0 i) (same.1 i)) (λ same. (cc, cc)) (Decides-and _ _ (Decides-eqb t u) (same_parts_decides a b))
same_request_decides (request.Decide t a) (request.Decide u b) =
    Decides-like _ (λ same i. request.Decide (same.0 i) (same.1 i)) (λ same. (cc, cc)) (Decides-and _ _ (Decides-eqb t u) (same_decision_decides a b))
same_request_decides (request.Resolve t) (request.Resolve u) = Decides-like _ (ap request.Resolve) (λ same. cc) (Decides-eqb t u)
same_request_decides (request.Finish t a) (request.Finish u b) =
    Decides-like _ (λ same i. request.Finish (same.0 i) (same.1 i)) (λ same. (cc, cc)) (Decides-and _ _ (Decides-eqb t u) (same_verdict_decides a b))
same_request_decides (request.Break t suite) (request.Break u other) =
    Decides-like _ (λ same i. request.Break (same.0 i) (same.1 i)) (λ same. (cc, cc)) (Decides-and _ _ (Decides-eqb t u) (Decides-eqb suite other))
same_request_decides request.Locks request.Locks = (λ same. refl, λ same. refl)
same_request_decides request.Crash request.Crash = (λ same. refl, λ same. refl)
same_request_decides request.Return request.Return = (λ same. refl, λ same. refl)
same_request_decides _ _ = (λ same. cc, λ same. cc)

pub same_reply_decides : (a b : Reply) → Decides (same_reply a b) (a ≡ b)
same_reply_decides (reply.Held a dver) (reply.Held b other) =
    Decides-like _ (λ same i. reply.Held (same.0 i) (same.1 i)) (λ same. (cc, cc)) (Decides-and _ _ (same_prefix_decides a b) (Decides-eqb dver other))
same_reply_decides (reply.Busy t prepared) (reply.Busy u other) =
    Decides-like _ (λ same i. reply.Busy (same.0 i) (same.1 i)) (λ same. (cc, cc)) (Decides-and _ _ (Decides-eqb t u) (same_bool_decides prepared other))
same_reply_decides reply.Lost reply.Lost = (λ same. refl, λ same. refl)
same_reply_decides (reply.Given dver a) (reply.Given other b) =
    Decides-like _ (λ same i. reply.Given (same.0 i) (same.1 i)) (λ same. (cc, cc)) (Decides-and _ _ (Decides-eqb dver other) (same_content_decides a b))
same_reply_decides reply.Prepared reply.Prepared = (λ same. refl, λ same. refl)
same_reply_decides (reply.Verdict a) (reply.Verdict b) = Decides-like _ (ap reply.Verdict) (λ same. cc) (same_verdict_decides a b)
same_reply_decides reply.Done reply.Done = (λ same. refl, λ same. refl)
same_reply_decides (reply.Locked a) (reply.Locked b) = Decides-like _ (ap reply.Locked) (λ same. cc) (same_locks_decides a b)
same_reply_decides reply.Down reply.Down = (λ same. refl, λ same. refl)
same_reply_decides _ _ = (λ same. cc, λ same. cc)

pub same_stamped_decides : {T : Type 0} {same : T → T → Bool} → ((a b : T) → Decides (same a b) (a ≡ b)) → (a b : Stamped T) → Decides (same_stamped same a b) (a ≡ b)
same_stamped_decides decides a b =
    Decides-like _ (λ same i. record { stamp = same.0 i; value = same.1 i }) (λ same. (ap (λ s. s.stamp) same, ap (λ s. s.value) same))
    (Decides-and _ _ (Decides-eqb a.stamp b.stamp) (decides a.value b.value))

-- ---- so `==` is an equivalence

pub same_lock_laws : IsEquivalence same_lock
same_lock_laws = decided same_lock same_lock_decides

pub same_lock_partial_laws : IsPartialEquivalence same_lock
same_lock_partial_laws = partial_equiv_from_equiv same_lock_laws

pub same_locks_laws : IsEquivalence same_locks
same_locks_laws = decided same_locks same_locks_decides

pub same_locks_partial_laws : IsPartialEquivalence same_locks
same_locks_partial_laws = partial_equiv_from_equiv same_locks_laws

pub same_take_laws : IsEquivalence same_take
same_take_laws = decided same_take same_take_decides

pub same_take_partial_laws : IsPartialEquivalence same_take
same_take_partial_laws = partial_equiv_from_equiv same_take_laws

pub same_part_laws : IsEquivalence same_part
same_part_laws = decided same_part same_part_decides

pub same_part_partial_laws : IsPartialEquivalence same_part
same_part_partial_laws = partial_equiv_from_equiv same_part_laws

pub same_parts_laws : IsEquivalence same_parts
same_parts_laws = decided same_parts same_parts_decides

pub same_parts_partial_laws : IsPartialEquivalence same_parts
same_parts_partial_laws = partial_equiv_from_equiv same_parts_laws

pub same_decision_laws : IsEquivalence same_decision
same_decision_laws = decided same_decision same_decision_decides

pub same_decision_partial_laws : IsPartialEquivalence same_decision
same_decision_partial_laws = partial_equiv_from_equiv same_decision_laws

pub same_verdict_laws : IsEquivalence same_verdict
same_verdict_laws = decided same_verdict same_verdict_decides

pub same_verdict_partial_laws : IsPartialEquivalence same_verdict
same_verdict_partial_laws = partial_equiv_from_equiv same_verdict_laws

pub same_request_laws : IsEquivalence same_request
same_request_laws = decided same_request same_request_decides

pub same_request_partial_laws : IsPartialEquivalence same_request
same_request_partial_laws = partial_equiv_from_equiv same_request_laws

pub same_reply_laws : IsEquivalence same_reply
same_reply_laws = decided same_reply same_reply_decides

pub same_reply_partial_laws : IsPartialEquivalence same_reply
same_reply_partial_laws = partial_equiv_from_equiv same_reply_laws

pub same_stamped_laws : {T : Type 0} {same : T → T → Bool} → IsEquivalence same → IsEquivalence (same_stamped same)
same_stamped_laws {T} laws = and_equiv (on_equiv (λ (s : Stamped T). s.stamp) nat_eq_equiv) (on_equiv (λ (s : Stamped T). s.value) laws)

pub same_stamped_partial_laws : {T : Type 0} {same : T → T → Bool} → IsPartialEquivalence same → IsPartialEquivalence (same_stamped same)
same_stamped_partial_laws {T} laws = and_per (on_per (λ (s : Stamped T). s.stamp) (partial_equiv_from_equiv nat_eq_equiv)) (on_per (λ (s : Stamped T). s.value) laws)
