-- A verdict is written once.
use Rattle.rep_core.proofs.Vocabulary.{◌≡◌, ℕ, true, false, cond, List, [], ◌∷◌, Option, Some, None, sym, ap, ◌∙◌, ⊎_elim, arith, ◌==◌, cases_Bool, false≢true, nat_tests, none-some, get_insert_here, get_insert_apart, AuditItem, Decision, Request}
use Rattle.rep_core.proofs.Vocabulary.{Verdict, Stamped, State, record_of, reply_of, after, recorded, after_record, verdict_of, audit_of, is_full, served, step, after_all, asks_record, VerdictsAreWrittenOnce}
use Rattle.rep_core.specs.declared.request.Request.TheVariants as request
use Rattle.rep_core.specs.declared.reply.Reply.TheVariants as reply
use Rattle.rep_core.specs.declared.reply.Verdict.TheVariants as verdict
use Rattle.rep_core.proofs.Ways.{Ways, recording, by_step}

other_than : (t u : ℕ) → (t == u) ≡ false → u ≡ t → ⊥
other_than t u e same = grind (arith, nat_tests)

same_as : (t u : ℕ) → (t == u) ≡ true → u ≡ t
same_as t u e = grind (arith, nat_tests)

-- ---- the record of a transaction after another is written, of the same one and of any other

pub record_here : (st : State) (t : ℕ) (new : Verdict) (item : Option AuditItem) → record_of (recording t new item st) t ≡ Some new
record_here st t new item = get_insert_here st.verdicts t new

pub record_apart : (st : State) (t u : ℕ) (new : Verdict) (item : Option AuditItem) → (u ≡ t → ⊥) → record_of (recording t new item st) u ≡ record_of st u
record_apart st t u new item apart = get_insert_apart st.verdicts t new u apart

-- ---- what is recorded stays

record_kept : (st : State) (t u : ℕ) (new old : Verdict) (item : Option AuditItem) → record_of st t ≡ None → record_of st u ≡ Some old → record_of (recording t new item st) u ≡ Some old
record_kept st t u new old item none has = record_apart st t u new item (λ same. none-some old (sym none ∙ ap (record_of st) (sym same) ∙ has)) ∙ has

kept_ways : (st : State) (t : ℕ) (old : Verdict) → record_of st t ≡ Some old → Ways st (λ _ new. record_of new t ≡ Some old)
kept_ways st t old has = search (record_kept, arith)

pub record_step : (st : State) (asked : Stamped Request) (t : ℕ) (old : Verdict) → record_of st t ≡ Some old → record_of (step st asked) t ≡ Some old
record_step st asked t old has = by_step st (λ _ new. record_of new t ≡ Some old) (kept_ways st t old has) (λ _ _ _ holds. holds) asked

pub record_stays : (later : List (Stamped Request)) (st : State) (t : ℕ) (old : Verdict) → record_of st t ≡ Some old → record_of (after_all st later) t ≡ Some old
record_stays [] st t old has = has
record_stays (asked ∷ later) st t old has = record_stays later (step st asked) t old (record_step st asked t old has)

-- ---- who records

absent : (st : State) (t : ℕ) (v : Verdict) → record_of st t ≡ None → record_of st t ≡ Some v → ⊥
absent st t v none has = none-some v (sym none ∙ has)

newly : (st : State) (t u : ℕ) (new v : Verdict) (item : Option AuditItem) → record_of st t ≡ None → record_of (recording u new item st) t ≡ Some v → (u == t) ≡ true
newly st t u new v item none has = ⊎_elim
    (λ same. same)
    (λ apart. absurd (absent st t v none (sym (record_apart st u t new item (other_than u t apart)) ∙ has)))
    (cases_Bool (u == t))

asked_ways : (st : State) (t : ℕ) (v : Verdict) → record_of st t ≡ None → Ways st (λ asked new. record_of new t ≡ Some v → asks_record t asked ≡ true)
asked_ways st t v none = record {
  same = λ _ has. absurd (absent st t v none has);
  poll = λ u suite mode free has. absurd (absent st t v none has);
  upgrade = λ u suite own free has. absurd (absent st t v none has);
  prepare = λ u parts does few has. absurd (absent st t v none has);
  decide = λ u decision _ has. newly st t u (verdict_of decision) v (audit_of u decision) none has;
  resolve = λ u _ has. newly st t u verdict.Aborted v None none has;
  finish = λ u w is has. absurd (absent st t v none has);
  break = λ u suite has. absurd (absent st t v none has);
  crash = λ has. absurd (absent st t v none has);
  return = λ has. absurd (absent st t v none has);
}

-- ---- what is answered

ruled : (st : State) (t : ℕ) (new v : Verdict) (item : Option AuditItem) (o : Option Verdict) → record_of st t ≡ o → reply.Verdict (recorded o new) ≡ reply.Verdict v → record_of (after_record o t new item st) t ≡ Some v
ruled st t new v item (Some old) is said = let same : old ≡ v = cc in is ∙ ap (λ v. Some v) same
ruled st t new v item None is said = let same : new ≡ v = cc in record_here st t new item ∙ ap (λ v. Some v) same

pub decide_ruled : (st : State) (t : ℕ) (decision : Decision) (v : Verdict) → reply_of st (request.Decide t decision) ≡ reply.Verdict v → record_of (after st (request.Decide t decision)) t ≡ Some v
decide_ruled st t decision v said = search (ruled, arith)

pub resolve_ruled : (st : State) (t : ℕ) (v : Verdict) → reply_of st (request.Resolve t) ≡ reply.Verdict v → record_of (after st (request.Resolve t)) t ≡ Some v
resolve_ruled st t v said = search (ruled, arith)

answered : (st : State) (asked : Request) (t : ℕ) (v : Verdict) → asks_record t asked ≡ true → reply_of st asked ≡ reply.Verdict v → record_of (after st asked) t ≡ Some v
answered st asked t v h4 h5 = search (same_as, decide_ruled, resolve_ruled, false≢true, arith)

answered_step : (st : State) (asked : Stamped Request) (t : ℕ) (v : Verdict) → asks_record t asked.value ≡ true → is_full st asked ≡ false → reply_of st asked.value ≡ reply.Verdict v → record_of (step st asked) t ≡ Some v
answered_step st asked t v is none said = ap (λ b. record_of (cond b st (served st asked)) t) none ∙ answered st asked.value t v is said

pub written_once : VerdictsAreWrittenOnce
written_once = record {
  stays = λ st later t v has. record_stays later st t v has;
  asked = λ st asked t v none has. by_step st (λ request new. record_of new t ≡ Some v → asks_record t request ≡ true) (asked_ways st t v none) (λ _ _ _ holds. holds) asked has;
  answered = answered_step;
}
