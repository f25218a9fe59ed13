-- What a request does to the records of a server, and to its audit.
use Rattle.law_runs.proofs.Vocabulary.{◌≡◌, ◌≢◌, ℕ, Some, None, refl, Request, Stamped, State, record_of, with_item, verdict_of, audit_of, record_here, record_apart, Ways, by_step}
use Rattle.rep_core.specs.declared.request.Decision.{Decision}
use Rattle.rep_core.specs.Serving.{step}
use Rattle.rep_core.specs.declared.request.Request.TheVariants as request
use Rattle.rep_core.specs.declared.reply.Verdict.TheVariants as verdict

-- A request leaves the records and the audit; or it is the first Decide of a transaction, and what it carries is recorded, with an item
-- where it is a denial; or it is the first Resolve of one, and Aborted is recorded.
pub data Records (st : State) (asked : Request) (new : State) : Type 0 where
  Same : ((t : ℕ) → record_of new t ≡ record_of st t) → new.audit ≡ st.audit → Records st asked new
  Decided : (t : ℕ) (decision : Decision) → asked ≡ request.Decide t decision → record_of st t ≡ None → record_of new t ≡ Some (verdict_of decision)
      → ((u : ℕ) → u ≢ t → record_of new u ≡ record_of st u) → new.audit ≡ with_item (audit_of t decision) st.audit → Records st asked new
  Aborted : (t : ℕ) → asked ≡ request.Resolve t → record_of st t ≡ None → record_of new t ≡ Some verdict.Aborted
      → ((u : ℕ) → u ≢ t → record_of new u ≡ record_of st u) → new.audit ≡ st.audit → Records st asked new

stamped : (st : State) (asked : Request) (new : State) (stamp : ℕ) → Records st asked new → Records st asked (record new { stamp = stamp })
stamped st asked new stamp (Same same audit) = Same same audit
stamped st asked new stamp (Decided t decision is free here apart audit) = Decided t decision is free here apart audit
stamped st asked new stamp (Aborted t is free here apart audit) = Aborted t is free here apart audit

ways : (st : State) → Ways st (Records st)
ways st = record {
  same = λ asked. Same (λ _. refl) refl;
  poll = λ t suite mode free. Same (λ _. refl) refl;
  upgrade = λ t suite own free. Same (λ _. refl) refl;
  prepare = λ t parts does few. Same (λ _. refl) refl;
  decide = λ t decision free. Decided t decision refl free (record_here st t (verdict_of decision) (audit_of t decision)) (λ u apart. record_apart st t u (verdict_of decision) (audit_of t decision) apart) refl;
  resolve = λ t free. Aborted t refl free (record_here st t verdict.Aborted None) (λ u apart. record_apart st t u verdict.Aborted None apart) refl;
  finish = λ t v up. Same (λ _. refl) refl;
  break = λ t suite. Same (λ _. refl) refl;
  crash = Same (λ _. refl) refl;
  return = Same (λ _. refl) refl;
}

pub records : (st : State) (asked : Stamped Request) → Records st asked.value (step st asked)
records st asked = by_step st (Records st) (ways st) (stamped st) asked
