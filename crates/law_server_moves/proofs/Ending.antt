-- Finish, Decide and Resolve move the machine.
use Rattle.law_server_moves.proofs.Vocabulary.{◌≡◌, ℕ, Bool, cond, List, [], ◌∷◌, Option, Some, None, refl, sym, ap, subst, ◌∙◌, ◌==◌, get, Replica, IsSound, State, record_of, after_finish, arith, after_record, recorded, recording, record_here}
use Rattle.law_server_moves.proofs.Vocabulary.{record_apart, Beginning, Entry, World, Aborted, set1, Event, Finish, Overrule, copy_after, plan_after, decided, MayFinish, at1, one_is, one_not, plan_of, ended_as, verdict_of, ShowsAt, Shows}
use Rattle.law_server_moves.proofs.Vocabulary.{first_verdict, moves, Decides, Follows}
use Rattle.file_ops.specs.declared.audit.AuditItem.{AuditItem}
use Rattle.rep_core.specs.declared.request.Decision.{Decision}
use Rattle.rep_core.proofs.IntentionLookups.{others, stored, get-without_intentions, copy_finished}
use Rattle.rep_core.specs.Intentions as server
use Rattle.rep_core.specs.declared.request.Request.TheVariants as request
use Rattle.rep_core.specs.declared.reply.Reply.TheVariants as reply
use Rattle.rep_core.specs.declared.reply.Verdict as replied
use Rattle.rep_core.specs.declared.reply.Verdict.TheVariants as verdict
use Rattle.rep_core.specs.Service as service
use Rattle.law_suite_machine.specs.Events as events
use Rattle.law_server_moves.proofs.Placing.{here1, here2, placed, records_stay}
use Rattle.law_server_moves.proofs.Holds.{hold_at-released}
use Rattle.law_server_moves.proofs.Elsewhere.{finished_apart, decided_shows}
use Rattle.law_server_moves.proofs.Keeping.{keeps_shows, shows_moved, nothing}

-- ---- Finish

copy_by : (v : replied.Verdict) (t : ℕ) (o : Option server.Intention) (copy : Replica) → copy_after (ended_as v) t (plan_of o copy) copy ≡ stored (service.is_answered v) t o copy
copy_by v t o copy = search arith

-- the intention of another transaction stays, and so does the copy beside it
plan_by : (t : ℕ) (answered : Bool) (o : Option server.Intention) (copy : Replica) → plan_after t (plan_of o copy) ≡ plan_of (others t o) (stored answered t o copy)
plan_by t answered o copy = search arith

finished_here : (z : ℕ) (st : State) (w : World) (i t : ℕ) (v : replied.Verdict) → IsSound st.store → ShowsAt z st w i → ShowsAt z (after_finish st t v) (events.finished w i t (ended_as v)) i
finished_here z st w i t v sound shows = search (here1, copy_by, copy_finished, here2, hold_at-released, plan_by, get-without_intentions, arith)

module _ (start : Beginning) (z : ℕ) (home : ℕ → ℕ) (servers : ℕ → State) (i : ℕ) (w : World) (shows : Shows z home servers w) where
  -- the agent that sends a Finish knows how the transaction ended
  pub finish_moves : (t : ℕ) (v : replied.Verdict) → MayFinish w t (ended_as v) → IsSound (servers i).store → Follows start z home (set1 servers i (after_finish (servers i) t v)) w (Finish i t (ended_as v) ∷ [])
  finish_moves t v knows_end sound = record {
    obeys = (knows_end, tt);
    shows = shows_moved z home servers i (after_finish (servers i) t v) w (events.finished w i t (ended_as v)) shows refl (λ t. refl)
        (finished_here z (servers i) w i t v sound (shows.at i))
        (λ j apart. finished_apart z (servers j) w i j apart (shows.at j) t (ended_as v));
  }

  -- ---- a record

  -- at the transaction's home
  recorded_shows : (t : ℕ) (v : replied.Verdict) (item : Option AuditItem) (log : List Entry) → home t ≡ i → Shows z home (set1 servers i (recording t v item (servers i))) (decided w t (ended_as v) log)
  recorded_shows t v item log at_home =
      let new = recording t v item (servers i) in
      record {
        at = placed z servers i new (decided w t (ended_as v) log)
            (decided_shows z new w i t (ended_as v) log (keeps_shows z (servers i) new w i (record { copy = refl; lock = λ u. refl; plan = refl }) (shows.at i)))
            (λ j _. decided_shows z (servers j) w j t (ended_as v) log (shows.at j));
        verdict = λ u. at1 (λ o. o ≡ verdict_of (record_of (set1 servers i new (home u)) u)) w.verdict t (Some (ended_as v)) u
            (λ same.
            sym ((λ k. verdict_of (record_of (set1 servers i new ((ap home same ∙ at_home) k)) (same k)))
            ∙ ap (λ st. verdict_of (record_of st t)) (here1 servers i new)
            ∙ ap verdict_of (record_here (servers i) t v item)))
            (λ apart. shows.verdict u ∙ records_stay home servers i new u (λ _. record_apart (servers i) t u v item apart));
      }

  -- at another server a record is nothing to the machine
  recorded_elsewhere : (t : ℕ) (v : replied.Verdict) (item : Option AuditItem) → (home t ≡ i → ⊥) → Shows z home (set1 servers i (recording t v item (servers i))) w
  recorded_elsewhere t v item elsewhere =
      let new = recording t v item (servers i) in
      record {
        at = placed z servers i new w (keeps_shows z (servers i) new w i (record { copy = refl; lock = λ u. refl; plan = refl }) (shows.at i)) (λ j _. shows.at j);
        verdict = λ u. shows.verdict u ∙ records_stay home servers i new u (λ is. record_apart (servers i) t u v item (λ same. elsewhere (ap home (sym same) ∙ is)));
      }

  at_home_is : (t : ℕ) → home t ≡ i → w.verdict t ≡ verdict_of (record_of (servers i) t)
  at_home_is t at_home = shows.verdict t ∙ ap (λ j. verdict_of (record_of (servers j) t)) at_home

  -- at the home a first verdict is an event
  ruled : (t : ℕ) (v : replied.Verdict) (item : Option AuditItem) (decision : Event) → home t ≡ i → Decides start w t (ended_as v) decision → (o : Option replied.Verdict) → record_of (servers i) t ≡ o
      → Follows start z home (set1 servers i (after_record o t v item (servers i))) w (first_verdict (w.verdict t) decision)
  ruled t v item decision at_home decides (Some old) e =
      subst (λ o. Follows start z home (set1 servers i (servers i)) w (first_verdict o decision)) (sym (at_home_is t at_home ∙ ap verdict_of e)) (nothing start z home servers i w shows)
  ruled t v item decision at_home decides None e = search (at_home_is, recording, recorded_shows, arith)

  elsewhere : (t : ℕ) (v : replied.Verdict) (item : Option AuditItem) → (home t ≡ i → ⊥) → (o : Option replied.Verdict) → Follows start z home (set1 servers i (after_record o t v item (servers i))) w []
  elsewhere t v item h3 o = search (nothing, recorded_elsewhere, arith)

  -- a verdict that is asked for
  ruling : (t : ℕ) (v : replied.Verdict) (item : Option AuditItem) (decision : Event) → (home t ≡ i → Decides start w t (ended_as v) decision)
      → Follows start z home (set1 servers i (after_record (record_of (servers i) t) t v item (servers i))) w (cond (home t == i) (first_verdict (w.verdict t) decision) [])
  ruling t v item decision decides = search (one_is, ruled, elsewhere, one_not, arith)

  -- the agent asks the transaction's home to decide it, once it may be decided
  pub decide_moves : (t : ℕ) (decided : Decision) (decision : Event) → (home t ≡ i → Decides start w t (ended_as (service.verdict_of decided)) decision)
      → Follows start z home (set1 servers i (after_record (record_of (servers i) t) t (service.verdict_of decided) (service.audit_of t decided) (servers i))) w
      (moves z home decision i w (request.Decide t decided) (reply.Verdict (recorded (record_of (servers i) t) (service.verdict_of decided))))
  decide_moves t decided decision decides = ruling t (service.verdict_of decided) (service.audit_of t decided) decision decides

  overrules : (t : ℕ) → Decides start w t Aborted (Overrule t)
  overrules t = record { log = w.log; is = refl; may = λ undecided. record { undecided = undecided } }

  pub resolve_moves : (t : ℕ) (decision : Event) → Follows start z home (set1 servers i (after_record (record_of (servers i) t) t verdict.Aborted None (servers i))) w
      (moves z home decision i w (request.Resolve t) (reply.Verdict (recorded (record_of (servers i) t) verdict.Aborted)))
  resolve_moves t decision = ruling t verdict.Aborted None (Overrule t) (λ _. overrules t)
