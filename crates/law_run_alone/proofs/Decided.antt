-- A transaction that nothing disturbs is decided when it ends.
use Rattle.law_run_alone.proofs.Vocabulary.{◌≡◌, inl, inr, ℕ, true, false, List, [], ◌∷◌, ◌++◌, append_assoc, Option, Some, None, refl, sym, ap, subst, ◌∙◌, not, cons_option, and_parts, Opening, Has, has_from, Transaction, fixed_of, Event, Begin}
use Rattle.law_run_alone.proofs.Vocabulary.{EndedJob, step, dones, outcomes, run, number_of, CanBe, begins_job, jobs_from, disturbs, undisturbed_from, is_decided, UndisturbedAreDecided, not-true}
use Rattle.law_run_alone.proofs.Clear.{none_now}
use Rattle.law_run_alone.proofs.Reached.{can_front, run_more}
use Rattle.law_run_alone.proofs.Undisturbed.{Reached, reached_first, next_reached, ended_decided}

module _ (given : Opening) (agent t : ℕ) where
  -- each ending from there on
  all_decided : (all rest : List Event) → CanBe given (all ++ rest) → Reached given t agent all → jobs_from given (run given all) rest ≡ [] → undisturbed_from given (run given all) rest ≡ true
      → (job : EndedJob) → Has (outcomes (dones (fixed_of given) (run given all) rest)) job → (number_of job ≡ t) × (is_decided job.ending ≡ true)
  all_decided all [] can reached none calm job has = absurd has
  all_decided all (event ∷ rest) can reached none calm job has =
      let next = (step (fixed_of given) (run given all) event).world in
      let now = none_now (begins_job given (run given all) event) (jobs_from given next rest) none in
      let parts = and_parts (not (disturbs given (run given all) event)) (undisturbed_from given next rest) calm in
      let quiet = not-true (disturbs given (run given all) event) parts.0 in
      let can' : CanBe given ((all ++ event ∷ []) ++ rest) = subst (CanBe given) (sym (append_assoc all (event ∷ []) rest)) can in
      let can_now = can_front given (all ++ event ∷ []) rest can' in
      let more = sym (run_more given all event) in
      of (step (fixed_of given) (run given all) event).done.outcome refl can_now quiet now.0
      (λ has. all_decided (all ++ event ∷ []) rest can' (next_reached given t agent all event can_now reached quiet now.0)
      (subst (λ world. jobs_from given world rest ≡ []) more now.1) (subst (λ world. undisturbed_from given world rest ≡ true) more parts.1) job
      (subst (λ world. Has (outcomes (dones (fixed_of given) world rest)) job) more has)) has
    where
      of : (outcome : Option EndedJob) → (step (fixed_of given) (run given all) event).done.outcome ≡ outcome → CanBe given (all ++ event ∷ []) → disturbs given (run given all) event ≡ false → begins_job given (run given all) event ≡ None
          → (Has (outcomes (dones (fixed_of given) (step (fixed_of given) (run given all) event).world rest)) job → (number_of job ≡ t) × (is_decided job.ending ≡ true))
          → Has (cons_option outcome (outcomes (dones (fixed_of given) (step (fixed_of given) (run given all) event).world rest))) job → (number_of job ≡ t) × (is_decided job.ending ≡ true)
      of None is can quiet now later has = later has
      of (Some one) is can quiet now later has = elim has [
        | inl same ↦ ended_decided given t agent all event can reached quiet now job (is ∙ ap Some same)
        | inr rest' ↦ later rest'
      ]

pub undisturbed_are_decided : UndisturbedAreDecided
undisturbed_are_decided given events later agent t caller site ops can begins idle up locks none calm job there =
    let begin = Begin agent (Transaction caller site ops) in
    let can' : CanBe given ((events ++ begin ∷ []) ++ later) = subst (CanBe given) (sym (append_assoc events (begin ∷ []) later)) can in
    let more = sym (run_more given events begin) in
    all_decided given agent t (events ++ begin ∷ []) later can'
    (reached_first given events agent t caller site ops (can_front given (events ++ begin ∷ []) later can') begins idle up locks)
    (subst (λ world. jobs_from given world later ≡ []) more none) (subst (λ world. undisturbed_from given world later ≡ true) more calm) job
    (subst (λ world. Has (outcomes (dones (fixed_of given) world later)) job) more (has_from (outcomes (dones (fixed_of given) (step (fixed_of given) (run given events) begin).world later)) job there))
