-- An event that the walk played, and what else it changed.
use Rattle.run_certify.proofs.Vocabulary.{◌≡◌, ℕ, ◌+◌, Bool, List, [], ◌++◌, slice_set, subst, append-nil, Option, Some, None, Job, fixed_of, Done, EndedJob, Served, Event, Begin, Decided, ComesTo, arith, served_if, step, step_told, counts_after}
use Rattle.run_certify.proofs.Vocabulary.{jobs_after, ItemAt, served_as, EndsOtherwise, HasEnded, IsBegin, IsEnd, IsEvent, Walked, what_was_done}
use Rattle.run_certify.proofs.Walking.{IsAfter}

-- what two places tell, of which the second was empty
pub event_told : (old now : Walked) (event : Event) (served : Served) (before after : Option EndedJob) (was_served : Bool) → before ≡ None
    → ComesTo (step (fixed_of old.given) old.world event) now.world served before after was_served → now ≡ record old { world = now.world }
    → IsEvent old event (what_was_done was_served served after) now
event_told old now event served before after was_served empty comes kept = record {
  is = step_told (step (fixed_of old.given) old.world event) now.world served after was_served (subst (λ o. ComesTo (step (fixed_of old.given) old.world event) now.world served o after was_served) empty comes);
  kept = kept;
}

-- what is an item was served
pub served_there : (who : Option ℕ) (was_served : Bool) (served : Served) (one : ItemAt) → served_as who (served_if was_served served) ≡ Some one → served_if was_served served ≡ Some served
served_there who was_served served one h4 = search arith

module _ (old mid : Walked) (event : Event) (done : Done) (played : IsEvent old event done mid) where
  -- nothing else has changed
  pub event_after : jobs_after old.begun.jobs event ≡ old.begun.jobs → counts_after old.begun.counts event ≡ old.begun.counts → IsAfter old event old.unused [] mid
  event_after jobs counts = search (append-nil, arith)

  -- something was decided, and the end of a job was used, if it ended
  pub end_after : (noted now : Walked) (ds : List Decided) (agent : ℕ) (outcome : Option EndedJob) → jobs_after old.begun.jobs event ≡ old.begun.jobs → counts_after old.begun.counts event ≡ old.begun.counts
      → noted ≡ record mid { made = mid.made ++ ds } → IsEnd noted agent outcome now → IsAfter old event now.unused ds now
  end_after noted now ds agent outcome jobs counts decided end = search arith

  -- how its job ended
  pub ended_by : (noted now : Walked) (agent : ℕ) → noted.unused ≡ mid.unused → HasEnded noted.unused agent done.outcome now.unused → HasEnded old.unused agent (step (fixed_of old.given) old.world event).done.outcome now.unused
  ended_by noted now agent same ended = search arith

  pub otherwise_by : (noted : Walked) (agent : ℕ) → noted.unused ≡ mid.unused → EndsOtherwise noted.unused agent done.outcome → EndsOtherwise old.unused agent (step (fixed_of old.given) old.world event).done.outcome
  otherwise_by noted agent same not = search arith

-- an agent begins a job
pub begin_after : (old mid now : Walked) (agent : ℕ) (job : Job) (done : Done) → IsEvent old (Begin agent job) done mid → IsBegin mid agent job now → IsAfter old (Begin agent job) old.unused [] now
begin_after old mid now agent job done played begun = search (slice_set, append-nil, arith)
