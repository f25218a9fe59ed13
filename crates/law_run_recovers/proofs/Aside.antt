-- What an event that does not hinder an agent is to it: nothing at all, or its own step, which was served.
use Rattle.law_run_recovers.proofs.Vocabulary.{◌≡◌, ◌≢◌, ◌⊎◌, inl, inr, ⊎_elim, ℕ, Bool, true, false, Option, Some, None, is_some, refl, sym, ap, ◌∙◌, ◌==◌, ◌&&◌, not, nat_lt, slice_get, slice_set, false≢true, arith, and_parts, eqb-true, eq-eqb}
use Rattle.law_run_recovers.proofs.Vocabulary.{not-false, none-some, same_Some, Opening, Request, Ending, Job, Lacked, Fixed, fixed_of, next_of, take, begin, forget, Event, Begin, Step, Forget, Lack, EndedJob, Actor, World, Stepped, actor_at}
use Rattle.law_run_recovers.proofs.Vocabulary.{has_no_job, with_actor, moved, outcome_of, becomes, steps_once, lacks_for, lacks, step, begins_now, same_or, puts_in, none_of, with_job, hinders}
use Rattle.rep_core.specs.declared.stamped.Lack.{Lack as Why}

-- servers and the agent are as they were, and no job of the agent ended
pub record Aside (agent : ℕ) (world : World) (stepped : Stepped) : Type 0 where
  pub servers : stepped.world.servers ≡ world.servers
  pub actor : actor_at stepped.world agent ≡ actor_at world agent
  pub other : (job : EndedJob) → stepped.done.outcome ≡ Some job → job.agent ≢ agent

pub both_false : (a b : Bool) → (a && b) ≡ false → a ≡ true → b ≡ false
both_false a b h2 h3 = search arith

module _ (given : Opening) (agent : ℕ) (world : World) where
  abbrev fixed : Fixed
  fixed = fixed_of given

  nothing : (stepped : Stepped) → stepped.world ≡ world → stepped.done.outcome ≡ None → Aside agent world stepped
  nothing stepped is none = record { servers = ap (λ (w : World). w.servers) is; actor = ap (λ w. actor_at w agent) is; other = λ job some. absurd (none-some job (sym none ∙ some)) }

  -- another agent is put
  apart_put : (other : ℕ) (actor new : Actor) → actor_at world other ≡ Some actor → agent ≢ other → actor_at (with_actor other new world) agent ≡ actor_at world agent
  apart_put other actor new is apart = (puts_in world.agents other actor new is).apart agent apart

  -- an agent is put in its own place
  same_put : (other : ℕ) (actor : Actor) → actor_at world other ≡ Some actor → actor_at (with_actor other actor world) agent ≡ actor_at world agent
  same_put other actor is =
      let puts = puts_in world.agents other actor actor is in
      ⊎_elim (λ (at : agent ≡ other). ap (slice_get (slice_set world.agents other actor)) at ∙ puts.here ∙ sym is ∙ ap (actor_at world) (sym at)) (λ apart. puts.apart agent apart) (same_or agent other)

  begin_aside : (other : ℕ) (job : Job) (found : Option Actor) → actor_at world other ≡ found → ((other == agent) && is_some (with_job job (begins_now fixed other job found))) ≡ false
      → Aside agent world (becomes world other (λ a. begin fixed a job) found)
  begin_aside other job found h3 h4 = search (nothing, nat_lt, with_job, apart_put, false≢true, both_false, eq-eqb, none-some, same_put, arith)

  forget_aside : (other site : ℕ) (found : Option Actor) → actor_at world other ≡ found → (other == agent) ≡ false → Aside agent world (becomes world other (λ a. forget a site) found)
  forget_aside other site found h3 h4 = search (nothing, apart_put, false≢true, eq-eqb, none-some, arith)

  lack_aside : (other : ℕ) (why : Why) (found : Option Actor) → actor_at world other ≡ found → ((other == agent) && not (has_no_job (actor_at world agent))) ≡ false → Aside agent world (lacks fixed world other (Lacked why) found)
  lack_aside other why None is calm = nothing (lacks fixed world other (Lacked why) None) refl refl
  lack_aside other why (Some actor) is calm = of (next_of fixed actor.agent) refl
    where
      -- the agent itself asks nothing
      not_own : (asked : ℕ × Request) → next_of fixed actor.agent ≡ Some asked → other ≢ agent
      not_own asked next at = search (both_false, eq-eqb, none-some, none_of, not-false, arith)

      ended : (ending : Option Ending) (job : EndedJob) → outcome_of other actor ending ≡ Some job → job.agent ≡ other
      ended ending job h2 = search (none-some, same_Some, arith)

      of : (asked : Option (ℕ × Request)) → next_of fixed actor.agent ≡ asked → Aside agent world (lacks_for fixed world other actor (Lacked why) asked)
      of None next = nothing (lacks_for fixed world other actor (Lacked why) None) refl refl
      of (Some asked) next = record {
        servers = refl;
        actor = apart_put other actor (moved actor actor.stamp (take fixed actor.agent (Lacked why))) is (λ at. not_own asked next (sym at));
        other = λ job some at. not_own asked next (sym (ended (take fixed actor.agent (Lacked why)).ending job some) ∙ at);
      }

  abbrev IsOwnStep : Event → Type 0
  IsOwnStep event = (event ≡ Step agent) × (is_some (step fixed world event).done.served ≡ true)

  step_aside : (other : ℕ) (found : Option Actor) → actor_at world other ≡ found → (not (has_no_job found) && not ((other == agent) && is_some (steps_once fixed world other found).done.served)) ≡ false
      → Aside agent world (steps_once fixed world other found) ⊎ ((other ≡ agent) × (is_some (steps_once fixed world other found).done.served ≡ true))
  step_aside other found h2 h3 = search (nothing, not-false, both_false, and_parts, eqb-true, arith)

  pub event_aside : (event : Event) → hinders given agent world event ≡ false → Aside agent world (step fixed world event) ⊎ IsOwnStep event
  event_aside (Begin other job) calm = inl (begin_aside other job (actor_at world other) refl calm)
  event_aside (Step other) calm = ⊎_elim inl (λ own. inr (ap Step own.0, own.1)) (step_aside other (actor_at world other) refl calm)
  event_aside (Forget other site) calm = inl (forget_aside other site (actor_at world other) refl calm)
  event_aside (Lack other why) calm = inl (lack_aside other why (actor_at world other) refl calm)
  event_aside other calm = absurd (false≢true (sym calm))
