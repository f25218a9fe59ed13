-- An agent that nobody hinders begins no more: its count stays, each job of it that ends is its last, and what is decided is decided in a step of it.
use Rattle.law_run_recovers.proofs.Vocabulary.{◌≡◌, ⊎_elim, ℕ, Bool, true, false, List, [], ◌∷◌, Option, Some, is_some, sym, ap, subst, ◌∙◌, ◌&&◌, ◌-◌, not, and_parts, not-true, eqb-true, arith, none-some, same_Some, Opening, reply_of, Replied}
use Rattle.law_run_recovers.proofs.Vocabulary.{Ending, fixed_of, take, take_keeps, Event, Step, Served, EndedJob, Actor, World, actor_at, outcome_of, step, has_no_job, dones, outcomes, Decided, decided, decided_by, task_at, Has, no_task, hinders}
use Rattle.law_run_recovers.proofs.Vocabulary.{unhindered_from}
use Rattle.law_run_recovers.proofs.Aside.{Aside, event_aside}
use Rattle.law_run_recovers.proofs.StepsServed.{own_took}

module _ (given : Opening) (agent count : ℕ) where
  -- it has begun so many
  pub record Now (w : World) : Type 0 where
    pub here : Actor
    pub there : actor_at w agent ≡ Some here
    pub count_is : here.agent.count ≡ count

  -- so it has after an event, and a job of it that ends in it is its last
  record GoesOn (w : World) (event : Event) : Type 0 where
    on : Now (step (fixed_of given) w event).world
    ends : (job : EndedJob) → (step (fixed_of given) w event).done.outcome ≡ Some job → job.agent ≡ agent → job.count ≡ count - 1

  goes_on : (w : World) (event : Event) → hinders given agent w event ≡ false → Now w → GoesOn w event
  goes_on w event calm now = ⊎_elim aside own (event_aside given agent w event calm)
    where
      aside : Aside agent w (step (fixed_of given) w event) → GoesOn w event
      aside it = record { on = record { here = now.here; there = it.actor ∙ now.there; count_is = now.count_is }; ends = λ job is at. absurd (it.other job is at) }

      its_count : (ending : Option Ending) (job : EndedJob) → outcome_of agent now.here ending ≡ Some job → job.count ≡ now.here.agent.count - 1
      its_count ending job h2 = search (none-some, same_Some, arith)

      own : (event ≡ Step agent) × (is_some (step (fixed_of given) w event).done.served ≡ true) → GoesOn w event
      own is =
          let took = own_took (fixed_of given) w agent now.here now.there (subst (λ event. is_some (step (fixed_of given) w event).done.served ≡ true) is.0 is.1) in
          let response = Replied (reply_of took.st took.asked.1) in
          subst (GoesOn w) (sym is.0) (record {
            on = search (take_keeps, arith);
            ends = λ job some at. its_count (take (fixed_of given) now.here.agent response).ending job (sym took.ended ∙ some) ∙ ap (λ n. n - 1) now.count_is;
          })

  pub now_on : (w : World) (event : Event) → hinders given agent w event ≡ false → Now w → Now (step (fixed_of given) w event).world
  now_on w event calm now = (goes_on w event calm now).on

  pub count_in : (job : EndedJob) → job.agent ≡ agent → (events : List Event) (w : World) → Now w → unhindered_from given agent w events ≡ true → Has (outcomes (dones (fixed_of given) w events)) job → job.count ≡ count - 1
  count_in job own [] w now calm has = absurd has
  count_in job own (event ∷ events) w now calm has = search (and_parts, goes_on, not-true, count_in job own events, arith)

-- who decides is the agent
module _ (given : Opening) (agent : ℕ) (w : World) (one : Decided) where
  own_by : (found : Option Actor) (b is_served : Bool) (what : Option Served) → decided_by w (task_at found) what ≡ Some one → (not (has_no_job found) && not (b && is_served)) ≡ false → b ≡ true
  own_by found b is_served what h4 h5 = search arith

  pub decider : (event : Event) → decided (fixed_of given) w event ≡ Some one → hinders given agent w event ≡ false → event ≡ Step agent
  decider event h1 h2 = search (eqb-true, own_by, none-some, no_task, arith)
