-- Steps of an agent that are played one by one, as long as it has a job.
use Rattle.suite_play.proofs.Vocabulary.{◌≡◌, ℕ, ◌-◌, ◌<◌, true, ◌∙◌, ap, sym, fixed_of, Step, Opened, actor_at, has_no_job, step, Printed, steps}
use Rattle.suite_play.proofs.Idle.{more_steps, steps_idle}
use Rattle.suite_play.proofs.Ended.{NothingLeft}

-- so many steps are left, and they lead where all of them lead
pub record Left (start : Opened) (agent count : ℕ) (now : Opened) (left : ℕ) : Type 0 where
  pub given : now.given ≡ start.given
  pub world : (steps (fixed_of now.given) now.world agent left).world ≡ (steps (fixed_of start.given) start.world agent count).world

pub from_same : (start now : Opened) (agent count : ℕ) → now ≡ start → Left start agent count now count
from_same start now agent count same = record {
  given = ap (λ (at : Opened). at.given) same;
  world = ap (λ (at : Opened). (steps (fixed_of at.given) at.world agent count).world) same;
}

pub one_more : (start now later : Opened) (agent count left : ℕ) → 0 < left
    → later ≡ record now { world = (step (fixed_of now.given) now.world (Step agent)).world }
    → Left start agent count now left → Left start agent count later (left - 1)
one_more start now later agent count left some is so_far = record {
  given = ap (λ (at : Opened). at.given) is ∙ so_far.given;
  world =
      ap (λ (at : Opened). (steps (fixed_of at.given) at.world agent (left - 1)).world) is
      ∙ ap (λ (all : Printed). all.world) (sym (more_steps (fixed_of now.given) now.world agent left some))
      ∙ so_far.world;
}

pub all_steps : (start now : Opened) (agent count left : ℕ) → NothingLeft now agent left → Left start agent count now left
    → now ≡ record start { world = (steps (fixed_of start.given) start.world agent count).world }
all_steps start now agent count left none so_far =
    let given = so_far.given in
    let world : now.world ≡ (steps (fixed_of start.given) start.world agent count).world = sym (ap (λ (all : Printed). all.world) none) ∙ so_far.world in
    λ i. record { given = given i; world = world i }

-- an agent that has no job has no steps left
pub none_idle : (now : Opened) (agent left : ℕ) → has_no_job (actor_at now.world agent) ≡ true → NothingLeft now agent left
none_idle now agent left idle = steps_idle (fixed_of now.given) now.world agent left idle
