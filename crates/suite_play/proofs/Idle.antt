-- Steps of an agent that has no job change nothing.
use Rattle.suite_play.proofs.Vocabulary.{◌≡◌, ℕ, zero, suc, ◌-◌, ◌<◌, true, [], Option, Some, None, refl, ◌∙◌, ap, arith, Doing, Fixed, is_idle, next_in, Actor, World, actor_at, asks, has_no_job, quiet, step, steps_once, Step}
use Rattle.suite_play.specs.Playing.{steps, before, of_event}

asks_nothing : (fixed : Fixed) (doing : Option Doing) → is_idle doing ≡ true → next_in fixed doing ≡ None
asks_nothing fixed None idle = refl
asks_nothing fixed (Some doing) idle = cc

steps_quietly : (fixed : Fixed) (world : World) (number : ℕ) (actor : Option Actor) → has_no_job actor ≡ true → steps_once fixed world number actor ≡ quiet world
steps_quietly fixed world number (Some actor) idle = ap (asks fixed world number actor) (asks_nothing fixed actor.agent.doing idle)
steps_quietly fixed world number None idle = refl

pub steps_idle : (fixed : Fixed) (world : World) (agent count : ℕ) → has_no_job (actor_at world agent) ≡ true → steps fixed world agent count ≡ record { text = []; world = world }
unfolding steps
steps_idle fixed world agent zero idle = refl
steps_idle fixed world agent (suc more) idle =
    ap (λ once. before (of_event once) (λ next. steps fixed next agent more)) (steps_quietly fixed world agent (actor_at world agent) idle)
    ∙ ap (λ later. before (of_event (quiet world)) (λ _. later)) (steps_idle fixed world agent more idle)

-- one step, and the others
pub more_steps : (fixed : Fixed) (world : World) (agent count : ℕ) → 0 < count → steps fixed world agent count ≡ before (of_event (step fixed world (Step agent))) (λ next. steps fixed next agent (count - 1))
unfolding steps
more_steps fixed world agent zero some = absurd (omega arith)
more_steps fixed world agent (suc more) some =
    let is : suc more - 1 ≡ more = omega arith in
    rw is refl

pub no_steps : (fixed : Fixed) (world : World) (agent : ℕ) → steps fixed world agent 0 ≡ record { text = []; world = world }
unfolding steps
no_steps fixed world agent = refl
