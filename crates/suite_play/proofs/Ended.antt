-- Steps of an agent that are played until its job has ended.
use Rattle.suite_play.proofs.Vocabulary.{◌≡◌, ℕ, zero, suc, ◌-◌, ◌<◌, Bool, true, false, List, [], ◌∷◌, ◌++◌, Option, Some, None, refl, ◌∙◌, ap, sym, OnSome, is_some, not, slice_get, slice_set, option_or, append-nil, Opening, Request}
use Rattle.suite_play.proofs.Vocabulary.{State, Ending, Response, Replied, Lacked, After, Doing, Ends, Fixed, GoesOn, RunningSweep, Running, Agent, end_of, fixed_of, is_idle, left, next_of, take_in, EndedJob, Served, Step, Opened, Actor}
use Rattle.suite_play.proofs.Vocabulary.{World, actor_at, after_serving, asks, asks_at, has_no_job, moved, outcome_of, serve, server_at, step, steps_once, took, or_nothing, Printed, outcome_text, take, answered, steps}
use Rattle.rep_core.specs.declared.stamped.Lack.TheVariants as lack
use Rattle.txn_core.specs.Sweeps as sweep
use Rattle.txn_core.specs.Transactions as txn_run
use Rattle.suite_play.proofs.Idle.{more_steps, no_steps, steps_idle}

-- ---- an agent whose job has ended has no job

ended_after : {D : Type 0} (as_doing : D → Doing) (after : After D) → is_some (end_of after) ≡ true → is_idle (left as_doing after) ≡ true
ended_after as_doing (GoesOn more) some = cc
ended_after as_doing (Ends ending) some = refl

ended_take : (fixed : Fixed) (agent : Agent) (response : Response) (doing : Option Doing) (asked : Option (ℕ × Request))
    → is_some (take_in fixed agent response doing asked).ending ≡ true → is_idle (take_in fixed agent response doing asked).agent.doing ≡ true
ended_take fixed agent response (Some (Running running)) (Some asked) some = ended_after Running (txn_run.after_response fixed running agent.cache asked.0 asked.1 response).after some
ended_take fixed agent response (Some (RunningSweep sweep_run)) (Some asked) some = ended_after RunningSweep (sweep.after_response fixed.service sweep_run asked.0 response) some
ended_take fixed agent response (Some (Running running)) None some = cc
ended_take fixed agent response (Some (RunningSweep sweep_run)) None some = cc
ended_take fixed agent response None asked some = cc

ended_outcome : (number : ℕ) (actor : Actor) (ending : Option Ending) → is_some (outcome_of number actor ending) ≡ true → is_some ending ≡ true
ended_outcome number actor None some = cc
ended_outcome number actor (Some ending) some = refl

-- what stands at a place where it was put
put_there : (actors : List Actor) (place : ℕ) (was now : Actor) → slice_get actors place ≡ Some was → slice_get (slice_set actors place now) place ≡ Some now
put_there [] place was now is = cc
put_there (actor ∷ actors) zero was now is = refl
put_there (actor ∷ actors) (suc place) was now is = put_there actors place was now is

ended_took : (fixed : Fixed) (world : World) (number : ℕ) (actor : Actor) (stamp : ℕ) (response : Response) (what : Option Served) → actor_at world number ≡ Some actor
    → is_some (took world number actor stamp (take fixed actor.agent response) what).done.outcome ≡ true
    → has_no_job (actor_at (took world number actor stamp (take fixed actor.agent response) what).world number) ≡ true
ended_took fixed world number actor stamp response what there some =
    ap has_no_job (put_there world.agents number actor (moved actor stamp (take fixed actor.agent response)) there)
    ∙ ended_take fixed actor.agent response actor.agent.doing (next_of fixed actor.agent) (ended_outcome number actor (take fixed actor.agent response).ending some)

ended_answered : (fixed : Fixed) (world : World) (number : ℕ) (actor : Actor) (st : State) (what : Option Served) → actor_at world number ≡ Some actor
    → is_some (answered fixed world number actor st what).done.outcome ≡ true → has_no_job (actor_at (answered fixed world number actor st what).world number) ≡ true
ended_answered fixed world number actor st (Some what) there some = ended_took fixed (after_serving st what world) number actor what.reply.stamp (Replied what.reply.value) (Some what) there some
ended_answered fixed world number actor st None there some = ended_took fixed world number actor actor.stamp (Lacked lack.Full) None there some

ended_asks_at : (fixed : Fixed) (world : World) (number : ℕ) (actor : Actor) (asked : ℕ × Request) (found : Option State) → actor_at world number ≡ Some actor
    → is_some (asks_at fixed world number actor asked found).done.outcome ≡ true → has_no_job (actor_at (asks_at fixed world number actor asked found).world number) ≡ true
ended_asks_at fixed world number actor asked (Some st) there some = ended_answered fixed world number actor st (serve asked.0 st (record { stamp = actor.stamp; value = asked.1 })) there some
ended_asks_at fixed world number actor asked None there some = cc

ended_asks : (fixed : Fixed) (world : World) (number : ℕ) (actor : Actor) (asked : Option (ℕ × Request)) → actor_at world number ≡ Some actor
    → is_some (asks fixed world number actor asked).done.outcome ≡ true → has_no_job (actor_at (asks fixed world number actor asked).world number) ≡ true
ended_asks fixed world number actor (Some asked) there some = ended_asks_at fixed world number actor asked (server_at world asked.0) there some
ended_asks fixed world number actor None there some = cc

ended_once : (fixed : Fixed) (world : World) (number : ℕ) (found : Option Actor) → actor_at world number ≡ found
    → is_some (steps_once fixed world number found).done.outcome ≡ true → has_no_job (actor_at (steps_once fixed world number found).world number) ≡ true
ended_once fixed world number (Some actor) there some = ended_asks fixed world number actor (next_of fixed actor.agent) there some
ended_once fixed world number None there some = cc

pub ended_step : (fixed : Fixed) (world : World) (number : ℕ) → is_some (step fixed world (Step number)).done.outcome ≡ true → has_no_job (actor_at (step fixed world (Step number)).world number) ≡ true
ended_step fixed world number some = ended_once fixed world number (actor_at world number) refl some

-- ---- steps that are played one by one

-- so many steps are left, and what they come to with what was put down is what all of them come to
pub record SoFar (start : Opened) (agent count : ℕ) (now : Opened) (left : ℕ) (ended : Option EndedJob) : Type 0 where
  pub given : now.given ≡ start.given
  pub printed : outcome_text ended ++ (steps (fixed_of now.given) now.world agent left).text ≡ (steps (fixed_of start.given) start.world agent count).text
  pub world : (steps (fixed_of now.given) now.world agent left).world ≡ (steps (fixed_of start.given) start.world agent count).world
  pub idle : OnSome ended (has_no_job (actor_at now.world agent) ≡ true)

pub from_start : (start : Opened) (agent count : ℕ) → SoFar start agent count start count None
from_start start agent count = record { given = refl; printed = refl; world = refl; idle = tt }

on_some : {X : Type 0} (o : Option X) {P : Type 0} → (is_some o ≡ true → P) → OnSome o P
on_some None holds = tt
on_some (Some x) holds = holds refl

pub one_more : (start now now' : Opened) (agent count left : ℕ) (ended ended' : Option EndedJob) → 0 < left → ended ≡ None
    → now'.given ≡ now.given → now'.world ≡ (step (fixed_of now.given) now.world (Step agent)).world → ended' ≡ option_or (step (fixed_of now.given) now.world (Step agent)).done.outcome ended
    → SoFar start agent count now left ended → SoFar start agent count now' (left - 1) ended'
one_more start now now' agent count left ended ended' some none given world put so_far =
    let fixed = fixed_of now.given in
    let once = step fixed now.world (Step agent) in
    let more = more_steps fixed now.world agent left some in
    let ended'_is : ended' ≡ once.done.outcome = put ∙ ap (option_or once.done.outcome) none ∙ or_nothing once.done.outcome in
    record {
      given = given ∙ so_far.given;
      printed =
          ap (λ (put : Option EndedJob). outcome_text put ++ (steps (fixed_of now'.given) now'.world agent (left - 1)).text) ended'_is
          ∙ ap (λ (with : Opening). outcome_text once.done.outcome ++ (steps (fixed_of with) now'.world agent (left - 1)).text) given
          ∙ ap (λ (after : World). outcome_text once.done.outcome ++ (steps fixed after agent (left - 1)).text) world
          ∙ ap (λ (all : Printed). all.text) (sym more)
          ∙ ap (λ (put : Option EndedJob). outcome_text put ++ (steps fixed now.world agent left).text) (sym none)
          ∙ so_far.printed;
      world =
          ap (λ (with : Opening). (steps (fixed_of with) now'.world agent (left - 1)).world) given
          ∙ ap (λ (after : World). (steps fixed after agent (left - 1)).world) world
          ∙ ap (λ (all : Printed). all.world) (sym more)
          ∙ so_far.world;
      idle = on_some ended' (λ is. ap (λ (after : World). has_no_job (actor_at after agent)) world ∙ ended_step fixed now.world agent (ap is_some (sym ended'_is) ∙ is));
    }

-- whether something was put down
pub nothing_put : {X : Type 0} (put : Option X) (none : Bool) → is_some put ≡ not none → none ≡ true → put ≡ None
nothing_put None none is set = refl
nothing_put (Some x) none is set = let clash : true ≡ false = is ∙ ap not set in cc

pub something_put : {X : Type 0} (put : Option X) (none : Bool) → is_some put ≡ not none → none ≡ false → is_some put ≡ true
something_put put none is unset = is ∙ ap not unset

-- ---- at their end nothing is left, or the job has ended

abbrev pub NothingLeft : Opened → ℕ → ℕ → Type 0
NothingLeft now agent left = steps (fixed_of now.given) now.world agent left ≡ record { text = []; world = now.world }

pub none_left : (now : Opened) (agent left : ℕ) → left ≡ 0 → NothingLeft now agent left
none_left now agent left none = ap (steps (fixed_of now.given) now.world agent) none ∙ no_steps (fixed_of now.given) now.world agent

is_idle_now : (ended : Option EndedJob) {P : Type 0} → is_some ended ≡ true → OnSome ended P → P
is_idle_now None some holds = cc
is_idle_now (Some outcome) some holds = holds

pub has_ended : (start now : Opened) (agent count left : ℕ) (ended : Option EndedJob) → is_some ended ≡ true → SoFar start agent count now left ended → NothingLeft now agent left
has_ended start now agent count left ended some so_far = steps_idle (fixed_of now.given) now.world agent left (is_idle_now ended some so_far.idle)

pub all_text : (start now : Opened) (agent count left : ℕ) (ended : Option EndedJob) → NothingLeft now agent left → SoFar start agent count now left ended
    → outcome_text ended ≡ (steps (fixed_of start.given) start.world agent count).text
all_text start now agent count left ended none so_far = sym (append-nil (outcome_text ended)) ∙ ap (λ (all : Printed). outcome_text ended ++ all.text) (sym none) ∙ so_far.printed

pub all_world : (start now : Opened) (agent count left : ℕ) (ended : Option EndedJob) → NothingLeft now agent left → SoFar start agent count now left ended
    → now ≡ record { given = start.given; world = (steps (fixed_of start.given) start.world agent count).world }
all_world start now agent count left ended none so_far =
    let given = so_far.given in
    let world : now.world ≡ (steps (fixed_of start.given) start.world agent count).world = sym (ap (λ (all : Printed). all.world) none) ∙ so_far.world in
    λ i. record { given = given i; world = world i }
