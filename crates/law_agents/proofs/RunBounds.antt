-- Each job that ends in a run took few steps.
use Rattle.law_agents.proofs.Vocabulary.{◌≡◌, inl, inr, ℕ, zero, suc, ◌+◌, Bool, false, cond, List, [], ◌∷◌, ◌++◌, append_assoc, Option, Some, None, refl, sym, ap, subst, ◌∙◌, arith, ◌≢◌, ◌&&◌, ◌==◌, is_some, slice_get, slice_set, cons_option}
use Rattle.law_agents.proofs.Vocabulary.{eqb-true, nat_tests, none-some, same_Some, Has, has_from, Request, Response, Replied, Lacked, Ending, Agent, Take, next_of, take, begin, forget, fixed_of, EndedJob, dones, outcomes, run}
use Rattle.suite_prefix.specs.SettingsRules.{Opening}
use Rattle.rep_core.specs.State.{State}
use Rattle.run_core.specs.declared.event.Event.TheVariants.{Begin, Crash, Return, Lack, Step, Forget}
use Rattle.run_core.specs.declared.done.Served.{Served}
use Rattle.run_core.specs.Worlds.{World, Actor, Stepped, server_at, actor_at, actors_from, outcome_of, serve, asks_at, asks, steps_once, lacks_for, lacks, operated, operates, becomes, opening, step, answered}
use Rattle.law_agents.specs.RunBounds.{asks_now, told_at, EndsInItsTime, RunsEndInTime, told_by, told_of}
use Rattle.run_core.specs.declared.event.Event.{Event}
use Rattle.rep_core.specs.declared.request.Request.TheVariants as request
use Rattle.rep_core.specs.declared.stamped.Lack as lacking
use Rattle.rep_core.specs.declared.stamped.Lack.TheVariants as lack
use Rattle.txn_core.specs.Agents as agents
use Rattle.run_core.specs.Worlds as worlds
use Rattle.run_core.proofs.Appending as going
use Rattle.law_agents.proofs.RunJobs.{Fits, stays, begun_index, begins_job, same_number, forgets, told_so, takes, ends_now}

-- ---- every agent of a run, event by event

-- what holds of what stands in a list at its place, once one of it is another
all_set : (P : ℕ → Actor → Type 0) (actors : List Actor) (i : ℕ) (new : Actor) → P i new → ((n : ℕ) (x : Actor) → n ≢ i → slice_get actors n ≡ Some x → P n x)
    → (n : ℕ) (x : Actor) → slice_get (slice_set actors i new) n ≡ Some x → P n x
all_set P [] i new fits all n x is = absurd (none-some x is)
all_set P (y ∷ ys) zero new fits all zero x is = subst (P zero) (same_Some new x is) fits
all_set P (y ∷ ys) zero new fits all (suc n) x is = all (suc n) x (λ e. let e = e in omega (arith, e)) is
all_set P (y ∷ ys) (suc i) new fits all zero x is = all zero x (λ e. let e = e in omega (arith, e)) is
all_set P (y ∷ ys) (suc i) new fits all (suc n) x is =
    all_set (λ n. P (suc n)) ys i new fits (λ n x apart is. all (suc n) x (λ e. apart (let e = e in omega (arith, e))) is) n x is

abbrev AllFit : Opening → List Event → World → Type 0
AllFit given past world = (n : ℕ) (actor : Actor) → actor_at world n ≡ Some actor → Fits given past n actor

other : (i n : ℕ) → n ≢ i → (i == n) ≡ false
other i n apart = grind (arith, nat_tests)

module _ (given : Opening) (whole past : List Event) (event : Event) (rest : List Event) (parts : whole ≡ past ++ event ∷ rest) (world : World) (is : run given past ≡ world) (all : AllFit given past world) where
  -- what is left of the event, and the job that ended in it
  record Steps (stepped : Stepped) : Type 0 where
    fits : AllFit given (past ++ event ∷ []) stepped.world
    ends : (outcome : EndedJob) → stepped.done.outcome ≡ Some outcome → EndsInItsTime given whole outcome

  still : (n : ℕ) (x : Actor) → actor_at world n ≡ Some x → told_at (fixed_of given) world n event ≡ [] → Fits given (past ++ event ∷ []) n x
  still n x there none = let was = all n x there in (was.0, stays given past event world is n x.agent x.steps none was.1)

  quiet_so : ((n : ℕ) (x : Actor) → actor_at world n ≡ Some x → told_at (fixed_of given) world n event ≡ []) → Steps (worlds.quiet world)
  quiet_so none = record { fits = λ n x there. still n x there (none n x there); ends = λ outcome is. absurd (none-some outcome is) }

  told : (i : ℕ) (actor : Actor) (stamp : ℕ) (heard : Response) (asked : ℕ × Request) (other : World) (what : Option Served) → actor_at world i ≡ Some actor → next_of (fixed_of given) actor.agent ≡ Some asked → other.agents ≡ world.agents
      → told_at (fixed_of given) world i event ≡ Take heard ∷ [] → ((n : ℕ) → n ≢ i → told_at (fixed_of given) world n event ≡ [])
      → step (fixed_of given) world event ≡ worlds.took other i actor stamp (take (fixed_of given) actor.agent heard) what
      → Steps (worlds.took other i actor stamp (take (fixed_of given) actor.agent heard) what)
  told i actor stamp heard asked other what there next same told_now none stepped =
      let was = all i actor there in
      let now = takes given whole past event rest parts world is i actor.agent actor.steps heard asked next told_now was.1 in
      let new = worlds.moved actor stamp (take (fixed_of given) actor.agent heard) in
      record {
        fits = λ n x is'. all_set (Fits given (past ++ event ∷ [])) world.agents i new ((told_so (fixed_of given) i actor.agent actor.steps heard asked next).0 ∙ was.0, now)
            (λ n x apart there. still n x there (none n apart)) n x (ap (λ actors. slice_get (slice_set actors i new) n) (sym same) ∙ is');
        ends = λ outcome is'. ends_now given whole past event rest parts world is i actor.agent actor.steps heard asked next told_now was.1 outcome
            (ap (λ (stepped : Stepped). stepped.done.outcome) stepped ∙ is') (take (fixed_of given) actor.agent heard).ending refl (same_outcome (take (fixed_of given) actor.agent heard).ending outcome is');
      }
    where
      same_outcome : (ending : Option Ending) (outcome : EndedJob) → outcome_of i actor ending ≡ Some outcome → outcome_of i (record { agent = actor.agent; stamp = 0; steps = actor.steps }) ending ≡ Some outcome
      same_outcome ending outcome h2 = search arith

  becomes_so : (i : ℕ) (change : Agent → Agent) → ((actor : Actor) → actor_at world i ≡ Some actor → Fits given (past ++ event ∷ []) i (record actor { agent = change actor.agent }))
      → ((n : ℕ) → n ≢ i → told_at (fixed_of given) world n event ≡ []) → (found : Option Actor) → actor_at world i ≡ found → Steps (becomes world i change found)
  becomes_so i change fits none (Some actor) there = record {
    fits = all_set (Fits given (past ++ event ∷ [])) world.agents i (record actor { agent = change actor.agent }) (fits actor there) (λ n x apart there. still n x there (none n apart));
    ends = λ outcome is. absurd (none-some outcome is);
  }
  becomes_so i change fits none None there = quiet_so (λ n x at. none n (λ e. none-some x (sym there ∙ ap (actor_at world) (sym e) ∙ at)))

  operated_so : ((n : ℕ) → told_at (fixed_of given) world n event ≡ []) → (st : State) (what : Option Served) → Steps (operated world st what)
  operated_so none st (Some what) = record { fits = λ n x there. still n x there (none n); ends = λ outcome is. absurd (none-some outcome is) }
  operated_so none st None = quiet_so (λ n x there. none n)

  operates_so : ((n : ℕ) → told_at (fixed_of given) world n event ≡ []) → (server : ℕ) (asked : Request) (found : Option State) → Steps (operates world server asked found)
  operates_so none server asked (Some st) = operated_so none st (serve server st (record { stamp = 0; value = asked }))
  operates_so none server asked None = quiet_so (λ n x there. none n)

-- a step
module _ (given : Opening) (whole past : List Event) (i : ℕ) (rest : List Event) (parts : whole ≡ past ++ Step i ∷ rest) (world : World) (is : run given past ≡ world) (all : AllFit given past world) where
  abbrev Left : Stepped → Type 0
  Left = Steps given whole past (Step i) rest parts world is all

  apart_told : (n : ℕ) → n ≢ i → told_at (fixed_of given) world n (Step i) ≡ []
  apart_told n apart = ap (λ b. cond b (told_of world (asks_now (fixed_of given) (actor_at world n)) (step (fixed_of given) world (Step i)).done.served) []) (other i n apart)

  told_i : (asked : Option (ℕ × Request)) (what : Option Served) → asks_now (fixed_of given) (actor_at world i) ≡ asked → (step (fixed_of given) world (Step i)).done.served ≡ what
      → told_at (fixed_of given) world i (Step i) ≡ told_of world asked what
  told_i asked what asks served = search arith

  silent : told_at (fixed_of given) world i (Step i) ≡ [] → (n : ℕ) (x : Actor) → actor_at world n ≡ Some x → told_at (fixed_of given) world n (Step i) ≡ []
  silent none n x there = search arith

  quiet_step : told_at (fixed_of given) world i (Step i) ≡ [] → Left (worlds.quiet world)
  quiet_step none = quiet_so given whole past (Step i) rest parts world is all (silent none)

  answered_so : (actor : Actor) (asked : ℕ × Request) (st : State) → actor_at world i ≡ Some actor → next_of (fixed_of given) actor.agent ≡ Some asked → server_at world asked.0 ≡ Some st
      → (what : Option Served) → step (fixed_of given) world (Step i) ≡ answered (fixed_of given) world i actor st what → Left (answered (fixed_of given) world i actor st what)
  answered_so actor asked st there next at (Some what) stepped =
      told given whole past (Step i) rest parts world is all i actor what.reply.stamp (Replied what.reply.value) asked (worlds.after_serving st what world) (Some what) there next refl
      (told_i (Some asked) (Some what) (ap (asks_now (fixed_of given)) there ∙ next) (ap (λ (stepped : Stepped). stepped.done.served) stepped) ∙ ap (λ found. told_by found (Some what)) at) apart_told stepped
  answered_so actor asked st there next at None stepped =
      told given whole past (Step i) rest parts world is all i actor actor.stamp (Lacked lack.Full) asked world None there next refl
      (told_i (Some asked) None (ap (asks_now (fixed_of given)) there ∙ next) (ap (λ (stepped : Stepped). stepped.done.served) stepped) ∙ ap (λ found. told_by found None) at) apart_told stepped

  at_so : (actor : Actor) (asked : ℕ × Request) → actor_at world i ≡ Some actor → next_of (fixed_of given) actor.agent ≡ Some asked → (found : Option State) → server_at world asked.0 ≡ found
      → step (fixed_of given) world (Step i) ≡ asks_at (fixed_of given) world i actor asked found → Left (asks_at (fixed_of given) world i actor asked found)
  at_so actor asked h2 h3 found h5 h6 = search (answered_so, quiet_step, told_i, arith)

  asks_so : (actor : Actor) → actor_at world i ≡ Some actor → (asked : Option (ℕ × Request)) → next_of (fixed_of given) actor.agent ≡ asked
      → step (fixed_of given) world (Step i) ≡ asks (fixed_of given) world i actor asked → Left (asks (fixed_of given) world i actor asked)
  asks_so actor h1 asked h3 h4 = search (at_so, quiet_step, told_i, arith)

  step_so : (found : Option Actor) → actor_at world i ≡ found → step (fixed_of given) world (Step i) ≡ steps_once (fixed_of given) world i found → Left (steps_once (fixed_of given) world i found)
  step_so found h1 h2 = search (asks_so, quiet_step, told_i, arith)

-- a request that is not served
module _ (given : Opening) (whole past : List Event) (i : ℕ) (why : lacking.Lack) (rest : List Event) (parts : whole ≡ past ++ Lack i why ∷ rest) (world : World) (is : run given past ≡ world) (all : AllFit given past world) where
  abbrev Lacks : Stepped → Type 0
  Lacks = Steps given whole past (Lack i why) rest parts world is all

  apart_lacks : (n : ℕ) → n ≢ i → told_at (fixed_of given) world n (Lack i why) ≡ []
  apart_lacks n apart = ap (λ b. cond (b && is_some (asks_now (fixed_of given) (actor_at world n))) (Take (Lacked why) ∷ []) []) (other i n apart)

  lacks_told : (asked : Option (ℕ × Request)) → asks_now (fixed_of given) (actor_at world i) ≡ asked → told_at (fixed_of given) world i (Lack i why) ≡ cond (is_some asked) (Take (Lacked why) ∷ []) []
  lacks_told asked asks = λ j. cond (same_number i j && is_some (asks j)) (Take (Lacked why) ∷ []) []

  quiet_lack : asks_now (fixed_of given) (actor_at world i) ≡ None → Lacks (worlds.quiet world)
  quiet_lack none = quiet_so given whole past (Lack i why) rest parts world is all (λ n x there. of n (i == n) refl)
    where
      of : (n : ℕ) (b : Bool) → (i == n) ≡ b → told_at (fixed_of given) world n (Lack i why) ≡ []
      of n b h2 = search (eqb-true, lacks_told, arith)

  lacks_so : (actor : Actor) → actor_at world i ≡ Some actor → (asked : Option (ℕ × Request)) → next_of (fixed_of given) actor.agent ≡ asked
      → step (fixed_of given) world (Lack i why) ≡ lacks_for (fixed_of given) world i actor (Lacked why) asked → Lacks (lacks_for (fixed_of given) world i actor (Lacked why) asked)
  lacks_so actor there (Some asked) next stepped =
      told given whole past (Lack i why) rest parts world is all i actor actor.stamp (Lacked why) asked world None there next refl
      (lacks_told (Some asked) (ap (asks_now (fixed_of given)) there ∙ next)) apart_lacks stepped
  lacks_so actor there None next stepped = quiet_lack (ap (asks_now (fixed_of given)) there ∙ next)

  lack_so : (found : Option Actor) → actor_at world i ≡ found → step (fixed_of given) world (Lack i why) ≡ lacks (fixed_of given) world i (Lacked why) found → Lacks (lacks (fixed_of given) world i (Lacked why) found)
  lack_so found h1 h2 = search (lacks_so, quiet_lack, arith)

event_so : (given : Opening) (whole past : List Event) (event : Event) (rest : List Event) (parts : whole ≡ past ++ event ∷ rest) (world : World) (is : run given past ≡ world) (all : AllFit given past world)
    → Steps given whole past event rest parts world is all (step (fixed_of given) world event)
event_so given whole past (Begin i job) rest parts world is all =
    becomes_so given whole past (Begin i job) rest parts world is all i (λ agent. begin (fixed_of given) agent job)
    (λ actor there. let was = all i actor there in (begun_index (fixed_of given) actor.agent job ∙ was.0, begins_job given past world is i job actor there was.0 was.1)) (λ n apart. refl) (actor_at world i) refl
event_so given whole past (Step i) rest parts world is all = step_so given whole past i rest parts world is all (actor_at world i) refl refl
event_so given whole past (Crash server) rest parts world is all = operates_so given whole past (Crash server) rest parts world is all (λ n. refl) server request.Crash (server_at world server)
event_so given whole past (Return server) rest parts world is all = operates_so given whole past (Return server) rest parts world is all (λ n. refl) server request.Return (server_at world server)
event_so given whole past (Forget i site) rest parts world is all =
    becomes_so given whole past (Forget i site) rest parts world is all i (λ agent. forget agent site)
    (λ actor there. let was = all i actor there in (was.0, forgets given past world is i site actor.agent actor.steps was.1))
    (λ n apart. ap (λ b. cond b (agents.Forget site ∷ []) []) (other i n apart)) (actor_at world i) refl
event_so given whole past (Lack i why) rest parts world is all = lack_so given whole past i why rest parts world is all (actor_at world i) refl refl

events_so : (given : Opening) (whole past events : List Event) → whole ≡ past ++ events → (world : World) → run given past ≡ world → AllFit given past world
    → (outcome : EndedJob) → Has (outcomes (dones (fixed_of given) world events)) outcome → EndsInItsTime given whole outcome
events_so given whole past [] parts world is all outcome has = absurd has
events_so given whole past (event ∷ events) parts world is all outcome has =
    let one = event_so given whole past event events parts world is all in
    of one (step (fixed_of given) world event).done.outcome refl has (λ has. events_so given whole (past ++ event ∷ []) events (parts ∙ sym (append_assoc past (event ∷ []) events)) (step (fixed_of given) world event).world
    (going.after-append (fixed_of given) (worlds.opening given) past (event ∷ []) ∙ ap (λ world. (step (fixed_of given) world event).world) is) one.fits outcome has)
  where
    of : Steps given whole past event events parts world is all (step (fixed_of given) world event)
        → (found : Option EndedJob) → (step (fixed_of given) world event).done.outcome ≡ found → Has (cons_option found (outcomes (dones (fixed_of given) (step (fixed_of given) world event).world events))) outcome
        → (Has (outcomes (dones (fixed_of given) (step (fixed_of given) world event).world events)) outcome → EndsInItsTime given whole outcome) → EndsInItsTime given whole outcome
    of one None was has later = later has
    of one (Some first) was (inl same) later = subst (EndsInItsTime given whole) same (one.ends first was)
    of one (Some first) was (inr rest) later = later rest

opens_so : (given : Opening) (start count n : ℕ) (actor : Actor) → slice_get (actors_from start count) n ≡ Some actor → Fits given [] (start + n) actor
opens_so given start zero n actor is = absurd (none-some actor is)
opens_so given start (suc count) zero actor is = search (same_Some, arith)
opens_so given start (suc count) (suc n) actor is =
    let e : start + 1 + n ≡ start + suc n = omega arith in subst (λ n. Fits given [] n actor) e (opens_so given (start + 1) count n actor is)

pub runs_end_in_time : RunsEndInTime
runs_end_in_time given events outcome there =
    events_so given events [] events refl (worlds.opening given) refl
    (λ n actor is. let e : 0 + n ≡ n = omega arith in subst (λ n. Fits given [] n actor) e (opens_so given 0 given.agents n actor is))
    outcome (has_from (outcomes (dones (fixed_of given) (worlds.opening given) events)) outcome there)
