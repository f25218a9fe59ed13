-- A transaction that goes steadily ends as the votes say that are open: its begin.
use Rattle.law_run_recovers.proofs.Vocabulary.{◌≡◌, ℕ, Bool, true, false, cond, List, [], Option, Some, refl, sym, ap, subst, ◌∙◌, ◌*◌, ◌+◌, false≢true, Identity, Opening, Op, arith, Ending, Transaction, table_of, Task, Doing, Running, execute}
use Rattle.law_run_recovers.proofs.Vocabulary.{Agent, fixed_of, is_idle, left, end_of, begins, begin, started, Event, Actor, step, run, ended, no_lock, locks_at, runs, running_in, world_after}
use Rattle.txn_core.specs.Transactions.{Step as CourseStep}
use Rattle.law_run_recovers.proofs.Steady.{GoesSteadily}
use Rattle.law_run_recovers.proofs.Executes.{begin_stands}
use Rattle.law_run_recovers.proofs.NearGround.{its, Known, ground, sight}
use Rattle.law_run_recovers.proofs.Open.{its_begin, begun_there, begun_servers, begun_runs}
use Rattle.law_run_recovers.proofs.Serves.{On}
use Rattle.law_run_recovers.proofs.Stands.{StepStands}
use Rattle.law_run_recovers.proofs.AmongAt.{HasWhereOpen}
use Rattle.law_run_recovers.proofs.AmongCourse.{Course, StandsIn, Right, same_service, nil_cons}

module _ (given : Opening) (events later : List Event) (agent t : ℕ) (caller : Identity) (site : ℕ) (ops : List Op) (actor : Actor) (goes : GoesSteadily given events later agent t caller site ops actor) where
  abbrev its_task : Task
  its_task = its given events later agent t caller site ops actor goes

  abbrev pub Good : CourseStep → Type 0
  Good step =
      StepStands (fixed_of given) (run given events) (sight given events later agent t caller site ops actor goes) (table_of given events) (its given events later agent t caller site ops actor goes) actor.agent.cache
      (Known given events later agent t caller site ops actor goes) (ground given events later agent t caller site ops actor goes) step

  pub stands_left : (step : CourseStep) → Good step → StandsIn given events later agent t caller site ops actor goes step.cache (left Running step.after)
  stands_left step = search arith

  pub right_end : (step : CourseStep) → Good step → (ended : Ending) → end_of step.after ≡ Some ended → Right given events later agent t caller site ops actor goes ended
  right_end step = search arith

  -- ---- its begin

  pub begun : (64 * actor.agent.count + agent ≡ t) × (begins (fixed_of given) actor.agent (Transaction caller site ops) ≡ true)
  begun = its_begin given events later agent t caller site ops actor goes.can goes.there goes.begins

  first_stands : StandsIn given events later agent t caller site ops actor goes (begin (fixed_of given) actor.agent (Transaction caller site ops)).cache (begin (fixed_of given) actor.agent (Transaction caller site ops)).doing
  first_stands =
      subst (λ b. StandsIn given events later agent t caller site ops actor goes (begin_if b).cache (begin_if b).doing) (sym begun.1)
      (stands_left (execute (fixed_of given) its_task (record { suites = []; cache = actor.agent.cache }))
      (begin_stands (fixed_of given) (run given events) (sight given events later agent t caller site ops actor goes) (table_of given events) (its given events later agent t caller site ops actor goes) actor.agent.cache
      (Known given events later agent t caller site ops actor goes) (ground given events later agent t caller site ops actor goes) (same_service given events later agent t caller site ops actor goes)))
    where
      begin_if : Bool → Agent
      begin_if b = cond b (record (started (fixed_of given) actor.agent (Transaction caller site ops)) { count = actor.agent.count + 1 }) actor.agent

  first_count : (begin (fixed_of given) actor.agent (Transaction caller site ops)).count ≡ actor.agent.count + 1
  first_count = ap (λ b. (cond b (record (started (fixed_of given) actor.agent (Transaction caller site ops)) { count = actor.agent.count + 1 }) actor.agent).count) begun.1

  pub idle_before : is_idle actor.agent.doing ≡ true
  idle_before = search arith

  -- it has no lock
  pub none_there : (server z : ℕ) → On (locks_at (world_after given events agent caller site ops []) server) t z → ⊥
  none_there server z on = search (begun_servers, no_lock, arith)

  pub first_course : Course given events later agent t caller site ops actor goes []
  first_course = record {
    here = record actor { agent = begin (fixed_of given) actor.agent (Transaction caller site ops) };
    there = begun_there given events later agent t caller site ops actor goes.can goes.there goes.begins;
    stands = first_stands;
    busy = busy_so (begin (fixed_of given) actor.agent (Transaction caller site ops)).doing runs_so;
    told = [];
    is = refl;
    count = first_count;
    locks = none_has;
    shown = λ server z on. absurd (none_there server z on);
    spared = λ front back event is. absurd (nil_cons front event back is);
  }
    where
      runs_so : runs t (begin (fixed_of given) actor.agent (Transaction caller site ops)).doing ≡ true
      runs_so =
          ap (running_in t) (sym (begun_there given events later agent t caller site ops actor goes.can goes.there goes.begins))
          ∙ begun_runs given events later agent t caller site ops actor goes.can goes.there goes.begins

      busy_so : (doing : Option Doing) → runs t doing ≡ true → is_idle doing ≡ false
      busy_so doing h1 = search (false≢true, arith)

      none_has : HasWhereOpen given events later agent t caller site ops actor goes (world_after given events agent caller site ops [])
      none_has server z on = absurd (none_there server z on)

  pub first_told : first_course.told ≡ []
  unfolding first_course
  first_told = refl
