-- That a transaction goes by the moves of the protocol, and that they leave it no choice.
use Rattle.std.specs.Prelude.{◌≡◌, ℕ, None}
use Rattle.std.specs.Ordering.{nat_cmp}
use Rattle.sorted_map.specs.SortedMap.{IsOrdered}
use Rattle.rep_core.specs.declared.request.Request.{Request}
use Rattle.weak_cache.specs.Entries.{Cache}
use Rattle.txn_core.specs.Suites.{Suites, suite_of}
use Rattle.txn_core.specs.declared.response.Response.{Response}
use Rattle.txn_core.specs.Doing.{Fixed, Task, Fetching, TransactionRun}
use Rattle.txn_core.specs.Transactions.{Step, on_with, tell_end, finish, give_up, prepare, locked_at, widen_all, open_suite, execute, after_response}
use Rattle.txn_core.specs.Moves.{Stage, Executes, Widens, Asks, Prepares, PreparesAt, GivesUp, Tells, TellsAt, Point, MovesTo, HearsTo}

-- the step that the function takes from a stage on
abbrev pub step_at : Fixed → Task → Cache → Suites → Stage → Step
step_at fixed task cache suites Executes = execute fixed task (record { suites = suites; cache = cache })
step_at fixed task cache suites (Widens left granted) = widen_all task cache suites granted left
step_at fixed task cache suites (Asks phase) = on_with task cache suites phase
step_at fixed task cache suites (Prepares outcome) = prepare task cache suites outcome (locked_at suites)
step_at fixed task cache suites (PreparesAt servers outcome) = prepare task cache suites outcome servers
step_at fixed task cache suites (GivesUp cause) = give_up task cache suites cause
step_at fixed task cache suites (Tells verdict ending) = finish task cache suites verdict ending
step_at fixed task cache suites (TellsAt servers verdict ending) = tell_end task cache suites verdict ending servers

abbrev pub step_from : Fixed → Task → Point → Step
step_from fixed task at = step_at fixed task at.cache at.suites at.stage

-- where a content is fetched, it is not to be had without asking
abbrev pub IsEager : Task → Point → Type 0
IsEager task at = (number : ℕ) → at.stage ≡ Asks (Fetching number) → open_suite task (record { suites = at.suites; cache = at.cache }) number (suite_of at.suites number) ≡ None

abbrev pub Rises : Suites → Type 0
Rises suites = IsOrdered nat_cmp suites

-- moves from a point on that come to a step; and a word, and then such moves
pub record GoesTo (fixed : Fixed) (task : Task) (at : Point) (step : Step) : Type 0 where
  pub moves : MovesTo fixed task at step
  pub eager : IsEager task moves.end

pub record TakesTo (fixed : Fixed) (txn_run : TransactionRun) (cache : Cache) (server : ℕ) (asked : Request) (response : Response) (step : Step) : Type 0 where
  pub hears : HearsTo fixed txn_run.task cache txn_run.suites server asked txn_run.phase response step
  pub eager : IsEager txn_run.task hears.moves.end

-- the law
pub record MovesAreTheProtocol : Type 0 where
  -- they lead to the step that the function takes, and to no other
  pub goes : (fixed : Fixed) (task : Task) (at : Point) → Rises at.suites → IsEager task at → GoesTo fixed task at (step_from fixed task at)
  pub goes_nowhere_else : (fixed : Fixed) (task : Task) (at : Point) (step : Step) → Rises at.suites → GoesTo fixed task at step → step ≡ step_from fixed task at
  -- and so with a word
  pub takes : (fixed : Fixed) (txn_run : TransactionRun) (cache : Cache) (server : ℕ) (asked : Request) (response : Response) → Rises txn_run.suites
      → TakesTo fixed txn_run cache server asked response (after_response fixed txn_run cache server asked response)
  pub takes_nothing_else : (fixed : Fixed) (txn_run : TransactionRun) (cache : Cache) (server : ℕ) (asked : Request) (response : Response) (step : Step) → Rises txn_run.suites
      → TakesTo fixed txn_run cache server asked response step → step ≡ after_response fixed txn_run cache server asked response
