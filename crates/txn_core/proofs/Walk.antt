-- One walk through what a transaction does with a response, for each claim on what is left after it.
use Rattle.txn_core.proofs.Vocabulary.{ℕ, Request, Cache, Suites, Response, Cause, Fixed, Task, Proposal, Phase, Gathering, Fetching, Widening, TransactionRun, After, GoesOn, Stage, Executes, Asks, PreparesAt, arith, Tells, TellsAt, Point}
use Rattle.txn_core.proofs.Vocabulary.{point, EndsIn, Move, MovesTo, Hears, Step, Gathered, give_up, prepare, locked_at, execute, after_response}
use Rattle.txn_core.proofs.Moving.{kept, execute_moves, response_moves}

-- a phase in which locks and contents are gathered
abbrev pub IsEarly : Phase → Type 0
IsEarly (Gathering number) = Unit {0}
IsEarly (Fetching number) = Unit {0}
IsEarly (Widening left granted) = Unit {0}
IsEarly _ = ⊥

-- what holds of every early phase of a task, wherever it is given up, and where the servers begin to prepare, holds after every step of an early phase
module _ (task : Task) (Left : After TransactionRun → Type 0)
    (early : (suites : Suites) (phase : Phase) → IsEarly phase → Left (GoesOn (record { task = task; suites = suites; phase = phase })))
    (given_up : (cache : Cache) (suites : Suites) (cause : Cause) → Left (give_up task cache suites cause).after)
    (prepares' : (cache : Cache) (suites : Suites) (outcome : Proposal) → Left (prepare task cache suites outcome (locked_at suites)).after) where
  -- where an early phase comes to
  abbrev Early : Stage → Type 0
  Early (Asks phase) = IsEarly phase
  Early (PreparesAt servers outcome) = ⊥
  Early (Tells v ending) = ⊥
  Early (TellsAt servers v ending) = ⊥
  Early other = Unit {0}

  early_end : (at : Point) (step : Step) → EndsIn task at.cache at.suites at.stage step → Early at.stage → Left step.after
  early_end at step ends is = search arith

  move_early : {fixed : Fixed} {at next : Point} → Move fixed task at next → Early next.stage
  move_early h0 = search arith

  goes_moves : (fixed : Fixed) (at : Point) (step : Step) → MovesTo fixed task at step → Early at.stage → Left step.after
  goes_moves fixed at step moves is = early_end moves.end step moves.ends (kept fixed task (λ at. Early at.stage) (λ at next move before. move_early move) moves.moves is)

  pub goes_execute : (fixed : Fixed) (all : Gathered) → Left (execute fixed task all).after
  goes_execute fixed all = goes_moves fixed (point Executes all.cache all.suites) (execute fixed task all) (execute_moves fixed task all) tt

  hears_early : {fixed : Fixed} {cache : Cache} {suites : Suites} {server : ℕ} {asked : Request} {phase : Phase} {response : Response} {heard : Point}
      → Hears fixed task cache suites server asked phase response heard → IsEarly phase → Early heard.stage
  hears_early h0 h1 = search arith

  -- a response in an early phase
  pub goes_response : (fixed : Fixed) (cache : Cache) (suites : Suites) (phase : Phase) (server : ℕ) (asked : Request) (response : Response) → IsEarly phase
      → Left (after_response fixed (record { task = task; suites = suites; phase = phase }) cache server asked response).after
  goes_response fixed cache suites phase server asked response is =
      let moves = response_moves fixed task cache suites server asked phase response in goes_moves fixed moves.heard _ moves.moves (hears_early moves.hears is)
