-- Until a transaction tells how it ended nothing that it asks finishes anything; and until it is decided nothing records how it ended.
use Rattle.law_run_recovers.proofs.Vocabulary.{◌≡◌, ℕ, false, List, Option, Some, None, Request, Verdict, Stamped, State, record_of, Ways, by_step, Cache, Ending, Response, Suites, arith, is_decide, is_resolve, is_finish, Agent, next_in, left}
use Rattle.law_run_recovers.proofs.Vocabulary.{take_in, asks_same, asked_as, fetched_as}
use Rattle.txn_core.specs.Doing.{Fixed, Task, Phase, Finishing, TransactionRun, Doing, Running, RunningSweep}
use Rattle.rep_core.specs.Serving.{step}
use Rattle.txn_core.specs.Transactions.{tell_end, after_response, request_in}

-- ---- a server

-- what is recorded stays, but for a Decide and a Resolve
abbrev StaysRecorded : State → ℕ → Request → State → Type 0
StaysRecorded st t asked new = is_decide asked ≡ false → is_resolve asked ≡ false → record_of new t ≡ record_of st t

record_ways : (st : State) (t : ℕ) → Ways st (StaysRecorded st t)
record_ways st t = search arith

pub record_stays : (st : State) (asked : Stamped Request) (t : ℕ) → is_decide asked.value ≡ false → is_resolve asked.value ≡ false → record_of (step st asked) t ≡ record_of st t
record_stays st asked t other third = by_step st (StaysRecorded st t) (record_ways st t) (λ asked new stamp stays. stays) asked other third

-- ---- an agent

-- a transaction that has not yet told how it ended
abbrev pub IsOpenPhase : Phase → Type 0
IsOpenPhase (Finishing servers v ending) = ⊥
IsOpenPhase other = Unit {0}

abbrev pub IsOpen : Option Doing → Type 0
IsOpen (Some (Running txn_run)) = IsOpenPhase txn_run.phase
IsOpen other = ⊥

pub open_next : (fixed : Fixed) (doing : Option Doing) (asked : ℕ × Request) → next_in fixed doing ≡ Some asked → IsOpen doing → is_finish asked.1 ≡ false
open_next fixed doing asked h3 h4 = search arith

-- and who asks anything else than to finish is open
closed_asks : (fixed : Fixed) (task : Task) (suites : Suites) (phase : Phase) (server : ℕ) (asked : Request) → request_in fixed task suites phase ≡ Some (server, asked) → is_finish asked ≡ false → IsOpenPhase phase
closed_asks fixed task suites phase server asked h6 h7 = search arith

pub open_where : (fixed : Fixed) (txn_run : TransactionRun) (asked : ℕ × Request) → next_in fixed (Some (Running txn_run)) ≡ Some asked → is_finish asked.1 ≡ false → IsOpen (Some (Running txn_run))
open_where fixed txn_run asked is other = closed_asks fixed txn_run.task txn_run.suites txn_run.phase asked.0 asked.1 is other

-- who is open after a response was open before it
not_open : (task : Task) (cache : Cache) (suites : Suites) (v : Verdict) (ending : Ending) (servers : List ℕ) → IsOpen (left Running (tell_end task cache suites v ending servers).after) → ⊥
not_open task cache suites v ending servers h6 = search arith

was_open : (fixed : Fixed) (task : Task) (cache : Cache) (suites : Suites) (phase : Phase) (server : ℕ) (asked : Request) (response : Response)
    → IsOpen (left Running (after_response fixed (record { task = task; suites = suites; phase = phase }) cache server asked response).after) → IsOpenPhase phase
was_open fixed task cache suites phase server asked response h8 = search arith

-- and it did not ask to be decided
no_decide : (fixed : Fixed) (task : Task) (cache : Cache) (suites : Suites) (phase : Phase) (server : ℕ) (asked : Request) (response : Response) → request_in fixed task suites phase ≡ Some (server, asked)
    → IsOpen (left Running (after_response fixed (record { task = task; suites = suites; phase = phase }) cache server asked response).after) → is_decide asked ≡ false
no_decide fixed task cache suites phase server asked response h8 h9 = search (asked_as, fetched_as, asks_same, not_open, arith)

pub open_undecided : (fixed : Fixed) (agent : Agent) (response : Response) (doing : Option Doing) (asked : ℕ × Request) → next_in fixed doing ≡ Some asked → IsOpen (take_in fixed agent response doing (Some asked)).agent.doing
    → is_decide asked.1 ≡ false
open_undecided fixed agent response (Some (Running txn_run)) asked is open' = no_decide fixed txn_run.task agent.cache txn_run.suites txn_run.phase asked.0 asked.1 response is open'
open_undecided fixed agent response (Some (RunningSweep sweep_run)) asked is open' = search arith
open_undecided fixed agent response None asked is open' = cc
