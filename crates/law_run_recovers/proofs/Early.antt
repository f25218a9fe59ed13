-- What a transaction asks for where it may execute next, and how its job ends.
use Rattle.law_run_recovers.proofs.Vocabulary.{◌≡◌, ℕ, false, Option, Some, Request, Ending, GatheredSuite, Suites, Fixed, Task, Phase, arith, fetched_for, request_in, is_decide, EndedJob, Actor, outcome_of, releases}
use Rattle.rep_core.specs.declared.request.Request.TheVariants as request
use Rattle.law_run_recovers.proofs.Heard.{MayExecute}
use Rattle.law_run_recovers.proofs.Still.{IsOpenPhase}

pub early_open : (phase : Phase) → MayExecute phase → IsOpenPhase phase
early_open phase h1 = search arith

-- it asks for nothing that takes a lock away, or that decides
pub early_asks : (fixed : Fixed) (task : Task) (suites : Suites) (phase : Phase) → MayExecute phase → (server : ℕ) (asked : Request) → request_in fixed task suites phase ≡ Some (server, asked)
    → (releases asked ≡ false) × (is_decide asked ≡ false)
early_asks fixed task suites phase h4 server asked h7 = search arith

-- a content is fetched by Fetch
pub fetch_is : (task : Task) (number : ℕ) (found : Option GatheredSuite) (server : ℕ) (asked : Request) → fetched_for task number found ≡ Some (server, asked) → asked ≡ request.Fetch task.t number
fetch_is task number found server asked h5 = search arith

pub ending_in : (i : ℕ) (actor : Actor) (ended : Option Ending) (job : EndedJob) → outcome_of i actor ended ≡ Some job → ended ≡ Some job.ending
ending_in i actor ended job h4 = search arith
