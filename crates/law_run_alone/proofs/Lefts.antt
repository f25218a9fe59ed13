-- A transaction prepares at servers that told it of a lock alone.
use Rattle.law_run_alone.proofs.Vocabulary.{◌≡◌, ℕ, true, false, cond, List, [], ◌∷◌, Option, Some, None, refl, sym, subst, ◌*◌, ◌+◌, ◌&&◌, nat_lt, false≢true, max_servers, Request, Verdict, Has, has_filter, Cache, Suites, arith, has_locks, Response}
use Rattle.law_run_alone.proofs.Vocabulary.{Replied, Lacked, Job, Transaction, Sweep, Cause, Ending, Undecided, Fixed, Task, Proposal, Phase, Gathering, Fetching, Widening, Preparing, Deciding, Finishing, TransactionRun, SweepRun, Doing, Running}
use Rattle.law_run_alone.proofs.Vocabulary.{RunningSweep, After, GoesOn, Ends, execute, tell_end, give_up, prepare, locked_at, numbers_from, lack_cause, after_response, verdict_in, ending_by, cause_of_abort, Agent, Take, next_of, take_in, take}
use Rattle.law_run_alone.proofs.Vocabulary.{begin, started, forget, is_idle, has_sense, max_jobs, left, after_all}
use Rattle.txn_core.proofs.Walk.{IsEarly, goes_response, goes_execute}
use Rattle.txn_core.specs.Agents.{Event, Forget}
use Rattle.rep_core.specs.declared.reply.Verdict.TheVariants as verdict
use Rattle.txn_core.specs.Sweeps as sweep

-- where it is to prepare it holds a lock
abbrev pub LeftHold : Suites → Phase → Type 0
LeftHold suites (Preparing servers outcome) = (server : ℕ) → Has servers server → has_locks suites server ≡ true
LeftHold suites other = Unit {0}

abbrev HoldsAfter : After TransactionRun → Type 0
HoldsAfter (GoesOn txn_run) = LeftHold txn_run.suites txn_run.phase
HoldsAfter (Ends ending) = Unit {0}

abbrev pub HoldsIn : Option Doing → Type 0
HoldsIn (Some (Running txn_run)) = LeftHold txn_run.suites txn_run.phase
HoldsIn other = Unit {0}

module _ (task : Task) where
  holds_end : (cache : Cache) (suites : Suites) (v : Verdict) (ending : Ending) (servers : List ℕ) → HoldsAfter (tell_end task cache suites v ending servers).after
  holds_end cache suites v ending servers = search arith

  holds_given_up : (cache : Cache) (suites : Suites) (cause : Cause) → HoldsAfter (give_up task cache suites cause).after
  holds_given_up cache suites cause = holds_end cache suites verdict.Aborted (Undecided cause) (locked_at suites)

  holds_prepare : (cache : Cache) (suites : Suites) (outcome : Proposal) (servers : List ℕ) → ((server : ℕ) → Has servers server → has_locks suites server ≡ true) → HoldsAfter (prepare task cache suites outcome servers).after
  holds_prepare cache suites outcome servers h4 = search arith

  holds_prepares : (cache : Cache) (suites : Suites) (outcome : Proposal) → HoldsAfter (prepare task cache suites outcome (locked_at suites)).after
  holds_prepares cache suites outcome = holds_prepare cache suites outcome (locked_at suites) (λ server has. (has_filter (has_locks suites) (numbers_from 0 max_servers) server has).1)

  holds_early : (suites : Suites) (phase : Phase) → IsEarly phase → HoldsAfter (GoesOn (record { task = task; suites = suites; phase = phase }))
  holds_early suites phase h2 = search arith

  module _ (fixed : Fixed) (cache : Cache) (suites : Suites) (server : ℕ) (asked : Request) (response : Response) where
    abbrev After' : Phase → Type 0
    After' phase = HoldsAfter (after_response fixed (record { task = task; suites = suites; phase = phase }) cache server asked response).after

    holds_early_response : (phase : Phase) → IsEarly phase → After' phase
    holds_early_response phase is = goes_response task HoldsAfter holds_early holds_given_up holds_prepares fixed cache suites phase server asked response is

    holds_response : (phase : Phase) → LeftHold suites phase → After' phase
    holds_response (Gathering number) holds = holds_early_response (Gathering number) tt
    holds_response (Fetching number) holds = holds_early_response (Fetching number) tt
    holds_response (Widening numbers granted) holds = holds_early_response (Widening numbers granted) tt
    holds_response (Preparing [] outcome) holds = search (holds_given_up, arith)
    holds_response (Preparing (now ∷ servers) outcome) holds = search (holds_prepare, holds_given_up, arith)
    holds_response (Deciding outcome) holds = of response
      where
        of : (response : Response) → HoldsAfter (after_response fixed (record { task = task; suites = suites; phase = Deciding outcome }) cache server asked response).after
        of (Replied said) = holds_end cache suites (verdict_in said verdict.Aborted) (ending_by (verdict_in said verdict.Aborted) (cause_of_abort said)) (locked_at suites)
        of (Lacked lacked) = holds_given_up cache suites (lack_cause server lacked)
    holds_response (Finishing [] v ending) holds = search arith
    holds_response (Finishing (now ∷ servers) v ending) holds = search (holds_end, arith)

-- ---- an agent

holds_left : (after : After TransactionRun) → HoldsAfter after → HoldsIn (left Running after)
holds_left after h1 = search arith

holds_round : (after : After SweepRun) → HoldsIn (left RunningSweep after)
holds_round after = search arith

take_holds : (fixed : Fixed) (agent : Agent) (response : Response) (doing : Option Doing) (asked : Option (ℕ × Request)) → agent.doing ≡ doing → HoldsIn doing → HoldsIn (take_in fixed agent response doing asked).agent.doing
take_holds fixed agent response (Some (Running txn_run)) (Some asked) was holds = search (holds_response txn_run.task fixed agent.cache txn_run.suites asked.0 asked.1 response txn_run.phase holds, holds_left, arith)
take_holds fixed agent response (Some (RunningSweep sweep_run)) (Some asked) was holds = holds_round (sweep.after_response fixed.service sweep_run asked.0 response)
take_holds fixed agent response (Some (RunningSweep sweep_run)) None was holds = subst HoldsIn (sym was) holds
take_holds fixed agent response None (Some asked) was holds = subst HoldsIn (sym was) holds
take_holds fixed agent response other None was holds = subst HoldsIn (sym was) holds

all_hold : (fixed : Fixed) (agent : Agent) (events : List Event) → HoldsIn agent.doing → HoldsIn (after_all fixed agent events).doing
all_hold fixed agent [] holds = holds
all_hold fixed agent (Take response ∷ events) holds = all_hold fixed (take fixed agent response).agent events (take_holds fixed agent response agent.doing (next_of fixed agent) refl holds)
all_hold fixed agent (Forget site ∷ events) holds = all_hold fixed (forget agent site) events holds

begun_holds : (fixed : Fixed) (agent : Agent) (job : Job) → is_idle agent.doing ≡ true → HoldsIn (begin fixed agent job).doing
begun_holds fixed agent job idle =
    elim (is_idle agent.doing && has_sense fixed job && nat_lt agent.count max_jobs) as (λ b. HoldsIn (cond b (record (started fixed agent job) { count = agent.count + 1 }) agent).doing) [
      | true ↦ begins job
      | false ↦ none agent.doing idle
    ]
  where
    none : (doing : Option Doing) → is_idle doing ≡ true → HoldsIn doing
    none doing h1 = search (false≢true, arith)

    begins : (job : Job) → HoldsIn (started fixed agent job).doing
    begins (Transaction caller site ops) =
        let task : Task = record { t = 64 * agent.count + agent.index; caller = caller; site = site; ops = ops } in
        holds_left (execute fixed task (record { suites = []; cache = agent.cache })).after
        (goes_execute task HoldsAfter (holds_early task) (holds_given_up task) (holds_prepares task) fixed (record { suites = []; cache = agent.cache }))
    begins (Sweep server) = tt

-- whatever a job was told
pub prepares_where_it_holds : (fixed : Fixed) (agent : Agent) (job : Job) (events : List Event) → is_idle agent.doing ≡ true → HoldsIn (after_all fixed (begin fixed agent job) events).doing
prepares_where_it_holds fixed agent job events idle = all_hold fixed (begin fixed agent job) events (begun_holds fixed agent job idle)
