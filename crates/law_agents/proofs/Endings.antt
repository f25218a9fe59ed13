-- A transaction ends as its home told.
use Rattle.law_agents.proofs.Vocabulary.{◌≡◌, ℕ, ◌+◌, true, false, cond, List, [], ◌∷◌, ◌++◌, Option, Some, None, refl, sym, subst, nat_lt, ◌&&◌, Identity, Op, Request, Verdict, Reply, Cache, Suites, arith, Response, Replied, Lacked, Cause, Ending}
use Rattle.law_agents.proofs.Vocabulary.{Undecided, Job, Transaction, Fixed, Task, Proposal, Phase, Gathering, Fetching, Widening, Preparing, Deciding, Finishing, TransactionRun, Doing, Running, RunningSweep, After, GoesOn, Ends, lack_cause}
use Rattle.law_agents.proofs.Vocabulary.{tell_end, give_up, prepare, locked_at, prepared, after_response, request_in, ending_by, Agent, Event, next_in, end_of, take_in, begin, started, is_idle, has_sense, max_jobs, after_all, Exchange, exchange_of}
use Rattle.law_agents.proofs.Vocabulary.{of_job, is_decide, said_by, told_verdict, task_of, asks_same, asked_as, fetched_as, exchanges-take, IsEarly, goes_response, goes_execute}
use Rattle.law_agents.specs.Endings.{EndsBy, EndsAsTold}
use Rattle.rep_core.specs.declared.reply.Verdict.TheVariants as verdict
use Rattle.txn_core.specs.Agents as agents
use Rattle.law_agents.proofs.Along.{always}
use Rattle.law_agents.proofs.Hearing.{push}

-- once the end is told it is told by this verdict, and the transaction ends by it; before, the verdict is Aborted
abbrev PhaseIs : Verdict → Phase → Type 0
PhaseIs v (Finishing servers told ending) = (told ≡ v) × EndsBy v ending
PhaseIs v _ = v ≡ verdict.Aborted

abbrev LeftIs : Verdict → After TransactionRun → Type 0
LeftIs v (GoesOn running) = PhaseIs v running.phase
LeftIs v (Ends ending) = EndsBy v ending

end_is : (task : Task) (cache : Cache) (suites : Suites) (v : Verdict) (ending : Ending) (servers : List ℕ) → EndsBy v ending → LeftIs v (tell_end task cache suites v ending servers).after
end_is task cache suites v ending servers h6 = search arith

given_up : (task : Task) (cache : Cache) (suites : Suites) (cause : Cause) → LeftIs verdict.Aborted (give_up task cache suites cause).after
given_up task cache suites cause = end_is task cache suites verdict.Aborted (Undecided cause) (locked_at suites) (cause, refl)

prepare_is : (task : Task) (cache : Cache) (suites : Suites) (outcome : Proposal) (servers : List ℕ) → LeftIs verdict.Aborted (prepare task cache suites outcome servers).after
prepare_is task cache suites outcome servers = search arith

early : (task : Task) (suites : Suites) (phase : Phase) → IsEarly phase → LeftIs verdict.Aborted (GoesOn (record { task = task; suites = suites; phase = phase }))
early task suites phase h3 = search arith

prepares : (task : Task) (cache : Cache) (suites : Suites) (outcome : Proposal) → LeftIs verdict.Aborted (prepare task cache suites outcome (locked_at suites)).after
prepares task cache suites outcome = prepare_is task cache suites outcome (locked_at suites)

prepared_is : (task : Task) (cache : Cache) (suites : Suites) (outcome : Proposal) (server : ℕ) (left : List ℕ) (said : Reply) → LeftIs verdict.Aborted (prepared task cache suites outcome server left said).after
prepared_is task cache suites outcome server left said = search (prepare_is, given_up, arith)

by_verdict : (v : Verdict) (cause : Cause) → EndsBy v (ending_by v cause)
by_verdict v cause = search arith

-- ---- what is told

abbrev then_told : Request → Response → Verdict → Verdict
then_told asked heard v = cond (is_decide asked) (said_by heard v) v

-- of anything but a Decide
calm : (asked : Request) (heard : Response) (v : Verdict) (after : After TransactionRun) → is_decide asked ≡ false → v ≡ verdict.Aborted → LeftIs verdict.Aborted after → LeftIs (then_told asked heard v) after
calm asked heard v after other aborted is = search arith

module _ (fixed : Fixed) (task : Task) (cache : Cache) (suites : Suites) where
  abbrev then' : Phase → ℕ → Request → Response → After TransactionRun
  then' phase server asked heard = (after_response fixed (record { task = task; suites = suites; phase = phase }) cache server asked heard).after

  early_is : (phase : Phase) (server : ℕ) (asked : Request) (heard : Response) → IsEarly phase → LeftIs verdict.Aborted (then' phase server asked heard)
  early_is phase server asked heard is = goes_response task (LeftIs verdict.Aborted) (early task) (given_up task) (prepares task) fixed cache suites phase server asked heard is

  decide_is : (outcome : Proposal) (server : ℕ) (asked : Request) (heard : Response) → LeftIs (said_by heard verdict.Aborted) (then' (Deciding outcome) server asked heard)
  decide_is outcome server asked (Replied said) = search (end_is, by_verdict, arith)
  decide_is outcome server asked (Lacked lacked) = given_up task cache suites (lack_cause server lacked)

  prepare_heard : (now : ℕ) (left : List ℕ) (outcome : Proposal) (server : ℕ) (asked : Request) (heard : Response) → LeftIs verdict.Aborted (then' (Preparing (now ∷ left) outcome) server asked heard)
  prepare_heard now left outcome server asked heard = search (prepared_is, given_up, arith)

  finish_heard : (now : ℕ) (left : List ℕ) (v : Verdict) (ending : Ending) (server : ℕ) (asked : Request) (heard : Response) → EndsBy v ending → LeftIs v (then' (Finishing (now ∷ left) v ending) server asked heard)
  finish_heard now left v ending server asked heard h7 = search arith

  heard_is : (phase : Phase) (server : ℕ) (asked : Request) (heard : Response) (v : Verdict) → request_in fixed task suites phase ≡ Some (server, asked) → PhaseIs v phase → LeftIs (then_told asked heard v) (then' phase server asked heard)
  heard_is (Gathering number) server asked heard v is so = search (calm, asked_as, early_is, arith)
  heard_is (Fetching number) server asked heard v is so = search (calm, fetched_as, early_is, arith)
  heard_is (Widening (number ∷ left) granted) server asked heard v is so = search (calm, asked_as, early_is, arith)
  heard_is (Preparing (now ∷ left) outcome) server asked heard v is so = search (asks_same, calm, prepare_heard, arith)
  heard_is (Deciding outcome) server asked heard v is so = search (asks_same, decide_is, arith)
  heard_is (Finishing (now ∷ left) told ending) server asked heard v is so = search (asks_same, finish_heard, arith)
  heard_is other server asked heard v is so = cc

-- ---- after all events

told_push : (v : Verdict) (past : List Exchange) (server : ℕ) (asked : Request) (heard : Response) → told_verdict v (push past server asked heard) ≡ then_told asked heard (told_verdict v past)
told_push v [] server asked heard = refl
told_push v (one ∷ past) server asked heard = told_push (cond (is_decide one.request) (said_by one.response v) v) past server asked heard

abbrev told_by : List Exchange → Verdict
told_by past = told_verdict verdict.Aborted past

abbrev EndsSo : List Exchange → Option Doing → Type 0
EndsSo past (Some (Running running)) = PhaseIs (told_by past) running.phase
EndsSo past (Some (RunningSweep sweeping)) = ⊥
EndsSo past None = Unit {0}

left_so : (past : List Exchange) (after : After TransactionRun) → LeftIs (told_by past) after → EndsSo past (agents.left Running after)
left_so past after h2 = search arith

left_pushed : (past : List Exchange) (server : ℕ) (asked : Request) (heard : Response) (after : After TransactionRun) → LeftIs (then_told asked heard (told_by past)) after → LeftIs (told_by (push past server asked heard)) after
left_pushed past server asked heard after is = subst (λ v. LeftIs v after) (sym (told_push verdict.Aborted past server asked heard)) is

end_by : (v : Verdict) (after : After TransactionRun) (ending : Ending) → LeftIs v after → end_of after ≡ Some ending → EndsBy v ending
end_by v after ending h3 h4 = search arith

module _ (fixed : Fixed) (agent : Agent) (caller : Identity) (site : ℕ) (ops : List Op) (idle : is_idle agent.doing ≡ true) where
  abbrev job : Job
  job = Transaction caller site ops

  abbrev at : List Event → Agent
  at events = after_all fixed (begin fixed agent job) events

  abbrev past_of : List Event → List Exchange
  past_of events = of_job fixed agent job events

  told_so : (events : List Event) (heard : Response) (running : TransactionRun) (server : ℕ) (asked : Request) → next_in fixed (Some (Running running)) ≡ Some (server, asked) → EndsSo (past_of events) (Some (Running running))
      → LeftIs (told_by (push (past_of events) server asked heard)) (after_response fixed running (at events).cache server asked heard).after
  told_so events heard running server asked is so =
      left_pushed (past_of events) server asked heard (after_response fixed running (at events).cache server asked heard).after
      (heard_is fixed running.task (at events).cache running.suites running.phase server asked heard (told_by (past_of events)) is so)

  stays : (events : List Event) (heard : Response) (doing : Doing) (server : ℕ) (asked : Request) → (at events).doing ≡ Some doing → next_in fixed (Some doing) ≡ Some (server, asked) → EndsSo (past_of events) (Some doing)
      → EndsSo (push (past_of events) server asked heard) (take_in fixed (at events) heard (Some doing) (Some (server, asked))).agent.doing
  stays events heard doing server asked h5 h6 h7 = search (left_so, push, told_so, arith)

  begins : EndsSo [] (begin fixed agent job).doing
  begins =
      elim (is_idle agent.doing && has_sense fixed job && nat_lt agent.count max_jobs) as (λ b. EndsSo [] (cond b (record (started fixed agent job) { count = agent.count + 1 }) agent).doing) [
        | true ↦ let task = task_of agent caller site ops in left_so [] _ (goes_execute task (LeftIs verdict.Aborted) (early task) (given_up task) (prepares task) fixed (record { suites = []; cache = agent.cache }))
        | false ↦ of agent.doing idle
      ]
    where
      of : (doing : Option Doing) → is_idle doing ≡ true → EndsSo [] doing
      of doing h1 = search arith

  ends_so : (events : List Event) → EndsSo (past_of events) (at events).doing
  ends_so events = always fixed agent job EndsSo stays begins events

  ends : (events : List Event) (heard : Response) (ending : Ending) (doing : Option Doing) (asked : Option (ℕ × Request)) → next_in fixed doing ≡ asked
      → EndsSo (past_of events) doing → (take_in fixed (at events) heard doing asked).ending ≡ Some ending
      → EndsBy (told_by (past_of events ++ exchange_of asked heard)) ending
  ends events heard ending None (Some asked) is so by = cc
  ends events heard ending (Some (RunningSweep sweeping)) asked is so by = absurd so
  ends events heard ending (Some (Running running)) (Some asked) is so by =
      end_by (told_by (push (past_of events) asked.0 asked.1 heard)) (after_response fixed running (at events).cache asked.0 asked.1 heard).after ending (told_so events heard running asked.0 asked.1 is so) by
  ends events heard ending other None is so by = cc

pub ends_as_told : EndsAsTold
ends_as_told fixed agent caller site ops events told ending idle by = search (exchanges-take, ends, ends_so, arith)
