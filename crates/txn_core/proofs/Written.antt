-- What is written is fixed before the first Prepare.
use Rattle.txn_core.proofs.Vocabulary.{◌≡◌, ℕ, false, List, [], ◌∷◌, ◌++◌, Option, Some, None, refl, sym, ap, subst, ◌∙◌, false≢true, same_Some, Has, has_from, Part, Request, Verdict, Cache, Suites, arith, parts_at, Response, Ending, Changes}
use Rattle.txn_core.proofs.Vocabulary.{Fixed, Task, Proposal, Phase, Preparing, Deciding, Finishing, Sweeping, SweepRun, Doing, Running, RunningSweep, After, tell_end, prepare, after_response, request_in, changes_of, Agent, Event, Take, Forget}
use Rattle.txn_core.proofs.Vocabulary.{next_in, next_of, take_in, take, begin, forget, Exchange, exchange_of, exchanges, is_prepare, WhatIsWrittenIsFixed}
use Rattle.rep_core.specs.declared.request.Request.TheVariants as request
use Rattle.txn_core.specs.Sweeps as sweep
use Rattle.txn_core.specs.Agents as agents
use Rattle.txn_core.proofs.Asks.{asks_same, asked_as, fetched_as}

-- ---- what later Prepares are of

-- a request that, if it is a Prepare, is of these suites and changes
abbrev IsFrom : Suites → Changes → ℕ → Request → Type 0
IsFrom suites changes server asked = (t : ℕ) (parts : List Part) → asked ≡ request.Prepare t parts → parts ≡ parts_at suites changes server

abbrev Writes : Suites → Changes → List Exchange → Type 0
Writes suites changes [] = Unit {0}
Writes suites changes (one ∷ later) = IsFrom suites changes one.server one.request × Writes suites changes later

-- of some suites and changes; and, where none is a Prepare, of all
record SomeWrites (later : List Exchange) : Type 0 where
  suites : Suites
  changes : Changes
  writes : Writes suites changes later

abbrev AllWrite : List Exchange → Type 0
AllWrite later = (suites : Suites) (changes : Changes) → Writes suites changes later

abbrev InPhase : Suites → Phase → List Exchange → Type 0
InPhase suites (Preparing left outcome) later = Writes suites (changes_of outcome) later
InPhase suites (Deciding outcome) later = Writes suites (changes_of outcome) later
InPhase suites (Finishing servers v ending) later = AllWrite later
InPhase suites _ later = SomeWrites later

abbrev InDoing : Option Doing → List Exchange → Type 0
InDoing (Some (Running txn_run)) later = InPhase txn_run.suites txn_run.phase later
InDoing (Some (RunningSweep sweep_run)) later = AllWrite later
InDoing None later = AllWrite later

some_of : {later : List Exchange} → AllWrite later → SomeWrites later
some_of all = record { suites = []; changes = []; writes = all [] [] }

some_phase : (suites : Suites) (phase : Phase) (later : List Exchange) → InPhase suites phase later → SomeWrites later
some_phase suites phase later h3 = search (some_of, arith)

some_doing : (doing : Option Doing) (later : List Exchange) → InDoing doing later → SomeWrites later
some_doing doing later h2 = search (some_phase, some_of, arith)

all_ended : (task : Task) (cache : Cache) (suites : Suites) (v : Verdict) (ending : Ending) (servers : List ℕ) (later : List Exchange)
    → InDoing (agents.left Running (tell_end task cache suites v ending servers).after) later → AllWrite later
all_ended task cache suites v ending servers later h7 = search arith

writes_prepare : (task : Task) (cache : Cache) (suites : Suites) (outcome : Proposal) (servers : List ℕ) (later : List Exchange)
    → InDoing (agents.left Running (prepare task cache suites outcome servers).after) later → Writes suites (changes_of outcome) later
writes_prepare task cache suites outcome servers later h6 = search arith

-- ---- requests that are no Prepare

no_from : (suites : Suites) (changes : Changes) (server : ℕ) (asked : Request) → is_prepare asked ≡ false → IsFrom suites changes server asked
no_from suites changes server asked other = λ t parts is. absurd (false≢true (sym other ∙ ap is_prepare is))

no_prepare_round : (fixed : Fixed) (sweep_run : SweepRun) (now : Sweeping) (server : ℕ) (asked : Request)
    → ◌≡◌ {A = Option (ℕ × Request)} (Some (sweep.asked_now fixed.service sweep_run now)) (Some (server, asked)) → is_prepare asked ≡ false
no_prepare_round fixed sweep_run now server asked h5 = search arith

-- ---- one response

abbrev after' : Fixed → Task → Cache → Suites → Phase → ℕ → Request → Response → Option Doing
after' fixed task cache suites phase server asked response = agents.left Running (after_response fixed (record { task = task; suites = suites; phase = phase }) cache server asked response).after

one_more : (server : ℕ) (asked : Request) (response : Response) (later : List Exchange) → is_prepare asked ≡ false → SomeWrites later → SomeWrites (record { server = server; request = asked; response = response } ∷ later)
one_more server asked response later other some = record { suites = some.suites; changes = some.changes; writes = (no_from some.suites some.changes server asked other, some.writes) }

response_writes : (fixed : Fixed) (task : Task) (cache : Cache) (suites : Suites) (phase : Phase) (server : ℕ) (asked : Request) (response : Response) (later : List Exchange) → request_in fixed task suites phase ≡ Some (server, asked)
    → InDoing (after' fixed task cache suites phase server asked response) later → InPhase suites phase (record { server = server; request = asked; response = response } ∷ later)
response_writes fixed task cache suites phase server asked response later h9 h10 = search (one_more, asked_as, some_doing, fetched_as, same_Some, asks_same, all_ended, writes_prepare, no_from, arith)

-- ---- all responses

round_all : (after : After SweepRun) (later : List Exchange) → InDoing (agents.left RunningSweep after) later → AllWrite later
round_all after later h2 = search arith

take_writes : (fixed : Fixed) (agent : Agent) (response : Response) (later : List Exchange) (doing : Option Doing) (asked : Option (ℕ × Request)) → agent.doing ≡ doing → next_in fixed doing ≡ asked
    → InDoing (take_in fixed agent response doing asked).agent.doing later → InDoing doing (exchange_of asked response ++ later)
take_writes fixed agent response later (Some (Running running)) (Some asked) was is in' = response_writes fixed running.task agent.cache running.suites running.phase asked.0 asked.1 response later is in'
take_writes fixed agent response later (Some (Running running)) None was is in' = subst (λ doing. InDoing doing later) was in'
take_writes fixed agent response later (Some (RunningSweep sweep_run)) (Some asked) was is in' = search (no_from, no_prepare_round, round_all, arith)
take_writes fixed agent response later (Some (RunningSweep sweep_run)) None was is in' = cc
take_writes fixed agent response later None (Some asked) was is in' = cc
take_writes fixed agent response later None None was is in' = subst (λ doing. InDoing doing later) was in'

all_none : AllWrite []
all_none = λ suites changes. tt

phase_none : (suites : Suites) (phase : Phase) → InPhase suites phase []
phase_none suites phase = search (all_none, some_of, arith)

doing_none : (doing : Option Doing) → InDoing doing []
doing_none doing = search (phase_none, all_none, arith)

all_writes : (fixed : Fixed) (agent : Agent) (events : List Event) → InDoing agent.doing (exchanges fixed agent events)
all_writes fixed agent [] = doing_none agent.doing
all_writes fixed agent (Forget site ∷ events) = all_writes fixed (forget agent site) events
all_writes fixed agent (Take response ∷ events) =
    take_writes fixed agent response (exchanges fixed (take fixed agent response).agent events) agent.doing (next_of fixed agent) refl refl (all_writes fixed (take fixed agent response).agent events)

from_has : (suites : Suites) (changes : Changes) (past : List Exchange) (one : Exchange) → Writes suites changes past → Has past one → IsFrom suites changes one.server one.request
from_has suites changes [] one writes has = absurd has
from_has suites changes (first ∷ past) one writes has = search (from_has suites changes past one, arith)

pub what_is_written_is_fixed : WhatIsWrittenIsFixed
what_is_written_is_fixed fixed agent job events idle = search (all_writes fixed (begin fixed agent job) events, some_doing, from_has, has_from, arith)
