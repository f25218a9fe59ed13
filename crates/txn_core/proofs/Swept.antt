-- How many steps a sweep takes.
use Rattle.txn_core.proofs.Vocabulary.{◌≡◌, ℕ, ◌+◌, ◌≤◌, Bool, true, List, [], ◌∷◌, ◌++◌, Option, Some, None, refl, arith, ◌*◌, not, length, filter, Lock, Request, Reply, Service, Response, Replied, Sweep, Fixed, Sweeping, Listing, Resolving}
use Rattle.txn_core.proofs.Vocabulary.{Telling, Breaking, SweepRun, Doing, Running, RunningSweep, After, Agent, Event, Take, Forget, next_in, next_of, take_in, take, begin, forget, is_idle, Exchange, exchange_of, exchanges, listed_in, listed}
use Rattle.txn_core.proofs.Vocabulary.{SweepEndsInTime}
use Rattle.txn_core.specs.Sweeps.{after_response, rising, sweep_on, after_answer, asked_now}
use Rattle.txn_core.specs.Agents as agents
use Rattle.txn_core.proofs.Asks.{asks_same}

-- how many steps may follow
abbrev may_in : Sweeping → ℕ
may_in Listing = 1
may_in (Resolving t left) = 2 + 2 * length left
may_in (Telling t v left) = 1 + 2 * length left
may_in (Breaking lock left) = 1 + 2 * length left

abbrev may : Option Doing → ℕ
may (Some (RunningSweep sweep_run)) = may_in sweep_run.now
may (Some (Running txn_run)) = 0
may None = 0

fewer : (p : Lock → Bool) (locks : List Lock) → length (filter p locks) ≤ length locks
fewer p [] = omega arith
fewer p (lock ∷ locks) = search (fewer p locks, arith)

parts : (p : Lock → Bool) (locks : List Lock) → length (filter p locks) + length (filter (λ other. not (p other)) locks) ≡ length locks
parts p [] = omega arith
parts p (lock ∷ locks) = search (parts p locks, arith)

joined : (a b : List Lock) → length (a ++ b) ≡ length a + length b
joined [] b = omega arith
joined (lock ∷ a) b = let rest = joined a b in omega (arith, rest)

as_many : (locks : List Lock) → length (rising locks) ≡ length locks
as_many [] = refl
as_many (lock ∷ locks) = search (joined, parts, as_many locks, arith)

few_on : (sweep_run : SweepRun) (locks : List Lock) → may (agents.left RunningSweep (sweep_on sweep_run locks)) ≤ 2 * length locks
few_on sweep_run locks = search (fewer, arith)

-- ---- one response

abbrev then_may : Service → SweepRun → Sweeping → Reply → ℕ
then_may service sweep_run now said = may (agents.left RunningSweep (after_answer service sweep_run now said))

few_answer : (service : Service) (sweep_run : SweepRun) (now : Sweeping) (asked : Request) (said : Reply) (server : ℕ) → ◌≡◌ {A = Option (ℕ × Request)} (Some (asked_now service sweep_run now)) (Some (server, asked))
    → 1 + then_may service sweep_run now said ≤ may_in now + 2 * listed_in asked (Replied said)
few_answer service sweep_run now asked said server h6 = search (asks_same, few_on, as_many, arith)

some_step : (now : Sweeping) → 1 ≤ may_in now
some_step now = search arith

few_response : (service : Service) (sweep_run : SweepRun) (asked : Request) (response : Response) (server : ℕ) → ◌≡◌ {A = Option (ℕ × Request)} (Some (asked_now service sweep_run sweep_run.now)) (Some (server, asked))
    → 1 + may (agents.left RunningSweep (after_response service sweep_run server response)) ≤ may_in sweep_run.now + 2 * listed_in asked response
few_response service sweep_run asked response server h5 = search (few_answer, some_step, arith)

-- ---- all responses

abbrev pub IsNoCourse : Option Doing → Type 0
IsNoCourse (Some (RunningSweep sweep_run)) = Unit {0}
IsNoCourse (Some (Running txn_run)) = ⊥
IsNoCourse None = Unit {0}

pub no_course : (after : After SweepRun) → IsNoCourse (agents.left RunningSweep after)
no_course after = search arith

take_no_course : (fixed : Fixed) (agent : Agent) (response : Response) (doing : Option Doing) (asked : Option (ℕ × Request)) → agent.doing ≡ doing → IsNoCourse doing → IsNoCourse (take_in fixed agent response doing asked).agent.doing
take_no_course fixed agent response doing asked h5 h6 = search arith

take_few : (fixed : Fixed) (agent : Agent) (response : Response) (doing : Option Doing) (asked : Option (ℕ × Request)) → agent.doing ≡ doing → next_in fixed doing ≡ asked → IsNoCourse doing
    → length (exchange_of asked response) + may (take_in fixed agent response doing asked).agent.doing ≤ may doing + 2 * listed (exchange_of asked response)
take_few fixed agent response doing asked h5 h6 h7 = search (few_response, arith)

length-append : (past later : List Exchange) → length (past ++ later) ≡ length past + length later
length-append [] later = omega arith
length-append (one ∷ past) later = let rest = length-append past later in omega (arith, rest)

listed-append : (past later : List Exchange) → listed (past ++ later) ≡ listed past + listed later
listed-append [] later = omega arith
listed-append (one ∷ past) later = let rest = listed-append past later in omega (arith, rest)

all_few : (fixed : Fixed) (agent : Agent) (events : List Event) → IsNoCourse agent.doing → length (exchanges fixed agent events) ≤ may agent.doing + 2 * listed (exchanges fixed agent events)
all_few fixed agent [] none = omega arith
all_few fixed agent (Forget site ∷ events) none = all_few fixed (forget agent site) events none
all_few fixed agent (Take response ∷ events) none =
    let rest = all_few fixed (take fixed agent response).agent events (take_no_course fixed agent response agent.doing (next_of fixed agent) refl none) in
    let one = take_few fixed agent response agent.doing (next_of fixed agent) refl refl none in
    let steps = length-append (exchange_of (next_of fixed agent) response) (exchanges fixed (take fixed agent response).agent events) in
    let locks = listed-append (exchange_of (next_of fixed agent) response) (exchanges fixed (take fixed agent response).agent events) in
    omega (arith, rest, one, steps, locks)

abbrev Begun : Option Doing → Type 0
Begun doing = IsNoCourse doing × (may doing ≤ 1)

begin_few : (fixed : Fixed) (agent : Agent) (server : ℕ) → is_idle agent.doing ≡ true → Begun (begin fixed agent (Sweep server)).doing
begin_few fixed agent server idle = search arith

pub sweep_ends_in_time : SweepEndsInTime
sweep_ends_in_time fixed agent server events idle = search (begin_few, all_few, arith)
