-- What an agent keeps of locks is what it heard.
use Rattle.txn_core.proofs.Vocabulary.{◌≡◌, ℕ, ◌+◌, Bool, true, false, cond, List, [], ◌∷◌, ◌++◌, Option, Some, None, refl, sym, ap, subst, ◌∙◌, ◌==◌, ◌&&◌, ◌||◌, nat_lt, ◌*◌, nat_cmp, IsOrdered, LockMode, Shared, arith, Request, serves, Exchange}
use Rattle.txn_core.proofs.Vocabulary.{exchange_of, exchanges, locks, says_held, was_held, Agent, Event, Take, Forget, next_in, next_of, take_in, take, begin, started, forget, is_idle, has_sense, max_jobs, after_all, Told, holds, Cache, Suites}
use Rattle.txn_core.proofs.Vocabulary.{told_at, Response, Job, Transaction, Sweep, Fixed, Task, Phase, TransactionRun, SweepRun, Doing, Running, RunningSweep, After, after_response, request_in}
use Rattle.txn_core.proofs.ToldLists.{Are, Leaves, leaves_execute, are_nil, heard_by, hears_response}
use Rattle.txn_core.specs.Agents as agents
use Rattle.txn_core.specs.Sweeps as sweep

-- which servers hold a lock for it
abbrev pub Held : (ℕ → ℕ → Bool) → (ℕ → List Told) → Type 0
Held held told = (number server : ℕ) → holds Shared (told number) server ≡ held number server

-- what an exchange adds
abbrev adds : ℕ → Request → Response → ℕ → ℕ → Bool
adds server asked response number other = (server == other) && locks number asked && says_held response

abbrev plus : (ℕ → ℕ → Bool) → ℕ → Request → Response → ℕ → ℕ → Bool
plus held server asked response number other = held number other || adds server asked response number other

-- suites in order, on which these servers hold locks
record LeftWith (held : ℕ → ℕ → Bool) (after : After TransactionRun) : Type 0 where
  told : ℕ → List Told
  leaves : Leaves told after
  agree : Held held told

pub or_false : (a : Bool) → (a || false) ≡ a
or_false a = search arith

pub serves_shared : (mode : LockMode) → serves mode Shared ≡ true
serves_shared mode = search arith

-- what is held by the lists after a response
held_by : (held : ℕ → ℕ → Bool) (told lists : ℕ → List Told) (server : ℕ) (asked : Request) (response : Response) → ((number : ℕ) → lists number ≡ heard_by number (told number) server asked response) → Held held told
    → Held (plus held server asked response) lists
held_by held told lists server asked response are agree number who = search arith

left_response : (held : ℕ → ℕ → Bool) (told : ℕ → List Told) (fixed : Fixed) (task : Task) (cache : Cache) (suites : Suites) (phase : Phase) (server : ℕ) (asked : Request) (response : Response) → Are told suites → Held held told
    → request_in fixed task suites phase ≡ Some (server, asked) → LeftWith (plus held server asked response) (after_response fixed (record { task = task; suites = suites; phase = phase }) cache server asked response).after
left_response held told fixed task cache suites phase server asked response are agree is = search (hears_response told fixed task cache suites phase server asked response are is, held_by, arith)

-- ---- all responses

-- what an agent's transaction keeps
abbrev pub Keeps : (ℕ → ℕ → Bool) → Option Doing → Type 0
Keeps held (Some (Running txn_run)) = IsOrdered nat_cmp txn_run.suites × Held held (told_at txn_run.suites)
Keeps held (Some (RunningSweep sweep_run)) = Unit {0}
Keeps held None = Unit {0}

left_keeps : (held : ℕ → ℕ → Bool) (after : After TransactionRun) → LeftWith held after → Keeps held (agents.left Running after)
left_keeps held after h2 = search arith

round_keeps : (held : ℕ → ℕ → Bool) (after : After SweepRun) → Keeps held (agents.left RunningSweep after)
round_keeps held after = search arith

-- what a list of exchanges adds
abbrev pub plus_all : (ℕ → ℕ → Bool) → List Exchange → ℕ → ℕ → Bool
plus_all held past number who = held number who || was_held past number who

same_keeps : (held other : ℕ → ℕ → Bool) (doing : Option Doing) → ((number who : ℕ) → held number who ≡ other number who) → Keeps held doing → Keeps other doing
same_keeps held other doing h3 h4 = search arith

take_keeps : (held : ℕ → ℕ → Bool) (fixed : Fixed) (agent : Agent) (response : Response) (doing : Option Doing) (asked : Option (ℕ × Request)) → agent.doing ≡ doing → next_in fixed doing ≡ asked → Keeps held doing
    → Keeps (plus_all held (exchange_of asked response)) (take_in fixed agent response doing asked).agent.doing
take_keeps held fixed agent response (Some (Running running)) (Some asked) was is keeps =
    same_keeps (plus held asked.0 asked.1 response) (plus_all held (exchange_of (Some asked) response)) _ (λ number who. ap (λ b. held number who || b) (sym (or_false (adds asked.0 asked.1 response number who))))
    (left_keeps (plus held asked.0 asked.1 response) _ (left_response held (told_at running.suites) fixed running.task agent.cache running.suites running.phase asked.0 asked.1 response (keeps.0, λ number. refl) keeps.1 is))
take_keeps held fixed agent response (Some (Running running)) None was is keeps = search (same_keeps, or_false, arith)
take_keeps held fixed agent response (Some (RunningSweep sweep_run)) (Some asked) was is keeps = round_keeps _ (sweep.after_response fixed.service sweep_run asked.0 response)
take_keeps held fixed agent response (Some (RunningSweep sweep_run)) None was is keeps = cc
take_keeps held fixed agent response None (Some asked) was is keeps = cc
take_keeps held fixed agent response None None was is keeps = subst (Keeps (plus_all held [])) (sym was) tt

held-append : (past later : List Exchange) (number who : ℕ) → was_held (past ++ later) number who ≡ (was_held past number who || was_held later number who)
held-append [] later number who = refl
held-append (one ∷ past) later number who = search (held-append past later number who, arith)

pub or_or : (a b c : Bool) → ((a || b) || c) ≡ (a || (b || c))
or_or a b c = search arith

pub all_keep : (held : ℕ → ℕ → Bool) (fixed : Fixed) (agent : Agent) (events : List Event) → Keeps held agent.doing → Keeps (plus_all held (exchanges fixed agent events)) (after_all fixed agent events).doing
all_keep held fixed agent [] keeps = same_keeps held (plus_all held []) agent.doing (λ number who. sym (or_false (held number who))) keeps
all_keep held fixed agent (Forget site ∷ events) keeps = all_keep held fixed (forget agent site) events keeps
all_keep held fixed agent (Take response ∷ events) keeps =
    let one = exchange_of (next_of fixed agent) response in
    let rest = exchanges fixed (take fixed agent response).agent events in
    same_keeps (plus_all (plus_all held one) rest) (plus_all held (one ++ rest)) (after_all fixed agent (Take response ∷ events)).doing
    (λ number who. or_or (held number who) (was_held one number who) (was_held rest number who) ∙ ap (λ b. held number who || b) (sym (held-append one rest number who)))
    (all_keep (plus_all held one) fixed (take fixed agent response).agent events (take_keeps held fixed agent response agent.doing (next_of fixed agent) refl refl keeps))

abbrev pub nothing_held : ℕ → ℕ → Bool
nothing_held number who = false

pub begin_keeps : (fixed : Fixed) (agent : Agent) (job : Job) → is_idle agent.doing ≡ true → Keeps nothing_held (begin fixed agent job).doing
begin_keeps fixed agent job idle =
    elim (is_idle agent.doing && has_sense fixed job && nat_lt agent.count max_jobs) as (λ b. Keeps nothing_held (cond b (record (started fixed agent job) { count = agent.count + 1 }) agent).doing) [
      | true ↦ of job
      | false ↦ at agent.doing idle
    ]
  where
    at : (doing : Option Doing) → is_idle doing ≡ true → Keeps nothing_held doing
    at doing h1 = search arith

    of : (job : Job) → Keeps nothing_held (started fixed agent job).doing
    of (Transaction caller site ops) =
        let task : Task = record { t = 64 * agent.count + agent.index; caller = caller; site = site; ops = ops } in
        left_keeps nothing_held _ (record { told = λ number. []; leaves = leaves_execute (λ number. []) fixed task (record { suites = []; cache = agent.cache }) are_nil; agree = λ number who. refl })
    of (Sweep server) = tt
