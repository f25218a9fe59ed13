-- Where agents stand among the decisions so far.
use Rattle.law_runs.proofs.Vocabulary.{◌≡◌, ◌≢◌, ◌⊎◌, ⊎_elim, ℕ, ◌+◌, ◌≤◌, ◌<◌, Bool, true, cond, List, [], ◌++◌, Option, Some, None, refl, sym, ap, subst, arith, ◌*◌, nat_lt, Ok, Err, and_parts, Service, Lock, Reply, Request, Verdict, Has, Response}
use Rattle.law_runs.proofs.Vocabulary.{Ending, Answered, Refused, Job, Transaction, Sweep, Fixed, Task, TransactionRun, SweepRun, Doing, Running, RunningSweep, After, GoesOn, Ends, Sweeping, is_decide, said_by, Agent, next_in, left, end_of, take_in}
use Rattle.law_runs.proofs.Vocabulary.{begin, started, is_idle, max_jobs, Decided}
use Rattle.rep_core.specs.declared.reply.Verdict.TheVariants as verdict
use Rattle.txn_core.specs.Sweeps as sweep
use Rattle.law_runs.proofs.Standing.{In, NotIn, Stands, in_more, not_in_more, stands_more, has_append}
use Rattle.law_runs.proofs.Places.{Puts, at_puts}
use Rattle.law_runs.proofs.Words.{Tells, Leaves, leaves_begin, leaves_response}

-- ---- numbers of transactions

-- an agent's transactions have numbers of their own
pub same_place : (j k a b : ℕ) → 64 * j + a ≡ 64 * k + b → a < 64 → b < 64 → (j ≡ k) × (a ≡ b)
same_place j k a b same small small' = (omega arith, omega arith)

-- ---- what an agent is about

-- it runs the transaction of its last begin, of which so much was said, and so it stands among the decisions
pub record Runs (ds : List Decided) (i count : ℕ) (txn_run : TransactionRun) : Type 0 where
  pub place : ℕ
  pub numbered : txn_run.task.t ≡ 64 * place + i
  pub last : place + 1 ≡ count
  pub said : Verdict
  pub tells : Tells said txn_run.phase
  pub stands : Stands ds txn_run.task.t said

-- it sweeps; what has the number of this job is no transaction
pub record Sweeps (ds : List Decided) (i count : ℕ) : Type 0 where
  pub place : ℕ
  pub last : place + 1 ≡ count
  pub none : NotIn ds (64 * place + i)

abbrev pub IsAt : List Decided → ℕ → ℕ → Option Doing → Type 0
IsAt ds i count (Some (Running txn_run)) = Runs ds i count txn_run
IsAt ds i count (Some (RunningSweep sweep_run)) = Sweeps ds i count
IsAt ds i count None = Unit {0}

at_more : (ds more : List Decided) (i count : ℕ) (doing : Option Doing) → ((place : ℕ) → NotIn more (64 * place + i)) → IsAt ds i count doing → IsAt (ds ++ more) i count doing
at_more ds more i count (Some (Running txn_run)) new is = search (stands_more ds more txn_run.task.t is.said (subst (NotIn more) (sym is.numbered) (new is.place)) is.stands, arith)
at_more ds more i count (Some (RunningSweep sweep_run)) new is = record { place = is.place; last = is.last; none = not_in_more ds more (64 * is.place + i) is.none (new is.place) }
at_more ds more i count None new is = tt

-- ---- how jobs ended

-- what an ending says of the decisions
abbrev pub EndStands : List Decided → ℕ → Ending → Type 0
EndStands ds t (Answered answers) = In ds t (Ok answers)
EndStands ds t (Refused refusal) = In ds t (Err refusal)
EndStands ds t _ = NotIn ds t

pub end_more : (ds more : List Decided) (t : ℕ) (ending : Ending) → NotIn more t → EndStands ds t ending → EndStands (ds ++ more) t ending
end_more ds more t ending h4 h5 = search (in_more, not_in_more, arith)

-- a job's ending, where it ended
pub record EndsAt (ds : List Decided) (i count : ℕ) (ending : Ending) : Type 0 where
  pub place : ℕ
  pub last : place + 1 ≡ count
  pub stands : EndStands ds (64 * place + i) ending

abbrev pub EndsIf : List Decided → ℕ → ℕ → Option Ending → Type 0
EndsIf ds i count (Some ending) = EndsAt ds i count ending
EndsIf ds i count None = Unit {0}

-- ---- an agent takes a response

-- what an agent is about after a response, and how it ended
pub record IsAfter (ds : List Decided) (i count : ℕ) (doing : Option Doing) (ending : Option Ending) : Type 0 where
  pub at : IsAt ds i count doing
  pub ends : EndsIf ds i count ending
  pub idle : (how : Ending) → ending ≡ Some how → doing ≡ None

after_course : (ds : List Decided) (i count place : ℕ) (task : Task) (v : Verdict) (after : After TransactionRun) → task.t ≡ 64 * place + i → place + 1 ≡ count → Stands ds task.t v → Leaves task v after
    → IsAfter ds i count (left Running after) (end_of after)
after_course ds i count place task v after h7 h8 h9 h10 = search arith

-- a sweep ends swept or undecided
abbrev EndsSwept : After SweepRun → Type 0
EndsSwept (GoesOn sweep_run) = Unit {0}
EndsSwept (Ends ending) = (ds : List Decided) (t : ℕ) → NotIn ds t → EndStands ds t ending

after_round : (ds : List Decided) (i count : ℕ) (after : After SweepRun) → EndsSwept after → Sweeps ds i count → IsAfter ds i count (left RunningSweep after) (end_of after)
after_round ds i count after h4 h5 = search arith

swept_on : (sweep_run : SweepRun) (locks : List Lock) → EndsSwept (sweep.sweep_on sweep_run locks)
swept_on sweep_run locks = search arith

swept_home : (sweep_run more : SweepRun) (left : List Lock) (b : Bool) → EndsSwept (cond b (sweep.lost sweep_run) (sweep.sweep_on more left))
swept_home sweep_run more left b = search arith

swept_answer : (service : Service) (sweep_run : SweepRun) (now : Sweeping) (said : Reply) → EndsSwept (sweep.after_answer service sweep_run now said)
swept_answer service sweep_run now said = search arith

swept_response : (service : Service) (sweep_run : SweepRun) (server : ℕ) (response : Response) → EndsSwept (sweep.after_response service sweep_run server response)
swept_response service sweep_run server response = search arith

-- What a response says to a transaction has to stand among the decisions after it; a sweep decides nothing.
pub record Says (fixed : Fixed) (ds more : List Decided) (i : ℕ) (response : Response) (doing : Option Doing) (asked : ℕ × Request) : Type 0 where
  pub txn_run : (txn_run : TransactionRun) (v : Verdict) → doing ≡ Some (Running txn_run) → Tells v txn_run.phase → Stands ds txn_run.task.t v → Stands (ds ++ more) txn_run.task.t (cond (is_decide asked.1) (said_by response v) v)
  pub sweep_run : (sweep_run : SweepRun) → doing ≡ Some (RunningSweep sweep_run) → (place : ℕ) → NotIn more (64 * place + i)

pub after_take : (fixed : Fixed) (agent : Agent) (response : Response) (i count : ℕ) (ds more : List Decided) (doing : Option Doing) (asked : ℕ × Request)
    → next_in fixed doing ≡ Some asked → IsAt ds i count doing → Says fixed ds more i response doing asked
    → IsAfter (ds ++ more) i count (take_in fixed agent response doing (Some asked)).agent.doing (take_in fixed agent response doing (Some asked)).ending
after_take fixed agent response i count ds more (Some (Running txn_run)) asked is at says =
    after_course (ds ++ more) i count at.place txn_run.task (cond (is_decide asked.1) (said_by response at.said) at.said) _ at.numbered at.last
    (says.txn_run txn_run at.said refl at.tells at.stands)
    (leaves_response fixed txn_run.task agent.cache txn_run.suites txn_run.phase asked.0 asked.1 response at.said is at.tells)
after_take fixed agent response i count ds more (Some (RunningSweep sweep_run)) asked is at says =
    after_round (ds ++ more) i count (sweep.after_response fixed.service sweep_run asked.0 response) (swept_response fixed.service sweep_run asked.0 response)
    (record { place = at.place; last = at.last; none = not_in_more ds more (64 * at.place + i) at.none (says.sweep_run sweep_run refl at.place) })
after_take fixed agent response i count ds more None asked is at says = cc

-- an agent keeps its number and its count when it takes a response
pub take_keeps : (fixed : Fixed) (agent : Agent) (response : Response) (doing : Option Doing) (asked : Option (ℕ × Request))
    → ((take_in fixed agent response doing asked).agent.index ≡ agent.index) × ((take_in fixed agent response doing asked).agent.count ≡ agent.count)
take_keeps fixed agent response doing asked = search arith

-- ---- an agent begins a job

-- the agent stays as it was, or it was idle and begins a job
pub record Begins (ds : List Decided) (i : ℕ) (old new : Agent) : Type 0 where
  pub idle : old.doing ≡ None
  pub more : new.count ≡ old.count + 1
  pub index : new.index ≡ old.index
  pub at : IsAt ds i new.count new.doing

idle_none : (doing : Option Doing) → is_idle doing ≡ true → doing ≡ None
idle_none doing h1 = search arith

begins_job : (fixed : Fixed) (agent : Agent) (job : Job) (i : ℕ) (ds : List Decided) → agent.index ≡ i → NotIn ds (64 * agent.count + i) → IsAt ds i (agent.count + 1) (started fixed agent job).doing
begins_job fixed agent (Transaction caller site ops) i ds index new =
    let task : Task = record { t = 64 * agent.count + agent.index; caller = caller; site = site; ops = ops } in
    let numbered : task.t ≡ 64 * agent.count + i = ap (λ i. 64 * agent.count + i) index in
    (after_course ds i (agent.count + 1) agent.count task verdict.Aborted _ numbered refl (subst (NotIn ds) (sym numbered) new) (leaves_begin fixed task agent.cache)).at
begins_job fixed agent (Sweep server) i ds index new = record { place = agent.count; last = refl; none = new }

begins_index : (fixed : Fixed) (agent : Agent) (job : Job) → (started fixed agent job).index ≡ agent.index
begins_index fixed agent job = search arith

pub begins : (fixed : Fixed) (agent : Agent) (job : Job) (i : ℕ) (ds : List Decided) → agent.index ≡ i → NotIn ds (64 * agent.count + i) → (begin fixed agent job ≡ agent) ⊎ Begins ds i agent (begin fixed agent job)
begins fixed agent job i ds index new = search (nat_lt agent.count max_jobs, begins_index fixed agent job, begins_job fixed agent job i ds index new, idle_none, and_parts, arith)

-- ---- all agents

-- the agent that began a transaction
pub record Begun (h : ℕ → Option Agent) (t : ℕ) : Type 0 where
  pub index : ℕ
  pub agent : Agent
  pub at : h index ≡ Some agent
  pub place : ℕ
  pub numbered : t ≡ 64 * place + index
  pub before : place < agent.count

-- Agents are numbered below 64, each stands among the decisions, and what was decided was begun.
pub record AreAt (h : ℕ → Option Agent) (ds : List Decided) : Type 0 where
  pub index : (i : ℕ) (agent : Agent) → h i ≡ Some agent → agent.index ≡ i
  pub small : (i : ℕ) (agent : Agent) → h i ≡ Some agent → i < 64
  pub at : (i : ℕ) (agent : Agent) → h i ≡ Some agent → IsAt ds i agent.count agent.doing
  pub begun : (d : Decided) → Has ds d → Begun h d.t

-- what is decided now is of this agent, which runs it
pub record IsOf (agent : Agent) (i : ℕ) (d : Decided) : Type 0 where
  pub place : ℕ
  pub numbered : d.t ≡ 64 * place + i
  pub last : place + 1 ≡ agent.count
  pub busy : agent.doing ≡ None → ⊥

abbrev pub AreOf : Agent → ℕ → List Decided → Type 0
AreOf agent i more = (d : Decided) → Has more d → IsOf agent i d

pub none_of : (agent : Agent) (i : ℕ) → AreOf agent i []
none_of agent i d has = absurd has

-- what is of one agent is not of another, and not what the agent is to begin
apart_of : (agent : Agent) (i j : ℕ) (more : List Decided) → AreOf agent i more → i < 64 → j < 64 → j ≢ i → (place : ℕ) → NotIn more (64 * place + j)
apart_of agent i j more of small small' apart place d has same = search arith

module _ (h g : ℕ → Option Agent) (i : ℕ) (old new : Agent) (ds more : List Decided) (puts : Puts h g i old new) (index : new.index ≡ old.index) (counts : old.count ≤ new.count) (of : AreOf old i more) (holds : AreAt h ds) where
  begun_old : (t : ℕ) → Begun h t → Begun g t
  begun_old t begun = search arith

  begun_new : (d : Decided) → Has more d → Begun g d.t
  begun_new d has = search arith

  pub agents_put : IsAt (ds ++ more) i new.count new.doing → AreAt g (ds ++ more)
  agents_put at = record {
    index = search (at_puts, arith);
    small = search (at_puts, arith);
    at = search (at_more, apart_of, at_puts, arith);
    begun = λ d has. ⊎_elim (λ left. begun_old d.t (holds.begun d left)) (λ right. begun_new d right) (has_append ds more d has);
  }

-- what an agent is to begin was not decided
pub not_begun : (h : ℕ → Option Agent) (ds : List Decided) (i : ℕ) (agent : Agent) → AreAt h ds → h i ≡ Some agent → (place : ℕ) → agent.count ≤ place → NotIn ds (64 * place + i)
not_begun h ds i agent holds is place after d has same = search arith
