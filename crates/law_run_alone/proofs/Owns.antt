-- A transaction that has all locks at the servers that are up: what others do beside it, and its own steps, leave it so.
use Rattle.law_run_alone.proofs.Vocabulary.{◌≡◌, ℕ, ◌+◌, Bool, true, false, cond, List, [], Option, Some, None, refl, sym, ap, subst, ◌∙◌, arith, ◌*◌, ◌&&◌, nat_lt, none-some, same_Some, Identity, Opening, Op, Request, Verdict, State, Job}
use Rattle.law_run_alone.proofs.Vocabulary.{Transaction, Response, Fixed, Task, TransactionRun, Doing, Running, RunningSweep, After, after_response, execute, is_decide, said_by, Agent, fixed_of, is_idle, has_sense, max_jobs, next_in, next_of, left}
use Rattle.law_run_alone.proofs.Vocabulary.{take_in, begin, started, Event, Begin, Step, Crash, Return, EndedJob, Actor, World, server_at, actor_at, with_actor, becomes, step, Decided, names, begins_now, Leaves, leaves_begin, leaves_response, IsAt}
use Rattle.law_run_alone.proofs.Vocabulary.{agent_of, Holds, puts_in, begins_job}
use Rattle.rep_core.specs.declared.reply.Verdict.TheVariants as verdict
use Rattle.law_run_alone.proofs.Own as own
use Rattle.law_run_alone.proofs.Own.{IsOwnAt, PollsFor, is_return, own_at_stays}
use Rattle.law_run_alone.proofs.Walks.{MayAsk, asks_servers, BeginsNone, event_doing}
use Rattle.law_run_alone.proofs.Turns.{doing_of, doing_at, with_job}

-- the agent runs this transaction, or has no job
abbrev pub IsMine : ℕ → Option Doing → Type 0
IsMine t (Some (Running txn_run)) = txn_run.task.t ≡ t
IsMine t (Some (RunningSweep sweep_run)) = ⊥
IsMine t None = Unit {0}

-- it has all locks at the servers that are up, which are these, and none at the others
pub record Owns (up : ℕ → Bool) (world : World) (t turn : ℕ) : Type 0 where
  pub mine : IsMine t (doing_at world turn)
  pub servers : (s : ℕ) (st : State) → server_at world s ≡ Some st → IsOwnAt (up s) t st

-- An event that leaves it so: no other agent asks anything, its own begins no job, no server crashes, and none restarts.
abbrev pub IsCalm : Opening → (ℕ → Bool) → ℕ → World → Event → Type 0
IsCalm given up turn world (Begin i job) = i ≡ turn → begins_job given world (Begin i job) ≡ None
IsCalm given up turn world (Step i) = (actor : Actor) (asked : ℕ × Request) → actor_at world i ≡ Some actor → next_of (fixed_of given) actor.agent ≡ Some asked → i ≡ turn
IsCalm given up turn world (Crash server) = ⊥
IsCalm given up turn world (Return server) = up server ≡ true
IsCalm given up turn world other = Unit {0}

-- ---- what it asks

pub polls_named : (t : ℕ) (asked : Request) → names t asked ≡ true → PollsFor t asked
polls_named t asked h2 = search arith

pub never_returns : (t : ℕ) (asked : Request) → names t asked ≡ true → is_return asked ≡ false
never_returns t asked h2 = search arith

pub names_mine : (fixed : Fixed) (t : ℕ) (doing : Option Doing) (asked : ℕ × Request) → IsMine t doing → next_in fixed doing ≡ Some asked → names t asked.1 ≡ true
names_mine fixed t doing asked h4 h5 = search arith

-- ---- what it does then

mine_left : (t : ℕ) (task : Task) (v : Verdict) (after : After TransactionRun) → Leaves task v after → task.t ≡ t → IsMine t (left Running after)
mine_left t task v after h4 h5 = search arith

mine_taken : (fixed : Fixed) (ds : List Decided) (number t : ℕ) (agent : Agent) (response : Response) (asked : ℕ × Request) (doing : Option Doing) → next_in fixed doing ≡ Some asked → IsAt ds number agent.count doing → IsMine t doing
    → IsMine t (take_in fixed agent response doing (Some asked)).agent.doing
mine_taken fixed ds number t agent response asked None next at mine = cc
mine_taken fixed ds number t agent response asked (Some (RunningSweep sweep_run)) next at mine = absurd mine
mine_taken fixed ds number t agent response asked (Some (Running txn_run)) next at mine =
    mine_left t txn_run.task (cond (is_decide asked.1) (said_by response at.said) at.said) (after_response fixed txn_run agent.cache asked.0 asked.1 response).after
    (leaves_response fixed txn_run.task agent.cache txn_run.suites txn_run.phase asked.0 asked.1 response at.said next at.tells) mine

-- ---- events

module _ (given : Opening) (up : ℕ → Bool) (t turn : ℕ) (world : World) (ds : List Decided) (past : List EndedJob) (holds : Holds (fixed_of given) world ds past) (owns : Owns up world t turn) where
  abbrev fixed : Fixed
  fixed = fixed_of given

  mine_at : (i : ℕ) (actor : Actor) → actor_at world i ≡ Some actor → i ≡ turn → IsMine t actor.agent.doing
  mine_at i actor is at = subst (IsMine t) (ap (doing_at world) (sym at) ∙ ap doing_of is) owns.mine

  mine_takes : (actor : Actor) (asked : ℕ × Request) (response : Response) → actor_at world turn ≡ Some actor → next_of fixed actor.agent ≡ Some asked
      → IsMine t (take_in fixed actor.agent response actor.agent.doing (Some asked)).agent.doing
  mine_takes actor asked response is next = mine_taken fixed ds turn t actor.agent response asked actor.agent.doing next (holds.agents.at turn actor.agent (ap agent_of is)) (mine_at turn actor is refl)

  -- what a server may be asked
  abbrev May : ℕ → Request → Type 0
  May s asked = PollsFor t asked × (own.is_crash asked ≡ false) × (up s ≡ false → is_return asked ≡ false)

  may_ask : (event : Event) → IsCalm given up turn world event → MayAsk fixed May world event
  may_ask event h1 = search arith

  begins_none : (event : Event) → IsCalm given up turn world event → BeginsNone given turn world event
  begins_none event h1 = search arith

  -- every calm event
  pub event_owns : (event : Event) → IsCalm given up turn world event → Owns up (step fixed world event).world t turn
  event_owns event calm = record {
    mine = event_doing given (IsMine t) turn world mine_takes owns.mine event (begins_none event calm);
    servers = asks_servers fixed (λ s. IsOwnAt (up s) t) May (λ s st asked may. own_at_stays (up s) t st asked may.0 may.1 may.2) world owns.servers event (may_ask event calm);
  }

-- ---- where it begins

-- what its agent begins is its own; the servers stay as they were
pub begun_owns : (given : Opening) (up : ℕ → Bool) (world : World) (ds : List Decided) (past : List EndedJob) → Holds (fixed_of given) world ds past → (i t : ℕ) (caller : Identity) (site : ℕ) (ops : List Op)
    → ((s : ℕ) (st : State) → server_at world s ≡ Some st → IsOwnAt (up s) t st)
    → (found : Option Actor) → actor_at world i ≡ found → with_job (Transaction caller site ops) (begins_now (fixed_of given) i (Transaction caller site ops) found) ≡ Some (t, Transaction caller site ops)
    → Owns up (becomes world i (λ agent. begin (fixed_of given) agent (Transaction caller site ops)) found).world t i
begun_owns given up world ds past holds i t caller site ops servers None is begins = absurd (none-some (t, Transaction caller site ops) begins)
begun_owns given up world ds past holds i t caller site ops servers (Some actor) is begins =
    let begun : Agent = record (started (fixed_of given) actor.agent job) { count = actor.agent.count + 1 } in
    elim (is_idle actor.agent.doing && has_sense (fixed_of given) job && nat_lt actor.agent.count max_jobs) as
    (λ b. with_job job (cond b (Some (64 * actor.agent.count + i)) None) ≡ Some (t, job) → Owns up (with_actor i (record actor { agent = cond b begun actor.agent }) world) t i) [
      | true ↦ λ begins.
          let puts = puts_in world.agents i actor (record actor { agent = begun }) is in
          let number : 64 * actor.agent.count + i ≡ t = ap (λ (pair : ℕ × Job). pair.0) (same_Some (64 * actor.agent.count + i, job) (t, job) begins) in
          let index : actor.agent.index ≡ i = holds.agents.index i actor.agent (ap agent_of is) in
          record {
            mine = subst (λ found. IsMine t (doing_of found)) (sym puts.here)
                (mine_left t task verdict.Aborted (execute (fixed_of given) task (record { suites = []; cache = actor.agent.cache })).after
                (leaves_begin (fixed_of given) task actor.agent.cache) (ap (λ index. 64 * actor.agent.count + index) index ∙ number));
            servers = servers;
          }
      | false ↦ λ begins. absurd (none-some (t, job) begins)
    ] begins
  where
    job : Job
    job = Transaction caller site ops

    task : Task
    task = record { t = 64 * actor.agent.count + actor.agent.index; caller = caller; site = site; ops = ops }
