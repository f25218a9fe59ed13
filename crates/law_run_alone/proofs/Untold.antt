-- A transaction that begins was told of no lock yet, so all that it was told of stand.
use Rattle.law_run_alone.proofs.Vocabulary.{◌≡◌, ℕ, ◌+◌, true, false, cond, List, [], Option, Some, None, is_some, refl, sym, ap, subst, ◌∙◌, ◌*◌, ◌&&◌, nat_lt, slice_get, slice_set, false≢true, none-some, same_Some, Identity, Opening, arith, Shared}
use Rattle.law_run_alone.proofs.Vocabulary.{Op, holds, Job, Transaction, Fixed, Task, TransactionRun, Doing, Running, After, execute, Agent, fixed_of, is_idle, has_sense, max_jobs, left, begin, started, told_at, Event, Actor, actor_at, becomes}
use Rattle.law_run_alone.proofs.Vocabulary.{begins_now, DoingAgrees}
use Rattle.txn_core.proofs.ToldLists.{are_nil, leaves_execute, Leaves}
use Rattle.law_run_machine.proofs.Turned.{only, set_here}
use Rattle.law_suite_machine.specs.Machine.{World}
use Rattle.run_core.specs.Worlds as worlds
use Rattle.law_run_alone.proofs.Turns.{doing_of, doing_at, with_job}
use Rattle.law_run_alone.proofs.Owns.{IsMine}
use Rattle.law_run_alone.proofs.Holding.{DoingStands, doing_any, AtStands}
use Rattle.law_run_alone.proofs.Whole.{Carried}

-- ---- a world

-- with the machine of each suite
abbrev pub AllStand : (ℕ → World) → worlds.World → ℕ → ℕ → Type 0
AllStand machines world t turn = (z : ℕ) → AtStands (machines z) world t turn

-- ---- from the begin on

-- a transaction that begins was told of nothing
pub begun_stands : (given : Opening) (machines : ℕ → World) (world : worlds.World) (later : List Event) (t turn : ℕ) → IsMine t (doing_at world turn) → Carried given machines world later
    → ((actor : Actor) (txn_run : TransactionRun) → actor_at world turn ≡ Some actor → actor.agent.doing ≡ Some (Running txn_run) → (z : ℕ) → told_at txn_run.suites z ≡ []) → AllStand machines world t turn
begun_stands given machines world later t turn mine now none z actor there = of actor.agent.doing refl (subst (IsMine t) (ap doing_of there) mine)
  where
    of : (doing : Option Doing) → actor.agent.doing ≡ doing → IsMine t doing → DoingStands (machines z) t doing
    of (Some (Running txn_run)) running mine = doing_any (machines z) t (Some (Running txn_run)) (λ i told is.
        let agrees : DoingAgrees z (machines z) (Some (Running txn_run)) = subst (DoingAgrees z (machines z)) running ((now.whole z).together.agrees turn actor there) in
        let untold : is_some ((machines z).told i txn_run.task.t) ≡ false = agrees.held i ∙ ap (λ list. holds Shared list i) (none actor txn_run there running z) in
        absurd (false≢true (sym untold ∙ ap is_some (ap ((machines z).told i) mine ∙ is))))
    of other running mine = tt

pub started_untold : (given : Opening) (world : worlds.World) (i t : ℕ) (caller : Identity) (site : ℕ) (ops : List Op) (found : Option Actor) → actor_at world i ≡ found
    → with_job (Transaction caller site ops) (begins_now (fixed_of given) i (Transaction caller site ops) found) ≡ Some (t, Transaction caller site ops)
    → (actor : Actor) (txn_run : TransactionRun) → actor_at (becomes world i (λ agent. begin (fixed_of given) agent (Transaction caller site ops)) found).world i ≡ Some actor
    → actor.agent.doing ≡ Some (Running txn_run) → (z : ℕ) → told_at txn_run.suites z ≡ []
started_untold given world i t caller site ops None is begins actor txn_run there running z = absurd (none-some (t, Transaction caller site ops) begins)
started_untold given world i t caller site ops (Some old) is begins actor txn_run there running z =
    elim (is_idle old.agent.doing && has_sense fixed job && nat_lt old.agent.count max_jobs) as
    (λ b. with_job job (cond b (Some (64 * old.agent.count + i)) None) ≡ Some (t, job) → slice_get (slice_set world.agents i (record old { agent = cond b begun old.agent })) i ≡ Some actor → told_at txn_run.suites z ≡ []) [
      | true ↦ λ _ there. (of (execute fixed task (record { suites = []; cache = old.agent.cache })).after (leaves_execute (λ number. []) fixed task (record { suites = []; cache = old.agent.cache }) are_nil)
          (ap (λ (actor : Actor). actor.agent.doing) (same_Some _ actor (sym (set_here world.agents i old (record old { agent = begun }) is) ∙ there)) ∙ running))
      | false ↦ λ none there. absurd (none-some (t, job) none)
    ] begins there
  where
    fixed : Fixed
    fixed = fixed_of given

    job : Job
    job = Transaction caller site ops

    begun : Agent
    begun = record (started (fixed_of given) old.agent (Transaction caller site ops)) { count = old.agent.count + 1 }

    task : Task
    task = record { t = 64 * old.agent.count + old.agent.index; caller = caller; site = site; ops = ops }

    of : (after : After TransactionRun) → Leaves (λ number. []) after → left Running after ≡ Some (Running txn_run) → told_at txn_run.suites z ≡ []
    of after h1 h2 = search (only, arith)
