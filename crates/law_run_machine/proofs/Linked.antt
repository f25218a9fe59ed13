-- Agents keep to their side in every run: what each event keeps of agents and machine together.
use Rattle.law_run_machine.proofs.Vocabulary.{◌≡◌, ℕ, zero, suc, ◌+◌, ◌<◌, ◌≤◌, false, Option, Some, None, is_some, refl, sym, ap, ◌∙◌, arith, ◌*◌, nat_cmp, IsOrdered, Suites, Phase, TransactionRun, Sweeping, Telling, Doing, Running, RunningSweep, Agent, locks}
use Rattle.law_run_machine.proofs.Vocabulary.{Actor, actor_at, World, ended_as}
use Rattle.run_core.specs.Worlds as worlds
use Rattle.law_run_machine.proofs.Quiet.{Quiet}
use Rattle.law_run_machine.proofs.Asked.{AllHeard}
use Rattle.law_run_machine.proofs.Stages.{Going, Stage}
use Rattle.law_run_machine.proofs.Sending.{ToldAs}

-- ---- what each agent is to the machine

-- a transaction of which the machine knows nothing
pub record Untouched (w : World) (t : ℕ) : Type 0 where
  pub granted : (i : ℕ) → w.granted i t ≡ false
  pub told : (i : ℕ) → w.told i t ≡ None
  pub aim : w.aim t ≡ None
  pub going : Going w t

-- the transaction of an agent that has begun so many jobs
pub record InCourse (z : ℕ) (w : World) (n count : ℕ) (txn_run : TransactionRun) : Type 0 where
  pub numbered : txn_run.task.t + 64 ≡ 64 * count + n
  pub ordered : IsOrdered nat_cmp txn_run.suites
  pub told : ToldAs z w txn_run.task.t txn_run.suites
  pub heard : AllHeard w txn_run.task.t
  pub stage : Stage z w txn_run.task.t txn_run.suites txn_run.phase

-- a sweep tells what was recorded
abbrev pub InRound : World → Sweeping → Type 0
InRound w (Telling t v locks) = w.verdict t ≡ Some (ended_as v)
InRound w _ = Unit {0}

abbrev pub IsDoing : ℕ → World → ℕ → ℕ → Option Doing → Type 0
IsDoing z w n count (Some (Running txn_run)) = InCourse z w n count txn_run
IsDoing z w n count (Some (RunningSweep sweep_run)) = InRound w sweep_run.now
IsDoing z w n count None = Unit {0}

pub record Linked (z : ℕ) (w : World) (n : ℕ) (agent : Agent) : Type 0 where
  pub index : agent.index ≡ n
  pub fresh : (place : ℕ) → agent.count ≤ place → Untouched w (64 * place + n)
  pub doing : IsDoing z w n agent.count agent.doing

abbrev pub AllLinked : ℕ → World → worlds.World → Type 0
AllLinked z w world = (n : ℕ) (actor : Actor) → actor_at world n ≡ Some actor → (n < 64) × Linked z w n actor.agent

-- ---- what others do leaves it

going_quiet : (w later : World) (t : ℕ) → Quiet w later t → Going w t → Going later t
going_quiet w later t quiet going = search arith

pub untouched_quiet : (w later : World) (t : ℕ) → Quiet w later t → Untouched w t → Untouched later t
untouched_quiet w later t quiet is = record { granted = λ i. quiet.granted i ∙ is.granted i; told = λ i. quiet.told i ∙ is.told i; aim = quiet.aim ∙ is.aim; going = going_quiet w later t quiet is.going }

stage_quiet : (z : ℕ) (w later : World) (t : ℕ) (suites : Suites) (phase : Phase) → Quiet w later t → Stage z w t suites phase → Stage z later t suites phase
stage_quiet z w later t suites phase h6 h7 = search arith

round_later : (w later : World) (now : Sweeping) → ((t : ℕ) (v : _) → w.verdict t ≡ Some v → later.verdict t ≡ Some v) → InRound w now → InRound later now
round_later w later now h3 h4 = search arith

pub numbered_at : (t n count : ℕ) → t + 64 ≡ 64 * count + n → n < 64 → (place : ℕ) × (t ≡ 64 * place + n)
numbered_at t n zero is small = absurd (omega arith)
numbered_at t n (suc place) is small = (place, omega arith)

pub doing_later : (z : ℕ) (w later : World) (n count : ℕ) (doing : Option Doing) → n < 64 → ((t : ℕ) (v : _) → w.verdict t ≡ Some v → later.verdict t ≡ Some v)
    → ((u : ℕ) (place : ℕ) → u ≡ 64 * place + n → Quiet w later u) → IsDoing z w n count doing → IsDoing z later n count doing
doing_later z w later n count (Some (Running txn_run)) small stays others is =
    let at = numbered_at txn_run.task.t n count is.numbered small in
    let quiet = others txn_run.task.t at.0 at.1 in
    record {
      numbered = is.numbered;
      ordered = is.ordered;
      told = λ i. ap is_some (quiet.told i) ∙ is.told i;
      heard = λ i none. quiet.granted i ∙ is.heard i (ap is_some (sym (quiet.told i)) ∙ none);
      stage = stage_quiet z w later txn_run.task.t txn_run.suites txn_run.phase quiet is.stage;
    }
doing_later z w later n count (Some (RunningSweep sweep_run)) small stays others is = round_later w later sweep_run.now stays is
doing_later z w later n count None small stays others is = tt

pub linked_later : (z : ℕ) (w later : World) (n : ℕ) (agent : Agent) → n < 64 → ((t : ℕ) (v : _) → w.verdict t ≡ Some v → later.verdict t ≡ Some v)
    → ((u : ℕ) (place : ℕ) → u ≡ 64 * place + n → Quiet w later u) → Linked z w n agent → Linked z later n agent
linked_later z w later n agent small stays others is = record {
  index = is.index;
  fresh = λ place past. untouched_quiet w later (64 * place + n) (others (64 * place + n) place refl) (is.fresh place past);
  doing = doing_later z w later n agent.count agent.doing small stays others is.doing;
}

-- ---- numbers

-- another agent's transactions have other numbers
pub apart : (u t n m place count : ℕ) → u ≡ 64 * place + m → t + 64 ≡ 64 * count + n → n < 64 → m < 64 → (m ≡ n → ⊥) → u ≡ t → ⊥
apart u t n m place count is numbered small small' other same = other (omega arith)

-- and so has what an agent is to begin
pub later_apart : (t n place count : ℕ) → t + 64 ≡ 64 * count + n → count ≤ place → 64 * place + n ≡ t → ⊥
later_apart t n place count numbered past same = absurd (omega arith)
