-- One turn of an agent: what its request and its response make of the machine and of what it is doing.
use Rattle.law_run_machine.proofs.Vocabulary.{◌≡◌, ℕ, ◌+◌, Bool, false, List, [], ◌∷◌, ◌++◌, Option, Some, None, is_some, refl, sym, ap, subst, ◌∙◌, ◌*◌, ◌==◌, ◌&&◌, ◌||◌, nat_cmp, IsOrdered, Shared, Lock, Request, Reply, arith, holds, told_at}
use Rattle.law_run_machine.proofs.Vocabulary.{Response, Replied, Lacked, Fixed, TransactionRun, Sweeping, Resolving, SweepRun, Doing, Running, RunningSweep, After, request_of, others, Agent, Taken, Take, next_of, take_in, left, with_step, end_of}
use Rattle.law_run_machine.proofs.Vocabulary.{locks, says_held, Keeps, plus_all, all_keep, exchange_of, Beginning, World, Event, run, Obeys, ended_as, own_events}
use Rattle.file_ops.specs.declared.service.Service.{Service}
use Rattle.rep_core.specs.declared.reply.Reply.TheVariants as reply
use Rattle.rep_core.specs.declared.reply.Verdict as replied
use Rattle.txn_core.specs.Transactions as txn_run
use Rattle.txn_core.specs.Sweeps as sweep
use Rattle.law_run_machine.proofs.Quiet.{Quiet, AreOf, quiet_all, quiet_on}
use Rattle.law_run_machine.proofs.Own.{own_unheard}
use Rattle.law_run_machine.proofs.Asked.{AllHeard}
use Rattle.law_run_machine.proofs.Stages.{Leaves, StageLeft, does_response}
use Rattle.law_run_machine.proofs.Linked.{InCourse, IsDoing}

-- ---- an agent's own events are of its transaction

pub own_of : (z : ℕ) (before : TransactionRun) (taken : Taken) → AreOf before.task.t (own_events z (Some (Running before)) taken)
own_of z before taken = search arith

-- ---- what comes of a turn

-- what an agent does by itself may happen; it is linked to the machine then; and of other transactions nothing changed
pub record Turn (start : Beginning) (z : ℕ) (w later : World) (n count : ℕ) (doing : Option Doing) (taken : Taken) : Type 0 where
  pub does : Obeys start later (own_events z doing taken)
  pub goes_on : IsDoing z (run start later (own_events z doing taken)) n count taken.agent.doing
  pub others : (u : ℕ) → ((txn_run : TransactionRun) → doing ≡ Some (Running txn_run) → u ≡ txn_run.task.t → ⊥) → Quiet w (run start later (own_events z doing taken)) u

-- ---- a transaction

-- what its response tells of locks
told_response : (fixed : Fixed) (agent : Agent) (before : TransactionRun) (asked : ℕ × Request) (response : Response) → request_of fixed before ≡ Some asked → IsOrdered nat_cmp before.suites
    → Keeps (plus_all (λ number who. holds Shared (told_at before.suites number) who) (exchange_of (Some asked) response ++ [])) (left Running (txn_run.after_response fixed before agent.cache asked.0 asked.1 response).after)
told_response fixed agent before asked response is ordered =
    subst (λ o. Keeps (plus_all (λ number who. holds Shared (told_at before.suites number) who) (exchange_of o response ++ []))
    (take_in fixed (record agent { doing = Some (Running before) }) response (Some (Running before)) o).agent.doing) is
    (all_keep (λ number who. holds Shared (told_at before.suites number) who) fixed (record agent { doing = Some (Running before) }) (Take response ∷ []) (ordered, λ number who. refl))

or_none : (a : Bool) → (a || false) ≡ a
or_none a = search arith

module _ (start : Beginning) (z : ℕ) (w later : World) (n count : ℕ) where
  course_left : (before : TransactionRun) (own : List Event) (held : ℕ → ℕ → Bool) (after : After TransactionRun) → before.task.t + 64 ≡ 64 * count + n
      → ((i : ℕ) → is_some ((run start later own).told i before.task.t) ≡ held z i) → AllHeard (run start later own) before.task.t → Keeps held (left Running after) → StageLeft z (run start later own) before.task.t after
      → IsDoing z (run start later own) n count (left Running after)
  course_left before own held after h4 h5 h6 h7 h8 = search arith

  running_turn : (fixed : Fixed) (agent : Agent) (before : TransactionRun) (asked : ℕ × Request) (response : Response) → request_of fixed before ≡ Some asked → InCourse z w n count before
      → ((who : ℕ) → is_some (later.told who before.task.t) ≡ (is_some (w.told who before.task.t) || ((asked.0 == who) && locks z asked.1 && says_held response)))
      → AllHeard later before.task.t
      → Leaves w later before.task.t asked.1 response
      → ((u : ℕ) → (u ≡ before.task.t → ⊥) → Quiet w later u)
      → Turn start z w later n count (Some (Running before)) (with_step agent (txn_run.after_response fixed before agent.cache asked.0 asked.1 response))
  running_turn fixed agent before asked response is in' told heard leaves quiet =
      let step = txn_run.after_response fixed before agent.cache asked.0 asked.1 response in
      let taken = with_step agent step in
      let own = own_events z (Some (Running before)) taken in
      let same = own_unheard start z (Some (Running before)) taken later in
      let does = does_response start z agent w later fixed before.task agent.cache before.suites asked.0 asked.1 response leaves before.phase is in'.stage in
      record {
        does = does.does;
        goes_on = course_left before own (plus_all (λ number who. holds Shared (told_at before.suites number) who) (exchange_of (Some asked) response ++ [])) step.after in'.numbered
            (λ i.
            ap (λ told. is_some (told i before.task.t)) same.told
            ∙ told i
            ∙ ap (λ b. b || ((asked.0 == i) && locks z asked.1 && says_held response)) (in'.told i)
            ∙ ap (λ b. holds Shared (told_at before.suites z) i || b) (sym (or_none ((asked.0 == i) && locks z asked.1 && says_held response))))
            (λ i none. ap (λ f. f i before.task.t) same.granted ∙ heard i (ap (λ told. is_some (told i before.task.t)) (sym same.told) ∙ none))
            (told_response fixed agent before asked response is in'.ordered)
            does.stage;
        others = λ u apart. quiet_on w later (run start later own) u (quiet u (apart before refl)) (quiet_all start later u before.task.t own (apart before refl) does.does (own_of z before taken));
      }

  -- ---- a sweep

  swept_answer : (service : Service) (sweep_run : SweepRun) (now : Sweeping) (said : Reply) → ((t : ℕ) (locks : List Lock) (v : replied.Verdict) → now ≡ Resolving t locks → said ≡ reply.Verdict v → later.verdict t ≡ Some (ended_as v))
      → IsDoing z later n count (left RunningSweep (sweep.after_answer service sweep_run now said))
  swept_answer service sweep_run now said h4 = search arith

  round_turn : (fixed : Fixed) (agent : Agent) (sweep_run : SweepRun) (server : ℕ) (response : Response)
      → ((t : ℕ) (locks : List Lock) (v : replied.Verdict) → sweep_run.now ≡ Resolving t locks → response ≡ Replied (reply.Verdict v) → later.verdict t ≡ Some (ended_as v))
      → ((u : ℕ) → Quiet w later u)
      → Turn start z w later n count (Some (RunningSweep sweep_run))
      (record {
        agent = record agent { doing = left RunningSweep (sweep.after_response fixed.service sweep_run server response) };
        ending = end_of (sweep.after_response fixed.service sweep_run server response);
      })
  round_turn fixed agent sweep_run server (Replied said) ruled quiet = search (swept_answer, arith)
  round_turn fixed agent sweep_run server (Lacked lacked) ruled quiet = record { does = tt; goes_on = tt; others = λ u _. quiet u }

  -- ---- any agent

  -- what the server did, as it concerns what an agent is doing
  pub record Concerns (fixed : Fixed) (doing : Option Doing) (asked : ℕ × Request) (response : Response) : Type 0 where
    pub told : (before : TransactionRun) → doing ≡ Some (Running before) → (who : ℕ) → is_some (later.told who before.task.t) ≡ (is_some (w.told who before.task.t) || ((asked.0 == who) && locks z asked.1 && says_held response))
    pub heard : (before : TransactionRun) → doing ≡ Some (Running before) → AllHeard w before.task.t → AllHeard later before.task.t
    pub leaves : (before : TransactionRun) → doing ≡ Some (Running before) → Leaves w later before.task.t asked.1 response
    pub ruled : (sweep_run : SweepRun) → doing ≡ Some (RunningSweep sweep_run) → (t : ℕ) (locks : List Lock) (v : replied.Verdict) → sweep_run.now ≡ Resolving t locks
        → response ≡ Replied (reply.Verdict v) → later.verdict t ≡ Some (ended_as v)
    pub quiet : (u : ℕ) → ((before : TransactionRun) → doing ≡ Some (Running before) → u ≡ before.task.t → ⊥) → Quiet w later u

  same_course : (a b : TransactionRun) → ◌≡◌ {A = Option Doing} (Some (Running a)) (Some (Running b)) → b ≡ a
  same_course a b same = cc

  turn_at : (fixed : Fixed) (agent : Agent) (doing : Option Doing) (asked : ℕ × Request) (response : Response) → next_of fixed (record agent { doing = doing }) ≡ Some asked → IsDoing z w n count doing → Concerns fixed doing asked response
      → Turn start z w later n count doing (take_in fixed agent response doing (Some asked))
  turn_at fixed agent (Some (Running before)) asked response is in' concerns =
      running_turn fixed agent before asked response is in' (concerns.told before refl) (concerns.heard before refl in'.heard) (concerns.leaves before refl)
      (λ u apart. concerns.quiet u (λ other same at. apart (at ∙ ap (λ (c : TransactionRun). c.task.t) (same_course before other same))))
  turn_at fixed agent (Some (RunningSweep sweep_run)) asked response is in' concerns = round_turn fixed agent sweep_run asked.0 response (concerns.ruled sweep_run refl) (λ u. concerns.quiet u (λ before same at. absurd cc))
  turn_at fixed agent None asked response is in' concerns = absurd cc

  pub turn : (fixed : Fixed) (agent : Agent) (asked : ℕ × Request) (response : Response) → next_of fixed agent ≡ Some asked → IsDoing z w n count agent.doing → Concerns fixed agent.doing asked response
      → Turn start z w later n count agent.doing (take_in fixed agent response agent.doing (next_of fixed agent))
  turn fixed agent asked response is in' concerns = search (turn_at fixed agent agent.doing asked response is in' concerns, arith)
