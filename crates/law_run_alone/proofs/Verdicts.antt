-- What was said of a transaction, and what a response adds to it.
use Rattle.law_run_alone.proofs.Vocabulary.{◌≡◌, ◌⊎◌, inl, ℕ, Bool, true, false, cond, List, [], ◌∷◌, ◌++◌, Option, Some, None, sym, ap, subst, is_some, map, option_map, option_to_list, Ok, Err, Identity, Op, Request, arith, Verdict, State}
use Rattle.law_run_alone.proofs.Vocabulary.{record_of, reply_of, recorded, verdict_of, Ending, Replied, Fixed, Task, Proposal, Phase, Finishing, TransactionRun, Doing, Running, After, decision_of, request_in, is_decide, said_by, left, end_of}
use Rattle.law_run_alone.proofs.Vocabulary.{Answer', NotIn, Stands, Recorded, verdict_as, decides, no_decide, Tells, Leaves, answer_by}
use Rattle.run_core.specs.Decisions.{answer_of, Decided, to_decide, decided_as, decided_at, answer_in}
use Rattle.rep_core.specs.declared.request.Request.TheVariants as request
use Rattle.rep_core.specs.declared.reply.Verdict.TheVariants as verdict

-- ---- what was said

-- a transaction: its number, who asked, and for what
abbrev pub Asked : Type 0
Asked = ℕ × Identity × List Op

abbrev pub asked_by : Task → Asked
asked_by task = (task.t, task.caller, task.ops)

abbrev pub asked_of : Decided → Asked
asked_of one = (one.t, one.caller, one.ops)

abbrev pub answer_to : Decided → ℕ × Answer'
answer_to one = (one.t, one.answer)

-- what a verdict answers to a transaction, if anything
abbrev pub answers_of : ℕ → Verdict → List (ℕ × Answer')
answers_of t (verdict.Answered answers) = (t, Ok answers) ∷ []
answers_of t (verdict.Refused refusal) = (t, Err refusal) ∷ []
answers_of t verdict.Aborted = []

-- whether it is still undecided
abbrev pub left_by : Asked → Verdict → List Asked
left_by asked verdict.Aborted = asked ∷ []
left_by asked other = []

-- what was said so far, as a phase has it
abbrev pub said_in : Phase → Verdict
said_in (Finishing servers told ending) = told
said_in other = verdict.Aborted

pub said_is : (v : Verdict) (phase : Phase) → Tells v phase → said_in phase ≡ v
said_is v phase h2 = search arith

-- what was answered to the transaction that an agent runs, and whether it is undecided
abbrev pub answered : Option Doing → List (ℕ × Answer')
answered (Some (Running txn_run)) = answers_of txn_run.task.t (said_in txn_run.phase)
answered other = []

abbrev pub undecided : Option Doing → List Asked
undecided (Some (Running txn_run)) = left_by (asked_by txn_run.task) (said_in txn_run.phase)
undecided other = []

-- ---- what a response adds

-- nothing; or the transaction is decided
pub record Same (v new : Verdict) (d : Option Decided) : Type 0 where
  pub none : d ≡ None
  pub same : new ≡ v

pub record Newly (task : Task) (v new : Verdict) (d : Option Decided) : Type 0 where
  pub was : v ≡ verdict.Aborted
  pub one : Decided
  pub is : d ≡ Some one
  pub asked : asked_of one ≡ asked_by task
  pub said : new ≡ verdict_as one.answer

abbrev pub Turns : Task → Verdict → Verdict → Option Decided → Type 0
Turns task v new d = Same v new d ⊎ Newly task v new d

pub adds_answer : (task : Task) (v new : Verdict) (d : Option Decided) → Turns task v new d → answers_of task.t v ++ map answer_to (option_to_list d) ≡ answers_of task.t new
adds_answer task v new d turns = search arith

pub takes_asked : (task : Task) (v new : Verdict) (d : Option Decided) → Turns task v new d → map asked_of (option_to_list d) ++ left_by (asked_by task) new ≡ left_by (asked_by task) v
takes_asked task v new d turns = search arith

-- ---- a request that is served

-- the home has a record, or none, or is down
module _ (task : Task) (ds : List Decided) (st : State) (new' : NotIn ds task.t) (recorded_so : (v : Verdict) → record_of st task.t ≡ Some v → Recorded ds task.t v) where
  aborted : (old : Verdict) → Recorded ds task.t old → old ≡ verdict.Aborted
  aborted old h1 = search arith

  by_record : (outcome : Proposal) (old : Option Verdict) → record_of st task.t ≡ old
      → Turns task verdict.Aborted (recorded old (verdict_of (decision_of task outcome))) (cond (is_some (record_of st task.t)) None (decided_as (Some task) (answer_of (recorded old (verdict_of (decision_of task outcome))))))
  by_record outcome (Some old) has = inl (record {
    none = ap (λ r. cond (is_some r) None (decided_as (Some task) (answer_of old))) has;
    same = aborted old (recorded_so old has);
  })
  by_record (Ok granted) None free = search arith
  by_record (Err refusal) None free = search arith

  pub turns_decide : (outcome : Proposal)
      → Turns task verdict.Aborted (said_by (Replied (reply_of st (request.Decide task.t (decision_of task outcome)))) verdict.Aborted)
      (decided_at (Some st) (Some task.t) (decided_as (Some task) (answer_in (reply_of st (request.Decide task.t (decision_of task outcome))))))
  turns_decide outcome = search (by_record, arith)

pub turns_served : (fixed : Fixed) (txn_run : TransactionRun) (ds : List Decided) (s : ℕ) (st : State) (asked : Request) (v : Verdict) → Tells v txn_run.phase → Stands ds txn_run.task.t v
    → request_in fixed txn_run.task txn_run.suites txn_run.phase ≡ Some (s, asked) → ((t : ℕ) (v : Verdict) → record_of st t ≡ Some v → Recorded ds t v) → (b : Bool) → is_decide asked ≡ b
    → Turns txn_run.task v (cond (is_decide asked) (said_by (Replied (reply_of st asked)) v) v) (decided_at (Some st) (to_decide asked) (decided_as (Some txn_run.task) (answer_in (reply_of st asked))))
turns_served fixed txn_run ds s st asked v tells stands is recorded_so false other = search (no_decide, arith)
turns_served fixed txn_run ds s st asked v tells stands is recorded_so true decide =
    let does = decides fixed txn_run.task txn_run.suites txn_run.phase s asked is decide in
    let aborted : v ≡ verdict.Aborted = subst (Tells v) does.deciding tells in
    let t = txn_run.task.t in
    subst (λ asked. Turns txn_run.task v (cond (is_decide asked) (said_by (Replied (reply_of st asked)) v) v) (decided_at (Some st) (to_decide asked) (decided_as (Some txn_run.task) (answer_in (reply_of st asked))))) (sym does.decide)
    (subst (λ v. Turns txn_run.task v (said_by (Replied (reply_of st (request.Decide t (decision_of txn_run.task does.outcome)))) v)
    (decided_at (Some st) (Some t) (decided_as (Some txn_run.task) (answer_in (reply_of st (request.Decide t (decision_of txn_run.task does.outcome))))))) (sym aborted)
    (turns_decide txn_run.task ds st (subst (Stands ds t) aborted stands) (recorded_so t) does.outcome))

-- ---- what a response leaves

-- the answer of a transaction that so ended
abbrev pub ended_as : ℕ → Option Ending → List (ℕ × Answer')
ended_as t None = []
ended_as t (Some ending) = option_to_list (option_map (λ answer. (t, answer)) (answer_by ending))

pub leaves_answer : (task : Task) (v : Verdict) (after : After TransactionRun) → Leaves task v after → answers_of task.t v ≡ ended_as task.t (end_of after) ++ answered (left Running after)
leaves_answer task v after h3 = search arith

-- who is undecided after it was so before, or nobody is
pub leaves_asked : (task : Task) (v : Verdict) (after : After TransactionRun) → Leaves task v after → (undecided (left Running after) ≡ left_by (asked_by task) v) ⊎ (left Running after ≡ None)
leaves_asked task v after h3 = search arith
