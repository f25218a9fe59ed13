-- What a transaction decides may be decided, where what is owed is shown.
use Rattle.law_run_machine.proofs.Vocabulary.{◌≡◌, ℕ, true, false, Option, Some, None, is_some, Ok, Err, refl, sym, ap, subst, ◌∙◌, arith, Shared, holds, ReadPoint, GatheredSuite, Suites, suite_of, told_in, Task, Proposal, Deciding, TransactionRun}
use Rattle.law_run_machine.proofs.Vocabulary.{Doing, Running, Beginning, Known, Change, Told, World, IsReady, Knows, May, showed_to, to_write, decides_with, decides_without, decides_first, decides_on, decision_with, OwesKnown, OwesWith, OwesFirst}
use Rattle.law_run_machine.proofs.Vocabulary.{Owes}
use Rattle.suite_prefix.specs.declared.copies.Replica.{Replica}
use Rattle.law_run_machine.proofs.Stages.{Going, Stage}
use Rattle.law_run_machine.proofs.Readying.{ReadyIn, IsReadying}
use Rattle.law_run_machine.proofs.Readied.{ToldBelow}
use Rattle.law_run_machine.proofs.Linked.{InCourse, IsDoing}
use Rattle.law_run_machine.proofs.Sending.{ToldAs, told_none}

module _ (start : Beginning) (w : World) (t : ℕ) (undecided : w.verdict t ≡ None) (going : w.gave_up t ≡ false) (prepared : (i : ℕ) (told : Told) → w.told i t ≡ Some told → (left : Option Replica) × (w.ready i t ≡ Some left)) where
  ready : IsReady w t
  ready = record { undecided = undecided; going = going; prepared = prepared }

  knows : (known : Known) → OwesKnown start w t known → Knows start w t (showed_to w t known) known
  knows known owes = search arith

  with_known : (known : Known) (outcome : Proposal) (new : Option Change) → w.aim t ≡ new → ((refusal : _) → outcome ≡ Err refusal → new ≡ None) → OwesWith start w t known outcome new → May start w (decides_with w t known outcome new)
  with_known known (Err refusal) new aimed none owes = record { ready = ready; knows = knows known owes; unaimed = aimed ∙ none refusal refl }
  with_known known (Ok granted) None aimed none owes = record { ready = ready; knows = knows known owes; unaimed = aimed }
  with_known known (Ok granted) (Some new) aimed none owes = search (ready, knows, arith)

  without : (outcome : Proposal) → ((i : ℕ) → w.told i t ≡ None) → w.aim t ≡ None → May start w (decides_without t outcome)
  without outcome h1 h2 = search arith

  by_first : (outcome : Proposal) (new : Option Change) (suite : GatheredSuite) (first : Option ReadPoint) → (first ≡ None → ⊥) → w.aim t ≡ new
      → ((refusal : _) → outcome ≡ Err refusal → new ≡ None) → OwesFirst start w t outcome new suite first → May start w (decides_first w t outcome new suite first)
  by_first outcome new suite first h4 h5 h6 h7 = search (with_known, arith)

  by_suite : (outcome : Proposal) (new : Option Change) (found : Option GatheredSuite) → ((suite : GatheredSuite) → found ≡ Some suite → suite.first ≡ None → ⊥) → w.aim t ≡ new
      → ((refusal : _) → outcome ≡ Err refusal → new ≡ None) → (found ≡ None → new ≡ None) → ((i : ℕ) → is_some (w.told i t) ≡ holds Shared (told_in found) i) → Owes start w t outcome new found
      → May start w (decides_on w t outcome new found)
  by_suite outcome new found h3 h4 h5 h6 h7 h8 = search (by_first, without, told_none, arith)

writes_none : (z : ℕ) (suites : Suites) (outcome : Proposal) (refusal : _) → outcome ≡ Err refusal → to_write z suites outcome ≡ None
writes_none z suites outcome refusal h4 = search arith

-- nor to a suite that was not asked for
writes_nothing : (z : ℕ) (suites : Suites) (outcome : Proposal) → suite_of suites z ≡ None → to_write z suites outcome ≡ None
writes_nothing z suites outcome h3 = search arith

pub may_decide : (start : Beginning) (z : ℕ) (w : World) (task : Task) (suites : Suites) (outcome : Proposal) → Going w task.t → w.aim task.t ≡ to_write z suites outcome
    → ToldAs z w task.t suites → w.verdict task.t ≡ None → ((i : ℕ) (told : Told) → w.told i task.t ≡ Some told → (left : Option Replica) × (w.ready i task.t ≡ Some left))
    → ((suite : GatheredSuite) → suite_of suites z ≡ Some suite → suite.first ≡ None → ⊥) → Owes start w task.t outcome (to_write z suites outcome) (suite_of suites z) → May start w (decision_with z w task suites outcome)
may_decide start z w task suites outcome going aimed told undecided prepared had owes = search (by_suite, writes_none, writes_nothing, arith)

-- of what an agent is doing
pub some_of : {X : Type 0} (o : Option X) → is_some o ≡ true → (x : X) × (o ≡ Some x)
some_of o h1 = search arith

pub may_of : (start : Beginning) (z : ℕ) (w : World) (n count : ℕ) (doing : Option Doing) → IsDoing z w n count doing → IsReadying z w doing → ToldBelow w
    → ((txn_run : TransactionRun) (outcome : Proposal) → doing ≡ Some (Running txn_run) → txn_run.phase ≡ Deciding outcome → (suite : GatheredSuite)
    → suite_of txn_run.suites z ≡ Some suite → suite.first ≡ None → ⊥) → (txn_run : TransactionRun) (outcome : Proposal) → doing ≡ Some (Running txn_run)
    → txn_run.phase ≡ Deciding outcome → w.verdict txn_run.task.t ≡ None
    → Owes start w txn_run.task.t outcome (to_write z txn_run.suites outcome) (suite_of txn_run.suites z) → May start w (decision_with z w txn_run.task txn_run.suites outcome)
may_of start z w n count doing is readying below had txn_run outcome same phase undecided owes =
    let in' : InCourse z w n count txn_run = subst (IsDoing z w n count) same is in
    let stage : Stage z w txn_run.task.t txn_run.suites (Deciding outcome) = subst (Stage z w txn_run.task.t txn_run.suites) phase in'.stage in
    let ready : ReadyIn z w txn_run.task.t txn_run.suites (Deciding outcome) = subst (ReadyIn z w txn_run.task.t txn_run.suites) phase (subst (IsReadying z w) same readying) in
    may_decide start z w txn_run.task txn_run.suites outcome stage.0 stage.1 in'.told undecided
    (λ i told is. some_of (w.ready i txn_run.task.t) (ready i (below i txn_run.task.t (ap is_some is)) (sym (in'.told i) ∙ ap is_some is))) (had txn_run outcome same phase) owes
