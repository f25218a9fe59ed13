-- What holds beside the rest, event by event: jobs set valid votes, the register's row holds a content of its kind, and what is prepared is what was sent. It gives what is owed at a decision.
use Rattle.law_headline.proofs.Vocabulary.{◌≡◌, ℕ, Bool, true, cond, List, [], Option, Some, None, is_some, refl, sym, ap, subst, ◌∙◌, arith, ◌&&◌, ◌||◌, unwrap_or, IsValid, Content, Opening, Prefix, ReadPoint, GatheredSuite, suite_of, change_of}
use Rattle.law_headline.proofs.Vocabulary.{new_prefix, Proposal, Deciding, Phase, TransactionRun, Doing, Running, RunningSweep, changes_of, Agent, fixed_of, Actor, actor_at, Decided, Beginning, Known, Entry, IsKnown, IsPlain, row, World, IsReady}
use Rattle.law_headline.proofs.Vocabulary.{Inv, all_known, beginning, showed_to, known_by, change_to, written_from, first_of, decides_with, decides_without, decides_first, decides_on, decision_in, decision_by, OwesKnown, InCourse, IsDoing, FitsAs}
use Rattle.suite_prefix.specs.declared.copies.Replica.{Replica}
use Rattle.law_suite_machine.specs.Events.{happens, Event}
use Rattle.law_run_machine.proofs.Stages.{Stage}
use Rattle.law_run_machine.proofs.Readying.{ReadyIn, IsReadying}
use Rattle.law_one_table.proofs.Logs.{LogIs, decision_of_actor, decision_at}
use Rattle.law_suite_machine.specs.Registers.{changed}
use Rattle.law_suite_machine.specs.Conditions.{Knows}
use Rattle.file_exec.specs.declared.changes.Change as executor
use Rattle.run_core.specs.declared.event.Event as happening
use Rattle.run_core.specs.Worlds as worlds
use Rattle.law_headline.proofs.Carried.{AllValid, ValidOr, CameWell, came_well}
use Rattle.law_headline.proofs.Fair.{Leaves, came_fair}
use Rattle.law_headline.proofs.Together.{Together}

-- a copy's content is of its prefix's kind
abbrev pub HoldsItsKind : Replica → Type 0
HoldsItsKind copy = FitsAs copy.prefix.kind copy.content

-- ---- at the opening

pub opens_kind : (given : Opening) (z : ℕ) → HoldsItsKind (row (beginning z given) [])
opens_kind given z = search arith

-- ---- a decision

module _ (start : Beginning) (w : World) (inv : Inv start w) (kind : HoldsItsKind (row start w.log)) (first : ReadPoint) (suite : GatheredSuite) (knows : IsKnown (row start w.log) (known_by first suite)) where
  pub known_fits : (c : Content) → suite.content ≡ Some c → FitsAs first.prefix.kind c
  known_fits c is = search arith

  pub known_valid : IsValid first.prefix.votes
  known_valid = subst (λ (prefix : Prefix). IsValid prefix.votes) (inv.logged.own.0.1 ∙ sym knows.prefix) (inv.logged.valid (row start w.log).prefix.pver)

  -- the row that a change leaves
  written_kind : (change : executor.Change) → Leaves suite first change → (content votes : Bool) → change.content ≡ content → change.votes ≡ votes
      → HoldsItsKind (record { prefix = new_prefix first change; dver = (change_to first change).dver; content = unwrap_or (cond (content || votes) (Some change.row.content) None) (row start w.log).content })
  written_kind change h1 content votes h4 h5 = search arith

-- a decision leaves such a row, where what was known was what the register held
with_change : (start : Beginning) (w : World) (t : ℕ) (suite : GatheredSuite) (first : ReadPoint) (outcome : Proposal) (change : Option executor.Change) → HoldsItsKind (row start w.log)
    → ((one : executor.Change) → change ≡ Some one → IsKnown (row start w.log) (known_by first suite) → HoldsItsKind (changed (change_to first one) (row start w.log)))
    → IsPlain start (happens start w (decides_with w t (known_by first suite) outcome (written_from (Some first) change))).log
    → HoldsItsKind (row start (happens start w (decides_with w t (known_by first suite) outcome (written_from (Some first) change))).log)
with_change start w t suite first outcome change h7 h8 h9 = search arith

without : (start : Beginning) (w : World) (t : ℕ) (outcome : Proposal) → HoldsItsKind (row start w.log) → HoldsItsKind (row start (happens start w (decides_without t outcome)).log)
without start w t outcome h4 = search arith

module _ (given : Opening) (z : ℕ) (w : World) (inv : Inv (beginning z given) w) (c0 : IsValid given.c0) (kind : HoldsItsKind (row (beginning z given) w.log)) where
  abbrev start : Beginning
  start = beginning z given

  module _ (txn_run : TransactionRun) (outcome : Proposal) (well : CameWell (fixed_of given) txn_run outcome) where
    pub leaves : (suite : GatheredSuite) (first : ReadPoint) (change : executor.Change) → suite_of txn_run.suites z ≡ Some suite → suite.first ≡ Some first
        → change_of (changes_of outcome) z ≡ Some change → IsKnown (row start w.log) (known_by first suite) → Leaves suite first change
    leaves suite first change found had set knows = search (came_fair, known_fits, known_valid, arith)

    on_first : (suite : GatheredSuite) → suite_of txn_run.suites z ≡ Some suite → (o : Option ReadPoint) → suite.first ≡ o
        → IsPlain start (happens start w (decides_first w txn_run.task.t outcome (written_from o (change_of (changes_of outcome) z)) suite o)).log
        → HoldsItsKind (row start (happens start w (decides_first w txn_run.task.t outcome (written_from o (change_of (changes_of outcome) z)) suite o)).log)
    on_first suite found None had plain = without start w txn_run.task.t outcome kind
    on_first suite found (Some first) had plain = search (with_change, written_kind, leaves, arith)

    on_suite : (o : Option GatheredSuite) → suite_of txn_run.suites z ≡ o
        → IsPlain start (happens start w (decides_on w txn_run.task.t outcome (written_from (first_of o) (change_of (changes_of outcome) z)) o)).log
        → HoldsItsKind (row start (happens start w (decides_on w txn_run.task.t outcome (written_from (first_of o) (change_of (changes_of outcome) z)) o)).log)
    on_suite o h1 h2 = search (without, on_first, arith)

  -- ---- an event

  abbrev Decides : Event → Type 0
  Decides decision = IsPlain start (happens start w decision).log → HoldsItsKind (row start (happens start w decision).log)

  by_phase : (agent : Agent) (txn_run : TransactionRun) (phase : Phase) → ValidOr (fixed_of given) agent → agent.doing ≡ Some (Running txn_run) → txn_run.phase ≡ phase → Decides (decision_in z w txn_run.task txn_run.suites phase)
  by_phase agent txn_run (Deciding outcome) valid running is = on_suite txn_run outcome (came_well (fixed_of given) agent valid txn_run outcome running is) (suite_of txn_run.suites z) refl
  by_phase agent txn_run other valid running is = λ plain. kind

  by_doing : (agent : Agent) (doing : Option Doing) → ValidOr (fixed_of given) agent → agent.doing ≡ doing → Decides (decision_by z w doing)
  by_doing agent (Some (Running txn_run)) valid running = by_phase agent txn_run txn_run.phase valid running refl
  by_doing agent (Some (RunningSweep sweep_run)) valid running = λ plain. kind
  by_doing agent None valid running = λ plain. kind

  module _ (world : worlds.World) (all : AllValid (fixed_of given) world) where
    by_actor : (number : ℕ) (found : Option Actor) → actor_at world number ≡ found → Decides (decision_of_actor z w found)
    by_actor number (Some actor) there = by_doing actor.agent actor.agent.doing (all number actor there) refl
    by_actor number None there = λ plain. kind

    by_event : (event : happening.Event) → Decides (decision_at z w world event)
    by_event event = search (by_actor, arith)

    pub kind_after : (event : happening.Event) (one : Option Decided) (log : List Entry) → LogIs start (decision_at z w world event) w one log → IsPlain start log → HoldsItsKind (row start log)
    kind_after event one log h3 h4 = search (by_event, arith)

-- ---- where a transaction is to be decided

both : (a b : Bool) → (a && b) ≡ true → (a ≡ true) × (b ≡ true)
both a b h2 = search arith

knows_from : (origin : Beginning) (w : World) (t : ℕ) (known : Known) → OwesKnown origin w t known → Knows origin w t (showed_to w t known) known
knows_from origin w t known owes = search arith

-- it is ready, and knows what the register holds
module _ (given : Opening) (z : ℕ) (w : World) (world : worlds.World) (now : Together given z w world) (number : ℕ) (actor : Actor) (txn_run : TransactionRun) (outcome : Proposal)
    (there : actor_at world number ≡ Some actor) (running : actor.agent.doing ≡ Some (Running txn_run)) (phase : txn_run.phase ≡ Deciding outcome) (undecided : w.verdict txn_run.task.t ≡ None) where
  some_of : {X : Type 0} (o : Option X) → is_some o ≡ true → (x : X) × (o ≡ Some x)
  some_of o h1 = search arith

  pub is_ready_now : IsReady w txn_run.task.t
  is_ready_now =
      let in' : InCourse z w number actor.agent.count txn_run = subst (IsDoing z w number actor.agent.count) running (now.linked number actor there).1.doing in
      let stage : Stage z w txn_run.task.t txn_run.suites (Deciding outcome) = subst (Stage z w txn_run.task.t txn_run.suites) phase in'.stage in
      let ready : ReadyIn z w txn_run.task.t txn_run.suites (Deciding outcome) = subst (ReadyIn z w txn_run.task.t txn_run.suites) phase (subst (IsReadying z w) running (now.readied.agents number actor there)) in
      record {
        undecided = undecided;
        going = stage.0.gave_up;
        prepared = λ i told is. some_of (w.ready i txn_run.task.t) (ready i (now.readied.below i txn_run.task.t (ap is_some is)) (sym (in'.told i) ∙ ap is_some is));
      }

  pub row_known : (suite : GatheredSuite) (first : ReadPoint) → OwesKnown (beginning z given) w txn_run.task.t (known_by first suite) → IsKnown (row (beginning z given) w.log) (known_by first suite)
  row_known suite first owes = search (all_known, is_ready_now, knows_from, arith)
