-- In every run that there can be agents give what they owe, and keep to their side.
use Rattle.law_headline.proofs.Vocabulary.{ℕ, List, [], ◌∷◌, AllByRecursion, IsValid, Opening, fixed_of, step, decided, row, World, begun, beginning, AreOwed, AgentsOwe, actor_opens, owed_is_enough, arith, EventGivesValidVotes, CanBe, moved}
use Rattle.law_headline.proofs.Vocabulary.{machine_from, machine_of}
use Rattle.law_one_table.specs.Tables.{AllKeepSides}
use Rattle.law_one_table.proofs.Logs.{event_log}
use Rattle.run_core.specs.declared.event.Event as happening
use Rattle.run_core.specs.Worlds as worlds
use Rattle.run_core.specs.Runs as runs
use Rattle.law_headline.proofs.Carried.{AllValid, event_valid, came_well}
use Rattle.law_headline.proofs.Together.{Together, opens, goes_on}
use Rattle.law_headline.proofs.Owing.{Left, owed, owes_known}
use Rattle.law_headline.proofs.Beside.{HoldsItsKind, opens_kind, leaves, kind_after, row_known}
use Rattle.law_headline.proofs.Prepared.{AllPrepared, opens_prepared, prepared_next, prepared_left}

-- what is carried beside the rest
pub record Beside (given : Opening) (z : ℕ) (w : World) (world : worlds.World) : Type 0 where
  pub prepared : AllPrepared z w world  -- what is prepared is the part that was sent
  pub valid : AllValid (fixed_of given) world  -- jobs set no votes but valid ones
  pub kind : HoldsItsKind (row (beginning z given) w.log)  -- and the register's content is of the kind of its prefix

opens_beside : (given : Opening) (z : ℕ) → Beside given z (begun (beginning z given)) (worlds.opening given)
opens_beside given z = search (opens_prepared, actor_opens, opens_kind, arith)

module _ (given : Opening) (c0 : IsValid given.c0) (z : ℕ) (w : World) (world : worlds.World) (now : Together given z w world) (beside : Beside given z w world) where
  left : Left z w world
  left number actor txn_run outcome suite first there running phase undecided found had = record {
    fair = λ change set.
        (leaves given z w now.inv c0 beside.kind txn_run outcome (came_well (fixed_of given) actor.agent (beside.valid number actor there) txn_run outcome running phase) suite first change found had set
        (row_known given z w world now number actor txn_run outcome there running phase undecided suite first (owes_known given z w world now number actor txn_run outcome there running phase suite found first had))).fair;
    prepared = prepared_left given z w world now beside.prepared number actor txn_run outcome suite there running phase found;
  }

  next_beside : (event : happening.Event) → EventGivesValidVotes event → Together given z (moved given z w world event) (step (fixed_of given) world event).world
      → Beside given z (moved given z w world event) (step (fixed_of given) world event).world
  next_beside event valid later = record {
    prepared = prepared_next given z w world now.linked beside.prepared event;
    valid = event_valid (fixed_of given) world beside.valid event valid;
    kind = kind_after given z w now.inv c0 beside.kind world beside.valid event (decided (fixed_of given) world event) (moved given z w world event).log (event_log given z w world now.shows event) later.inv.logged.plain;
  }

owe_from : (given : Opening) (c0 : IsValid given.c0) (z : ℕ) (w : World) (world : worlds.World) (events : List happening.Event) → AllByRecursion EventGivesValidVotes events
    → Together given z w world → Beside given z w world → AreOwed given z w world events
owe_from given c0 z w world [] valid now beside = tt
owe_from given c0 z w world (event ∷ events) valid now beside =
    let owes = owed given z w world now (left given c0 z w world now beside) in
    let later = (goes_on given z w world now event owes).1 in
    (owes, owe_from given c0 z (moved given z w world event) (step (fixed_of given) world event).world events valid.1 later (next_beside given c0 z w world now beside event valid.0 later))

hold_from : (given : Opening) (c0 : IsValid given.c0) (z : ℕ) (w : World) (world : worlds.World) (events : List happening.Event) → AllByRecursion EventGivesValidVotes events → Together given z w world → Beside given z w world
    → Together given z (machine_from given z w world events) (runs.after (fixed_of given) world events)
hold_from given c0 z w world [] valid now beside = now
hold_from given c0 z w world (event ∷ events) valid now beside =
    let later = (goes_on given z w world now event (owed given z w world now (left given c0 z w world now beside))).1 in
    hold_from given c0 z (moved given z w world event) (step (fixed_of given) world event).world events valid.1 later (next_beside given c0 z w world now beside event valid.0 later)

-- what holds together holds after every run that there can be
pub holds_after : (given : Opening) (events : List happening.Event) → CanBe given events → (z : ℕ) → Together given z (machine_of given z events) (runs.run given events)
holds_after given events can z = search (hold_from, opens, opens_beside, arith)

-- agents give what they owe
pub agents_owe : (given : Opening) (events : List happening.Event) → CanBe given events → (z : ℕ) → AgentsOwe given z events
agents_owe given events can z = search (owe_from, opens, opens_beside, arith)

-- so they keep to their side
pub all_keep : (given : Opening) (events : List happening.Event) → CanBe given events → AllKeepSides given events
all_keep given events can = owed_is_enough given events can.accepted can.c0 (agents_owe given events can)
