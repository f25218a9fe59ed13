-- What the register of a suite has been: all its prefixes are of one kind, but for what was never made; and only the transaction whose number it has made it.
use Rattle.law_run_alone.proofs.Vocabulary.{◌≡◌, ◌⊎◌, inl, inr, ℕ, ◌≤◌, Bool, true, false, List, [], ◌∷◌, map, Option, Some, None, Ok, Err, refl, ap, ◌∙◌, arith, nat_eq, AllByRecursion, false≢true, nat_tests, kind_of, Opening, Prefix, Replica}
use Rattle.law_run_alone.proofs.Vocabulary.{IsValid, Has, ReadPoint, GatheredSuite, suite_of, change_of, prefix_kind, Proposal, Deciding, Phase, TransactionRun, Doing, Running, changes_of, Agent, fixed_of, Actor, actor_at, Decided, at1, Inv}
use Rattle.law_run_alone.proofs.Vocabulary.{beginning, known_by, change_to, written_from, first_of, decides_with, decides_without, decides_first, decides_on, decision_in, decision_by, LogIs, decision_of_actor, decision_at, AllValid, ValidOr}
use Rattle.law_run_alone.proofs.Vocabulary.{CameWell, came_well, HoldsItsKind, known_fits}
use Rattle.suite_prefix.specs.declared.copies.PrefixKind.TheVariants.{Absent}
use Rattle.law_suite_machine.specs.Events.{happens, Event}
use Rattle.std.specs.List.{IsDistinct}
use Rattle.law_suite_machine.specs.Registers.{Known, changed, Beginning, Entry, Read, Wrote, transaction, IsKnown, IsNext, IsPlain, row, prefix_at}
use Rattle.law_suite_machine.specs.Machine.{World}
use Rattle.file_exec.specs.declared.changes.Change as executor
use Rattle.run_core.specs.declared.event.Event as happening
use Rattle.run_core.specs.Worlds as worlds
use Rattle.law_run_alone.proofs.Courses.{IsNumber}
use Rattle.law_run_alone.proofs.Sets.{IsOwn, came_own}

-- a suite that is there from the first, or that a transaction of the log made
abbrev pub IsMade : ℕ → List Entry → Type 0
IsMade z log = (z ≡ 0) ⊎ ((t : ℕ) × IsNumber t z × Has (map transaction log) t)

pub record Grown (z : ℕ) (start : Beginning) (log : List Entry) : Type 0 where
  pub made : ((row start log).prefix.kind ≡ Absent) ⊎ IsMade z log
  pub kinds : (p : ℕ) → p ≤ (row start log).prefix.pver → ((prefix_at start log p).kind ≡ Absent) ⊎ ((prefix_at start log p).kind ≡ (row start log).prefix.kind)

-- ---- numbers

-- what a transaction makes that is not in the log was never made
pub is_fresh : (z t : ℕ) (start : Beginning) (log : List Entry) → Grown z start log → IsNumber t z → (Has (map transaction log) t → ⊥) → (row start log).prefix.kind ≡ Absent
is_fresh z t start log grown number none = search arith

-- ---- at the opening

pub opens_grown : (given : Opening) (z : ℕ) → Grown z (beginning z given) []
opens_grown given z = search arith

-- ---- a decision

made_later : (z : ℕ) (log : List Entry) (entry : Entry) → IsMade z log → IsMade z (entry ∷ log)
made_later z log entry h3 = search arith

grown_read : (z : ℕ) (start : Beginning) (log : List Entry) (t : ℕ) (known : Known) → Grown z start log → Grown z start (Read t known ∷ log)
grown_read z start log t known grown = search arith

grown_wrote : (z : ℕ) (start : Beginning) (log : List Entry) (t : ℕ) (known : Known) (new : Replica) → IsNext (row start log) new → Grown z start log
    → (new.prefix.kind ≡ (row start log).prefix.kind) ⊎ (((row start log).prefix.kind ≡ Absent) × IsNumber t z) → Grown z start (Wrote t known new ∷ log)
grown_wrote z start log t known new next grown how = search (made_later, at1, arith)

-- a transaction stands in the log once
not_among : (t : ℕ) (ts : List ℕ) → AllByRecursion (λ u. nat_eq t u ≡ false) ts → Has ts t → ⊥
not_among t [] apart has = has
not_among t (u ∷ ts) apart has = search (nat_eq, nat_tests, false≢true, not_among t ts, arith)

new_in_log : (entry : Entry) (log : List Entry) → IsDistinct nat_eq (map transaction (entry ∷ log)) → Has (map transaction log) (transaction entry) → ⊥
unfolding IsDistinct
new_in_log entry log distinct = not_among (transaction entry) (map transaction log) distinct.0

-- what is written there
module _ (start : Beginning) (z : ℕ) (w : World) (grown : Grown z start w.log) where
  with_change : (t : ℕ) (suite : GatheredSuite) (first : ReadPoint) (outcome : Proposal) (change : Option executor.Change)
      → ((one : executor.Change) → change ≡ Some one → IsKnown (row start w.log) (known_by first suite) → (one.made ≡ true → IsNumber t z) × (one.made ≡ false → prefix_kind (kind_of one.row.content) ≡ first.prefix.kind))
      → IsPlain start (happens start w (decides_with w t (known_by first suite) outcome (written_from (Some first) change))).log
      → IsDistinct nat_eq (map transaction (happens start w (decides_with w t (known_by first suite) outcome (written_from (Some first) change))).log)
      → Grown z start (happens start w (decides_with w t (known_by first suite) outcome (written_from (Some first) change))).log
  with_change t suite first (Err refusal) change sets plain distinct = grown_read z start w.log t (known_by first suite) grown
  with_change t suite first (Ok granted) None sets plain distinct = grown_read z start w.log t (known_by first suite) grown
  with_change t suite first (Ok granted) (Some one) sets plain distinct =
      let new = changed (change_to first one) (row start w.log) in
      let own = sets one refl plain.0 in
      grown_wrote z start w.log t (known_by first suite) new plain.1 grown (of own one.made refl)
    where
      of : (one.made ≡ true → IsNumber t z) × (one.made ≡ false → prefix_kind (kind_of one.row.content) ≡ first.prefix.kind) → (b : Bool) → one.made ≡ b
          → (prefix_kind (kind_of one.row.content) ≡ (row start w.log).prefix.kind) ⊎ (((row start w.log).prefix.kind ≡ Absent) × IsNumber t z)
      of own true is = inr (is_fresh z t start w.log grown (own.0 is) (new_in_log (Wrote t (known_by first suite) (changed (change_to first one) (row start w.log))) w.log distinct), own.0 is)
      of own false is = inl (own.1 is ∙ ap (λ (prefix : Prefix). prefix.kind) plain.0.prefix)

  without : (t : ℕ) (outcome : Proposal) → Grown z start (happens start w (decides_without t outcome)).log
  without t outcome = search arith

module _ (given : Opening) (z : ℕ) (w : World) (inv : Inv (beginning z given) w) (c0 : IsValid given.c0) (kind : HoldsItsKind (row (beginning z given) w.log)) (grown : Grown z (beginning z given) w.log) where
  abbrev start : Beginning
  start = beginning z given

  module _ (txn_run : TransactionRun) (outcome : Proposal) (well : CameWell (fixed_of given) txn_run outcome) where
    -- what it sets of the suite
    pub own_of : (suite : GatheredSuite) (first : ReadPoint) (change : executor.Change) → suite_of txn_run.suites z ≡ Some suite → suite.first ≡ Some first
        → change_of (changes_of outcome) z ≡ Some change → IsKnown (row start w.log) (known_by first suite)
        → IsOwn txn_run.task.t z txn_run.suites first change
    own_of suite first change found had set knows = search (came_own, known_fits, arith)

    abbrev Decides : Event → Type 0
    Decides decision = IsPlain start (happens start w decision).log → IsDistinct nat_eq (map transaction (happens start w decision).log) → Grown z start (happens start w decision).log

    on_first : (suite : GatheredSuite) → suite_of txn_run.suites z ≡ Some suite → (o : Option ReadPoint) → suite.first ≡ o → Decides (decides_first w txn_run.task.t outcome (written_from o (change_of (changes_of outcome) z)) suite o)
    on_first suite found None had = λ plain distinct. without start z w grown txn_run.task.t outcome
    on_first suite found (Some first) had =
        with_change start z w grown txn_run.task.t suite first outcome (change_of (changes_of outcome) z)
        (λ one set knows. let own = own_of suite first one found had set knows in (own.made, own.kept))

    on_suite : (o : Option GatheredSuite) → suite_of txn_run.suites z ≡ o → Decides (decides_on w txn_run.task.t outcome (written_from (first_of o) (change_of (changes_of outcome) z)) o)
    on_suite o h1 = grind (without, on_first, arith)

  -- ---- an event

  abbrev Decides' : Event → Type 0
  Decides' decision = IsPlain start (happens start w decision).log → IsDistinct nat_eq (map transaction (happens start w decision).log) → Grown z start (happens start w decision).log

  by_phase : (agent : Agent) (txn_run : TransactionRun) (phase : Phase) → ValidOr (fixed_of given) agent → agent.doing ≡ Some (Running txn_run) → txn_run.phase ≡ phase → Decides' (decision_in z w txn_run.task txn_run.suites phase)
  by_phase agent txn_run (Deciding outcome) valid running is = on_suite txn_run outcome (came_well (fixed_of given) agent valid txn_run outcome running is) (suite_of txn_run.suites z) refl
  by_phase agent txn_run other valid running is = λ plain distinct. grown

  by_doing : (agent : Agent) (doing : Option Doing) → ValidOr (fixed_of given) agent → agent.doing ≡ doing → Decides' (decision_by z w doing)
  by_doing agent (Some (Running txn_run)) valid running = by_phase agent txn_run txn_run.phase valid running refl
  by_doing agent other valid running = λ plain distinct. grown

  module _ (world : worlds.World) (all : AllValid (fixed_of given) world) where
    by_actor : (number : ℕ) (found : Option Actor) → actor_at world number ≡ found → Decides' (decision_of_actor z w found)
    by_actor number (Some actor) there = by_doing actor.agent actor.agent.doing (all number actor there) refl
    by_actor number None there = λ plain distinct. grown

    by_event : (event : happening.Event) → Decides' (decision_at z w world event)
    by_event event = search (by_actor, arith)

    pub grown_after : (event : happening.Event) (one : Option Decided) (log : List Entry) → LogIs start (decision_at z w world event) w one log → IsPlain start log → IsDistinct nat_eq (map transaction log) → Grown z start log
    grown_after event one log h3 h4 h5 = search (by_event, nat_eq, arith)
