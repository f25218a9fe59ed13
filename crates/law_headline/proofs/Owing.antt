-- What is owed where a transaction decides holds, from what holds together and what holds beside it.
use Rattle.law_headline.proofs.Vocabulary.{◌≡◌, ℕ, IsTrue, Option, Some, None, refl, subst, false≢true, Opening, ReadPoint, GatheredSuite, suite_of, told_in, change_of, part_of, Fixed, Proposal, Deciding, arith, TransactionRun, Running, changes_of}
use Rattle.law_headline.proofs.Vocabulary.{Agent, fixed_of, Actor, actor_at, Beginning, World, holds_exclusively, beginning, known_by, change_to, written_from, first_of, OwesKnown, OwesWritten, OwesWith, OwesFirst, Owes, Owed, IdleOr, Agrees}
use Rattle.law_headline.proofs.Vocabulary.{DoingAgrees, IsFair, PreparedPart}
use Rattle.suite_collect.specs.Collecting.{all_told}
use Rattle.txn_core.proofs.Quorums.{decides_on_quorums}
use Rattle.law_run_knowledge.proofs.Decided.{suite_was, known_prefix, known_content, newest_prefix}
use Rattle.law_run_machine.specs.Telling.{told_to}
use Rattle.law_run_quorums.proofs.Known.{valid_was, knows_from_a_quorum}
use Rattle.law_run_quorums.proofs.Written.{writes_to_quorums}
use Rattle.txn_core.specs.Laws.{IsReady}
use Rattle.file_exec.specs.declared.changes.Change as executor
use Rattle.run_core.specs.Worlds as worlds
use Rattle.law_headline.proofs.Firsts.{firsts_given}
use Rattle.law_headline.proofs.Together.{Together}

-- of a transaction that decides, for a suite of which it had a Current
pub record LeftOf (z : ℕ) (w : World) (txn_run : TransactionRun) (outcome : Proposal) (suite : GatheredSuite) (first : ReadPoint) : Type 0 where
  pub fair : (change : executor.Change) → change_of (changes_of outcome) z ≡ Some change → IsFair suite first change  -- its operations leave what they do not set
  pub prepared : (i : ℕ) → IsTrue (holds_exclusively w txn_run.task.t i) → PreparedPart w txn_run.task.t i (part_of (changes_of outcome) i (z, suite))  -- and it prepared what it is to write

-- in one world
abbrev pub Left : ℕ → World → worlds.World → Type 0
Left z w world =
    (number : ℕ) (actor : Actor) (txn_run : TransactionRun) (outcome : Proposal) (suite : GatheredSuite) (first : ReadPoint) → actor_at world number ≡ Some actor
    → actor.agent.doing ≡ Some (Running txn_run) → txn_run.phase ≡ Deciding outcome
    → w.verdict txn_run.task.t ≡ None → suite_of txn_run.suites z ≡ Some suite → suite.first ≡ Some first → LeftOf z w txn_run outcome suite first

-- ready to be decided, as every agent of a job
is_ready : (fixed : Fixed) (agent : Agent) (z : ℕ) → IdleOr fixed agent → (txn_run : TransactionRun) (outcome : Proposal) → agent.doing ≡ Some (Running txn_run)
    → txn_run.phase ≡ Deciding outcome → (suite : GatheredSuite) → suite_of txn_run.suites z ≡ Some suite → IsReady suite z (changes_of outcome)
is_ready fixed agent z h3 txn_run outcome h6 h7 suite h9 = search (false≢true, decides_on_quorums, arith)

-- what is known is owed, and where something is written that
with_change : (start : Beginning) (w : World) (t : ℕ) (suite : GatheredSuite) (first : ReadPoint) (outcome : Proposal) (change : Option executor.Change) → OwesKnown start w t (known_by first suite)
    → ((one : executor.Change) → change ≡ Some one → OwesWritten start w t (known_by first suite) (change_to first one)) → OwesWith start w t (known_by first suite) outcome (written_from (Some first) change)
with_change start w t suite first outcome change h7 h8 = search arith

module _ (given : Opening) (z : ℕ) (w : World) (world : worlds.World) (now : Together given z w world) where
  abbrev start : Beginning
  start = beginning z given

  module _ (number : ℕ) (actor : Actor) (txn_run : TransactionRun) (outcome : Proposal) (there : actor_at world number ≡ Some actor) (running : actor.agent.doing ≡ Some (Running txn_run)) (phase : txn_run.phase ≡ Deciding outcome) where
    abbrev t : ℕ
    t = txn_run.task.t

    agrees_on : (suite : GatheredSuite) → suite_of txn_run.suites z ≡ Some suite → Agrees (told_to w t) (all_told suite.collector)
    agrees_on suite found =
        let here : DoingAgrees z w (Some (Running txn_run)) = subst (DoingAgrees z w) running (now.agrees number actor there) in
        subst (λ o. Agrees (told_to w t) (told_in o)) found here

    pub owes_known : (suite : GatheredSuite) → suite_of txn_run.suites z ≡ Some suite → (first : ReadPoint) → suite.first ≡ Some first → OwesKnown start w t (known_by first suite)
    owes_known suite found first had =
        let was = suite_was z start w actor.agent txn_run suite (now.fits number actor there) running found in
        let prefix = known_prefix z start w t suite was first had in
        knows_from_a_quorum start w t suite first (valid_was start w first.prefix now.inv prefix)
        (firsts_given (fixed_of given) actor.agent (now.jobs number actor there) txn_run running z suite found first had) (agrees_on suite found) prefix
        (known_content z start w t suite was first had)

    owes_written : Left z w world → w.verdict t ≡ None → (suite : GatheredSuite) → suite_of txn_run.suites z ≡ Some suite → (first : ReadPoint) → suite.first ≡ Some first
        → (change : executor.Change) → change_of (changes_of outcome) z ≡ Some change → OwesWritten start w t (known_by first suite) (change_to first change)
    owes_written left undecided suite found first had change changed =
        let was = suite_was z start w actor.agent txn_run suite (now.fits number actor there) running found in
        let more = left number actor txn_run outcome suite first there running phase undecided found had in
        writes_to_quorums start w t z suite (changes_of outcome) change first (agrees_on suite found) had changed (more.fair change changed) more.prepared (owes_known suite found first had)
        (is_ready (fixed_of given) actor.agent z (now.jobs number actor there) txn_run outcome running phase suite found) (newest_prefix z start w t suite was now.inv)

    on_first : Left z w world → w.verdict t ≡ None → (suite : GatheredSuite) → suite_of txn_run.suites z ≡ Some suite → (o : Option ReadPoint) → suite.first ≡ o
        → OwesFirst start w t outcome (written_from o (change_of (changes_of outcome) z)) suite o
    on_first h0 h1 suite h3 o h5 = search (with_change, owes_known, owes_written, arith)

    on_suite : Left z w world → w.verdict t ≡ None → (o : Option GatheredSuite) → suite_of txn_run.suites z ≡ o → Owes start w t outcome (written_from (first_of o) (change_of (changes_of outcome) z)) o
    on_suite h0 h1 o h3 = search (on_first, arith)

  pub owed : Left z w world → Owed given z w world
  owed left = record { decides = λ number actor txn_run outcome there running phase undecided. on_suite number actor txn_run outcome there running phase left undecided (suite_of txn_run.suites z) refl }
