-- What agents owe at a decision, suite by suite, to keep to their side: that what the transaction knows is from a quorum, and that what it writes covers enough servers.
use Rattle.std.specs.Prelude.{◌≡◌, ◌⊎◌, ℕ, ◌≤◌, IsTrue, List, [], ◌∷◌, Option, Some, None, Ok, Err}
use Rattle.vote_core.specs.Quorums.{is_write_quorum}
use Rattle.vote_core.specs.Validity.{IsValid}
use Rattle.suite_content.specs.declared.content.Content.{Content}
use Rattle.suite_prefix.specs.declared.copies.Prefix.{Prefix}
use Rattle.suite_prefix.specs.SettingsRules.{Opening}
use Rattle.txn_core.specs.Suites.{ReadPoint, GatheredSuite, suite_of}
use Rattle.txn_core.specs.Doing.{Proposal, Deciding, TransactionRun, Running}
use Rattle.txn_core.specs.Agents.{fixed_of}
use Rattle.run_core.specs.declared.event.Event.{Event}
use Rattle.run_core.specs.Worlds as worlds
use Rattle.run_core.specs.Worlds.{Actor, actor_at, step}
use Rattle.law_suite_machine.specs.Registers.{Beginning, Known, Change, WasPrefix, GoesWith}
use Rattle.law_suite_machine.specs.Machine.{Told, World, IsQuorum, begun}
use Rattle.law_suite_machine.specs.Conditions.{holds_exclusively, CoversPrefix, CoversContent}
use Rattle.law_server_moves.specs.Laws.{beginning}
use Rattle.law_run_machine.specs.Deciding.{showed_to, known_by, to_write}
use Rattle.law_run_machine.specs.Machines.{moved}

-- of a suite that it knows
pub record OwesKnown (start : Beginning) (w : World) (t : ℕ) (known : Known) : Type 0 where
  pub quorum : IsQuorum known.prefix.votes (showed_to w t known)  -- those that told of none newer have a quorum of the votes that it knows
  pub was : WasPrefix start w.log known.prefix  -- the prefix was the suite's
  pub from : ℕ
  pub from_told : Told
  pub told_from : w.told from t ≡ Some from_told  -- and some server told it of the content's version
  pub told_dver : from_told.copy.dver ≡ known.dver
  pub content : (content : Content) → known.content ≡ Some content → GoesWith start w.log known.prefix known.dver content  -- whose content it has, if it has any

-- and of one that it writes
pub record OwesWritten (start : Beginning) (w : World) (t : ℕ) (known : Known) (new : Change) : Type 0 where
  pub knows : OwesKnown start w t known
  pub under : Prefix
  pub under_was : WasPrefix start w.log under
  pub under_newest : known.prefix.pver ≤ under.pver
  pub quorum : IsTrue (is_write_quorum under.votes (holds_exclusively w t))
  pub widened : (new.prefix.votes ≡ known.prefix.votes) ⊎ IsTrue (is_write_quorum new.prefix.votes (holds_exclusively w t))
  pub valid : IsValid new.prefix.votes
  pub kind : new.dver ≡ 0 → new.prefix.kind ≡ known.prefix.kind
  pub covers_prefix : CoversPrefix w t known new
  pub covers_content : CoversContent w t known new

abbrev pub OwesWith : Beginning → World → ℕ → Known → Proposal → Option Change → Type 0
OwesWith start w t known (Err refusal) new = OwesKnown start w t known
OwesWith start w t known (Ok granted) None = OwesKnown start w t known
OwesWith start w t known (Ok granted) (Some new) = OwesWritten start w t known new

-- each suite that it asked for had a Current, or it would not decide
abbrev pub OwesFirst : Beginning → World → ℕ → Proposal → Option Change → GatheredSuite → Option ReadPoint → Type 0
OwesFirst start w t outcome new suite (Some first) = OwesWith start w t (known_by first suite) outcome new
OwesFirst start w t outcome new suite None = Unit {0}

abbrev pub Owes : Beginning → World → ℕ → Proposal → Option Change → Option GatheredSuite → Type 0
Owes start w t outcome new (Some suite) = OwesFirst start w t outcome new suite suite.first
Owes start w t outcome new None = Unit {0}

-- in one world, with the machine of the suite: where an agent is deciding, and nothing is recorded of its transaction
pub record Owed (given : Opening) (z : ℕ) (w : World) (world : worlds.World) : Type 0 where
  pub decides : (number : ℕ) (actor : Actor) (txn_run : TransactionRun) (outcome : Proposal) → actor_at world number ≡ Some actor → actor.agent.doing ≡ Some (Running txn_run) → txn_run.phase ≡ Deciding outcome
      → w.verdict txn_run.task.t ≡ None → Owes (beginning z given) w txn_run.task.t outcome (to_write z txn_run.suites outcome) (suite_of txn_run.suites z)

-- in each world of a run from some world on
abbrev pub AreOwed : Opening → ℕ → World → worlds.World → List Event → Type 0
AreOwed given z w world [] = Unit {0}
AreOwed given z w world (event ∷ events) = Owed given z w world × AreOwed given z (moved given z w world event) (step (fixed_of given) world event).world events

abbrev pub AgentsOwe : Opening → ℕ → List Event → Type 0
AgentsOwe given z events = AreOwed given z (begun (beginning z given)) (worlds.opening given) events
