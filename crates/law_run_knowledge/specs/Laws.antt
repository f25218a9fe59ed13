-- The laws of this crate.
use Rattle.std.specs.Prelude.{◌≡◌, ℕ, List, Some}
use Rattle.vote_core.specs.Validity.{IsValid}
use Rattle.suite_content.specs.declared.content.Content.{Content}
use Rattle.suite_prefix.specs.SettingsRules.{Opening}
use Rattle.txn_core.specs.Suites.{ReadPoint, GatheredSuite, suite_of}
use Rattle.txn_core.specs.Doing.{TransactionRun, Running}
use Rattle.run_core.specs.declared.event.Event.{Event}
use Rattle.run_core.specs.Worlds.{Actor, actor_at}
use Rattle.run_core.specs.Runs as runs
use Rattle.law_suite_machine.specs.Registers.{WasPrefix, GoesWith}
use Rattle.law_server_moves.specs.Laws.{beginning}
use Rattle.law_run_machine.specs.Machines.{machine_of}
use Rattle.law_run_machine.specs.Sides.{AgentsKeepSides}
use Rattle.law_run_knowledge.specs.Knowledge.{AllWere}

-- In every run in which agents keep to their side: what agents keep in their caches of a suite, and what transactions hold of it, was its register's.
abbrev pub KnowledgeWas : Type 0
KnowledgeWas = (given : Opening) (z : ℕ) (events : List Event) → IsValid given.c0 → AgentsKeepSides given z events → AllWere z (beginning z given) (machine_of given z events) (runs.run given events)

-- So what a transaction knows of a suite that had a Current: its prefix was the register's, and its content, where it knows that, goes with it.
abbrev pub KnownWas : Type 0
KnownWas =
    (given : Opening) (z : ℕ) (events : List Event) (number : ℕ) (actor : Actor) (txn_run : TransactionRun) (suite : GatheredSuite) (first : ReadPoint) → IsValid given.c0 → AgentsKeepSides given z events
    → actor_at (runs.run given events) number ≡ Some actor → actor.agent.doing ≡ Some (Running txn_run) → suite_of txn_run.suites z ≡ Some suite → suite.first ≡ Some first
    → WasPrefix (beginning z given) (machine_of given z events).log first.prefix
    × ((content : Content) → suite.content ≡ Some content → GoesWith (beginning z given) (machine_of given z events).log first.prefix first.dver content)
