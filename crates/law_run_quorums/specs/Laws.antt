-- The laws of this crate: what an agent owes where it decides, from what its collector was told and what it prepared.
use Rattle.std.specs.Prelude.{◌≡◌, ℕ, ◌≤◌, IsTrue, List, Some}
use Rattle.vote_core.specs.Validity.{IsValid, max_servers}
use Rattle.suite_content.specs.declared.content.Content.{Content}
use Rattle.suite_prefix.specs.SettingsRules.{Opening, max_agents}
use Rattle.file_exec.specs.declared.changes.Change as executor
use Rattle.suite_collect.specs.Collecting.{all_told}
use Rattle.txn_core.specs.Suites.{ReadPoint, GatheredSuite}
use Rattle.txn_core.specs.Writing.{change_of, part_of}
use Rattle.txn_core.specs.Doing.{Changes}
use Rattle.txn_core.specs.Laws.{newest_of, IsReady}
use Rattle.run_core.specs.declared.event.Event.{Event}
use Rattle.run_core.specs.Runs as runs
use Rattle.law_suite_machine.specs.Registers.{Beginning, WasPrefix, GoesWith}
use Rattle.law_suite_machine.specs.Machine.{World}
use Rattle.law_suite_machine.specs.Conditions.{holds_exclusively}
use Rattle.law_run_machine.specs.Deciding.{known_by, change_to}
use Rattle.law_run_machine.specs.Machines.{machine_of}
use Rattle.law_run_machine.specs.Owed.{OwesKnown, OwesWritten, AgentsOwe}
use Rattle.law_run_machine.specs.Telling.{told_to}
use Rattle.law_run_quorums.specs.Telling.{Agrees, AllAgree}
use Rattle.law_run_quorums.specs.Firsts.{FirstFrom}
use Rattle.law_run_quorums.specs.Fairness.{IsFair, PreparedPart}

-- What a transaction knows of a suite it knows from a quorum, and some server told it of the version: where its collector holds what the machine told it, and
-- its first Current came from that list. That the prefix and the content were the suite's is presumed here.
abbrev pub KnowsFromAQuorum : Type 0
KnowsFromAQuorum =
    (start : Beginning) (w : World) (t : ℕ) (suite : GatheredSuite) (first : ReadPoint) → IsValid first.prefix.votes → FirstFrom suite first → Agrees (told_to w t) (all_told suite.collector)
    → WasPrefix start w.log first.prefix → ((content : Content) → suite.content ≡ Some content → GoesWith start w.log first.prefix first.dver content) → OwesKnown start w t (known_by first suite)

-- What it writes it writes to quorums: under the newest prefix that it was told of, and under the new votes where it sets them; and each server that it holds
-- exclusively is to have what changes. Of the operations it presumes that what they do not set stays as it was known.
abbrev pub WritesToQuorums : Type 0
WritesToQuorums =
    (start : Beginning) (w : World) (t z : ℕ) (suite : GatheredSuite) (changes : Changes) (change : executor.Change) (first : ReadPoint) → Agrees (told_to w t) (all_told suite.collector)
    → suite.first ≡ Some first → change_of changes z ≡ Some change → IsFair suite first change → ((i : ℕ) → IsTrue (holds_exclusively w t i) → PreparedPart w t i (part_of changes i (z, suite)))
    → OwesKnown start w t (known_by first suite) → IsReady suite z changes → WasPrefix start w.log (newest_of suite) → OwesWritten start w t (known_by first suite) (change_to first change)

-- In every run in which agents give what they owe: a transaction's collector holds what the machine of its suite told it, server by server: the mode of the lock,
-- and the prefix and the version of the copy.
abbrev pub CollectorsAgree : Type 0
CollectorsAgree =
    (given : Opening) (z : ℕ) (events : List Event) → IsValid given.c0 → given.agents ≤ max_agents → given.servers ≤ max_servers → AgentsOwe given z events
    → AllAgree z (machine_of given z events) (runs.run given events)
