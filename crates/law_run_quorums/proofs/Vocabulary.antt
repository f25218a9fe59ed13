-- The names that the proofs of this crate take from elsewhere, each with one meaning here.
pub use native.Mathlib.Omega.{arith}
pub use Rattle.std.proofs.lemmas.Bool.{eqb-true, false≢true}
pub use Rattle.std.proofs.lemmas.Bool.Decides.{nat_tests}
pub use Rattle.std.proofs.lemmas.Option.{same_Some}
pub use Rattle.law_run_machine.proofs.Consistent.{AllConsistent, opening_consistent}
pub use Rattle.law_run_machine.proofs.Linked.{AllLinked, InCourse, IsDoing, numbered_at}
pub use Rattle.law_run_machine.proofs.Quiet.{Quiet, quiet_same}
pub use Rattle.law_run_machine.proofs.Servers.{servers_open}
pub use Rattle.law_run_machine.proofs.Turned.{Others, begun_so, lacked_concerns, others_turned, same_or, served_at, served_concerns, set_apart, set_here}
pub use Rattle.law_run_machine.specs.Deciding.{change_to, decision_by, decision_in, known_by, own_events, showed}
pub use Rattle.law_run_machine.specs.Owed.{AreOwed, OwesKnown, OwesWritten}
pub use Rattle.law_run_machine.specs.Telling.{AreTold, ToldOf, told_to}
pub use Rattle.law_server_moves.specs.Laws.{Tells, TellsCopy, beginning}
pub use Rattle.law_server_moves.specs.Views.{Shows}
pub use Rattle.law_suite_machine.proofs.Invariant.{Inv}
pub use Rattle.law_suite_machine.specs.Conditions.{CoversContent, CoversPrefix, KeepsContent, Obeys, holds_exclusively, is_exclusive}
pub use Rattle.law_suite_machine.specs.Events.{Event, happens, run}
pub use Rattle.law_suite_machine.specs.Machine.{Hold, IsQuorum, Told, World, begun, set2}
pub use Rattle.law_suite_machine.specs.Registers.{Beginning, Change, Known, WasPrefix}
pub use Rattle.rep_core.specs.declared.reply.Reply.{Reply}
pub use Rattle.rep_core.specs.declared.request.Request.{Request}
pub use Rattle.run_core.specs.Worlds.{Actor, actor_at, answered, server_at, step, with_server}
pub use Rattle.suite_collect.specs.Collecting.{Collector, all_told, needed_of}
pub use Rattle.suite_collect.specs.declared.told.Said.{Said}
pub use Rattle.suite_prefix.specs.LockModes.{serves}
pub use Rattle.suite_prefix.specs.SettingsRules.{Opening}
pub use Rattle.suite_prefix.specs.declared.copies.Prefix.{Prefix}
pub use Rattle.suite_prefix.specs.declared.copies.Replica.{Replica}
pub use Rattle.suite_prefix.specs.declared.lock_mode.LockMode.{LockMode}
pub use Rattle.suite_prefix.specs.declared.lock_mode.LockMode.TheVariants.{Exclusive}
pub use Rattle.txn_core.proofs.ToldLists.{Leaves, are_nil, heard_by, hears_response, leaves_execute}
pub use Rattle.txn_core.specs.Agents.{Agent, begin, fixed_of, forget, has_sense, is_idle, left, max_jobs, next_in, next_of, started, take, take_in}
pub use Rattle.txn_core.specs.Doing.{After, Changes, Doing, Ends, Fixed, GoesOn, Running, RunningSweep, Task, TransactionRun}
pub use Rattle.txn_core.specs.Laws.{IsReady, newest_of}
pub use Rattle.txn_core.specs.Suites.{GatheredSuite, ReadPoint, told_at}
pub use Rattle.txn_core.specs.Transactions.{after_response, execute, request_of}
pub use Rattle.txn_core.specs.declared.response.Response.TheVariants.{Lacked, Replied}
pub use Rattle.vote_core.specs.Quorums.{Configuration, Representative, is_write_quorum, votes_at, votes_in}
pub use Rattle.law_run_quorums.specs.Laws.{CollectorsAgree, KnowsFromAQuorum, WritesToQuorums}
pub use Rattle.law_run_quorums.specs.Telling.{Agrees, AllAgree, DoingAgrees}
