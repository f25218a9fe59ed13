-- The names that the proofs of this crate take from elsewhere, each with one meaning here.
pub use Rattle.std.proofs.Common.{Bool, Equal, Err, Greater, List, None, Ok, Option, Some, [], ap, arith, cond, false, find, inl, inr, is_some, length, nat_lt, refl, slice_get, slice_set, subst, suc, sym, true, zero, ℕ, ◌&&◌, ◌*◌, ◌++◌, ◌+◌, ◌<◌}
pub use Rattle.std.proofs.Common.{◌==◌, ◌∙◌, ◌∷◌, ◌≡◌, ◌≤◌, ◌⊎◌}
pub use Rattle.std.proofs.lemmas.Bool.{and_parts, cases_lt, eq-eqb, eqb-true, false≢true}
pub use Rattle.std.proofs.lemmas.Cmp.{nat_cmp_total}
pub use Rattle.std.proofs.lemmas.Option.{none-some, same_Some}
pub use Rattle.std.specs.Ordering.{is_eq, nat_cmp}
pub use Rattle.file_exec.specs.declared.need.Need.TheVariants.{Hold, Know}
pub use Rattle.law_run_machine.specs.Telling.{AreTold, SaidIs, ToldOf, told_to}
pub use Rattle.law_server_moves.specs.Laws.{Tells, TellsContent, beginning}
pub use Rattle.law_suite_machine.proofs.Invariant.{Inv}
pub use Rattle.law_suite_machine.proofs.Places.{at2}
pub use Rattle.law_suite_machine.specs.Conditions.{Obeys}
pub use Rattle.law_suite_machine.specs.Events.{Event, run}
pub use Rattle.law_suite_machine.specs.Laws.{CopiesWere, Stays}
pub use Rattle.law_suite_machine.specs.Machine.{Told, World, begun}
pub use Rattle.law_suite_machine.specs.Registers.{Beginning, GoesWith, WasContent, WasPrefix}
pub use Rattle.rep_core.specs.declared.reply.Reply.{Reply}
pub use Rattle.rep_core.specs.declared.request.Request.{Request}
pub use Rattle.rep_core.specs.declared.stamped.Lack.{Lack}
pub use Rattle.sorted_map.specs.SortedMap.{IsOrdered}
pub use Rattle.suite_collect.proofs.Collected.{gives_of}
pub use Rattle.suite_collect.specs.Telling.{greatest, newer, newest, shown}
pub use Rattle.suite_collect.specs.declared.told.Said.{Said}
pub use Rattle.suite_content.specs.declared.content.Content.{Content}
pub use Rattle.suite_prefix.specs.Absent.{absent_prefix}
pub use Rattle.suite_prefix.specs.declared.copies.Prefix.{Prefix}
pub use Rattle.suite_prefix.specs.declared.copies.Replica.{Replica}
pub use Rattle.suite_prefix.specs.declared.lock_mode.LockMode.{LockMode}
pub use Rattle.txn_core.proofs.Asks.{asks_same}
pub use Rattle.txn_core.proofs.Gathers.{Each, each_but, each_with}
pub use Rattle.txn_core.specs.Agents.{Agent, begin, fixed_of, forget, has_sense, is_idle, left, max_jobs, next_in, next_of, started, take, take_in}
pub use Rattle.txn_core.specs.Doing.{After, Deciding, Doing, Ends, Fetching, Finishing, Fixed, Gathering, GoesOn, Granted, Phase, Preparing, Proposal, Running, RunningSweep, SweepRun, Task, TransactionRun, Widening}
pub use Rattle.txn_core.specs.Suites.{GatheredSuite, ReadPoint, Suites, first_or, known_of, settled, source_of, suite_of, with_suite}
pub use Rattle.txn_core.specs.declared.response.Response.{Response}
pub use Rattle.txn_core.specs.declared.response.Response.TheVariants.{Lacked, Replied}
pub use Rattle.weak_cache.proofs.Origins.{Has, entries_come_from_puts, has_from, has_to}
pub use Rattle.weak_cache.specs.Cache.{at_version, content_at, hint, put, searched}
pub use Rattle.weak_cache.specs.Entries.{Cache, Entry, entry_of, is_of}
pub use Rattle.law_run_knowledge.specs.Knowledge.{AllWere, CacheWas, DoingWas, EntryWas, FirstWas, SuiteWas, ToldVersion}
