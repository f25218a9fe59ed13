-- The names that the proofs of this crate take from elsewhere, each with one meaning here.
pub use Rattle.std.proofs.Common.{Bool, List, None, Option, Some, [], ap, arith, cond, false, is_some, length, refl, subst, suc, sym, zero, ℕ, ◌+◌, ◌∙◌, ◌∷◌, ◌≡◌, ◌≤◌}
pub use Rattle.std.proofs.lemmas.Cmp.{nat_cmp_total}
pub use Rattle.file_exec.specs.declared.executor.Outcome.{Outcome}
pub use Rattle.file_exec.specs.declared.need.Need.TheVariants.{Hold, Know}
pub use Rattle.sorted_map.specs.Laws.{IsOrdered-insert}
pub use Rattle.suite_collect.specs.Collecting.{Ask, Current, Next, Short, next}
pub use Rattle.suite_content.specs.declared.content.Content.{Content}
pub use Rattle.txn_core.specs.Doing.{Fetching, Finishing, Fixed, Gathering, Granted, Phase, Task, Widening}
pub use Rattle.txn_core.specs.Suites.{GatheredSuite, ReadPoint, Suites, known_of, suite_of, with_suite}
pub use Rattle.weak_cache.specs.Entries.{Cache}
pub use Rattle.law_protocol.specs.Protocol.{GoesTo, IsEager, MovesAreTheProtocol, Rises, step_at, step_from}
