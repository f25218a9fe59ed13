-- The names that the proofs of this crate take from elsewhere, each with one meaning here.
pub use Rattle.std.proofs.Common.{Bool, Contains, Err, List, None, Ok, Option, Result, Some, [], ap, cond, false, nat_eq, refl, subst, sym, true, ℕ, ⊎_elim, ◌++◌, ◌∙◌, ◌∷◌, ◌≡◌}
pub use Rattle.std.proofs.lemmas.List.{append-nil}
pub use Rattle.std.specs.List.{cons_option}
pub use Rattle.file_ops.specs.Rows.{PlainTable}
pub use Rattle.file_ops.specs.Transactions.{replies}
pub use Rattle.file_ops.specs.declared.answer.Answer.{Answer}
pub use Rattle.file_ops.specs.declared.refusal.Refusal.{Refusal}
pub use Rattle.law_runs.proofs.Conclusions.{decisions_go_on, later_decisions}
pub use Rattle.law_runs.proofs.Finishes.{finish_is_after, finished_before}
pub use Rattle.law_runs.proofs.Standing.{append_has_left}
pub use Rattle.law_runs.specs.Claims.{IsDecidedAs, IsMet, IsNotDecided}
pub use Rattle.law_runs.specs.Finishes.{EndedSo, asks_for_itself}
pub use Rattle.rep_core.proofs.Members.{Has, contains_from, has_from}
pub use Rattle.rep_core.specs.declared.reply.Verdict.{Verdict}
pub use Rattle.run_certify.specs.Merges.{items_of}
pub use Rattle.run_certify.specs.Promised.{CertifiedIsPromised}
pub use Rattle.run_certify.specs.Shown.{asker, item_by, items_from, served_as}
pub use Rattle.run_certify.specs.Weaves.{weave}
pub use Rattle.run_certify.specs.declared.entry.AgentEntry.{AgentEntry}
pub use Rattle.run_core.proofs.Appending.{dones-append}
pub use Rattle.run_core.specs.Decisions.{Decided, decisions}
pub use Rattle.run_core.specs.Runs.{after, done_in, dones, run}
pub use Rattle.run_core.specs.TableOfRun.{played_on, table_after_all, table_with}
pub use Rattle.run_core.specs.Worlds.{World, opening, step}
pub use Rattle.run_core.specs.declared.done.Served.{Served}
pub use Rattle.run_core.specs.declared.event.Event.{Event}
pub use Rattle.server_lock.specs.declared.item.Item.{Item}
pub use Rattle.suite_prefix.specs.SettingsRules.{IsAccepted, Opening}
pub use Rattle.txn_core.specs.Agents.{fixed_of}
pub use Rattle.txn_core.specs.Doing.{Fixed}
pub use Rattle.law_certified.specs.Histories.{ChangesAreMetInHistory, FinishedBeforeInHistory, StandsFirst, TellsOfTime}
