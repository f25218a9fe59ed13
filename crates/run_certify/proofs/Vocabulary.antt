-- The names that the proofs of this crate take from elsewhere, each with one meaning here.
pub use Rattle.std.proofs.Common.{All, Bool, Err, IsTrue, List, MatchOption, None, Ok, Option, Result, Some, [], ap, append-nil, append_assoc, arith, cond, false, if◌then◌else◌, inl, inr, is_some, length, map, nat_eq, nat_lt, not, option_copied}
pub use Rattle.std.proofs.Common.{option_map, refl, rules, slice_get, slice_index_or, slice_set, subst, suc, sym, take, true, true≢false, vec_capacity, zero, ℕ, ⊎_elim, ◌%◌, ◌&&◌, ◌*◌, ◌++◌, ◌+◌, ◌<◌, ◌==◌, ◌||◌, ◌↔◌, ◌∙◌, ◌∷◌, ◌≡◌, ◌≢◌, ◌≤◌, ◌⊎◌}
pub use Rattle.std.proofs.lemmas.Bool.{false≢true}
pub use Rattle.std.proofs.lemmas.Bool.Decides.{Decides-and, Decides-eqb, Decides-like, nat_tests}
pub use Rattle.std.proofs.lemmas.List.{append_cancel_left, take_all}
pub use Rattle.std.proofs.lemmas.List.Elements.{All-more, All-same, recursion_from_All}
pub use Rattle.std.proofs.lemmas.Option.{none-some, same_Some}
pub use Rattle.std.proofs.lemmas.Result.{IfOk-weaker, err_from_is_err_and, on_ok_weaker}
pub use Rattle.std.specs.Bool.{Decides}
pub use Rattle.std.specs.List.{cons_option, list_all}
pub use Rattle.std.specs.Option.{option_eq}
pub use Rattle.file_ops.specs.declared.answer.Answer.{Answer}
pub use Rattle.file_ops.specs.declared.refusal.Refusal.{Refusal}
pub use Rattle.law_headline.proofs.Asked.{AllHave, Has, becomes_all, event_all, on_course, stays_begin}
pub use Rattle.law_headline.proofs.Promised.{both, front, promised}
pub use Rattle.law_headline.specs.Premises.{CanBe, VotesAreValid}
pub use Rattle.law_run_machine.proofs.Kept.{actor_opens}
pub use Rattle.law_runs.proofs.Agents.{IsAt, take_keeps}
pub use Rattle.law_runs.proofs.Asking.{decides, sweep_decides_none}
pub use Rattle.law_runs.proofs.Conclusions.{holds_of, rest_of}
pub use Rattle.law_runs.proofs.Lengths.{so_many}
pub use Rattle.law_runs.proofs.Places.{same_or}
pub use Rattle.law_runs.proofs.Standing.{NotIn, Recorded, Stands}
pub use Rattle.law_runs.proofs.Words.{Tells}
pub use Rattle.law_runs.proofs.Worlds.{Holds}
pub use Rattle.rep_core.specs.Service.{recorded, reply_of, verdict_of}
pub use Rattle.rep_core.specs.Serving.{answer_of}
pub use Rattle.rep_core.specs.State.{State, record_of}
pub use Rattle.rep_core.specs.code.Equality.{same_reply, same_reply_decides, same_request, same_request_decides, same_stamped, same_stamped_decides}
pub use Rattle.rep_core.specs.declared.reply.Reply.{Reply}
pub use Rattle.rep_core.specs.declared.reply.Verdict.{Verdict}
pub use Rattle.rep_core.specs.declared.request.Request.{Request}
pub use Rattle.run_core.proofs.Appending.{after-append}
pub use Rattle.run_core.proofs.Moving.{step_told}
pub use Rattle.run_core.specs.Asking.{asked_at, asked_by}
pub use Rattle.run_core.specs.Decisions.{Decided, answer_in, decided, decided_as, decided_at, decided_by, decisions, task_at, task_of, to_decide}
pub use Rattle.run_core.specs.Runs.{run}
pub use Rattle.run_core.specs.Senses.{asks_one, can_begin, can_forget, has_sense}
pub use Rattle.run_core.specs.Telling.{ComesTo, served_if}
pub use Rattle.run_core.specs.Worlds.{Actor, Stepped, World, actor_at, answered, asks, asks_at, becomes, has_no_job, lacks, lacks_for, opening, operates, server_at, step, steps_once}
pub use Rattle.run_core.specs.code.Equality.{same_outcome, same_outcome_decides}
pub use Rattle.run_core.specs.declared.done.Done.{Done}
pub use Rattle.run_core.specs.declared.done.EndedJob.{EndedJob}
pub use Rattle.run_core.specs.declared.done.Served.{Served}
pub use Rattle.run_core.specs.declared.event.Event.{Event}
pub use Rattle.run_core.specs.declared.event.Event.TheVariants.{Begin, Crash, Forget, Lack, Return, Step}
pub use Rattle.server_lock.specs.declared.item.Item.{Item}
pub use Rattle.suite_prefix.specs.SettingsRules.{IsAccepted, Opening}
pub use Rattle.txn_core.proofs.Asks.{asks_same}
pub use Rattle.txn_core.specs.Agents.{Agent, begin, begins, fixed_of, forget, is_idle, max_jobs, next_in, next_of, started}
pub use Rattle.txn_core.specs.Doing.{Doing, Fixed, Running, Task, TransactionRun}
pub use Rattle.txn_core.specs.Laws.{is_decide}
pub use Rattle.txn_core.specs.Transactions.{decision_of, execute}
pub use Rattle.txn_core.specs.declared.job.Job.{Job}
pub use Rattle.txn_core.specs.declared.job.Job.TheVariants.{Sweep, Transaction}
pub use Rattle.txn_core.specs.declared.response.Response.{Response}
pub use Rattle.vote_core.specs.Validity.{IsValid}
pub use Rattle.run_certify.specs.Certified.{IsCertified, IsCertifiedAs}
pub use Rattle.run_certify.specs.Deciding.{AreCounted, HasPlace, IsCounted, IsOfJob, IsPlayed, count_at, counts_after, decision_as, decision_by, job_at, job_of, jobs_after}
pub use Rattle.run_certify.specs.Fulls.{can_all_be_told, can_be_full, can_be_told, parts_in}
pub use Rattle.run_certify.specs.Merges.{IsMerge, IsOrdered, ItemAt, MayPrecede, history_of, items_of}
pub use Rattle.run_certify.specs.Promised.{CertifiedIsPromised}
pub use Rattle.run_certify.specs.Shown.{agent_of, asked, asker, ended, entries_by, if_of, item_by, lacked, served_as}
pub use Rattle.run_certify.specs.Weaves.{event_of, events_at, events_of, operated, past_stamp, rest_from, transcript_of, unused_at, up_to_stamp, weave}
pub use Rattle.run_certify.specs.code.Firsts.{AreAllPlayed, IsFirst, IsFirstBelow, IsLeast, IsNext, IsTaken, Lesser, NoneBelow, at_server}
pub use Rattle.run_certify.specs.code.Lacking.{can_be_told_by}
pub use Rattle.run_certify.specs.code.Turns.{IsTurn, is_asked}
pub use Rattle.run_certify.specs.code.Uses.{EndsOtherwise, HasEnded}
pub use Rattle.run_certify.specs.code.ValidVotes.{AllBegunAreValid, EntriesGiveValidVotes, EntryGivesValidVotes}
pub use Rattle.run_certify.specs.code.Walks.{AskedFails, AskedGoes, EntryFails, EntryGoes, Fails, Goes, IsBegin, IsEnd, IsEvent, IsItemTaken, IsLeft, IsOfRun, IsShorter, IsSound, IsStart, IsUse, Walked, what_was_done, with_decision}
pub use Rattle.run_certify.specs.declared.entry.AgentEntry.{AgentEntry}
pub use Rattle.run_certify.specs.declared.entry.AgentEntry.TheVariants.{Asked, Begun, Ended, Forgot, Lacked}
pub use Rattle.run_certify.specs.declared.fault.CertifyFault.{CertifyFault}
pub use Rattle.run_certify.specs.declared.fault.CertifyFault.TheVariants.{Mismatch}
pub use Rattle.run_certify.specs.declared.heads.Head.{Head}
