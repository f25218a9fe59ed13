-- The names that the proofs of this crate take from elsewhere, each with one meaning here.
pub use Rattle.std.proofs.Common.{Bool, Err, List, None, Ok, Option, Result, Some, [], ap, append_assoc, arith, drop, false, get_or, inl, inr, length, map, refl, reverse, rules, subst, suc, sym, take, true, zero, ℕ, ⊎_elim, ◌++◌, ◌+◌, ◌-◌, ◌/◌, ◌<◌}
pub use Rattle.std.proofs.Common.{◌∙◌, ◌∷◌, ◌≡◌, ◌≤◌, ◌⊎◌}
pub use Rattle.std.proofs.lemmas.Bool.{cases_Bool, cond-false, cond-true, eq-eqb, eqb-true, false≢true, ltb-true}
pub use Rattle.std.proofs.lemmas.Bool.Decides.{eqb_tells}
pub use Rattle.std.proofs.lemmas.Fn.{filter_same}
pub use Rattle.std.proofs.lemmas.List.{append-nil, reverse-append, take_more}
pub use Rattle.std.proofs.lemmas.List.Elements.{Contains-append_cases, Contains-append_left, Contains-append_right, Contains-get_or, Contains-push, Contains-push_cases}
pub use Rattle.std.proofs.lemmas.Option.{none-some, same_Some}
pub use Rattle.std.proofs.lemmas.Result.{on_ok_weaker}
pub use Rattle.std.proofs.lemmas.Slice.Eq.{bytes_eq-Decides, slice_eq-Decides}
pub use Rattle.std.specs.List.{filter, insert}
pub use Rattle.std.specs.Prelude.{Contains, IfOk, IsTrue, OnOk, nat_eq, not, slice_get, ◌==◌, ◌↔◌, ◌≢◌}
pub use Rattle.acl_core.proofs.ListsEquality.{same_lists_decides}
pub use Rattle.acl_core.specs.Identity.{Identity}
pub use Rattle.file_ops.specs.Operations.{Performed, act, operation}
pub use Rattle.file_ops.specs.Paths.{names_of}
pub use Rattle.file_ops.specs.Rows.{PlainTable, Rows}
pub use Rattle.file_ops.specs.Steps.{found_or, ◌>>=◌, ◌>>◌}
pub use Rattle.file_ops.specs.Transactions.{Played, play, replies, transaction}
pub use Rattle.file_ops.specs.code.AnswerEquality.{same_answer, same_answer_decides}
pub use Rattle.file_ops.specs.declared.answer.Answer.{Answer}
pub use Rattle.file_ops.specs.declared.operation.Action.{Action}
pub use Rattle.file_ops.specs.declared.operation.Op.{Op}
pub use Rattle.file_ops.specs.declared.refusal.Refusal.{Refusal}
pub use Rattle.file_ops.specs.declared.refusal.Why.{Why}
pub use Rattle.file_ops.specs.declared.service.Service.{Service}
pub use Rattle.history_judge.specs.Alike.{AreSameAt, AskSame, DoSame, Waits}
pub use Rattle.history_judge.specs.Events.{Comes, ComesOn, Ends, GoesOn, HasGrown, IsAdmitted, IsDone, IsGone, IsKeptIn, IsLayer, IsMore, IsNext, IsPassed, IsSearched, IsSearchedAt, LeadsFrom, LeadsInto, SomeEnds}
pub use Rattle.history_judge.specs.Fronts.{cut, front, told_before}
pub use Rattle.history_judge.specs.Histories.{FitsTold, IsOrderOf, WasTold, WasToldBefore, after_call, calls_of, left_by, outcome, outcome_of, unnumbered}
pub use Rattle.history_judge.specs.Links.{HasNone, IsBack, link_to}
pub use Rattle.history_judge.specs.Orders.{AllStand, Calls, IsOrder, Stands}
pub use Rattle.history_judge.specs.Placing.{AllHold, AreUnfit, Holds, IsAdded, IsAfter, IsAtOnce, IsFoundIn, IsOrderIn, IsReached, IsTried, IsUntold, IsWith, Kept, LeavesUntold, set_of}
pub use Rattle.history_judge.specs.Reads.{AsksToRead, ChangesNothing, IsIdleCall, IsQuietCall, IsRead, IsToldRefusal, OnlyReads}
pub use Rattle.history_judge.specs.Searches.{AreSame, CanEnd, Completes, IsIdle, IsQuiet, LeadsTo}
pub use Rattle.history_judge.specs.Verdicts.{IsRefuted, IsStuck, IsToldOf}
pub use Rattle.history_judge.specs.Windows.{AreSettled, IfDue, IsDue, IsEarlier, IsFirst, IsLeast, IsNoLater, IsToldAt, IsWindow, IsWithout, StopsAt, WasToldAt, due_of, since, since_told}
pub use Rattle.history_judge.specs.declared.history.Call.{Call}
pub use Rattle.history_judge.specs.declared.history.CallReply.{CallReply}
pub use Rattle.history_judge.specs.declared.history.CallRequest.{CallRequest}
pub use Rattle.history_judge.specs.declared.links.Link.{Link}
pub use Rattle.history_judge.specs.declared.placed.Placed.{Placed}
pub use Rattle.history_judge.specs.declared.window.Due.{Due}
pub use Rattle.history_judge.specs.declared.window.Window.{Window}
