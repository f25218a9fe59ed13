-- The names that the proofs of this crate take from elsewhere, each with one meaning here.
pub use Rattle.std.proofs.Common.{All, Bool, Err, List, None, Option, Some, Vec, [], ap, append_assoc, arith, cond, drop, false, inl, inr, length, map, max}
pub use Rattle.std.proofs.Common.{refl, replicate, rules, set, slice_index, slice_set, subst, suc, sym, true, true≢false, zero, ℕ, ⊎_elim, ◌++◌, ◌+◌, ◌-◌, ◌<◌}
pub use Rattle.std.proofs.Common.{◌↔◌, ◌∙◌, ◌∷◌, ◌≡◌, ◌≢◌, ◌≤◌, ◌⊎◌}
pub use Rattle.std.proofs.Math.ListN.{length-set}
pub use Rattle.std.proofs.lemmas.Bool.{and_parts, eq-eqb, ltb-true, ne_eqb}
pub use Rattle.std.proofs.lemmas.List.{drop_more, get_or-take, length-append, length-map, length-take, take_all}
pub use Rattle.std.proofs.lemmas.List.Elements.{All-cons, All-head, All-nil, All-push, All-same, All-tail, Contains-append_cases, Contains-append_left}
pub use Rattle.std.proofs.lemmas.List.Elements.{Contains-append_right, filter-append}
pub use Rattle.std.proofs.lemmas.Option.{same_Some, slice_get-get_or, slice_get_read, slice_get_within}
pub use Rattle.std.specs.List.{AllZip, remove}
pub use Rattle.std.specs.Option.{option_or}
pub use Rattle.std.specs.Prelude.{Contains, IfErr, IfOk, IfSome, IsErrAnd, IsTrue, Ok, Result, get_or, if◌then◌else◌, is_some, nat_lt, slice_get}
pub use Rattle.std.specs.Prelude.{slice_index_or, ◌&&◌, ◌==◌}
pub use Rattle.std.specs.Vec.Iter.{into_iter_items, into_iter_len}
pub use Rattle.std.specs.declared.alloc.Global.{Global}
pub use Rattle.atomic_table.proofs.Lists.{at_set, at_snoc}
pub use Rattle.crossbeam_channel.specs.Claims.{IsSeatAt, Pass, view}
pub use Rattle.crossbeam_channel.specs.Ends.{receives_on, sends_on}
pub use Rattle.crossbeam_channel.specs.Fifo.{Forks, Merges, Pops, Pushes}
pub use Rattle.rep_core.specs.Fits.{fits}
pub use Rattle.rep_core.specs.declared.reply.Reply.{Reply}
pub use Rattle.rep_core.specs.declared.request.Request.{Request}
pub use Rattle.rep_core.specs.declared.stamped.Stamped.{Stamped}
pub use Rattle.run_certify.specs.declared.entry.AgentEntry.{AgentEntry}
pub use Rattle.run_certify.specs.declared.entry.AgentEntry.TheVariants.{Asked, Begun, Ended, Forgot}
pub use Rattle.run_core.specs.declared.done.EndedJob.{EndedJob}
pub use Rattle.server_lock.specs.Counts.{passes_by, seat_of}
pub use Rattle.server_lock.specs.Passes.{Held, after_item, after_reply, agents_from, front_at, new_pass, sent_stamp}
pub use Rattle.server_lock.specs.declared.miss.Miss.{Miss}
pub use Rattle.server_lock.specs.declared.miss.Miss.TheVariants.{Lack, Stale}
pub use Rattle.suite_prefix.specs.SettingsRules.{Opening}
pub use Rattle.txn_core.specs.Agents.{Agent, Taken, begin, end_of, has_sense, is_idle, left, max_jobs, next_of, started, take_in}
pub use Rattle.txn_core.specs.Doing.{After, Doing, Ends, Fixed, Running, RunningSweep}
pub use Rattle.txn_core.specs.Standing.{FitsAsked, Standing}
pub use Rattle.txn_core.specs.declared.ending.Ending.{Ending}
pub use Rattle.txn_core.specs.declared.job.Job.TheVariants.{Sweep, Transaction}
pub use Rattle.txn_core.specs.declared.response.Response.{Response}
pub use Rattle.agent_pool.specs.Gathers.{Gathers, HaveOne, IsDouble, IsMissing, NoneFailed, TellsOf, first_strange, first_stuck, lacked_or, lacks_memory}
pub use Rattle.agent_pool.specs.Gathers.{places, places_by, strange_or, stuck_or}
pub use Rattle.agent_pool.specs.Line.{HaveSame, IsTaker, MayPut, feeder, places_below, weigh, with_taker}
pub use Rattle.agent_pool.specs.Pools.{AreApart, AreInOrder, AreOutcomes, IsFaultOf, IsOutcome, IsPoolOf, begun_by, job_numbers}
pub use Rattle.agent_pool.specs.Seats.{AreDistinct, AreReady, HasPass, IsOther, WentOn, numbers_of, passes_for}
pub use Rattle.agent_pool.specs.Taken.{AllTook, AreTaken, HasReason, IsHandedBack, Took}
pub use Rattle.agent_pool.specs.Transcripts.{AreAsks, At, Does, IsIdle, IsLonger, IsTold, Leads, Played, after_response, at_rest, first_player, is_ask}
pub use Rattle.agent_pool.specs.Transcripts.{most_numbers, number_of, players_from}
pub use Rattle.agent_pool.specs.code.Back.{IsBack}
pub use Rattle.agent_pool.specs.code.Filled.{AreBelow, AreIdle, AreInOrderIn, AreNone, AreOfThese, IsFilled, IsPut, KeepFilled, done_in, filled_in, players_of}
pub use Rattle.agent_pool.specs.code.Filled.{sitting}
pub use Rattle.agent_pool.specs.code.Gathering.{AllRan, AreGathered, AreSeen, AreWithin, HasRoom, IsEmpty, IsGathered, IsTaken, IsWithin}
pub use Rattle.agent_pool.specs.code.Seated.{AreSeated, IsSeated, IsTakenOut}
pub use Rattle.agent_pool.specs.code.Slots.{slot_of, slots_of}
pub use Rattle.agent_pool.specs.code.Starts.{Comes, IsStart, IsWorkOf}
pub use Rattle.agent_pool.specs.code.Steps.{AsksNobody, CannotGoOn, DidJob, DidMore, HasSeen, Hears, RanTo, delivery_from, end_entry, known_after, stamp_in}
pub use Rattle.agent_pool.specs.code.Working.{AllDone, IsDone, IsHalted, IsWorked, RiseBetween, RiseInPlace}
pub use Rattle.agent_pool.specs.declared.asking.Came.{Came}
pub use Rattle.agent_pool.specs.declared.asking.Delivery.{Delivery}
pub use Rattle.agent_pool.specs.declared.fault.PoolFault.{PoolFault}
pub use Rattle.agent_pool.specs.declared.fault.PoolFault.TheVariants.{Double, Memory, Missing, Stranger}
pub use Rattle.agent_pool.specs.declared.line.Hand.{Hand}
pub use Rattle.agent_pool.specs.declared.line.PoolItem.{PoolItem}
pub use Rattle.agent_pool.specs.declared.line.PoolItem.TheVariants.{End}
pub use Rattle.agent_pool.specs.declared.outcome.JobOutcome.{JobOutcome}
pub use Rattle.agent_pool.specs.declared.pool.Pool.{Pool}
pub use Rattle.agent_pool.specs.declared.pool_context.NamedJob.{NamedJob}
pub use Rattle.agent_pool.specs.declared.start.Start.{Start}
pub use Rattle.agent_pool.specs.declared.work.Halt.{Halt}
pub use Rattle.agent_pool.specs.declared.work.Halt.TheVariants.{Strange, Stuck}
pub use Rattle.agent_pool.specs.declared.work.JobDone.{JobDone}
pub use Rattle.agent_pool.specs.declared.work.SeatedAgent.{SeatedAgent}
pub use Rattle.agent_pool.specs.declared.work.Worked.{Worked}
