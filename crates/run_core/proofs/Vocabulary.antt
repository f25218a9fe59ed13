-- The names that the proofs of this crate take from elsewhere, each with one meaning here.
pub use Rattle.std.proofs.Common.{Bool, Contains, Err, IfErr, IfOk, IfSome, IsSome, List, None, Ok, OnErr, Option, Result, Some, [], ap, arith, cond, false, get_or, inl, is_some, length, nat_lt, option_map, refl, rules, slice_get, slice_set, subst}
pub use Rattle.std.proofs.Common.{suc, sym, take, true, vec_len, zero, ℕ, ◌++◌, ◌+◌, ◌<◌, ◌==◌, ◌||◌, ◌∙◌, ◌∷◌, ◌≡◌}
pub use Rattle.std.proofs.lemmas.Bool.Decides.{nat_tests}
pub use Rattle.std.proofs.lemmas.List.{map-set, take_more}
pub use Rattle.std.proofs.lemmas.List.Elements.{All-cons, All-nil, All-same, All-set}
pub use Rattle.std.proofs.lemmas.Option.{get_or_from_slice_get, none-some, same_Some, slice_get-get_or, slice_get-map, slice_get_cases, slice_get_read, slice_get_within}
pub use Rattle.std.proofs.lemmas.Result.{IfErr-weaker, IfOk-weaker}
pub use Rattle.std.specs.List.{cons_option, last_or}
pub use Rattle.std.specs.Option.{option_or}
pub use Rattle.std.specs.declared.alloc.AllocError.{AllocError}
pub use Rattle.rep_core.proofs.Members.{Has, contains_from}
pub use Rattle.rep_core.specs.Service.{reply_of}
pub use Rattle.rep_core.specs.Serving.{answer_of, is_full, served, takes_no_memory}
pub use Rattle.rep_core.specs.State.{State}
pub use Rattle.rep_core.specs.Wanting.{by_request}
pub use Rattle.rep_core.specs.declared.reply.Reply.{Reply}
pub use Rattle.rep_core.specs.declared.request.Request.{Request}
pub use Rattle.rep_core.specs.declared.stamped.Lack.{Lack}
pub use Rattle.rep_core.specs.declared.stamped.Lack.TheVariants.{Full, Memory}
pub use Rattle.rep_core.specs.declared.stamped.Stamped.{Stamped}
pub use Rattle.suite_prefix.specs.SettingsRules.{Opening}
pub use Rattle.txn_core.specs.Agents.{Agent, begin, begins, fixed_of, forget, max_sites, next_of, started}
pub use Rattle.txn_core.specs.Doing.{Fixed}
pub use Rattle.txn_core.specs.Wanting.{by_job}
pub use Rattle.txn_core.specs.declared.job.Job.{Job}
pub use Rattle.txn_core.specs.declared.response.Response.{Response}
pub use Rattle.txn_core.specs.declared.response.Response.TheVariants.{Lacked, Replied}
pub use Rattle.weak_cache.specs.Entries.{Cache, Entry, forgotten}
pub use Rattle.run_core.specs.Asking.{asked_by}
pub use Rattle.run_core.specs.Decisions.{decided, decisions_from}
pub use Rattle.run_core.specs.Opened.{Opened}
pub use Rattle.run_core.specs.Runs.{after, dones, outcomes}
pub use Rattle.run_core.specs.Senses.{NothingComes, asks_one, can_begin, can_forget}
pub use Rattle.run_core.specs.Telling.{ComesTo, IsFitting, IsFittingIf, IsTold, served_if}
pub use Rattle.run_core.specs.Wanting.{by_asking, by_begin, by_event, by_exchange, by_step, by_stop}
pub use Rattle.run_core.specs.WorkedRuns.{WorkedRuns}
pub use Rattle.run_core.specs.Worlds.{Actor, Stepped, World, actor_at, actors_from, answered, asks, asks_at, becomes, lacked, lacks, lacks_for, moved, opening, operates, outcome_of, quiet, serve, server_at, servers_from, step, steps_once}
pub use Rattle.run_core.specs.code.Exchanges.{IsExchange, IsExchangeOf}
pub use Rattle.run_core.specs.code.Orders.{request_of}
pub use Rattle.run_core.specs.code.Seats.{AreOf, Becomes, Seated, actors_in, after_response, changed, ending_by, seats_from, world_of}
pub use Rattle.run_core.specs.declared.done.Done.{Done}
pub use Rattle.run_core.specs.declared.done.EndedJob.{EndedJob}
pub use Rattle.run_core.specs.declared.done.Served.{Served}
pub use Rattle.run_core.specs.declared.event.Event.{Event}
pub use Rattle.run_core.specs.declared.event.Event.TheVariants.{Begin}
pub use Rattle.run_core.specs.declared.operator.Order.{Order}
