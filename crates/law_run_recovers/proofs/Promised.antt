-- What a world lends, from the laws of its run.
use Rattle.law_run_recovers.proofs.Vocabulary.{List, Opening, Event, jobs_end, CanBe, front, nothing_is_in_the_way}
use Rattle.run_core.specs.Opened.{Opened}
use Rattle.law_agents.specs.Sites.{RunsKeepToSites}
use Rattle.law_run_alone.proofs.Alike.{undisturbed_endings_are_one}
use Rattle.law_run_alone.proofs.Decided.{undisturbed_are_decided}
use Rattle.law_run_alone.proofs.Endings.{endings_are_the_tables}
use Rattle.law_run_alone.proofs.Same.{endings_are_one}
use Rattle.law_run_recovers.specs.Promises.{IsAvailable, Lends}
use Rattle.law_run_recovers.proofs.Again.{one_of_them_is_decided}
use Rattle.law_run_recovers.proofs.AloneLaws.{ends_are_by_votes, they_end_in_time, decided_where_votes_are}
use Rattle.law_run_recovers.proofs.AmongLaws.{among_locks_end_by_votes, among_locks_are_decided_where_votes_are}
use Rattle.law_run_recovers.proofs.BesideLaws.{side_by_side_are_decided, side_by_side_end_in_time, side_by_side_are_told_freely, side_by_side_are_unmet, side_by_side_end_by_votes}
use Rattle.law_run_recovers.proofs.Blocking.{blocked_by_doubts, some_server_blocks, one_crash_blocks}
use Rattle.law_run_recovers.proofs.Calm.{sweeps_keep_effects}
use Rattle.law_run_recovers.proofs.Free.{no_lock_is_left}
use Rattle.law_run_recovers.proofs.HadVotes.{decided_had_votes_up}
use Rattle.law_run_recovers.proofs.Histories.{finished_before_at_server, changes_are_met_at_server}
use Rattle.law_run_recovers.proofs.Homes.{homes_go_round}
use Rattle.law_run_recovers.proofs.InTime.{runs_end_by_the_bounds}
use Rattle.law_run_recovers.proofs.MeetAlone.{one_that_meets_is_decided, one_that_meets_by_rows_is_decided}
use Rattle.law_run_recovers.proofs.MeetLaw.{one_that_meets_beside_is_decided}
use Rattle.law_run_recovers.proofs.MeetReaders.{writer_or_reader_beside_is_decided}
use Rattle.law_run_recovers.proofs.Rounds.{only_doubts_are_left}
use Rattle.law_run_recovers.proofs.Rows.{met_demands_are_rows}
use Rattle.law_run_recovers.proofs.Stored.{all_is_stored}
use Rattle.law_run_recovers.proofs.Swept.{sweeps_leave_doubts}
use Rattle.law_run_recovers.proofs.LostUndecided.{taken_away_are_never_decided}
use Rattle.law_run_recovers.proofs.AmongDecided.{among_locks_had_votes_open, among_locks_are_answered_as_begun, among_locks_gather_their_asks, unmet_had_votes_up}
use Rattle.law_run_recovers.proofs.UnmetLaws.{unmet_end_by_votes, unmet_are_decided_where_votes_are}
use Rattle.law_run_recovers.proofs.AmongLeft.{among_locks_leave_no_lock}
use Rattle.law_run_recovers.proofs.AmongTime.{among_locks_end_in_time, unmet_end_in_time}
use Rattle.law_run_recovers.proofs.ToldLaws.{told_end_by_votes, told_end_in_time, told_had_votes_open, told_are_decided_where_votes_are, told_are_answered_as_begun, told_gather_their_asks}

pub available : RunsKeepToSites → (given : Opening) (events : List Event) → CanBe given events → IsAvailable given events
available sites given events can = record {
  had_votes = decided_had_votes_up given events;
  ends = ends_are_by_votes given events;
  in_time = they_end_in_time given events;
  where_votes = decided_where_votes_are given events;
  rows = met_demands_are_rows given events can;
  unmet_ends = unmet_end_by_votes given events;
  unmet_in_time = unmet_end_in_time given events;
  unmet_had_votes = unmet_had_votes_up given events;
  unmet_where_votes = unmet_are_decided_where_votes_are given events;
  among_ends = among_locks_end_by_votes given events;
  among_in_time = among_locks_end_in_time given events;
  among_had_votes = among_locks_had_votes_open given events;
  among_where_votes = among_locks_are_decided_where_votes_are given events;
  among_answers = among_locks_are_answered_as_begun given events;
  among_gathers = among_locks_gather_their_asks given events;
  among_leaves = among_locks_leave_no_lock given events;
  told_ends = told_end_by_votes given events;
  told_in_time = told_end_in_time given events;
  told_had_votes = told_had_votes_open given events;
  told_where_votes = told_are_decided_where_votes_are given events;
  told_answers = told_are_answered_as_begun given events;
  told_gathers = told_gather_their_asks given events;
  beside_decided = side_by_side_are_decided given events;
  beside_in_time = side_by_side_end_in_time given events;
  beside_told = side_by_side_are_told_freely given events;
  beside_unmet = side_by_side_are_unmet given events;
  beside_ends = side_by_side_end_by_votes given events;
  one_that_meets = one_that_meets_is_decided given events;
  meets_by_rows = one_that_meets_by_rows_is_decided given events;
  meets_beside = one_that_meets_beside_is_decided given events;
  reader_beside = writer_or_reader_beside_is_decided given events;
  finished = finished_before_at_server given events can;
  changes_met = changes_are_met_at_server given events can;
  homes = homes_go_round given;
  again = one_of_them_is_decided given events;
  sweep = sweeps_leave_doubts given events;
  effects = sweeps_keep_effects given events;
  doubts = only_doubts_are_left given events;
  blocked = blocked_by_doubts given events;
  blocker = some_server_blocks given events;
  one_crash = one_crash_blocks given events;
  free = no_lock_is_left given events;
  stored = all_is_stored given events;
  never = taken_away_are_never_decided given events;
  in_the_way = nothing_is_in_the_way given can.accepted events;
  undisturbed = undisturbed_are_decided given events;
  endings = endings_are_the_tables given events can;
  same = endings_are_one;
  caches = undisturbed_endings_are_one;
  jobs = jobs_end;
  bounds = runs_end_by_the_bounds given events can;
  sites = sites;
}

pub lends : RunsKeepToSites → (opened : Opened) → Lends opened
lends sites opened before later is = available sites opened.given before (front opened.given before later is.can_be)
