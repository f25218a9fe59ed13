-- What is available after some events of a run, and from there on; and that a world so lends it.
use Rattle.std.specs.Prelude.{◌≡◌, true, List, ◌++◌}
use Rattle.suite_prefix.specs.SettingsRules.{Opening}
use Rattle.run_core.specs.declared.event.Event.{Event}
use Rattle.run_core.specs.Opened.{Opened}
use Rattle.law_agents.specs.Sites.{RunsKeepToSites}
use Rattle.law_agents.specs.Steps.{JobsEnd}
use Rattle.law_headline.specs.Premises.{CanBe}
use Rattle.law_headline.specs.Promises.{IsRunOf}
use Rattle.law_run_alone.specs.Alone.{one_at_a_time}
use Rattle.law_run_alone.specs.Endings.{EndAsTheTable, EndingsAreOne, UndisturbedEndingsAreOne}
use Rattle.law_run_alone.specs.Undisturbed.{NothingIsInTheWayAt, UndisturbedAreDecidedAt}
use Rattle.law_run_recovers.specs.Laws.{EndsAreByVotesAt, EndsInTimeAt, MetDemandsAreRowsAt, DecidedWhereVotesAreAt, HomesGoRoundOf, OneOfThemIsDecidedAt, DecidedHadVotesUpAt}
use Rattle.law_run_recovers.specs.InTime.{RunsEndByTheBoundsAt}
use Rattle.law_run_recovers.specs.Local.{UnmetEndByVotesAt, UnmetHadVotesUpAt, UnmetAreDecidedWhereVotesAreAt}
use Rattle.law_run_recovers.specs.Meets.{OneThatMeetsIsDecidedAt}
use Rattle.law_run_recovers.specs.MeetsBeside.{OneThatMeetsBesideIsDecidedAt, WriterOrReaderBesideIsDecidedAt}
use Rattle.law_run_recovers.specs.MeetsByRows.{OneThatMeetsByRowsIsDecidedAt}
use Rattle.law_run_recovers.specs.Among.{AmongLocksEndByVotesAt, AmongLocksLeaveNoLockAt, GoesAmongLocks}
use Rattle.law_run_recovers.specs.Told.{ToldEndByVotesAt, ToldAsAtItsBegin}
use Rattle.law_run_recovers.specs.Beside.{SideBySideAreDecidedAt, SideBySideEndInTimeAt, SideBySideAreToldFreelyAt}
use Rattle.law_run_recovers.specs.BesideDown.{SideBySideAreUnmetAt, SideBySideEndByVotesAt}
use Rattle.law_run_recovers.specs.Histories.{FinishedBeforeAtServerAt, ChangesAreMetAtServerAt}
use Rattle.law_run_recovers.specs.Blocking.{BlockedByDoubtsAt, SomeServerBlocksAt, OneCrashBlocksAt}
use Rattle.law_run_recovers.specs.Sweeping.{SweepsLeaveDoubtsAt, SweepsKeepEffectsAt, OnlyDoubtsAreLeftAt, NoLockIsLeftAt, AllIsStoredAt, TakenAwayAreNeverDecidedAt}
use Rattle.law_run_recovers.specs.Ends.{AreAnsweredAsBegun, EndInTime, HadVotesOpen}
use Rattle.law_run_recovers.specs.Further.{AreDecidedWhereOpen, GatherTheirAsks}
use Rattle.law_run_recovers.specs.Unmet.{GoesUnmet}

-- after these events of a run
pub record IsAvailable (given : Opening) (events : List Event) : Type 0 where
  -- a transaction that begins now, goes alone and is decided had its home up, and enough votes of each suite that it had gathered
  pub had_votes : DecidedHadVotesUpAt given events
  -- one that begins now and goes alone ends, if it ends, with the first suite of which too few votes are up; else, where its home is down, with that; else
  -- as the table answers it
  pub ends : EndsAreByVotesAt given events
  -- and it ends, before its agent took more steps than its locks and the servers bound
  pub in_time : EndsInTimeAt given events
  -- and where votes were never moved until now, it is decided just where its home is up and enough votes are by the rows of the table
  pub where_votes : DecidedWhereVotesAreAt given events
  -- where servers that are up have enough votes of all that a transaction locks, as these votes are found, they have enough by the rows of the table
  pub rows : MetDemandsAreRowsAt given events
  -- one that begins now and that nobody meets ends so too, whatever locks others have elsewhere, and whatever they do there
  pub unmet_ends : UnmetEndByVotesAt given events
  pub unmet_in_time : EndInTime GoesUnmet given events
  pub unmet_had_votes : UnmetHadVotesUpAt given events
  pub unmet_where_votes : UnmetAreDecidedWhereVotesAreAt given events
  -- and one in whose way nothing comes or goes, by the votes that are open to it, whatever locks others left
  pub among_ends : AmongLocksEndByVotesAt given events
  pub among_in_time : EndInTime GoesAmongLocks given events
  pub among_had_votes : HadVotesOpen GoesAmongLocks given events
  pub among_where_votes : AreDecidedWhereOpen GoesAmongLocks given events
  pub among_answers : AreAnsweredAsBegun GoesAmongLocks given events
  -- what is decided of it has gathered just what it asks for on that table; and it leaves no lock
  pub among_gathers : GatherTheirAsks GoesAmongLocks given events
  pub among_leaves : AmongLocksLeaveNoLockAt given events
  -- and so one that is told, whenever it asks, what it would have been told as it began, and whose locks stay
  pub told_ends : ToldEndByVotesAt given events
  pub told_in_time : EndInTime ToldAsAtItsBegin given events
  pub told_had_votes : HadVotesOpen ToldAsAtItsBegin given events
  pub told_where_votes : AreDecidedWhereOpen ToldAsAtItsBegin given events
  pub told_answers : AreAnsweredAsBegun ToldAsAtItsBegin given events
  pub told_gathers : GatherTheirAsks ToldAsAtItsBegin given events
  -- transactions that begin from now on, each where it clashes with none that runs, are decided when they end, as the table at their begin answers them;
  -- they end in time, and are never told Busy, Down or Lost; as long as all servers are up, nobody sweeps and each request is served
  pub beside_decided : SideBySideAreDecidedAt given events
  pub beside_in_time : SideBySideEndInTimeAt given events
  pub beside_told : SideBySideAreToldFreelyAt given events
  -- nobody meets those that go side by side from now on while servers stay down, with no lock at those that are up: each that ends, ends as the votes say that
  -- are up
  pub beside_unmet : SideBySideAreUnmetAt given events
  pub beside_ends : SideBySideEndByVotesAt given events
  -- of two that begin from now on and alone meet, at one suite first and by votes that leave enough to one of them, one is decided once both have ended
  pub one_that_meets : OneThatMeetsIsDecidedAt given events
  -- so it is where votes were set before, by the votes that are in effect as they begin
  pub meets_by_rows : OneThatMeetsByRowsIsDecidedAt given events
  -- and where others are beside, who may be at work already and begin again and again, as long as no lock of theirs is in the way of what the two ask for
  pub meets_beside : OneThatMeetsBesideIsDecidedAt given events
  -- likewise of one that writes and one that reads, where others may read the one suite
  pub reader_beside : WriterOrReaderBesideIsDecidedAt given events
  -- where a server served the Finish of one transaction before a request of another that is none, the first was decided before the second; so a change whose
  -- Finish says that it was answered is met
  pub finished : FinishedBeforeAtServerAt given events
  pub changes_met : ChangesAreMetAtServerAt given events
  -- of as many jobs in a row of one agent as there are servers, each server is the home of one
  pub homes : HomesGoRoundOf given
  -- so one of as many tries of a transaction is decided, where some server is up and enough votes are, from wherever suites may be looked for
  pub again : OneOfThemIsDecidedAt given events
  -- a sweep leaves at its server just the locks in doubt, whose transaction has a prepared one there and its home down, and tells of how many
  -- transactions these are; other servers' locks stay
  pub sweep : SweepsLeaveDoubtsAt given events
  -- a sweep changes no copy in effect, and decides nothing
  pub effects : SweepsKeepEffectsAt given events
  -- after sweeps of all servers that are up just the locks in doubt are left there
  pub doubts : OnlyDoubtsAreLeftAt given events
  -- enough votes are then open for a lock just where those leave enough that are down or have one in doubt which conflicts; so where they are not enough
  -- some server is so; and where one server alone crashes, they are not enough only where it has a vote, or was the home of one that stood prepared
  pub blocked : BlockedByDoubtsAt given events
  pub blocker : SomeServerBlocksAt given events
  pub one_crash : OneCrashBlocksAt given events
  -- after sweeps of all servers, where all are up, none has a lock, whatever other agents are in the middle of
  pub free : NoLockIsLeftAt given events
  -- and then what each server has stored is what was in effect there
  pub stored : AllIsStoredAt given events
  -- a transaction whose locks at some server are all taken away before it is decided never is
  pub never : TakenAwayAreNeverDecidedAt given events
  -- a transaction that begins where every agent is idle, every server up and no lock left is never told Busy or Down, as long as no server crashes and
  -- no other job begins
  pub in_the_way : NothingIsInTheWayAt given events
  -- and it is decided when it ends, as long as none is full and memory is not wanting
  pub undisturbed : UndisturbedAreDecidedAt given events
  -- where jobs went one at a time, the decided ones ended as the table answers them, in their order
  pub endings : one_at_a_time given events ≡ true → EndAsTheTable given events
  -- of this and other runs of the same jobs, one at a time: who ended in both, ended in both the same way, caches or not
  pub same : EndingsAreOne
  pub caches : UndisturbedEndingsAreOne
  -- an agent that has a job asks, and its job is at an end within a bound on its own steps
  pub jobs : JobsEnd
  -- and each that ended in these events kept to these bounds, by the count that it told
  pub bounds : RunsEndByTheBoundsAt given events
  -- nothing is kept for sites that are not there, and events without sense change nothing
  pub sites : RunsKeepToSites

-- After any events that there can be it is so.
abbrev pub WhatCanBeIsAvailable : Type 0
WhatCanBeIsAvailable = (given : Opening) (events : List Event) → CanBe given events → IsAvailable given events

-- A world lends this of every list of events that made it, at each moment: after those of them that came before some later ones.
abbrev pub Lends : Opened → Type 0
Lends opened = (before later : List Event) → IsRunOf opened (before ++ later) → IsAvailable opened.given before
