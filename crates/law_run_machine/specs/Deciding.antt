-- What an agent does to one suite by itself: what it fixes to write there, what it has decided, and that it gives up.
use Rattle.std.specs.Prelude.{ℕ, ◌+◌, nat_le, Bool, true, false, ◌&&◌, ◌||◌, if◌then◌else◌, List, [], ◌∷◌, ◌++◌, Option, Some, None, Ok, Err}
use Rattle.suite_content.specs.declared.content.Content.{Content}
use Rattle.file_exec.specs.declared.changes.Change as executor
use Rattle.rep_core.specs.declared.reply.Verdict.TheVariants as verdict
use Rattle.txn_core.specs.declared.ending.Ending.{Ending}
use Rattle.txn_core.specs.declared.ending.Ending.TheVariants as ending
use Rattle.txn_core.specs.Suites.{ReadPoint, GatheredSuite, Suites, suite_of}
use Rattle.txn_core.specs.Writing.{change_of, new_prefix, one_if}
use Rattle.txn_core.specs.Doing.{Task, Proposal, Phase, Preparing, Deciding, Finishing, Doing, Running}
use Rattle.txn_core.specs.Transactions.{changes_of}
use Rattle.txn_core.specs.Agents.{Taken}
use Rattle.law_suite_machine.specs.Registers.{Known, Change}
use Rattle.law_suite_machine.specs.Machine.{Told, Answered, Refused, World}
use Rattle.law_suite_machine.specs.Events.{Event, Aim, DecideRead, DecideRefused, DecideWrite, DecideElsewhere, GiveUp}

-- ---- what is to be written

-- a content is sent where content or votes change
abbrev pub content_to : executor.Change → Option Content
content_to change = if change.content || change.votes then Some change.row.content else None

abbrev pub change_to : ReadPoint → executor.Change → Change
change_to first change = record { prefix = new_prefix first change; dver = first.dver + one_if change.content; content = content_to change }

abbrev pub written_from : Option ReadPoint → Option executor.Change → Option Change
written_from (Some first) (Some change) = Some (change_to first change)
written_from first change = None

abbrev pub first_of : Option GatheredSuite → Option ReadPoint
first_of (Some suite) = suite.first
first_of None = None

-- what a transaction is to write to the suite, by what it gathered and what its operations came to
abbrev pub to_write : ℕ → Suites → Proposal → Option Change
to_write z suites outcome = written_from (first_of (suite_of suites z)) (change_of (changes_of outcome) z)

-- ---- the decision

-- whether a server told the transaction of a copy, none newer than it knows
abbrev pub showed : Known → Option Told → Bool
showed known None = false
showed known (Some told) = nat_le told.copy.prefix.pver known.prefix.pver && nat_le told.copy.dver known.dver

abbrev pub showed_to : World → ℕ → Known → ℕ → Bool
showed_to w t known i = showed known (w.told i t)

abbrev pub known_by : ReadPoint → GatheredSuite → Known
known_by first suite = record { prefix = first.prefix; dver = first.dver; content = suite.content }

-- of a suite of which it knows so much
abbrev pub decides_with : World → ℕ → Known → Proposal → Option Change → Event
decides_with w t known (Err refusal) new = DecideRefused t (showed_to w t known) known
decides_with w t known (Ok granted) None = DecideRead t (showed_to w t known) known
decides_with w t known (Ok granted) (Some new) = DecideWrite t (showed_to w t known) known new

-- of one of which it knows nothing
abbrev pub decides_without : ℕ → Proposal → Event
decides_without t (Ok granted) = DecideElsewhere t Answered
decides_without t (Err refusal) = DecideElsewhere t Refused

abbrev pub decides_first : World → ℕ → Proposal → Option Change → GatheredSuite → Option ReadPoint → Event
decides_first w t outcome new suite (Some first) = decides_with w t (known_by first suite) outcome new
decides_first w t outcome new suite None = decides_without t outcome

abbrev pub decides_on : World → ℕ → Proposal → Option Change → Option GatheredSuite → Event
decides_on w t outcome new (Some suite) = decides_first w t outcome new suite suite.first
decides_on w t outcome new None = decides_without t outcome

-- what the decision of a transaction with such an outcome is to the suite
abbrev pub decision_with : ℕ → World → Task → Suites → Proposal → Event
decision_with z w task suites outcome = decides_on w task.t outcome (to_write z suites outcome) (suite_of suites z)

-- what an agent asks to have decided is to the suite; another than one that is deciding asks nothing of the kind
abbrev pub decision_in : ℕ → World → Task → Suites → Phase → Event
decision_in z w task suites (Deciding outcome) = decision_with z w task suites outcome
decision_in z w task suites other = GiveUp task.t

abbrev pub decision_by : ℕ → World → Option Doing → Event
decision_by z w (Some (Running txn_run)) = decision_in z w txn_run.task txn_run.suites txn_run.phase
decision_by z w other = GiveUp 0

-- ---- what it fixes, and that it gives up

-- its outcome, once that is fixed
abbrev pub fixed_in : Phase → Option Proposal
fixed_in (Preparing left outcome) = Some outcome
fixed_in (Deciding outcome) = Some outcome
fixed_in other = None

abbrev pub aim_of : ℕ → Option Change → List Event
aim_of t (Some new) = Aim t new ∷ []
aim_of t None = []

-- where its outcome becomes fixed
abbrev pub aims_once : ℕ → ℕ → Suites → Option Proposal → Option Proposal → List Event
aims_once z t suites None (Some outcome) = aim_of t (to_write z suites outcome)
aims_once z t suites before after = []

abbrev pub aims : ℕ → ℕ → Option Proposal → Option Doing → List Event
aims z t before (Some (Running txn_run)) = aims_once z t txn_run.suites before (fixed_in txn_run.phase)
aims z t before other = []

-- whether it tells servers how it ended
abbrev pub is_finishing : Phase → Bool
is_finishing (Finishing servers verdict ending) = true
is_finishing other = false

abbrev pub is_undecided : Ending → Bool
is_undecided (ending.Undecided cause) = true
is_undecided other = false

-- whether it is to tell servers that it was aborted
abbrev pub tells_aborted : Phase → Bool
tells_aborted (Finishing servers verdict.Aborted ending) = true
tells_aborted other = false

abbrev pub ended_undecided : Option Ending → Bool
ended_undecided (Some ending) = is_undecided ending
ended_undecided None = false

abbrev pub is_at_an_end : Option Doing → Option Ending → Bool
is_at_an_end (Some (Running txn_run)) ending = tells_aborted txn_run.phase
is_at_an_end other ending = ended_undecided ending

-- where it comes to an end without a verdict; it does so before it tells servers
abbrev pub gives_up : ℕ → Bool → Taken → List Event
gives_up t finishing taken = if finishing then [] else if is_at_an_end taken.agent.doing taken.ending then GiveUp t ∷ [] else []

-- what an agent does to the suite by itself where it begins a job
abbrev pub begun_events : ℕ → Option Doing → Option Doing → List Event
begun_events z None (Some (Running txn_run)) = aims z txn_run.task.t None (Some (Running txn_run)) ++ (if tells_aborted txn_run.phase then GiveUp txn_run.task.t ∷ [] else [])
begun_events z before after = []

-- what an agent does to the suite by itself once it took a response: a sweep does nothing
abbrev pub own_events : ℕ → Option Doing → Taken → List Event
own_events z (Some (Running before)) taken = aims z before.task.t (fixed_in before.phase) taken.agent.doing ++ gives_up before.task.t (is_finishing before.phase) taken
own_events z other taken = []
