-- A run that there can be: from an accepted opening, with votes that are valid, as all votes of the code are by their type.
use Rattle.std.specs.Prelude.{List, Option, Some, None}
use Rattle.std.specs.List.{AllByRecursion}
use Rattle.vote_core.specs.Quorums.{Configuration}
use Rattle.vote_core.specs.Validity.{IsValid}
use Rattle.suite_prefix.specs.SettingsRules.{Opening, IsAccepted}
use Rattle.file_ops.specs.declared.operation.Action.{Action}
use Rattle.file_ops.specs.declared.operation.Action.TheVariants as action
use Rattle.file_ops.specs.declared.operation.Op.{Op}
use Rattle.txn_core.specs.declared.job.Job.{Job}
use Rattle.txn_core.specs.declared.job.Job.TheVariants.{Transaction, Sweep}
use Rattle.run_core.specs.declared.event.Event.{Event}
use Rattle.run_core.specs.declared.event.Event.TheVariants.{Begin}

-- the votes of what is made, where some are given
abbrev pub AreValid : Option Configuration → Type 0
AreValid (Some votes) = IsValid votes
AreValid None = Unit {0}

-- an operation sets no votes but valid ones
abbrev pub GivesValidVotes : Action → Type 0
GivesValidVotes (action.Make kind init votes) = AreValid votes
GivesValidVotes (action.SetVotes votes) = IsValid votes
GivesValidVotes _ = Unit {0}

abbrev pub AllGiveValidVotes : List Op → Type 0
AllGiveValidVotes ops = AllByRecursion (λ (op : Op). GivesValidVotes op.action) ops

abbrev pub JobGivesValidVotes : Job → Type 0
JobGivesValidVotes (Transaction caller site ops) = AllGiveValidVotes ops
JobGivesValidVotes (Sweep server) = Unit {0}

abbrev pub EventGivesValidVotes : Event → Type 0
EventGivesValidVotes (Begin number job) = JobGivesValidVotes job
EventGivesValidVotes _ = Unit {0}

-- all that a list of events gives
abbrev pub VotesAreValid : List Event → Type 0
VotesAreValid events = AllByRecursion EventGivesValidVotes events

pub record CanBe (given : Opening) (events : List Event) : Type 0 where
  pub accepted : IsAccepted given
  pub c0 : IsValid given.c0
  pub votes : VotesAreValid events
