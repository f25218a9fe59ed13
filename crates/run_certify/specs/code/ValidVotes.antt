-- That all votes in transcripts are valid.
use Rattle.std.specs.Prelude.{List}
use Rattle.std.specs.List.{AllByRecursion}
use Rattle.law_headline.specs.Premises.{JobGivesValidVotes}
use Rattle.run_certify.specs.declared.entry.AgentEntry.{AgentEntry}
use Rattle.run_certify.specs.declared.entry.AgentEntry.TheVariants.{Begun}

-- a job that was begun gives valid votes
abbrev pub EntryGivesValidVotes : AgentEntry → Type 0
EntryGivesValidVotes (Begun job) = JobGivesValidVotes job
EntryGivesValidVotes _ = Unit {0}

abbrev pub EntriesGiveValidVotes : List AgentEntry → Type 0
EntriesGiveValidVotes entries = AllByRecursion EntryGivesValidVotes entries

abbrev pub AllBegunAreValid : List (List AgentEntry) → Type 0
AllBegunAreValid transcripts = AllByRecursion EntriesGiveValidVotes transcripts
