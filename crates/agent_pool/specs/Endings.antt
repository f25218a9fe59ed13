-- How a job ended, in the transcript of its agent.
use Rattle.std.specs.Prelude.{ℕ, ◌==◌, List, slice_get, Option, Some, None}
use Rattle.std.specs.List.{find}
use Rattle.run_core.specs.declared.done.EndedJob.{EndedJob}
use Rattle.run_certify.specs.declared.entry.AgentEntry.{AgentEntry}
use Rattle.run_certify.specs.declared.entry.AgentEntry.TheVariants.{Ended}
use Rattle.agent_pool.specs.declared.outcome.JobOutcome.{JobOutcome}
use Rattle.agent_pool.specs.Transcripts.{Played, number_of}

abbrev pub end_of : Option AgentEntry → Option EndedJob
end_of (Some (Ended outcome)) = Some outcome
end_of _ = None

-- the end at a place of a transcript
abbrev pub end_at : List AgentEntry → ℕ → Option EndedJob
end_at entries at = end_of (slice_get entries at)

abbrev pub end_by : ℕ → Option Played → Option EndedJob
end_by at (Some player) = end_at player.entries at
end_by at None = None

-- the end that an outcome names, in the transcript of the first agent of its number
abbrev pub ended_at : List Played → JobOutcome → Option EndedJob
ended_at players outcome = end_by outcome.at (find (λ player. number_of player == outcome.agent) players)
