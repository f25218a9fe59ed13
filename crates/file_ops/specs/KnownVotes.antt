-- The votes that a file or a folder may have: they list no server that the service lacks.
use Rattle.std.specs.Prelude.{nat_le, Bool, if◌then◌else◌, Option, Some, None, Result, Ok, Err}
use Rattle.std.specs.List.{list_any}
use Rattle.vote_core.specs.Quorums.{Configuration}
use Rattle.file_ops.specs.declared.refusal.Why.{Why}
use Rattle.file_ops.specs.declared.refusal.Why.TheVariants as why
use Rattle.file_ops.specs.declared.service.Service.{Service}

-- whether votes list a server that there is not
abbrev pub lists_unknown : Service → Configuration → Bool
lists_unknown service votes = list_any (λ rep. nat_le service.servers rep.0) votes.reps

-- these votes, where all their servers are there
abbrev pub known_votes : Service → Configuration → Result Configuration Why
known_votes service votes = if lists_unknown service votes then Err why.UnknownServer else Ok votes

-- the votes of a new file or folder: those that it is given, or C0, the opening votes
abbrev pub votes_of_new : Service → Option Configuration → Result Configuration Why
votes_of_new service (Some votes) = known_votes service votes
votes_of_new service None = Ok service.c0
