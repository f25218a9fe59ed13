-- Valid votes, and the faults that keep votes from being valid.
use Rattle.std.specs.Prelude.{ℕ, ◌+◌, ◌*◌, ◌<◌, ◌≤◌, ◌==◌, nat_lt, nat_le, nat_eq, Bool, false, ◌||◌, List, [], ◌∷◌, length, map, All, Option}
use Rattle.std.specs.List.{list_any, find, IsDistinct}
use Rattle.vote_core.specs.declared.fault.VotesFault.{VotesFault}
use Rattle.vote_core.specs.declared.fault.VotesFault.TheVariants.{Empty, UnknownServer, ListedTwice, NoVotes, ThresholdOutOfRange, ReadMissesWrite, WritesDisjoint}
use Rattle.vote_core.specs.Quorums.{Representative, Configuration, total_votes}

-- the servers that votes may name are those below this number; a limit of this project
abbrev pub max_servers : ℕ
max_servers = 32

-- Valid votes. Gifford asks that "r+w is greater than the total number of votes assigned to the file". That 2w is
-- greater too is a rule of this project, as are the limits on servers and on the votes of one of them.
pub record IsValid (votes : Configuration) : Type 0 where
  pub some_listed : 0 < length votes.reps
  pub numbered : All (λ rep. rep.0 < max_servers) votes.reps
  pub few_votes : All (λ rep. rep.1 < 256) votes.reps
  pub listed_once : IsDistinct nat_eq (map (λ rep. rep.0) votes.reps)
  pub some_votes : 0 < total_votes votes.reps
  pub r_in_range : (0 < votes.r) × (votes.r ≤ total_votes votes.reps)
  pub w_in_range : (0 < votes.w) × (votes.w ≤ total_votes votes.reps)
  pub reads_meet_writes : total_votes votes.reps < votes.r + votes.w
  pub writes_meet : total_votes votes.reps < 2 * votes.w

-- votes that are accepted where there are this many servers
pub record IsAccepted (servers : ℕ) (votes : Configuration) : Type 0 where
  pub known : All (λ rep. rep.0 < servers) votes.reps
  pub valid : IsValid votes

-- whether a server is listed more than once
abbrev pub lists_twice : List Representative → Bool
lists_twice [] = false
lists_twice (rep ∷ reps) = list_any (λ later. later.0 == rep.0) reps || lists_twice reps

-- whether a number of votes is none, or more than there are
abbrev pub is_out_of_range : ℕ → ℕ → Bool
is_out_of_range threshold total = (threshold == 0) || nat_lt total threshold

-- whether votes have a fault, where there are this many servers
abbrev pub has_fault : VotesFault → ℕ → Configuration → Bool
has_fault Empty servers votes = length votes.reps == 0
has_fault UnknownServer servers votes = list_any (λ rep. nat_le servers rep.0 || nat_le max_servers rep.0) votes.reps
has_fault ListedTwice servers votes = lists_twice votes.reps
has_fault NoVotes servers votes = total_votes votes.reps == 0
has_fault ThresholdOutOfRange servers votes = is_out_of_range votes.r (total_votes votes.reps) || is_out_of_range votes.w (total_votes votes.reps)
has_fault ReadMissesWrite servers votes = nat_le (votes.r + votes.w) (total_votes votes.reps)
has_fault WritesDisjoint servers votes = nat_le (2 * votes.w) (total_votes votes.reps)

-- the faults in the order in which they are answered
abbrev pub faults : List VotesFault
faults = Empty ∷ UnknownServer ∷ ListedTwice ∷ NoVotes ∷ ThresholdOutOfRange ∷ ReadMissesWrite ∷ WritesDisjoint ∷ []

-- the first fault of votes
abbrev pub first_fault : ℕ → Configuration → Option VotesFault
first_fault servers votes = find (λ fault. has_fault fault servers votes) faults
