-- Votes as words: a field for each server from 0 on, with commas between, then what a read and what a write collects,
-- as `2,-,1/2/3`. A hyphen stands for a server that is not listed.
use Rattle.std.specs.Prelude.{ℕ, ◌+◌, ◌==◌, nat_lt, max, if◌then◌else◌, List, [], ◌∷◌, ◌++◌, codes, decimal, option_map, Option, Some, None, Result, Ok, Err}
use Rattle.std.specs.List.{find, fold, join_by, range_with_len, slice_split}
use Rattle.std.specs.Str.{bytes_eq}
use Rattle.file_ops.specs.Steps.{◌>>=◌, found_or}
use Rattle.script_text.specs.Numbers.{number_up_to}
use Rattle.vote_core.specs.Quorums.{Configuration, Representative}
use Rattle.vote_core.specs.Validity.{first_fault}
use Rattle.vote_core.specs.declared.TheConstants.{MAX_SERVERS}
use Rattle.vote_core.specs.declared.fault.VotesFault.{VotesFault}
use Rattle.suite_script.specs.Words.{Word}
use Rattle.suite_script.specs.declared.fault.LineFault.{LineFault}
use Rattle.suite_script.specs.declared.fault.LineFault.TheVariants.{Form, Votes}

-- the most votes of a server, and the most votes that a read or a write may be said to collect
abbrev pub max_votes : ℕ
max_votes = 255

abbrev pub max_collected : ℕ
max_collected = 65535

-- a server with its votes, before others
abbrev pub with_votes : ℕ → Option ℕ → Option (List Representative) → Option (List Representative)
with_votes server (Some votes) (Some reps) = Some ((server, votes) ∷ reps)
with_votes server _ _ = None

-- what the field of a server adds to those after it
abbrev pub with_field : ℕ → Word → Option (List Representative) → Option (List Representative)
with_field server field reps = if bytes_eq field (codes "-") then reps else with_votes server (number_up_to max_votes field) reps

-- what the fields of the servers from one on list; there is no field for a server that there cannot be
abbrev pub reps_from : ℕ → List Word → Option (List Representative)
reps_from server [] = Some []
reps_from server (field ∷ fields) = if nat_lt server MAX_SERVERS then with_field server field (reps_from (server + 1) fields) else None

abbrev pub collected : Option (List Representative) → Option ℕ → Option ℕ → Option Configuration
collected (Some reps) (Some r) (Some w) = Some (record { reps = reps; r = r; w = w })
collected _ _ _ = None

abbrev pub configuration_of : List Word → Option Configuration
configuration_of (fields ∷ r ∷ w ∷ []) =
    collected (reps_from 0 (slice_split (λ byte. byte == 44) fields)) (number_up_to max_collected r) (number_up_to max_collected w)
configuration_of parts = None

-- the configuration that a word writes down, be it valid or not
abbrev pub configuration_in : Word → Option Configuration
configuration_in text = configuration_of (slice_split (λ byte. byte == 47) text)

-- votes that are valid where there are so many servers, or their first fault
abbrev pub judged : ℕ → Configuration → Result Configuration LineFault
judged servers votes = with_fault (first_fault servers votes)
  where
    with_fault : Option VotesFault → Result Configuration LineFault
    with_fault None = Ok votes
    with_fault (Some fault) = Err (Votes fault)

-- votes as a word, where there are so many servers: first its form is judged, then what it says
abbrev pub votes_in : ℕ → Word → Result Configuration LineFault
votes_in servers text = do
  votes ← found_or (configuration_in text) Form
  judged servers votes

-- the votes that are listed for a server, if it is listed
abbrev pub listed_votes : List Representative → ℕ → Option ℕ
listed_votes reps server = option_map (λ rep. rep.1) (find (λ rep. rep.0 == server) reps)

abbrev pub field_of : Option ℕ → List ℕ
field_of (Some votes) = decimal votes
field_of None = codes "-"

-- the field of a server
abbrev pub field_text : List Representative → ℕ → List ℕ
field_text reps server = field_of (listed_votes reps server)

-- the last listed server
abbrev pub last_server : List Representative → ℕ
last_server reps = fold (λ last rep. max last rep.0) 0 reps

-- the fields of all servers up to the last that is listed
abbrev pub fields_text : List Representative → List ℕ
fields_text reps = join_by (field_text reps) (codes ",") (range_with_len 0 (last_server reps + 1))

-- votes as they are printed
abbrev pub votes_text : Configuration → List ℕ
votes_text votes = fields_text votes.reps ++ codes "/" ++ decimal votes.r ++ codes "/" ++ decimal votes.w
