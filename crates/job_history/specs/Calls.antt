-- What jobs ask for, and the lines above all calls, as they stand in a history.
use Rattle.std.specs.Prelude.{ℕ, List, ◌++◌, codes, decimal, map}
use Rattle.std.specs.List.{flat_map}
use Rattle.acl_core.specs.Identity.{Identity}
use Rattle.acl_text.specs.Writing.{short_text}
use Rattle.vote_core.specs.Quorums.{Configuration}
use Rattle.suite_prefix.specs.SettingsRules.{Opening}
use Rattle.suite_script.specs.Faults.{line_feed}
use Rattle.suite_script.specs.Votes.{votes_text}
use Rattle.txn_core.specs.declared.job.Job.{Job}
use Rattle.txn_core.specs.declared.job.Job.TheVariants.{Transaction, Sweep}
use Rattle.job_history.specs.Operations.{ops_text}

-- groups, with a comma before each
abbrev pub groups_text : List ℕ → List ℕ
groups_text groups = flat_map (λ group. codes "," ++ decimal group) groups

-- a caller: its user, its own group, and its other groups
abbrev pub caller_text : Identity → List ℕ
caller_text caller = decimal caller.uid ++ codes " " ++ decimal caller.gid ++ groups_text caller.groups ++ codes " "

-- what a job asks for; a sweep is no call of a client
abbrev pub job_text : Configuration → Job → List ℕ
job_text c0 (Transaction caller site ops) = caller_text caller ++ ops_text c0 ops
job_text c0 (Sweep server) = codes "sweep " ++ decimal server

-- ---- above all calls

-- the root folder's owner and group
abbrev pub root_text : Opening → List ℕ
root_text given = decimal given.root_owner ++ codes " " ++ decimal given.root_group ++ codes " "

abbrev pub root_line : Opening → List ℕ
root_line given = codes "root " ++ root_text given ++ short_text given.root_acl ++ line_feed

abbrev pub votes_line : Opening → List ℕ
votes_line given = codes "do " ++ root_text given ++ codes "setvotes / " ++ votes_text given.c0 ++ line_feed

-- the root folder, and then its votes
abbrev pub opening_text : Opening → List ℕ
opening_text given = root_line given ++ votes_line given

-- the lines above all calls, and what each job asks for
pub record Asked : Type 0 where
  pub opening : List ℕ
  pub texts : List (List ℕ)

abbrev pub calls_of : Opening → List Job → Asked
calls_of given jobs = record { opening = opening_text given; texts = map (job_text given.c0) jobs }
