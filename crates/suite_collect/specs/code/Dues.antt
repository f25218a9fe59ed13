-- What is due, as contracts see it.
use Rattle.std.specs.Prelude.{ℕ, ◌<◌, Bool, ◌&&◌, nat_lt, nat_le, not, if◌then◌else◌, List, find, option_map, Option, Some, None}
use Rattle.vote_core.specs.declared.TheConstants.{MAX_SERVERS}
use Rattle.vote_core.specs.Quorums.{Representative, Configuration, votes_in}
use Rattle.suite_prefix.specs.declared.lock_mode.LockMode.{LockMode}
use Rattle.suite_collect.specs.declared.told.Told.{Told}
use Rattle.suite_collect.specs.declared.due.Due.{Due as Coded}
use Rattle.suite_collect.specs.declared.due.Due.TheVariants as coded
use Rattle.suite_collect.specs.Telling.{holds, has_refused}
use Rattle.suite_collect.specs.Collecting.{needed_of}

-- there is a quorum, a server is to be asked, or nobody is left to ask
pub data Due : Type 0 where
  Current : Due
  Ask : ℕ → Due
  Short : ℕ → ℕ → Due

abbrev pub due_in : Coded → Due
due_in coded.Current = Current
due_in (coded.Ask server) = Ask server
due_in (coded.Short got needed) = Short got needed

-- what is due where some votes count, a mode is wanted and this was told
abbrev pub is_left_by : (ℕ → Bool) → (ℕ → Bool) → Representative → Bool
is_left_by held refused rep = nat_lt 0 rep.1 && not (held rep.0) && not (refused rep.0)

abbrev pub due_left : ℕ → ℕ → Option ℕ → Due
due_left got needed (Some server) = Ask server
due_left got needed None = Short got needed

abbrev pub due_by : Configuration → LockMode → List Told → Due
due_by votes wanted told =
    let got = votes_in votes.reps (holds wanted told) in
    if nat_le (needed_of wanted votes) got
    then Current
    else due_left got (needed_of wanted votes) (option_map (λ rep. rep.0) (find (is_left_by (holds wanted told) (has_refused told)) votes.reps))

-- a server that is asked is one of the service
abbrev pub IsKnown : Coded → Type 0
IsKnown (coded.Ask server) = server < MAX_SERVERS
IsKnown coded.Current = Unit {0}
IsKnown (coded.Short got needed) = Unit {0}
