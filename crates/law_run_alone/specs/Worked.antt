-- Runs of which the laws say something.
use Rattle.std.specs.Prelude.{◌≡◌, ℕ, true, false, List, [], ◌∷◌, ◌++◌, map, Some, Result, Ok, Err}
use Rattle.suite_prefix.specs.SettingsRules.{Opening}
use Rattle.file_ops.specs.declared.answer.Answer.{Answer}
use Rattle.file_ops.specs.declared.answer.Answer.TheVariants as answer
use Rattle.file_ops.specs.declared.refusal.Refusal.{Refusal}
use Rattle.txn_core.specs.declared.ending.Ending.TheVariants.{Answered, Refused, Undecided}
use Rattle.txn_core.specs.declared.ending.Cause.TheVariants.{Unavailable}
use Rattle.txn_core.specs.declared.job.Job.TheVariants.{Transaction}
use Rattle.txn_core.specs.Runs.{settings, owner, other}
use Rattle.run_core.specs.declared.event.Event.{Event}
use Rattle.run_core.specs.declared.event.Event.TheVariants.{Begin, Crash, Return}
use Rattle.run_core.specs.declared.done.EndedJob.{EndedJob}
use Rattle.run_core.specs.Runs.{run}
use Rattle.law_runs.specs.Claims.{ended}
use Rattle.law_runs.specs.Worked.{two_agents, so_many, make_a, close_a, read_a, denial, ending_in}
use Rattle.law_headline.specs.Premises.{CanBe}
use Rattle.law_run_alone.specs.Alone.{all_idle, begins_job, jobs_from, jobs_of, one_at_a_time}
use Rattle.law_run_alone.specs.Endings.{decided_endings}
use Rattle.law_run_alone.specs.Undisturbed.{all_up, no_locks, undisturbed_from, all_undisturbed}

-- the same with room for caches
abbrev pub with_caches : Opening
with_caches = record (settings 3 4096 2 2) { agents = 2 }

-- A file is made. With one server down its list is closed to all but the owner; with two of them down a reader finds too few votes; with all
-- up again a reader is denied.
abbrev pub disturbed : List Event
disturbed =
    Begin 0 (Transaction owner 0 make_a) ∷ so_many 10 0
    ++ Crash 0 ∷ Begin 0 (Transaction owner 0 close_a) ∷ so_many 16 0
    ++ Crash 1 ∷ Begin 1 (Transaction other 0 read_a) ∷ so_many 11 1
    ++ Return 0 ∷ Return 1 ∷ Begin 1 (Transaction other 0 read_a) ∷ so_many 11 1

-- A file is made, read twice, and closed; then a reader is denied.
abbrev pub undisturbed : List Event
undisturbed =
    Begin 0 (Transaction owner 0 make_a) ∷ so_many 10 0
    ++ Begin 1 (Transaction other 0 read_a) ∷ so_many 11 1
    ++ Begin 1 (Transaction other 0 read_a) ∷ so_many 11 1
    ++ Begin 0 (Transaction owner 0 close_a) ∷ so_many 13 0
    ++ Begin 1 (Transaction other 0 read_a) ∷ so_many 11 1

-- A file is made, and a server crashes and comes back. Then the file is read.
abbrev pub mended : List Event
mended = Begin 0 (Transaction owner 0 make_a) ∷ so_many 10 0 ++ Crash 0 ∷ Return 0 ∷ []

abbrev pub reads : Event
reads = Begin 1 (Transaction other 0 read_a)

-- how many steps each job took
abbrev pub steps_of : List EndedJob → List ℕ
steps_of jobs = map (λ (job : EndedJob). job.steps) jobs

abbrev pub the_endings : List (ℕ × Result (List Answer) Refusal)
the_endings =
    (0, Ok (answer.Made 1 ∷ answer.Wrote ∷ []))
    ∷ (1, Ok (answer.Read (104 ∷ 105 ∷ []) ∷ []))
    ∷ (65, Ok (answer.Read (104 ∷ 105 ∷ []) ∷ []))
    ∷ (64, Ok (answer.Set ∷ []))
    ∷ (129, Err denial) ∷ []

-- A transaction that nothing disturbs, though a server crashed before it began.
pub record IsUndisturbed : Type 0 where
  pub can : CanBe two_agents (mended ++ reads ∷ so_many 11 1)
  pub begins : begins_job two_agents (run two_agents mended) reads ≡ Some (1, Transaction other 0 read_a)
  pub idle : all_idle (run two_agents mended) ≡ true
  pub up : all_up (run two_agents mended) ≡ true
  pub unlocked : no_locks (run two_agents mended) ≡ true
  pub alone : jobs_from two_agents (run two_agents (mended ++ reads ∷ [])) (so_many 11 1) ≡ []
  pub calm : undisturbed_from two_agents (run two_agents (mended ++ reads ∷ [])) (so_many 11 1) ≡ true
  pub ends : decided_endings (ended two_agents (mended ++ reads ∷ so_many 11 1)) ≡ (0, Ok (answer.Made 1 ∷ answer.Wrote ∷ [])) ∷ (1, Ok (answer.Read (104 ∷ 105 ∷ []) ∷ [])) ∷ []

-- The first run has an undecided transaction among decided ones. The others have the same jobs and endings; with caches the second read took
-- two steps less; and nothing disturbs any of their transactions.
pub record SomeRunsGoAlone : Type 0 where
  pub alone : one_at_a_time two_agents disturbed ≡ true
  pub ends : map ending_in (ended two_agents disturbed) ≡
      (0, Answered (answer.Made 1 ∷ answer.Wrote ∷ [])) ∷ (64, Answered (answer.Set ∷ [])) ∷ (1, Undecided (Unavailable 0 1 2)) ∷ (65, Refused denial) ∷ []
  pub decided : decided_endings (ended two_agents disturbed) ≡ (0, Ok (answer.Made 1 ∷ answer.Wrote ∷ [])) ∷ (64, Ok (answer.Set ∷ [])) ∷ (65, Err denial) ∷ []
  pub alone_without : one_at_a_time two_agents undisturbed ≡ true
  pub alone_with : one_at_a_time with_caches undisturbed ≡ true
  pub same_jobs : jobs_of two_agents undisturbed ≡ jobs_of with_caches undisturbed
  pub ends_without : decided_endings (ended two_agents undisturbed) ≡ the_endings
  pub ends_with : decided_endings (ended with_caches undisturbed) ≡ the_endings
  pub steps_without : steps_of (ended two_agents undisturbed) ≡ 10 ∷ 11 ∷ 11 ∷ 10 ∷ 10 ∷ []
  pub steps_with : steps_of (ended with_caches undisturbed) ≡ 10 ∷ 11 ∷ 9 ∷ 10 ∷ 9 ∷ []
  pub can_without : CanBe two_agents undisturbed
  pub can_with : CanBe with_caches undisturbed
  pub disturbs_some : all_undisturbed two_agents disturbed ≡ false
  pub disturbs_none_without : all_undisturbed two_agents undisturbed ≡ true
  pub disturbs_none_with : all_undisturbed with_caches undisturbed ≡ true
  pub undisturbed_after_crash : IsUndisturbed
