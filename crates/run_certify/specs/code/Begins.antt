-- The jobs that agents began.
use Rattle.std.specs.Prelude.{ℕ, List, Option}
use Rattle.txn_core.specs.declared.job.Job.{Job}

-- of each agent the last, and how many
pub record Begins : Type 0 where
  pub jobs : List (Option Job)
  pub counts : List ℕ
