-- They hold by computation.
use Rattle.txn_core.specs.Runs.{WorkedRuns}
use Rattle.std.proofs.Common.{refl}

pub worked_runs : WorkedRuns
worked_runs = record {
  ten_steps = refl;
  cached_ends = refl;
  rewritten_ends = refl;
  all_needed_ends = refl;
  moved_ends = refl;
  revoked_ends = refl;
  overruled_ends = refl;
  decided_ends = refl;
  lost_lock_ends = refl;
}
