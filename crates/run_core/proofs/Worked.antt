-- They hold by computation.
use Rattle.run_core.proofs.Vocabulary.{refl, WorkedRuns}

pub worked_runs : WorkedRuns
worked_runs = record {
  lost_lock_ends = refl;
  lost_lock_decisions = refl;
  lost_lock_row = refl;
  locked_out_ends = refl;
  locked_out_answers = (refl, (refl, (refl, tt)));
  locked_out_audit = refl;
  locked_out_table = refl;
  nothing_comes = refl;
  lacking_ends = refl;
}
