use Rattle.law_one_table.proofs.Running.{owed_is_enough}
use Rattle.law_one_table.proofs.owed_is_enough.Goals as goal

pub returns : goal.returns
returns c = owed_is_enough
