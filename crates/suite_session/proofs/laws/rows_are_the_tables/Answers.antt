use Rattle.suite_session.proofs.ShowEffects.{rows_are_the_tables}
use Rattle.suite_session.proofs.laws.rows_are_the_tables.Goals as goal

pub returns : goal.returns
returns c = rows_are_the_tables
