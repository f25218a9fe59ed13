use Rattle.law_runs.proofs.Table.{known_answers}
use Rattle.law_runs.proofs.laws.known_answers_are_the_tables.Goals as goal

pub returns : goal.returns
returns c = known_answers
