use Rattle.law_one_table.proofs.Running.{agents_know_the_table}
use Rattle.law_one_table.proofs.agents_know_the_table.Goals as goal

pub returns : goal.returns
returns c = agents_know_the_table
