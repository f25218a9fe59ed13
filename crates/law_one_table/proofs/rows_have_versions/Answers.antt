use Rattle.law_one_table.proofs.Versions.{rows_have_versions}
use Rattle.law_one_table.proofs.rows_have_versions.Goals as goal

pub returns : goal.returns
returns c = rows_have_versions
