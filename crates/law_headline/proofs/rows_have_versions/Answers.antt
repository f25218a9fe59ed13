use Rattle.law_headline.proofs.Conclusions.{rows_have_versions}
use Rattle.law_headline.proofs.rows_have_versions.Goals as goal

pub returns : goal.returns
returns c = rows_have_versions
