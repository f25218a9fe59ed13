use Rattle.law_headline.proofs.Conclusions.{answers_are_the_tables}
use Rattle.law_headline.proofs.answers_are_the_tables.Goals as goal

pub returns : goal.returns
returns c = answers_are_the_tables
