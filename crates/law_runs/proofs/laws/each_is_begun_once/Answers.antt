use Rattle.law_runs.proofs.Begun.{each_is_begun_once}
use Rattle.law_runs.proofs.laws.each_is_begun_once.Goals as goal

pub returns : goal.returns
returns c = each_is_begun_once
