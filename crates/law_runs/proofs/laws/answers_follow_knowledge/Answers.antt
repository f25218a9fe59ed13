use Rattle.law_runs.proofs.Answering.{answers_follow_knowledge}
use Rattle.law_runs.proofs.laws.answers_follow_knowledge.Goals as goal

pub returns : goal.returns
returns c = answers_follow_knowledge
