use Rattle.run_core.proofs.Vocabulary.{fixed_of, opening}
use Rattle.run_core.proofs.Appending.{after-append, dones-append, decisions_from-append}
use Rattle.run_core.proofs.laws.runs_go_on.Goals as goal

pub returns : goal.returns
returns c = record {
  world = λ given events later. after-append (fixed_of given) (opening given) events later;
  done = λ given events later. dones-append (fixed_of given) (opening given) events later;
  decisions = λ given events later. decisions_from-append (fixed_of given) (opening given) events later;
}
