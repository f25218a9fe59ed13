use Rattle.run_core.proofs.Vocabulary.{◌≡◌, servers_from}
use Rattle.run_core.proofs.opening.servers_of.Given as goal

abbrev pub invariant-loop-index : goal.invariant-loop-index
invariant-loop-index l = l.servers.items ≡ servers_from l.settings 0 l.index
