use Rattle.suite_collect.proofs.Vocabulary.{◌≡◌, drop, max, greatest}
use Rattle.suite_collect.proofs.heard.Heard.greatest.Given as goal

abbrev pub invariant-loop-server : goal.invariant-loop-server
invariant-loop-server l = max (greatest l.self (drop l.server-index l.servers)) l.greatest ≡ greatest l.self l.servers
