use Rattle.server_lock.proofs.Vocabulary.{◌≡◌, vec_len, opened_from}
use Rattle.server_lock.proofs.servers.first_servers.Given as goal

abbrev pub invariant-loop-number : goal.invariant-loop-number
invariant-loop-number l = record {
  are : l.servers.items ≡ opened_from l.fn.settings 0 l.number;
  each : vec_len l.servers ≡ l.number;
}
