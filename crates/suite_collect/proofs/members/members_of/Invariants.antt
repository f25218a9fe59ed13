use Rattle.suite_collect.proofs.Vocabulary.{◌≡◌, ◌&&◌, ◌<◌, ◌≤◌, ◌++◌, nat_lt, length, drop, map, filter, All, contains, MAX_SERVERS}
use Rattle.suite_collect.proofs.members.members_of.Given as goal

abbrev pub invariant-loop-server : goal.invariant-loop-server
invariant-loop-server l = record {
  few : length l.members.items ≤ l.server-index;
  known : All (λ server. server < MAX_SERVERS) l.members.items;
  rest : l.members.items ++ map (λ rep. rep.0) (filter (λ rep. nat_lt 0 rep.1 && contains l.held rep.0) (drop l.server-index l.server-items))
      ≡ map (λ rep. rep.0) (filter (λ rep. nat_lt 0 rep.1 && contains l.held rep.0) l.server-items);
}
