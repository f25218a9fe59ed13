use Rattle.std.proofs.Common.{◌≡◌, ◌++◌}
use Rattle.event_json.specs.Agents.{held_letters}
use Rattle.event_json.proofs.agents.push_letters.Given as goal

abbrev pub invariant-loop-server : goal.invariant-loop-server
invariant-loop-server l = l.text.items ≡ l.fn.text.items ++ held_letters l.suite l.server
