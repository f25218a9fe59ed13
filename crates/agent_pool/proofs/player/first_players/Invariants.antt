use Rattle.agent_pool.proofs.Vocabulary.{◌≡◌, players_from}
use Rattle.agent_pool.proofs.player.first_players.Given as goal

abbrev pub invariant-loop-number : goal.invariant-loop-number
invariant-loop-number l = players_from l.settings 0 l.number ≡ l.players.items
