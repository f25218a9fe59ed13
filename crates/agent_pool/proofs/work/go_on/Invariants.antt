use Rattle.agent_pool.proofs.Vocabulary.{◌≡◌, length, DidMore}
use Rattle.agent_pool.specs.declared.asking.Came.TheVariants as came
use Rattle.agent_pool.proofs.work.go_on.Given as goal

abbrev pub invariant-loop : goal.invariant-loop
invariant-loop g l =
    (goal.iterator-loop g).can_next l.iterator' × (goal.iterator-loop g).is_finite l.iterator'
    × (l.begun ≡ length l.fn.player.entries) × DidMore l.context.servers.now.servers (length l.fn.player.entries) l.fn.player l.player l.fn.pass l.current came.On
