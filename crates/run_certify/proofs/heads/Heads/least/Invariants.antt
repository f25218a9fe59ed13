use Rattle.run_certify.proofs.Vocabulary.{map, MatchOption, NoneBelow, IsFirstBelow}
use Rattle.run_certify.proofs.heads.Heads.least.Given as goal

abbrev pub invariant-loop-server : goal.invariant-loop-server
invariant-loop-server l =
    MatchOption l.least
    (NoneBelow l.server (map (λ history. history.now) l.self-inside.histories.items))
    (λ head. IsFirstBelow l.server (map (λ history. history.now) l.self-inside.histories.items) head.server head.item.now head.later.now)
