use Rattle.run_certify.proofs.Vocabulary.{◌≡◌, map, take}
use Rattle.run_certify.proofs.heads.Heads.new.Given as goal

abbrev pub invariant-loop-history : goal.invariant-loop-history
invariant-loop-history l = map (λ history. history.now) l.heads.items ≡ take l.history-index l.histories
