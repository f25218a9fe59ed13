use Rattle.run_certify.proofs.Vocabulary.{◌≡◌, [], ◌∷◌, length, transcript_of, at_server, Goes}
use Rattle.run_certify.proofs.walk.Walk.serve.Given as goal

abbrev pub invariant-loop-entry : goal.invariant-loop-entry
invariant-loop-entry l = (Goes l.fn.self (at_server l.server l.item ∷ []) l.self (at_server l.server l.item ∷ [])) × (l.self.histories ≡ l.fn.self.histories)

abbrev pub decreases-loop-entry : goal.decreases-loop-entry
decreases-loop-entry l = length (transcript_of l.self.unused l.agent)
