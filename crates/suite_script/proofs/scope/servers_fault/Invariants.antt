use Rattle.suite_script.proofs.Vocabulary.{◌≡◌, ℕ, List, eqb, is_some, list_all, slice_split, number_up_to}
use Rattle.suite_script.proofs.scope.servers_fault.Given as goal

abbrev pub invariant-loop-part : goal.invariant-loop-part
invariant-loop-part l =
    list_all (λ (part : List ℕ). is_some (number_up_to l.last part)) l.part-iterator
    ≡ list_all (λ (part : List ℕ). is_some (number_up_to l.last part)) (slice_split (λ (byte : ℕ). eqb byte 44) l.word)
