use Rattle.script_text.proofs.Vocabulary.{◌≡◌, drop, number_up_to}
use Rattle.script_text.proofs.Values.{number_from}
use Rattle.script_text.proofs.number.read_number.Given as goal

abbrev pub invariant-loop-byte : goal.invariant-loop-byte
invariant-loop-byte l = number_from l.value l.limit (drop l.byte-index l.word) ≡ number_up_to l.limit l.word
