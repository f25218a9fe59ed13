-- Pieces put one after the other.
use Rattle.suite_prefix.proofs.Vocabulary.{◌≡◌, ℕ, List, ◌++◌, Result, ◌∙◌, append_assoc, OnOk, arith}

-- three pieces behind what was there, the last where it was put
pub joined : {E : Type 0} (r : Result (Unit {0}) E) (old one two three a b c : List ℕ) → one ≡ old ++ a → two ≡ one ++ b → OnOk r (three ≡ two ++ c) → OnOk r (three ≡ old ++ ((a ++ b) ++ c))
joined r old one two three a b c h8 h9 h10 = search (append_assoc, arith)

-- five pieces and what follows, from the left
pub five_pieces : (a b c d e rest : List ℕ) → ((((a ++ b) ++ c) ++ d) ++ e) ++ rest ≡ a ++ (b ++ (c ++ (d ++ (e ++ rest))))
five_pieces a b c d e rest =
    append_assoc (((a ++ b) ++ c) ++ d) e rest ∙ append_assoc ((a ++ b) ++ c) d (e ++ rest) ∙ append_assoc (a ++ b) c (d ++ (e ++ rest)) ∙ append_assoc a b (c ++ (d ++ (e ++ rest)))

-- five pieces from the left
pub four_pieces : (a b c d e : List ℕ) → (((a ++ b) ++ c) ++ d) ++ e ≡ a ++ (b ++ (c ++ (d ++ e)))
four_pieces a b c d e =
    append_assoc ((a ++ b) ++ c) d e ∙ append_assoc (a ++ b) c (d ++ e) ∙ append_assoc a b (c ++ (d ++ e))
