-- The agents of a service as they began no job yet.
use Rattle.agent_pool.proofs.Vocabulary.{◌≡◌, ℕ, zero, suc, ◌+◌, [], ◌∷◌, ◌++◌, ap, ◌∙◌, arith, Opening, first_player, players_from}

players_suc : (given : Opening) (start count : ℕ) → players_from given start (suc count) ≡ players_from given start count ++ first_player given (start + count) ∷ []
players_suc given start zero = let e : start ≡ start + 0 = omega arith in ap (λ n. first_player given n ∷ []) e
players_suc given start (suc count) =
    let e : start + 1 + count ≡ start + suc count = omega arith in
    ap (λ ps. first_player given start ∷ ps) (players_suc given (start + 1) count ∙ ap (λ n. players_from given (start + 1) count ++ first_player given n ∷ []) e)

pub players_more : (given : Opening) (count : ℕ) → players_from given 0 (count + 1) ≡ players_from given 0 count ++ first_player given count ∷ []
players_more given count =
    let e : count + 1 ≡ suc count = omega arith in
    let z : 0 + count ≡ count = omega arith in
    ap (λ n. players_from given 0 n) e ∙ players_suc given 0 count ∙ ap (λ n. players_from given 0 count ++ first_player given n ∷ []) z
