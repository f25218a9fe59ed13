-- The operator does nothing: its pass comes back as it was.
use Rattle.suite_serve.proofs.Vocabulary.{◌≡◌, ◌∙◌, ◌<◌, ap, arith, refl, sym, subst, ℕ, zero, suc, ◌+◌, ◌++◌, ◌==◌, true, List, [], ◌∷◌, Some, None, eqb-true}
use Rattle.suite_serve.proofs.Vocabulary.{Item, askers, is_counted, made_by, passes_by, seat_of, Held, agents_from, new_pass, passes_of, IsOther, Played}
use Rattle.suite_serve.proofs.Vocabulary.{number_of, other_cons}

-- the operator is no agent
pub no_operator : (players : List Played) → IsOther players None
no_operator [] = tt
no_operator (player ∷ players) = (λ e. let bad = ap seat_of e in omega arith, no_operator players)

operators_from : (start count : ℕ) → passes_by None (agents_from start count ++ new_pass None ∷ []) ≡ new_pass None ∷ []
operators_from start zero = refl
operators_from start (suc count) =
    other_cons None start (new_pass (Some start)) (agents_from (start + 1) count ++ new_pass None ∷ []) refl (λ e. let bad = ap seat_of e in omega arith)
    ∙ operators_from (start + 1) count

-- of the first passes one is the operator's
pub operators : (agents : ℕ) → passes_by None (passes_of agents) ≡ new_pass None ∷ []
operators agents = operators_from 0 agents

-- what was counted of a pass that made nothing
pub none_made : (histories : List (List Item)) (passes : List Held) → passes_by None passes ≡ new_pass None ∷ []
    → (seat_of None < askers → is_counted (made_by None histories) (passes_by None passes) ≡ true) → made_by None histories ≡ 0
none_made histories passes held counted =
    let so : is_counted (made_by None histories) (new_pass None ∷ []) ≡ true = subst (λ ps. is_counted (made_by None histories) ps ≡ true) held (counted (omega arith)) in
    eqb-true (made_by None histories) 0 so
