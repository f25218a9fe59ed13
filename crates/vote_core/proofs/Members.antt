-- The votes of one server.
use Rattle.vote_core.proofs.Vocabulary.{◌≡◌, ℕ, false, eqb, option_map, unwrap_or, List, [], ◌∷◌, map, refl, zero-add, arith, cases_Bool, eqb-true, eqb-false, ne_eqb, Representative, votes_at}
use Rattle.std.specs.List.{IsDistinct, find, AllByRecursion as EachLater}

-- a server that is not listed has no votes
not_listed : (server : ℕ) (reps : List Representative) → EachLater (λ other. eqb server other ≡ false) (map (λ rep. rep.0) reps) → votes_at reps server ≡ 0
not_listed server [] others = refl
not_listed server (rep ∷ reps) others = search (ne_eqb, eqb-false, zero-add, not_listed server reps, arith)

-- a server that is listed once has the votes that stand there
pub votes_found : (server : ℕ) (reps : List Representative) → IsDistinct eqb (map (λ rep. rep.0) reps) → unwrap_or (option_map (λ rep. rep.1) (find (λ rep. eqb rep.0 server) reps)) 0 ≡ votes_at reps server
unfolding IsDistinct
votes_found server [] once = refl
votes_found server (rep ∷ reps) once = search (cases_Bool (eqb rep.0 server), not_listed rep.0 reps once.0, eqb-true, zero-add, votes_found server reps, arith)
