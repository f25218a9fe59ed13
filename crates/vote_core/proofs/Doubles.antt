-- Servers that are listed twice.
use Rattle.vote_core.proofs.Vocabulary.{◌≡◌, ℕ, Bool, false, ◌||◌, eqb, List, [], ◌∷◌, refl, sym, ap, ◌∙◌, list_any, or_from, Representative, lists_twice, arith}

-- whether a server of a set is listed
abbrev pub lists_one : (ℕ → Bool) → List Representative → Bool
lists_one set reps = list_any (λ rep. set rep.0) reps

-- no server is in a set of none
pub lists_one-none : (set : ℕ → Bool) → ((q : ℕ) → set q ≡ false) → (reps : List Representative) → lists_one set reps ≡ false
lists_one-none set none [] = refl
lists_one-none set none (rep ∷ reps) = or_from (set rep.0) (lists_one set reps) (none rep.0) (lists_one-none set none reps)

or_exchange : (a b c d : Bool) → ((a || b) || (c || d)) ≡ ((a || c) || (b || d))
or_exchange a b c d = search arith

-- a set with one server more
lists_one-more : (set : ℕ → Bool) (server : ℕ) (reps : List Representative) → lists_one (λ q. eqb q server || set q) reps ≡ (list_any (λ later. eqb later.0 server) reps || lists_one set reps)
lists_one-more set server [] = refl
lists_one-more set server (rep ∷ reps) = search (or_exchange, lists_one-more set server reps, arith)

or_regroup : (listed seen twice : Bool) → ((listed || seen) || twice) ≡ (seen || (listed || twice))
or_regroup listed seen twice = search arith

-- a server that was not seen is seen from now on
pub seen_more : (seen more : ℕ → Bool) (rep : Representative) (reps : List Representative) → seen rep.0 ≡ false → ((q : ℕ) → more q ≡ (eqb q rep.0 || seen q))
    → (lists_one more reps || lists_twice reps) ≡ (lists_one seen (rep ∷ reps) || lists_twice (rep ∷ reps))
seen_more seen more rep reps unseen members =
    let again : Bool = list_any (λ (later : Representative). eqb later.0 rep.0) reps in
    (λ i. lists_one (λ q. members q i) reps || lists_twice reps)
    ∙ ap (λ b. b || lists_twice reps) (lists_one-more seen rep.0 reps)
    ∙ or_regroup again (lists_one seen reps) (lists_twice reps)
    ∙ ap (λ b. (b || lists_one seen reps) || (again || lists_twice reps)) (sym unseen)
