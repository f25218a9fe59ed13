-- Where a Current is had, some member showed the version of the content.
use Rattle.suite_collect.proofs.Vocabulary.{◌≡◌, ℕ, ◌+◌, ◌<◌, ◌≤◌, Bool, true, false, cond, inl, inr, List, [], ◌∷◌, ◌++◌, Some, IsSome, refl, sym, ap, subst, ◌∙◌, rules, arith, nat_lt, ◌&&◌, ◌||◌, ◌==◌, find, filter, map, list_any}
use Rattle.suite_collect.proofs.Vocabulary.{nat_tests, cases_lt, eq-eqb, Representative, Configuration, votes_in, LockMode, Shared, Exclusive, Told, newest, holds, shown, greatest, Collector, told_since, all_told, votes_or, counted}
use Rattle.suite_collect.proofs.Vocabulary.{mode_or, wanted, needed_of, needed, is_member, first_members, source, next, HasSource}
use Rattle.vote_core.specs.Validity.{IsValid}
use Rattle.suite_collect.proofs.Collected.{gives_of}

-- what is found by its test
some_found : {X : Type 0} (p : X → Bool) (xs : List X) → list_any p xs ≡ true → IsSome (find p xs)
some_found p [] is = cc
some_found p (x ∷ xs) is = at (p x) refl is (some_found p xs)
  where
    at : (b : Bool) → p x ≡ b → (b || list_any p xs) ≡ true → (list_any p xs ≡ true → IsSome (find p xs)) → IsSome (cond b (Some x) (find p xs))
    at true _ is _ = search rules
    at false _ is later = later is

-- the greatest version was shown by one of them
later : (a : Bool) {b : Bool} → b ≡ true → (a || b) ≡ true
later true is = refl
later false is = is

attained : (told : List Told) (server : ℕ) (servers : List ℕ) (n : ℕ) → n ≡ greatest told (server ∷ servers) → list_any (λ one. shown told one == n) (server ∷ servers) ≡ true
attained told server [] n is = let same : shown told server ≡ n = omega arith in rw (eq-eqb (shown told server) n same) refl
attained told server (next ∷ servers) n is =
    elim (cases_lt (shown told server) (greatest told (next ∷ servers))) [
      | inl below ↦ later (shown told server == n) (attained told next servers n (omega arith))
      | inr above ↦ let same : shown told server ≡ n = omega arith in rw (eq-eqb (shown told server) n same) refl
    ]

-- where no member is held there are no votes
no_votes : (v : ℕ) (h : Bool) → (nat_lt 0 v && h) ≡ false → cond h v 0 ≡ 0
no_votes v false none = refl
no_votes v true none = grind (arith, nat_tests)

no_members : (reps : List Representative) (held : ℕ → Bool) → map (λ rep. rep.0) (filter (λ rep. nat_lt 0 rep.1 && held rep.0) reps) ≡ [] → votes_in reps held ≡ 0
no_members [] held none = refl
no_members (rep ∷ reps) held none = at (nat_lt 0 rep.1 && held rep.0) refl none (no_members reps held)
  where
    at : (b : Bool) → (nat_lt 0 rep.1 && held rep.0) ≡ b → map (λ rep. rep.0) (cond b (rep ∷ filter (λ rep. nat_lt 0 rep.1 && held rep.0) reps) (filter (λ rep. nat_lt 0 rep.1 && held rep.0) reps)) ≡ []
        → (map (λ rep. rep.0) (filter (λ rep. nat_lt 0 rep.1 && held rep.0) reps) ≡ [] → votes_in reps held ≡ 0) → cond (held rep.0) rep.1 0 + votes_in reps held ≡ 0
    at true _ none _ = cc
    at false fails none rest = let here = no_votes rep.1 (held rep.0) fails in let zero = rest none in omega arith

pub some_needed : (mode : LockMode) (votes : Configuration) → IsValid votes → 0 < needed_of mode votes
some_needed Shared votes valid = valid.r_in_range.0
some_needed Exclusive votes valid = valid.w_in_range.0

pub has_source : (c : Collector) → IsValid (newest c.start c.told).votes → HasSource c
has_source c valid prefix dver members narrow is = at (first_members c) refl
  where
    enough : 0 < votes_in (newest c.start c.told).votes.reps (holds c.mode c.told)
    enough =
        let gives = gives_of c prefix dver members is in
        let told : all_told c ≡ c.told = ap (λ w. told_since w ++ c.told) narrow in
        let mode : wanted c ≡ c.mode = ap (λ w. mode_or w c.mode) narrow in
        let same : counted c ≡ (newest c.start c.told).votes = ap (λ w. votes_or w (newest c.start c.told)) narrow in
        let held : is_member c ≡ holds c.mode c.told = ap (λ mode. holds mode (all_told c)) mode ∙ ap (holds c.mode) told in
        let some = some_needed c.mode (newest c.start c.told).votes valid in
        let reached : needed_of c.mode (newest c.start c.told).votes ≤ votes_in (newest c.start c.told).votes.reps (holds c.mode c.told) =
        subst (λ (mode : LockMode). needed_of mode (newest c.start c.told).votes ≤ votes_in (newest c.start c.told).votes.reps (holds c.mode c.told)) mode
        (subst (λ (votes : Configuration). needed_of (wanted c) votes ≤ votes_in votes.reps (holds c.mode c.told)) same
        (subst (λ held. needed c ≤ votes_in (counted c).reps held) held gives.enough)) in
        omega arith

    at : (servers : List ℕ) → first_members c ≡ servers → IsSome (source c)
    at [] none = absurd (let zero = no_members (newest c.start c.told).votes.reps (holds c.mode c.told) none in let some = enough in omega arith)
    at (server ∷ servers) are =
        subst (λ servers. IsSome (find (λ one. shown c.told one == greatest c.told servers) servers)) (sym are)
        (some_found (λ one. shown c.told one == greatest c.told (server ∷ servers)) (server ∷ servers) (attained c.told server servers (greatest c.told (server ∷ servers)) refl))
