-- A lock becomes prepared by a Prepare of its transaction only.
use Rattle.rep_core.proofs.Vocabulary.{◌≡◌, ℕ, Bool, true, false, cond, ◌⊎◌, inl, inr, List, refl, ap, ◌∙◌, arith, ◌==◌, ◌&&◌, ◌||◌, filter, false≢true, nat_tests, LockMode, Lock, Part, Request, before, has_lock, raised, with_lock, locked}
use Rattle.rep_core.proofs.Vocabulary.{with_prepared, State}
use Rattle.rep_core.specs.Steps.{is_prepare, WasPrepared, PreparedByPrepare}
use Rattle.rep_core.specs.declared.request.Request.TheVariants as request
use Rattle.rep_core.proofs.Members.{Has, has_filter, has_map, has_between, has_from, contains_from}
use Rattle.rep_core.proofs.Ways.{Ways, by_step}
use Rattle.rep_core.proofs.LockLookups.{new_lock}

-- each prepared lock was so before
abbrev AllWere : List Lock → List Lock → Type 0
AllWere old new = (l : Lock) → Has new l → l.prepared ≡ true → WasPrepared old l.t l.suite

same : (locks : List Lock) → AllWere locks locks
same locks l there p = record { lock = l; there = contains_from locks l there; of_it = refl; on_it = refl; prepared = p }

were_filtered : (q : Lock → Bool) (locks : List Lock) → AllWere locks (filter q locks)
were_filtered q locks l there p = same locks l (has_filter q locks l there).0 p

were_locked : (t s : ℕ) (m : LockMode) (locks : List Lock) → AllWere locks (locked t s m locks)
were_locked t s m locks =
    elim (has_lock t s locks) as (λ b. AllWere locks (cond b (raised t s m locks) (with_lock (new_lock t s m) locks))) [
      | true ↦ λ l there p. search (has_map, contains_from, arith)
      | false ↦ λ l there p. elim (has_between (λ x. before x (new_lock t s m)) locks (new_lock t s m) l there) [
        | inl old ↦ same locks l old p
        | inr new ↦ absurd (false≢true (ap (λ (l : Lock). l.prepared) new ∙ p))
      ]
    ]

-- what a Prepare prepares
by_prepare : (t u : ℕ) (p named : Bool) → (p || ((u == t) && named)) ≡ true → p ≡ false → (t == u) ≡ true
by_prepare t u p named e misses = grind (arith, nat_tests)

abbrev WasOrIs : State → Request → List Lock → Type 0
WasOrIs st asked new = (l : Lock) → Has new l → l.prepared ≡ true → (is_prepare l.t asked ≡ true) ⊎ WasPrepared st.locks l.t l.suite

were_prepared : (st : State) (t : ℕ) (parts : List Part) → WasOrIs st (request.Prepare t parts) (with_prepared t parts st.locks)
were_prepared st t parts l there p = search (has_map, contains_from, by_prepare, arith)

prepared_ways : (st : State) → Ways st (λ asked new. WasOrIs st asked new.locks)
prepared_ways st = search (same, were_locked, were_prepared, were_filtered, arith)

pub prepared_by_prepare : PreparedByPrepare
prepared_by_prepare st asked l there p = by_step st (λ request new. WasOrIs st request new.locks) (prepared_ways st) (λ _ _ _ holds. holds) asked l (has_from _ l there) p
