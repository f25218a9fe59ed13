-- The newest that have room are what is left where the oldest go while there is too much.
use Rattle.weak_cache.proofs.Vocabulary.{◌≡◌, ℕ, ◌-◌, ◌<◌, leb, ltb, Bool, true, false, cond, not, ◌||◌, ◌⊎◌, inl, inr, [], ◌∷◌, ◌++◌, length, reverse, refl, sym, ap, ◌∙◌, arith, append-nil, length-reverse, reverse-append, reverse-reverse}
use Rattle.weak_cache.proofs.Vocabulary.{filter-append, ltb-true, ltb-false, Entry, Cache, size_of, sum_of, is_at, list_of, forgotten, without, Limits, has_room, within_quota, within_budget, lets_go_at, is_above, lets_go, OldestGo}
use Rattle.weak_cache.proofs.Keeping.{sum_of-append, quota_fits, quota_evicts, budget_fits, budget_evicts}

abbrev with' : Entry → Cache → Cache
with' e c = e ∷ c

-- ---- lists the other way round

turned : (e : Entry) (n : Cache) → reverse (e ∷ n) ≡ reverse n ++ e ∷ []
turned e n = reverse-append (e ∷ []) n

sum_turned : (r : Cache) → sum_of (reverse r) ≡ sum_of r
sum_turned [] = refl
sum_turned (e ∷ n) = omega (arith, ap sum_of (turned e n), sum_of-append (reverse n) (e ∷ []), sum_turned n)

sum_at_turned : (site : ℕ) (r : Cache) → sum_of (list_of site (reverse r)) ≡ sum_of (list_of site r)
sum_at_turned site [] = refl
sum_at_turned site (e ∷ n) = search (turned, filter-append, sum_of-append, sum_at_turned site n, arith)

-- ---- the quota

-- the oldest entry stays where it is another site's
quota_other : (site room : ℕ) (e : Entry) → is_at site e ≡ false → (c : Cache) → within_quota site room (c ++ e ∷ []) ≡ within_quota site room c ++ e ∷ []
quota_other site room e other [] = rw other refl
quota_other site room e other (x ∷ c) =
    elim (is_at site x) as (λ b. cond b (cond (leb (size_of x.content) room) (x ∷ within_quota site (room - size_of x.content) (c ++ e ∷ [])) (forgotten site (c ++ e ∷ [])))
    (x ∷ within_quota site room (c ++ e ∷ [])) ≡ cond b (cond (leb (size_of x.content) room) (x ∷ within_quota site (room - size_of x.content) c) (forgotten site c))
    (x ∷ within_quota site room c) ++ e ∷ []) [
      | true ↦ elim (leb (size_of x.content) room) as (λ t. cond t (x ∷ within_quota site (room - size_of x.content) (c ++ e ∷ [])) (forgotten site (c ++ e ∷ [])) ≡ cond t
          (x ∷ within_quota site (room - size_of x.content) c) (forgotten site c) ++ e ∷ []) [
            | true ↦ ap (with' x) (quota_other site (room - size_of x.content) e other c)
            | false ↦
                let stays : forgotten site (e ∷ []) ≡ e ∷ [] = rw other refl in
                filter-append (λ y. not (is_at site y)) c (e ∷ []) ∙ ap (λ l. forgotten site c ++ l) stays
          ]
      | false ↦ ap (with' x) (quota_other site room e other c)
    ]

quota_words : (site room : ℕ) (r : Cache) → within_quota site room (reverse r) ≡ reverse (lets_go_at site room r)
quota_words site room [] = refl
quota_words site room (e ∷ n) =
    let last : list_of site (reverse (e ∷ n)) ≡ list_of site (reverse n ++ e ∷ []) = ap (list_of site) (turned e n) in
    elim (is_at site e) as (λ b. is_at site e ≡ b → within_quota site room (reverse (e ∷ n)) ≡ reverse (cond b (cond (ltb room (sum_of (list_of site (e ∷ n)))) (lets_go_at site room n) (e ∷ n)) (e ∷ lets_go_at site room n))) [
      | true ↦ λ own. elim (ltb room (sum_of (list_of site (e ∷ n)))) as (λ t. ltb room (sum_of (list_of site (e ∷ n))) ≡ t → within_quota site room (reverse (e ∷ n)) ≡ reverse (cond t (lets_go_at site room n) (e ∷ n))) [
        | true ↦ λ above.
            let above' : room < sum_of (list_of site (reverse n ++ e ∷ [])) = omega (arith, ltb-true _ _ above, sum_at_turned site (e ∷ n), ap sum_of last) in
            ap (within_quota site room) (turned e n) ∙ quota_evicts site room (reverse n) e [] own refl above' ∙ ap (within_quota site room) (append-nil (reverse n)) ∙ quota_words site room n
        | false ↦ λ fits. quota_fits site room (reverse (e ∷ n)) (omega (arith, ltb-false _ _ fits, sum_at_turned site (e ∷ n)))
      ] refl
      | false ↦ λ other. ap (within_quota site room) (turned e n) ∙ quota_other site room e other (reverse n) ∙ ap (λ l. l ++ e ∷ []) (quota_words site room n) ∙ sym (turned e (lets_go_at site room n))
    ] refl

-- ---- the budget

either : (a b : Bool) → (a || b) ≡ true → (a ≡ true) ⊎ (b ≡ true)
either true b h = inl refl
either false b h = inr h

neither : (a b : Bool) → (a || b) ≡ false → (a ≡ false) × (b ≡ false)
neither true b h = absurd (cc h)
neither false b h = (refl, h)

budget_words : (limits : Limits) (r : Cache) → within_budget limits.budget limits.slots (reverse r) ≡ reverse (lets_go limits r)
budget_words limits [] = refl
budget_words limits (e ∷ n) =
    let kept : Cache → Cache = within_budget limits.budget limits.slots in
    let sum = sum_turned (e ∷ n) in
    let count : length (reverse (e ∷ n)) ≡ length (e ∷ n) = length-reverse (e ∷ n) in
    elim (is_above limits (e ∷ n)) as (λ t. is_above limits (e ∷ n) ≡ t → within_budget limits.budget limits.slots (reverse (e ∷ n)) ≡ reverse (cond t (lets_go limits n) (e ∷ n))) [
      | true ↦ λ above.
          let above' : (limits.budget < sum_of (reverse n ++ e ∷ [])) ⊎ (limits.slots < length (reverse n ++ e ∷ [])) =
          elim (either (ltb limits.budget (sum_of (e ∷ n))) (ltb limits.slots (length (e ∷ n))) above)
          [ inl s ↦ inl (omega (arith, ltb-true _ _ s, sum, ap sum_of (turned e n))) | inr s ↦ inr (omega (arith, ltb-true _ _ s, count, ap length (turned e n))) ] in
          ap kept (turned e n) ∙ budget_evicts limits.budget limits.slots (reverse n) e above' ∙ budget_words limits n
      | false ↦ λ fits.
          let within = neither (ltb limits.budget (sum_of (e ∷ n))) (ltb limits.slots (length (e ∷ n))) fits in
          budget_fits limits.budget limits.slots (reverse (e ∷ n)) (omega (arith, ltb-false _ _ within.0, sum)) (omega (arith, ltb-false _ _ within.1, count))
    ] refl

-- ---- both

pub oldest_go : OldestGo
oldest_go limits e c =
    let w : Cache = without e.site e.suite c in
    let all : Cache = e ∷ w in
    let own : within_quota e.site limits.quota all ≡ reverse (lets_go_at e.site limits.quota (reverse all)) =
    ap (within_quota e.site limits.quota) (sym (reverse-reverse all)) ∙ quota_words e.site limits.quota (reverse all) in
    elim (has_room limits e.content) as (λ t. cond t (within_budget limits.budget limits.slots (within_quota e.site limits.quota all)) w ≡ cond t (reverse (lets_go limits (lets_go_at e.site limits.quota (reverse all)))) w) [
      | true ↦ ap (within_budget limits.budget limits.slots) own ∙ budget_words limits (lets_go_at e.site limits.quota (reverse all))
      | false ↦ refl
    ]
