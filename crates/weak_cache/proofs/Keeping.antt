-- What is left where the oldest entries go.
use Rattle.weak_cache.proofs.Vocabulary.{◌≡◌, ℕ, ◌+◌, ◌-◌, ◌<◌, ◌≤◌, leb, ltb, Bool, true, false, cond, not, ◌&&◌, ◌⊎◌, inl, inr, [], ◌∷◌, ◌++◌, length, refl, sym, ap, ◌∙◌, arith, append-nil, filter, filter-append, le-leb, leb-true, lt-ltb, ltb-true}
use Rattle.weak_cache.proofs.Vocabulary.{Entry, Cache, size_of, sum_of, is_at, list_of, forgotten, within_quota, within_budget}
use Rattle.weak_cache.proofs.Fewer.{Fewer, fewer_same, fewer_none, fewer_more, fewer_without, fewer_filter}

abbrev with' : Entry → Cache → Cache
with' e c = e ∷ c

-- ---- tests

large : (n room : ℕ) → room < n → leb n room ≡ false
large n room h = elim (leb n room) as (λ b. leb n room ≡ b → b ≡ false) [ true ↦ λ e. absurd (omega (arith, leb-true n room e, h)) | false ↦ λ _. refl ] refl

pub both : (a b : Bool) → (a && b) ≡ true → (a ≡ true) × (b ≡ true)
both true b h = (refl, h)
both false b h = absurd (cc h)

-- ---- sums

pub sum_of-append : (a b : Cache) → sum_of (a ++ b) ≡ sum_of a + sum_of b
sum_of-append [] b = omega arith
sum_of-append (e ∷ a) b = omega (arith, sum_of-append a b)

-- ---- the quota

-- what has room together stays
pub quota_fits : (site room : ℕ) (c : Cache) → sum_of (list_of site c) ≤ room → within_quota site room c ≡ c
quota_fits site room [] h = refl
quota_fits site room (e ∷ c) h =
    elim (is_at site e) as (λ b. sum_of (cond b (e ∷ list_of site c) (list_of site c)) ≤ room
    → cond b (cond (leb (size_of e.content) room) (e ∷ within_quota site (room - size_of e.content) c) (forgotten site c)) (e ∷ within_quota site room c) ≡ e ∷ c) [
      | true ↦ λ h. let fits : leb (size_of e.content) room ≡ true = le-leb _ _ (omega (arith, h)) in rw fits (ap (with' e) (quota_fits site (room - size_of e.content) c (omega (arith, h))))
      | false ↦ λ h. ap (with' e) (quota_fits site room c h)
    ] h

-- where a site has no entry, none goes
pub forgotten_none : (site : ℕ) (c : Cache) → list_of site c ≡ [] → forgotten site c ≡ c
forgotten_none site [] h = refl
forgotten_none site (e ∷ c) h =
    elim (is_at site e) as (λ b. cond b (e ∷ list_of site c) (list_of site c) ≡ [] → cond (not b) (e ∷ forgotten site c) (forgotten site c) ≡ e ∷ c) [
      | true ↦ λ h. absurd (cc h)
      | false ↦ λ h. ap (with' e) (forgotten_none site c h)
    ] h

pub quota_none : (site room : ℕ) (c : Cache) → list_of site c ≡ [] → within_quota site room c ≡ c
quota_none site room c h = quota_fits site room c (rw h (omega arith))

-- an entry of a site goes with the site
pub forgotten_own : (site : ℕ) (e : Entry) (c : Cache) → is_at site e ≡ true → forgotten site (e ∷ c) ≡ forgotten site c
forgotten_own site e c own = rw own refl

-- where a site has too much, its oldest entry is none of those that stay
pub quota_evicts : (site room : ℕ) (newer : Cache) (e : Entry) (older : Cache) → is_at site e ≡ true → list_of site older ≡ [] → room < sum_of (list_of site (newer ++ e ∷ older))
    → within_quota site room (newer ++ e ∷ older) ≡ within_quota site room (newer ++ older)
quota_evicts site room [] e older own last above = search (large, forgotten_none, quota_none, arith)
quota_evicts site room (x ∷ newer) e older own last above =
    elim (is_at site x) as (λ b. room < sum_of (cond b (x ∷ list_of site (newer ++ e ∷ older)) (list_of site (newer ++ e ∷ older)))
    → cond b (cond (leb (size_of x.content) room) (x ∷ within_quota site (room - size_of x.content) (newer ++ e ∷ older)) (forgotten site (newer ++ e ∷ older)))
    (x ∷ within_quota site room (newer ++ e ∷ older)) ≡ cond b (cond (leb (size_of x.content) room) (x ∷ within_quota site (room - size_of x.content) (newer ++ older))
    (forgotten site (newer ++ older))) (x ∷ within_quota site room (newer ++ older))) [
      | true ↦ λ above. elim (leb (size_of x.content) room) as (λ t. leb (size_of x.content) room ≡ t
          → cond t (x ∷ within_quota site (room - size_of x.content) (newer ++ e ∷ older)) (forgotten site (newer ++ e ∷ older)) ≡ cond t
          (x ∷ within_quota site (room - size_of x.content) (newer ++ older)) (forgotten site (newer ++ older))) [
            | true ↦ λ fits. ap (with' x) (quota_evicts site (room - size_of x.content) newer e older own last (omega (arith, above, leb-true _ _ fits)))
            | false ↦ λ _. filter-append _ newer (e ∷ older) ∙ ap (λ l. forgotten site newer ++ l) (forgotten_own site e older own) ∙ sym (filter-append _ newer older)
          ] refl
      | false ↦ λ above. ap (with' x) (quota_evicts site room newer e older own last above)
    ] above

pub quota_fewer : (site room : ℕ) (c : Cache) → Fewer (within_quota site room c) c
quota_fewer site room [] = fewer_same []
quota_fewer site room (e ∷ c) =
    elim (is_at site e) as (λ b. Fewer (cond b (cond (leb (size_of e.content) room) (e ∷ within_quota site (room - size_of e.content) c) (forgotten site c)) (e ∷ within_quota site room c)) (e ∷ c)) [
      | true ↦ elim (leb (size_of e.content) room) as (λ t. Fewer (cond t (e ∷ within_quota site (room - size_of e.content) c) (forgotten site c)) (e ∷ c)) [
        | true ↦ fewer_more e _ c (quota_fewer site (room - size_of e.content) c)
        | false ↦ fewer_without e _ c (fewer_filter _ c)
      ]
      | false ↦ fewer_more e _ c (quota_fewer site room c)
    ]

pub forgotten_list : (site : ℕ) (c : Cache) → list_of site (forgotten site c) ≡ []
forgotten_list site [] = refl
forgotten_list site (e ∷ c) = search (forgotten_list site c, arith)

-- what stays of a site has room
pub quota_sum : (site room : ℕ) (c : Cache) → sum_of (list_of site (within_quota site room c)) ≤ room
quota_sum site room [] = omega arith
quota_sum site room (e ∷ c) =
    elim (is_at site e) as (λ b. is_at site e ≡ b → sum_of (filter (is_at site) (cond b (cond (leb (size_of e.content) room) (e ∷ within_quota site (room - size_of e.content) c) (forgotten site c)) (e ∷ within_quota site room c))) ≤ room) [
      | true ↦ λ own. elim (leb (size_of e.content) room) as (λ t. leb (size_of e.content) room ≡ t → sum_of (filter (is_at site) (cond t (e ∷ within_quota site (room - size_of e.content) c) (forgotten site c))) ≤ room) [
        | true ↦ λ fits. rw own (omega (arith, leb-true _ _ fits, quota_sum site (room - size_of e.content) c))
        | false ↦ λ _. rw (forgotten_list site c) (omega arith)
      ] refl
      | false ↦ λ other. rw other (quota_sum site room c)
    ] refl

-- ---- the budget

pub budget_fits : (room slots : ℕ) (c : Cache) → sum_of c ≤ room → length c ≤ slots → within_budget room slots c ≡ c
budget_fits room slots [] h few = refl
budget_fits room slots (e ∷ c) h few =
    let fits : leb (size_of e.content) room ≡ true = le-leb _ _ (omega (arith, h)) in
    let slot : ltb 0 slots ≡ true = lt-ltb 0 slots (omega (arith, few)) in
    rw (fits, slot) (ap (with' e) (budget_fits (room - size_of e.content) (slots - 1) c (omega (arith, h)) (omega (arith, few))))

-- where there is too much, the oldest entry is none of those that stay
pub budget_evicts : (room slots : ℕ) (newer : Cache) (e : Entry) → (room < sum_of (newer ++ e ∷ [])) ⊎ (slots < length (newer ++ e ∷ [])) → within_budget room slots (newer ++ e ∷ []) ≡ within_budget room slots newer
budget_evicts room slots [] e above = search (both, leb-true, ltb-true, arith)
budget_evicts room slots (x ∷ newer) e above =
    elim (leb (size_of x.content) room && ltb 0 slots) as (λ t. (leb (size_of x.content) room && ltb 0 slots) ≡ t
    → cond t (x ∷ within_budget (room - size_of x.content) (slots - 1) (newer ++ e ∷ [])) [] ≡ cond t (x ∷ within_budget (room - size_of x.content) (slots - 1) newer) []) [
      | true ↦ λ h.
          let fits = both (leb (size_of x.content) room) (ltb 0 slots) h in
          let above' : (room - size_of x.content < sum_of (newer ++ e ∷ [])) ⊎ (slots - 1 < length (newer ++ e ∷ [])) = elim above
          [ inl sum ↦ inl (omega (arith, sum, leb-true _ _ fits.0)) | inr count ↦ inr (omega (arith, count, ltb-true _ _ fits.1)) ] in
          ap (with' x) (budget_evicts (room - size_of x.content) (slots - 1) newer e above')
      | false ↦ λ _. refl
    ] refl

pub budget_fewer : (room slots : ℕ) (c : Cache) → Fewer (within_budget room slots c) c
budget_fewer room slots [] = fewer_same []
budget_fewer room slots (e ∷ c) =
    elim (leb (size_of e.content) room && ltb 0 slots) as (λ t. Fewer (cond t (e ∷ within_budget (room - size_of e.content) (slots - 1) c) []) (e ∷ c)) [
      | true ↦ fewer_more e _ c (budget_fewer (room - size_of e.content) (slots - 1) c)
      | false ↦ fewer_none (e ∷ c)
    ]

-- what stays has room and slots
pub budget_sum : (room slots : ℕ) (c : Cache) → (sum_of (within_budget room slots c) ≤ room) × (length (within_budget room slots c) ≤ slots)
budget_sum room slots [] = (omega arith, omega arith)
budget_sum room slots (e ∷ c) =
    elim (leb (size_of e.content) room && ltb 0 slots) as (λ t. (leb (size_of e.content) room && ltb 0 slots) ≡ t
    → (sum_of (cond t (e ∷ within_budget (room - size_of e.content) (slots - 1) c) []) ≤ room)
    × (length (cond t (e ∷ within_budget (room - size_of e.content) (slots - 1) c) []) ≤ slots)) [
      | true ↦ λ h.
          let fits = both (leb (size_of e.content) room) (ltb 0 slots) h in
          let rest = budget_sum (room - size_of e.content) (slots - 1) c in
          (omega (arith, rest.0, leb-true _ _ fits.0), omega (arith, rest.1, ltb-true _ _ fits.1))
      | false ↦ λ _. (omega arith, omega arith)
    ] refl

-- a list that is cut at an entry of a site, behind which there is none of the site
pub record EndsAt (site : ℕ) (cache newer : Cache) (entry : Entry) (older : Cache) : Type 0 where
  pub parts : cache ≡ newer ++ entry ∷ older
  pub own : is_at site entry ≡ true
  pub last : list_of site older ≡ []

-- ---- steps of the loops

pub quota_step : (site room : ℕ) (before after newer : Cache) (e : Entry) (older : Cache) → EndsAt site before newer e older → after ≡ newer ++ older
    → room < sum_of (list_of site before) → within_quota site room after ≡ within_quota site room before
quota_step site room before after newer e older cut left above = search (quota_evicts, arith)

pub budget_step : (room slots : ℕ) (before after newer : Cache) (e : Entry) → before ≡ newer ++ e ∷ [] → after ≡ newer ++ [] → (room < sum_of before) ⊎ (slots < length before)
    → within_budget room slots after ≡ within_budget room slots before
budget_step room slots before after newer e parts left above = search (append-nil, budget_evicts, arith)

pub forgotten_step : (site : ℕ) (before after newer : Cache) (e : Entry) (older : Cache) → EndsAt site before newer e older → after ≡ newer ++ older → forgotten site after ≡ forgotten site before
forgotten_step site before after newer e older cut left = search (filter-append, forgotten_own, arith)
