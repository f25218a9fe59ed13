-- What a cache is after a put.
use Rattle.weak_cache.proofs.Vocabulary.{◌≡◌, ℕ, ◌-◌, ◌≤◌, leb, ltb, true, false, cond, not, ◌&&◌, [], ◌∷◌, length, refl, sym, ap, ◌∙◌, arith, eq-eqb, ◌==◌, filter, leb-true, ltb-true, eqb-true, Entry, Cache, size_of, sum_of, is_at, is_of, list_of}
use Rattle.weak_cache.proofs.Vocabulary.{without, Limits, IsWithin, has_room, put, within_quota, within_budget}
use Rattle.weak_cache.proofs.Fewer.{Fewer, fewer_filter, fewer_then, list_fewer, once_fewer}
use Rattle.weak_cache.proofs.Keeping.{both, quota_fewer, quota_sum, budget_fewer, budget_sum}

-- what is kept beside a new entry
abbrev pub beside : Limits → Entry → Cache → Cache
beside limits entry c =
    within_budget (limits.budget - size_of entry.content) (limits.slots - 1) (within_quota entry.site (limits.quota - size_of entry.content) (without entry.site entry.suite c))

pub same_number : (n : ℕ) → (n == n) ≡ true
same_number n = eq-eqb n n refl

pub put_is : (limits : Limits) (e : Entry) (c : Cache) → has_room limits e.content ≡ true → put limits e c ≡ e ∷ beside limits e c
put_is limits e c room = search arith

-- the same, step by step
pub put_steps : (limits : Limits) (e : Entry) (c : Cache) → has_room limits e.content ≡ true → within_budget limits.budget limits.slots (within_quota e.site limits.quota (e ∷ without e.site e.suite c)) ≡ e ∷ beside limits e c
put_steps limits e c room =
    sym (ap (λ t. cond t (within_budget limits.budget limits.slots (within_quota e.site limits.quota (e ∷ without e.site e.suite c))) (without e.site e.suite c)) room) ∙ put_is limits e c room

pub put_none : (limits : Limits) (e : Entry) (c : Cache) → has_room limits e.content ≡ false → put limits e c ≡ without e.site e.suite c
put_none limits e c room = rw room refl

beside_fewer : (limits : Limits) (e : Entry) (c : Cache) → Fewer (beside limits e c) (without e.site e.suite c)
beside_fewer limits e c = search (fewer_then, budget_fewer, quota_fewer, arith)

-- nothing of the key is left
none_of_key : (site suite : ℕ) (c : Cache) → filter (is_of site suite) (without site suite c) ≡ []
none_of_key site suite [] = refl
none_of_key site suite (e ∷ c) = search (none_of_key site suite c, arith)

pub within_put : (limits : Limits) (e : Entry) (c : Cache) → has_room limits e.content ≡ true → IsWithin (record { limits = limits; entries = c }) → IsWithin (record { limits = limits; entries = e ∷ beside limits e c })
within_put limits e c room h =
    let a = both (leb (size_of e.content) limits.budget && leb (size_of e.content) limits.quota) (ltb 0 limits.slots) room in
    let b = both (leb (size_of e.content) limits.budget) (leb (size_of e.content) limits.quota) a.0 in
    let x = beside limits e c in
    let w = without e.site e.suite c in
    let q = within_quota e.site (limits.quota - size_of e.content) w in
    let few : Fewer x w = beside_fewer limits e c in
    let fewer : Fewer x c = fewer_then x w c few (fewer_filter (λ entry. not (is_of e.site e.suite entry)) c) in
    let sums = budget_sum (limits.budget - size_of e.content) (limits.slots - 1) q in
    record {
      budget = omega (arith, sums.0, leb-true (size_of e.content) limits.budget b.0);
      quota = λ site. elim (is_at site e) as (λ t. is_at site e ≡ t → sum_of (cond t (e ∷ list_of site x) (list_of site x)) ≤ limits.quota) [
        | true ↦ λ own.
            let own_sum : sum_of (list_of e.site x) ≤ limits.quota - size_of e.content =
            omega (arith, list_fewer e.site x q (budget_fewer (limits.budget - size_of e.content) (limits.slots - 1) q), quota_sum e.site (limits.quota - size_of e.content) w) in
            let same : e.site ≡ site = eqb-true e.site site own in
            omega (arith, own_sum, leb-true (size_of e.content) limits.quota b.1, ap (λ s. sum_of (list_of s x)) same)
        | false ↦ λ _. omega (arith, h.quota site, list_fewer site x c fewer)
      ] refl;
      slots = omega (arith, sums.1, ltb-true 0 limits.slots a.1);
      once = λ site suite. elim (is_of site suite e) as (λ t. is_of site suite e ≡ t → length (cond t (e ∷ filter (is_of site suite) x) (filter (is_of site suite) x)) ≤ 1) [
        | true ↦ λ own.
            let key = both (e.site == site) (e.suite == suite) own in
            let none : length (filter (is_of e.site e.suite) x) ≤ 0 = omega (arith, once_fewer e.site e.suite x w few, ap length (none_of_key e.site e.suite c)) in
            omega (arith, none, ap (λ s. length (filter (is_of s e.suite) x)) (eqb-true e.site site key.0), ap (λ s. length (filter (is_of site s) x)) (eqb-true e.suite suite key.1))
        | false ↦ λ _. omega (arith, h.once site suite, once_fewer site suite x c fewer)
      ] refl;
    }
