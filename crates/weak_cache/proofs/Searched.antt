-- A cache that was searched is within what it was within.
use Rattle.weak_cache.proofs.Vocabulary.{◌≡◌, ℕ, ◌≤◌, true, false, cond, None, Some, ◌∷◌, ◌++◌, length, refl, ap, arith, filter, is_some, Entry, Cache, is_of, entry_of, without, Limits, IsWithin, in_front, used, content_at, searched}
use Rattle.weak_cache.proofs.Fewer.{Fewer, fewer_moved, within_fewer}
use Rattle.weak_cache.proofs.Shelving.{find_cut, count_between, alone}

fewer_used : (site suite : ℕ) (c : Cache) (e : Entry) → length (filter (is_of site suite) c) ≤ 1 → entry_of c site suite ≡ Some e → Fewer (e ∷ without site suite c) c
fewer_used site suite c e once found =
    let cut = find_cut (is_of site suite) c e found in
    let few : length (filter (is_of site suite) (cut.0 ++ cut.1)) ≤ 0 = omega (arith, once, ap (λ l. length (filter (is_of site suite) l)) cut.2, count_between (is_of site suite) cut.0 e cut.1 cut.3) in
    rw (cut.2, (alone (is_of site suite) cut.0 e cut.1 cut.3 few).1) (fewer_moved cut.0 e cut.1)

pub within_searched : (limits : Limits) (site suite dver : ℕ) (c : Cache) → IsWithin (record { limits = limits; entries = c }) → IsWithin (record { limits = limits; entries = searched site suite dver c })
within_searched limits site suite dver c h =
    elim (is_some (content_at c site suite dver)) as (λ t. IsWithin (record { limits = limits; entries = cond t (used site suite c) c })) [
      | true ↦ elim (entry_of c site suite) as (λ o. entry_of c site suite ≡ o → IsWithin (record { limits = limits; entries = in_front o site suite c })) [
        | None ↦ λ _. h
        | Some e ↦ λ found. within_fewer limits (e ∷ without site suite c) c h (fewer_used site suite c e (h.once site suite) found)
      ] refl
      | false ↦ h
    ]
