-- What each call finds in a site's list and leaves of it.
use Rattle.weak_cache.proofs.Vocabulary.{◌≡◌, ◌≢◌, ℕ, ◌-◌, ◌<◌, leb, ltb, Bool, true, false, cond, not, ◌&&◌, ◌||◌, ◌⊎◌, inl, inr, [], ◌∷◌, ◌++◌, length, refl, sym, ap, ◌∙◌, arith, ◌==◌, filter, append-nil, filter-append, false≢true, leb-true}
use Rattle.weak_cache.proofs.Vocabulary.{leb-false, lt-ltb, ltb-true, ltb-false, Entry, Cache, size_of, sum_of, is_at, is_of, list_of, forgotten, entry_of, without, Limits, searched, has_room, put, within_quota, within_budget, is_above}
use Rattle.weak_cache.specs.SiteLists.{with_new, PutLeaves, SiteLists}
use Rattle.weak_cache.proofs.Keeping.{both, forgotten_list}
use Rattle.weak_cache.proofs.Found.{find_kept, find_passes}
use Rattle.weak_cache.proofs.Puts.{same_number}

abbrev with' : Entry → Cache → Cache
with' e c = e ∷ c

-- ---- two filters

filter_swap : (p q : Entry → Bool) (c : Cache) → filter p (filter q c) ≡ filter q (filter p c)
filter_swap p q [] = refl
filter_swap p q (e ∷ c) = search (filter_swap p q c, arith)

filter_kept : (p r : Entry → Bool) → ((x : Entry) → p x ≡ true → r x ≡ true) → (c : Cache) → filter p (filter r c) ≡ filter p c
filter_kept p r keeps [] = refl
filter_kept p r keeps (e ∷ c) = search (false≢true, filter_kept p r keeps c, arith)

-- ---- sites

-- an entry of a site is of no other
apart_at : (site other : ℕ) → other ≢ site → (x : Entry) → is_at site x ≡ true → is_at other x ≡ false
apart_at site other apart x own = search arith

own_at : (site suite : ℕ) (x : Entry) → is_of site suite x ≡ true → is_at site x ≡ true
own_at site suite x own = (both (x.site == site) (x.suite == suite) own).0

-- so what goes of a site is none of another's
keeps_others : (site other : ℕ) → other ≢ site → (p : Entry → Bool) → ((x : Entry) → p x ≡ true → is_at site x ≡ true) → (x : Entry) → is_at other x ≡ true → not (p x) ≡ true
keeps_others site other apart p own x theirs = search arith

forgotten_others : (site other : ℕ) (c : Cache) → other ≢ site → list_of other (forgotten site c) ≡ list_of other c
forgotten_others site other c apart = filter_kept (is_at other) (λ x. not (is_at site x)) (keeps_others site other apart (is_at site) (λ x own. own)) c

without_own : (site suite : ℕ) (c : Cache) → list_of site (without site suite c) ≡ without site suite (list_of site c)
without_own site suite c = filter_swap (is_at site) (λ x. not (is_of site suite x)) c

without_others : (site suite other : ℕ) (c : Cache) → other ≢ site → list_of other (without site suite c) ≡ list_of other c
without_others site suite other c apart = filter_kept (is_at other) (λ x. not (is_of site suite x)) (keeps_others site other apart (is_of site suite) (own_at site suite)) c

-- ---- look-ups

found_own : (site suite : ℕ) (c : Cache) → entry_of (list_of site c) site suite ≡ entry_of c site suite
found_own site suite c = find_kept (is_of site suite) (is_at site) (own_at site suite) c

searched_own : (site suite dver : ℕ) (c : Cache) → list_of site (searched site suite dver c) ≡ searched site suite dver (list_of site c)
searched_own site suite dver c = search (own_at, find_passes, without_own, found_own, arith)

searched_others : (site suite dver other : ℕ) (c : Cache) → other ≢ site → list_of other (searched site suite dver c) ≡ list_of other c
searched_others site suite dver other c apart = search (own_at, find_passes, apart_at, without_others, arith)

-- ---- the quota

quota_own : (site room : ℕ) (c : Cache) → list_of site (within_quota site room c) ≡ within_quota site room (list_of site c)
quota_own site room [] = refl
quota_own site room (e ∷ c) =
    elim (is_at site e) as (λ b. is_at site e ≡ b → list_of site
    (cond b (cond (leb (size_of e.content) room) (e ∷ within_quota site (room - size_of e.content) c) (forgotten site c)) (e ∷ within_quota site room c))
    ≡ within_quota site room (cond b (e ∷ list_of site c) (list_of site c))) [
      | true ↦ λ own. elim (leb (size_of e.content) room) as (λ t. list_of site (cond t (e ∷ within_quota site (room - size_of e.content) c) (forgotten site c)) ≡ cond
          (is_at site e) (cond t (e ∷ within_quota site (room - size_of e.content) (list_of site c)) (forgotten site (list_of site c)))
          (e ∷ within_quota site room (list_of site c))) [
            | true ↦ rw own (ap (with' e) (quota_own site (room - size_of e.content) c))
            | false ↦ rw own (filter_swap (is_at site) (λ x. not (is_at site x)) c)
          ]
      | false ↦ λ other. rw other (quota_own site room c)
    ] refl

quota_others : (site room other : ℕ) → other ≢ site → (c : Cache) → list_of other (within_quota site room c) ≡ list_of other c
quota_others site room other apart [] = refl
quota_others site room other apart (e ∷ c) =
    elim (is_at site e) as (λ b. is_at site e ≡ b → list_of other
    (cond b (cond (leb (size_of e.content) room) (e ∷ within_quota site (room - size_of e.content) c) (forgotten site c)) (e ∷ within_quota site room c)) ≡ list_of other
    (e ∷ c)) [
      | true ↦ λ own.
          let none : is_at other e ≡ false = apart_at site other apart e own in
          elim (leb (size_of e.content) room) as (λ t. list_of other (cond t (e ∷ within_quota site (room - size_of e.content) c) (forgotten site c)) ≡ list_of other (e ∷ c)) [
            | true ↦ rw none (quota_others site (room - size_of e.content) other apart c)
            | false ↦ rw none (forgotten_others site other c apart)
          ]
      | false ↦ λ _. elim (is_at other e) as (λ u. cond u (e ∷ list_of other (within_quota site room c)) (list_of other (within_quota site room c)) ≡ cond u (e ∷ list_of other c) (list_of other c)) [
        | true ↦ ap (with' e) (quota_others site room other apart c)
        | false ↦ quota_others site room other apart c
      ]
    ] refl

-- ---- put

new_own : (limits : Limits) (e : Entry) (c : Cache) → list_of e.site (with_new limits e c) ≡ with_new limits e (list_of e.site c)
new_own limits e c = search (without_own, same_number, quota_own, arith)

new_others : (limits : Limits) (e : Entry) (c : Cache) (other : ℕ) → other ≢ e.site → list_of other (with_new limits e c) ≡ list_of other c
new_others limits e c other apart = search (without_others, apart_at, same_number, quota_others, arith)

or_right : (a b : Bool) → b ≡ true → (a || b) ≡ true
or_right true b h = refl
or_right false b h = h

short : (a b : Bool) → (a && b) ≡ false → (a ≡ false) ⊎ (b ≡ false)
short true b h = inr h
short false b h = inl refl

above_is : (limits : Limits) (c : Cache) → (limits.budget < sum_of c) ⊎ (limits.slots < length c) → is_above limits c ≡ true
above_is limits c h = elim h [ inl s ↦ rw (lt-ltb _ _ s) refl | inr s ↦ or_right (ltb limits.budget (sum_of c)) _ (lt-ltb _ _ s) ]

-- what goes, and that it must
abbrev Goes : ℕ → ℕ → Cache → Cache → Type 0
Goes room slots all kept = (gone : Cache) × (all ≡ kept ++ gone) × ((newest : Entry) (older : Cache) → gone ≡ newest ∷ older → (room < sum_of (kept ++ newest ∷ [])) ⊎ (slots < length (kept ++ newest ∷ [])))

head_same : (a b : Entry) (c d : Cache) → a ∷ c ≡ b ∷ d → a ≡ b
head_same a b c d h = cc h

budget_goes : (room slots : ℕ) (c : Cache) → Goes room slots c (within_budget room slots c)
budget_goes room slots [] = ([], refl, λ newest older h. absurd (cc h))
budget_goes room slots (e ∷ c) =
    elim (leb (size_of e.content) room && ltb 0 slots) as (λ t. (leb (size_of e.content) room && ltb 0 slots) ≡ t → Goes room slots (e ∷ c) (cond t (e ∷ within_budget (room - size_of e.content) (slots - 1) c) [])) [
      | true ↦ λ h.
          let fits = both (leb (size_of e.content) room) (ltb 0 slots) h in
          let rest = budget_goes (room - size_of e.content) (slots - 1) c in (
            rest.0,
            ap (with' e) rest.1,
            λ newest older g. elim (rest.2 newest older g) [ inl s ↦ inl (omega (arith, s, leb-true _ _ fits.0)) | inr s ↦ inr (omega (arith, s, ltb-true _ _ fits.1)) ],
          )
      | false ↦ λ h. search (head_same, short, leb-false, ltb-false, arith)
    ] refl

abbrev Leaves : Limits → Cache → Cache → Type 0
Leaves limits all kept = (gone : Cache) × (all ≡ kept ++ gone) × ((newest : Entry) (older : Cache) → gone ≡ newest ∷ older → is_above limits (kept ++ newest ∷ []) ≡ true)

leaves : (limits : Limits) (e : Entry) (c : Cache) → Leaves limits (with_new limits e c) (put limits e c)
leaves limits e c =
    let w : Cache = without e.site e.suite c in
    let q : Cache = within_quota e.site limits.quota (e ∷ w) in
    let kept : Cache = within_budget limits.budget limits.slots q in
    elim (has_room limits e.content) as (λ t. Leaves limits (cond t q w) (cond t kept w)) [
      | true ↦ let g = budget_goes limits.budget limits.slots q in (g.0, g.1, λ newest older h. above_is limits (kept ++ newest ∷ []) (g.2 newest older h))
      | false ↦ ([], sym (append-nil w), λ newest older h. absurd (cc h))
    ]

put_leaves : (limits : Limits) (e : Entry) (c : Cache) → PutLeaves limits e c
put_leaves limits e c =
    let g = leaves limits e c in
    record {
      gone = g.0;
      parts = g.1;
      must = g.2;
      own = sym (new_own limits e c) ∙ ap (list_of e.site) g.1 ∙ filter-append (is_at e.site) (put limits e c) g.0;
      others = λ site apart. sym (new_others limits e c site apart) ∙ ap (list_of site) g.1 ∙ filter-append (is_at site) (put limits e c) g.0;
    }

pub site_lists : SiteLists
site_lists = search (found_own, searched_own, searched_others, put_leaves, forgotten_list, forgotten_others, arith)
