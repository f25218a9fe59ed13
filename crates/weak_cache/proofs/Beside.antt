-- What is found beside a new entry.
use Rattle.weak_cache.proofs.Vocabulary.{◌≡◌, ℕ, ◌+◌, ◌-◌, ◌≤◌, ◌<◌, Bool, true, false, cond, not, ◌&&◌, ◌⊎◌, inr, Option, None, Some, [], ◌∷◌, ◌++◌, length, refl, sym, ap, ◌∙◌, arith, append-nil, length-append, ◌==◌, filter, find, is_some, IsSome}
use Rattle.weak_cache.proofs.Vocabulary.{IsTrue, false≢true, option_copied, last_of, Entry, Cache, size_of, sum_of, is_at, is_of, list_of, forgotten, entry_of, without, Limits, has_room, put, content_at, used, searched, within_quota, within_budget}
use Rattle.weak_cache.proofs.Vocabulary.{stays, room_after}
use denote.Bor.{Bor}
use Rattle.weak_cache.proofs.Fewer.{Fewer, fewer_filter, list_fewer, sum_fewer, length_fewer}
use Rattle.weak_cache.proofs.Keeping.{sum_of-append, quota_fits, budget_fits, budget_evicts}
use Rattle.weak_cache.proofs.Found.{find_kept, find_gone, of_same}
use Rattle.weak_cache.proofs.Puts.{put_none}
use Rattle.weak_cache.proofs.Shelving.{last_cut, count_between, alone, find_skip}

-- what stays of a site's older entries
abbrev pub within_room : ℕ → Option ℕ → Cache → Cache
within_room site (Some room) c = within_quota site room c
within_room site None c = forgotten site c

same_number_turned : (a b : ℕ) → (a == b) ≡ (b == a)
same_number_turned a b = search arith

key_turned : (site suite : ℕ) (n : Entry) → ((site == n.site) && (suite == n.suite)) ≡ is_of site suite n
key_turned site suite n = ap (λ b. b && (suite == n.suite)) (same_number_turned site n.site) ∙ ap (λ b. (n.site == site) && b) (same_number_turned suite n.suite)

-- ---- a new entry that has no room at all

not_true : (b : Bool) → (IsTrue b → ⊥) → b ≡ false
not_true true h = absurd (h refl)
not_true false h = refl

left : (limits : Limits) (n : Entry) (c : Cache) (site suite : ℕ) → (IsTrue (has_room limits n.content) → ⊥) → entry_of (put limits n c) site suite ≡ entry_of (without n.site n.suite c) site suite
left limits n c site suite none = ap (find (is_of site suite)) (put_none limits n c (not_true (has_room limits n.content) none))

-- what the site kept of the suite is gone
pub none_own : (limits : Limits) (n : Entry) (c : Cache) (site suite : ℕ) → (IsTrue (has_room limits n.content) → ⊥) → is_of site suite n ≡ true → None ≡ entry_of (put limits n c) site suite
none_own limits n c site suite none own =
    let gone : entry_of (without n.site n.suite c) site suite ≡ None = find_gone (is_of site suite) (λ x. not (is_of n.site n.suite x)) (λ x here. ap not (of_same site suite n.site n.suite x here ∙ key_turned site suite n ∙ own)) c in
    sym (left limits n c site suite none ∙ gone)

-- and what else was kept is kept
pub kept_other : (limits : Limits) (n : Entry) (c : Cache) (site suite : ℕ) → (IsTrue (has_room limits n.content) → ⊥) → is_of site suite n ≡ false → entry_of c site suite ≡ entry_of (put limits n c) site suite
kept_other limits n c site suite none other =
    let kept : entry_of (without n.site n.suite c) site suite ≡ entry_of c site suite = find_kept (is_of site suite) (λ x. not (is_of n.site n.suite x))
    (λ x here. ap not (of_same site suite n.site n.suite x here ∙ key_turned site suite n ∙ other)) c in
    sym (left limits n c site suite none ∙ kept)

pub none_is_none : (o : Option Entry) → o ≡ None → IsSome o → ⊥
none_is_none o none some = absurd (false≢true (sym (ap is_some none) ∙ some))

-- where nothing is kept of a suite, nothing goes with it
pub without_none : (site suite : ℕ) (c : Cache) → entry_of c site suite ≡ None → without site suite c ≡ c
without_none site suite [] h = refl
without_none site suite (e ∷ c) h =
    elim (is_of site suite e) as (λ t. cond t (Some e) (entry_of c site suite) ≡ None → cond (not t) (e ∷ without site suite c) (without site suite c) ≡ e ∷ c) [
      | true ↦ λ h. absurd (cc h)
      | false ↦ λ h. ap (λ l. e ∷ l) (without_none site suite c h)
    ] h

-- ---- entries that have room in bytes, of which the oldest may be one too many

-- what passes a test is no more than all
passing_few : (r : Entry → Bool) (c : Cache) → length (filter r c) ≤ length c
passing_few r c = length_fewer (filter r c) c (fewer_filter r c)

pub none_copied : {A : Type 0} (o : Option (Bor A)) → is_some o ≡ false → option_copied o ≡ None
none_copied None h = refl
none_copied (Some x) h = absurd (false≢true (sym h))

pub some_copied : {A : Type 0} (o : Option (Bor A)) → is_some o ≡ true → is_some (option_copied o) ≡ true
some_copied None h = absurd (false≢true h)
some_copied (Some x) h = refl

-- where the entry of a key goes, one less is left
pub one_less : (site suite : ℕ) (c : Cache) → is_some (entry_of c site suite) ≡ true → length (without site suite c) < length c
one_less site suite [] h = absurd (false≢true h)
one_less site suite (e ∷ c) h =
    elim (is_of site suite e) as (λ t. is_some (cond t (Some e) (entry_of c site suite)) ≡ true → length (cond (not t) (e ∷ without site suite c) (without site suite c)) < length (e ∷ c)) [
      | true ↦ λ _. let few = passing_few (λ x. not (is_of site suite x)) c in omega (arith, few)
      | false ↦ λ h. let less = one_less site suite c h in omega (arith, less)
    ] h

-- the oldest
pub last_behind : (newer : Cache) (e : Entry) → last_of (newer ++ e ∷ []) ≡ Some e
last_behind [] e = refl
last_behind (x ∷ []) e = refl
last_behind (x ∷ y ∷ newer) e = last_behind (y ∷ newer) e

-- where there are slots for the others, what was kept is kept
pub others_stay : (site suite new_site new_suite quota budget slots : ℕ) (c : Cache) → ((new_site == site) && (new_suite == suite)) ≡ false
    → (sum_of c ≤ budget) × (sum_of (list_of new_site c) ≤ quota) → length (without new_site new_suite c) ≤ slots
    → entry_of c site suite ≡ entry_of (stays new_site new_suite quota budget slots c) site suite
others_stay site suite new_site new_suite quota budget slots c other bytes few =
    let r : Entry → Bool = λ x. not (is_of new_site new_suite x) in
    let w : Cache = filter r c in
    let fewer : Fewer w c = fewer_filter r c in
    let turned : ((site == new_site) && (suite == new_suite)) ≡ false = ap (λ b. b && (suite == new_suite)) (same_number_turned site new_site) ∙ ap (λ b. (new_site == site) && b) (same_number_turned suite new_suite) ∙ other in
    let in_quota : within_quota new_site quota w ≡ w = quota_fits new_site quota w (omega (arith, bytes.1, list_fewer new_site w c fewer)) in
    let in_budget : within_budget budget slots w ≡ w = budget_fits budget slots w (omega (arith, bytes.0, sum_fewer w c fewer)) few in
    sym (ap (λ l. find (is_of site suite) (within_budget budget slots l)) in_quota ∙ ap (find (is_of site suite)) in_budget ∙ find_kept (is_of site suite) r (λ x here. ap not (of_same site suite new_site new_suite x here ∙ turned)) c)

-- where all have slots
pub all_stay : (site suite new_site new_suite quota budget slots : ℕ) (c : Cache) → ((new_site == site) && (new_suite == suite)) ≡ false → (sum_of c ≤ budget) × (sum_of (list_of new_site c) ≤ quota) → length c ≤ slots
    → entry_of c site suite ≡ entry_of (stays new_site new_suite quota budget slots c) site suite
all_stay site suite new_site new_suite quota budget slots c other bytes few =
    others_stay site suite new_site new_suite quota budget slots c other bytes (let less = passing_few (λ x. not (is_of new_site new_suite x)) c in omega (arith, few, less))

-- where one goes for that of its key
pub one_for_one : (site suite new_site new_suite quota budget slots : ℕ) (c : Cache) → ((new_site == site) && (new_suite == suite)) ≡ false → (sum_of c ≤ budget) × (sum_of (list_of new_site c) ≤ quota) → length c ≤ slots + 1
    → is_some (entry_of c new_site new_suite) ≡ true → entry_of c site suite ≡ entry_of (stays new_site new_suite quota budget slots c) site suite
one_for_one site suite new_site new_suite quota budget slots c other bytes few there =
    others_stay site suite new_site new_suite quota budget slots c other bytes (let less = one_less new_site new_suite c there in omega (arith, few, less))

-- where the oldest goes
module _ (new_site new_suite quota budget slots : ℕ) (c : Cache) (last : Entry) (bytes : (sum_of c ≤ budget) × (sum_of (list_of new_site c) ≤ quota)) (few : length c ≤ slots + 1)
    (above : slots < length c) (none : entry_of c new_site new_suite ≡ None) (is : last_of c ≡ Some last) where
  but_last : (newer : Cache) × (c ≡ newer ++ last ∷ []) × (stays new_site new_suite quota budget slots c ≡ newer)
  but_last =
      let cut = last_cut c last is in
      let newer : Cache = cut.0 in
      let sum : sum_of c ≡ sum_of newer + sum_of (last ∷ []) = ap sum_of cut.1 ∙ sum_of-append newer (last ∷ []) in
      let count : length c ≡ length newer + 1 = ap length cut.1 ∙ length-append newer (last ∷ []) in (
        newer,
        cut.1,
        ap (λ l. within_budget budget slots (within_quota new_site quota l)) (without_none new_site new_suite c none)
            ∙ ap (within_budget budget slots) (quota_fits new_site quota c bytes.1 ∙ cut.1)
            ∙ budget_evicts budget slots newer last (inr (omega (arith, above, ap length cut.1)))
            ∙ budget_fits budget slots newer (omega (arith, bytes.0, sum)) (omega (arith, few, count)),
      )

  pub last_goes : (site suite : ℕ) → length (filter (is_of site suite) c) ≤ 1 → is_of site suite last ≡ true → None ≡ entry_of (stays new_site new_suite quota budget slots c) site suite
  last_goes site suite once own =
      let p : Entry → Bool = is_of site suite in
      let b = but_last in
      let less : length (filter p (b.0 ++ [])) ≤ 0 = omega (arith, once, ap (λ l. length (filter p l)) b.1, count_between p b.0 last [] own) in
      sym (ap (find p) b.2 ∙ ap (find p) (sym (append-nil b.0)) ∙ (alone p b.0 last [] own less).2)

  pub others_kept : (site suite : ℕ) → is_of site suite last ≡ false → entry_of c site suite ≡ entry_of (stays new_site new_suite quota budget slots c) site suite
  others_kept site suite apart =
      let p : Entry → Bool = is_of site suite in
      let b = but_last in
      ap (find p) b.1 ∙ find_skip p b.0 last [] apart ∙ ap (find p) (append-nil b.0) ∙ sym (ap (find p) b.2)

-- ---- a search

pub search_none : (site suite dver : ℕ) (c : Cache) → content_at c site suite dver ≡ None → (false ≡ is_some (content_at c site suite dver)) × (c ≡ searched site suite dver c)
search_none site suite dver c none = (sym (ap is_some none), sym (ap (λ o. cond (is_some o) (used site suite c) c) none))

pub search_some : (site suite dver : ℕ) (c : Cache) (e : Entry) → entry_of c site suite ≡ Some e → (e.dver == dver) ≡ true → (true ≡ is_some (content_at c site suite dver)) × (searched site suite dver c ≡ e ∷ without site suite c)
search_some site suite dver c e found version = search arith

-- ---- a walk

pub nothing_left : (site suite new_site budget slots : ℕ) (room : Option ℕ) → None ≡ entry_of (within_budget budget slots (within_room new_site room [])) site suite
nothing_left site suite new_site budget slots None = refl
nothing_left site suite new_site budget slots (Some room) = refl

pub no_room : (o : Option ℕ) → is_some o ≡ false → o ≡ None
no_room None h = refl
no_room (Some room) h = absurd (false≢true (sym h))

pub some_room : (o : Option ℕ) → is_some o ≡ true → o ≡ None → ⊥
some_room o h none = absurd (false≢true (sym (ap is_some none) ∙ h))

module _ (site suite : ℕ) (e : Entry) (c : Cache) where
  -- of the key that is put
  pub walk_own : is_of site suite e ≡ true → without site suite (e ∷ c) ≡ without site suite c
  walk_own own = rw own refl

  pub walk_past : is_of site suite e ≡ false → without site suite (e ∷ c) ≡ e ∷ without site suite c
  walk_past other = rw other refl

module _ (site : ℕ) (e : Entry) (c : Cache) where
  -- without room in the quota
  pub walk_gone : (room : Option ℕ) → is_at site e ≡ true → room_after room (size_of e.content) ≡ None → within_room site room (e ∷ c) ≡ within_room site None c
  walk_gone room h1 h2 = search arith

  -- and with room there
  pub walk_kept : (room left : Option ℕ) → is_at site e ≡ true → room_after room (size_of e.content) ≡ left → (left ≡ None → ⊥) → within_room site room (e ∷ c) ≡ e ∷ within_room site left c
  walk_kept room left h2 h3 h4 = search arith

  pub walk_other : (room : Option ℕ) → is_at site e ≡ false → within_room site room (e ∷ c) ≡ e ∷ within_room site room c
  walk_other None other = rw other refl
  walk_other (Some room) other = rw other refl

-- without room in the budget or slots
pub walk_ends : (site suite budget slots : ℕ) (e : Entry) (c : Cache) → (slots ≡ 0) ⊎ (budget < size_of e.content) → entry_of (within_budget budget slots (e ∷ c)) site suite ≡ None
walk_ends site suite budget slots e c ends = search arith

pub walk_on : (site suite budget slots : ℕ) (e : Entry) (c : Cache) → (slots ≡ 0 → ⊥) → size_of e.content ≤ budget
    → entry_of (within_budget budget slots (e ∷ c)) site suite ≡ cond (is_of site suite e) (Some e) (entry_of (within_budget (budget - size_of e.content) (slots - 1) c) site suite)
walk_on site suite budget slots e c some fits = search arith
