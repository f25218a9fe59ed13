-- What is found was put.
use Rattle.weak_cache.proofs.Vocabulary.{◌≡◌, ℕ, ◌-◌, leb, ltb, Bool, true, false, cond, not, ◌&&◌, ◌⊎◌, inl, inr, Option, None, Some, List, [], ◌∷◌, refl, sym, ap, ◌∙◌, ◌==◌, filter, find, list_all, eqb-true, arith, false≢true, Entry, Cache}
use Rattle.weak_cache.proofs.Vocabulary.{size_of, is_at, is_of, forgotten, entry_of, without, Limits, in_front, searched, has_room, put, within_quota, within_budget, stays}
use Rattle.weak_cache.specs.Calls.{Call, Put, after, run, spares, WasPut}
use Rattle.weak_cache.specs.Laws.{HintWasPut, ContentWasPut, FoundWasPut}
use Rattle.std.specs.Cmp.Derive.{both_true}
use Rattle.weak_cache.proofs.Keeping.{both}
use Rattle.weak_cache.proofs.Puts.{beside, put_is, put_none, same_number}

-- ---- a list that some entries left

pub find_kept : (p r : Entry → Bool) → ((x : Entry) → p x ≡ true → r x ≡ true) → (c : Cache) → find p (filter r c) ≡ find p c
find_kept p r keeps [] = refl
find_kept p r keeps (e ∷ c) = search (false≢true, find_kept p r keeps c, arith)

pub find_gone : (p r : Entry → Bool) → ((x : Entry) → p x ≡ true → r x ≡ false) → (c : Cache) → find p (filter r c) ≡ None
find_gone p r drops [] = refl
find_gone p r drops (e ∷ c) = search (false≢true, find_gone p r drops c, arith)

-- ---- keys

at_same : (site suite other : ℕ) (x : Entry) → is_of site suite x ≡ true → is_at other x ≡ (site == other)
at_same site suite other x own = ap (λ s. s == other) (eqb-true x.site site (both (x.site == site) (x.suite == suite) own).0)

pub of_same : (site suite other number : ℕ) (x : Entry) → is_of site suite x ≡ true → is_of other number x ≡ ((site == other) && (suite == number))
of_same site suite other number x own = search arith

pub key_own : (e : Entry) → is_of e.site e.suite e ≡ true
key_own e = both_true (same_number e.site) (same_number e.suite)

none_is_no_entry : (e : Entry) → None ≡ Some e → ⊥
none_is_no_entry e h = cc h

some_same : {X : Type 0} (a b : X) → Some a ≡ Some b → a ≡ b
some_same a b h = cc h

found_forgotten : (site suite other : ℕ) (e : Entry) (c : Cache) → entry_of (forgotten other c) site suite ≡ Some e → (entry_of c site suite ≡ Some e) × (not (site == other) ≡ true)
found_forgotten site suite other e c h = search (none_is_no_entry, find_gone, at_same, find_kept, arith)

found_without : (site suite other number : ℕ) (e : Entry) (c : Cache) → entry_of (without other number c) site suite ≡ Some e → (entry_of c site suite ≡ Some e) × (not ((site == other) && (suite == number)) ≡ true)
found_without site suite other number e c h =
    elim ((site == other) && (suite == number)) as (λ t. ((site == other) && (suite == number)) ≡ t → (entry_of c site suite ≡ Some e) × (not t ≡ true)) [
      | true ↦ λ same. absurd (none_is_no_entry e (sym (find_gone (is_of site suite) (λ x. not (is_of other number x)) (λ x own. ap not (of_same site suite other number x own ∙ same)) c) ∙ h))
      | false ↦ λ apart. (sym (find_kept (is_of site suite) (λ x. not (is_of other number x)) (λ x own. ap not (of_same site suite other number x own ∙ apart)) c) ∙ h, refl)
    ] refl

-- ---- what is found where entries went was there

quota_found : (site suite other room : ℕ) (e : Entry) (c : Cache) → entry_of (within_quota other room c) site suite ≡ Some e → entry_of c site suite ≡ Some e
quota_found site suite other room e [] h = h
quota_found site suite other room e (x ∷ c) h =
    let p = is_of site suite in
    let more : (room' : ℕ) → find p (x ∷ within_quota other room' c) ≡ Some e → find p (x ∷ c) ≡ Some e = λ room'.
    elim (p x) as (λ t. cond t (Some x) (find p (within_quota other room' c)) ≡ Some e → cond t (Some x) (find p c) ≡ Some e) [ true ↦ λ h. h | false ↦ λ h. quota_found site suite other room' e c h ] in
    elim (is_at other x) as (λ b. is_at other x ≡ b
    → find p (cond b (cond (leb (size_of x.content) room) (x ∷ within_quota other (room - size_of x.content) c) (forgotten other c)) (x ∷ within_quota other room c)) ≡ Some e
    → find p (x ∷ c) ≡ Some e) [
      | true ↦ λ own. elim (leb (size_of x.content) room) as (λ t. find p (cond t (x ∷ within_quota other (room - size_of x.content) c) (forgotten other c)) ≡ Some e → find p (x ∷ c) ≡ Some e) [
        | true ↦ λ h. more (room - size_of x.content) h
        | false ↦ λ h.
            let found = found_forgotten site suite other e c h in
            elim (p x) as (λ t. p x ≡ t → cond t (Some x) (find p c) ≡ Some e) [
              | true ↦ λ here. absurd (false≢true (sym (ap not (sym (at_same site suite other x here) ∙ own)) ∙ found.1))
              | false ↦ λ _. found.0
            ] refl
      ]
      | false ↦ λ _ h. more room h
    ] refl h

budget_found : (site suite room slots : ℕ) (e : Entry) (c : Cache) → entry_of (within_budget room slots c) site suite ≡ Some e → entry_of c site suite ≡ Some e
budget_found site suite room slots e [] h = h
budget_found site suite room slots e (x ∷ c) h =
    let p = is_of site suite in
    elim (leb (size_of x.content) room && ltb 0 slots) as (λ t. find p (cond t (x ∷ within_budget (room - size_of x.content) (slots - 1) c) []) ≡ Some e → find p (x ∷ c) ≡ Some e) [
      | true ↦ elim (p x) as (λ t. cond t (Some x) (find p (within_budget (room - size_of x.content) (slots - 1) c)) ≡ Some e → cond t (Some x) (find p c) ≡ Some e)
          [ true ↦ λ h. h | false ↦ λ h. budget_found site suite (room - size_of x.content) (slots - 1) e c h ]
      | false ↦ λ h. absurd (none_is_no_entry e h)
    ] h

pub none_stays : (site suite new_site new_suite quota budget slots : ℕ) (c : Cache) → entry_of c site suite ≡ None → None ≡ entry_of (stays new_site new_suite quota budget slots c) site suite
none_stays site suite new_site new_suite quota budget slots c none = search (budget_found, quota_found, none_is_no_entry, found_without, arith)

-- ---- calls

-- an entry that is there after a call was there before, and spared, or was put by it
abbrev IsFrom : ℕ → ℕ → Entry → Call → Cache → Type 0
IsFrom site suite e call c = ((entry_of c site suite ≡ Some e) × (spares site suite call ≡ true)) ⊎ ((call ≡ Put e) × (is_of site suite e ≡ true))

flipped : (site suite : ℕ) (n : Entry) → not ((site == n.site) && (suite == n.suite)) ≡ true → is_of site suite n ≡ false
flipped site suite n h = search arith

put_found : (limits : Limits) (n : Entry) (site suite : ℕ) (e : Entry) (c : Cache) → entry_of (put limits n c) site suite ≡ Some e → IsFrom site suite e (Put n) c
put_found limits n site suite e c h =
    let p = is_of site suite in
    let others : entry_of (without n.site n.suite c) site suite ≡ Some e → IsFrom site suite e (Put n) c = λ h.
    let found = found_without site suite n.site n.suite e c h in
    inl (found.0, ap not (flipped site suite n found.1)) in
    elim (has_room limits n.content) as (λ t. has_room limits n.content ≡ t → IsFrom site suite e (Put n) c) [
      | true ↦ λ room.
          let h' : find p (n ∷ beside limits n c) ≡ Some e = ap (find p) (sym (put_is limits n c room)) ∙ h in
          elim (p n) as (λ t. p n ≡ t → cond t (Some n) (find p (beside limits n c)) ≡ Some e → IsFrom site suite e (Put n) c) [
            | true ↦ λ own h. inr (ap Put (some_same n e h), ap p (sym (some_same n e h)) ∙ own)
            | false ↦ λ _ h. others (quota_found site suite n.site (limits.quota - size_of n.content) e (without n.site n.suite c) (budget_found site suite _ _ e _ h))
          ] refl h'
      | false ↦ λ room. others (ap (find p) (sym (put_none limits n c room)) ∙ h)
    ] refl

-- ---- a content that is found is used

pub find_passes : (q : Entry → Bool) (c : Cache) (x : Entry) → find q c ≡ Some x → q x ≡ true
find_passes q [] x h = absurd (none_is_no_entry x h)
find_passes q (e ∷ c) x h =
    elim (q e) as (λ t. q e ≡ t → cond t (Some e) (find q c) ≡ Some x → q x ≡ true) [
      | true ↦ λ own h. ap q (sym (some_same e x h)) ∙ own
      | false ↦ λ _ h. find_passes q c x h
    ] refl h

same_key : (site suite other number : ℕ) (y : Entry) → is_of site suite y ≡ true → is_of other number y ≡ true → (site ≡ other) × (suite ≡ number)
same_key site suite other number y own theirs = search arith

in_front_found : (site suite other number : ℕ) (c : Cache) (o : Option Entry) → entry_of c other number ≡ o → entry_of (in_front o other number c) site suite ≡ entry_of c site suite
in_front_found site suite other number c None h = refl
in_front_found site suite other number c (Some x) h =
    let p : Entry → Bool = is_of site suite in
    let q : Entry → Bool = is_of other number in
    let theirs : q x ≡ true = find_passes q c x h in
    elim (p x) as (λ t. p x ≡ t → cond t (Some x) (find p (without other number c)) ≡ find p c) [
      | true ↦ λ own.
          let same = same_key site suite other number x own theirs in
          sym (ap (λ s. entry_of c s suite) same.0 ∙ ap (λ u. entry_of c other u) same.1 ∙ h)
      | false ↦ λ apart.
          let keeps : (y : Entry) → p y ≡ true → not (q y) ≡ true = λ y own.
          elim (q y) as (λ t. q y ≡ t → not t ≡ true) [
            | true ↦ λ both'.
                let same = same_key site suite other number y own both' in
                absurd (false≢true (sym apart ∙ ap (λ s. is_of s suite x) same.0 ∙ ap (λ u. is_of other u x) same.1 ∙ theirs))
            | false ↦ λ _. refl
          ] refl in
          find_kept p (λ y. not (q y)) keeps c
    ] refl

pub searched_found : (site suite other number dver : ℕ) (c : Cache) → entry_of (searched other number dver c) site suite ≡ entry_of c site suite
searched_found site suite other number dver c = search (in_front_found, arith)

-- ---- lists of calls

after_found : (limits : Limits) (call : Call) (site suite : ℕ) (e : Entry) (c : Cache) → entry_of (after limits call c) site suite ≡ Some e → IsFrom site suite e call c
after_found limits call site suite e c h6 = search (searched_found, put_found, found_forgotten, arith)

run_found : (limits : Limits) (calls : List Call) (c : Cache) (site suite : ℕ) (e : Entry) → entry_of (run limits calls c) site suite ≡ Some e
    → ((entry_of c site suite ≡ Some e) × (list_all (spares site suite) calls ≡ true)) ⊎ WasPut site suite e calls
run_found limits [] c site suite e h = inl (h, refl)
run_found limits (call ∷ calls) c site suite e h =
    elim (run_found limits calls (after limits call c) site suite e h) [
      | inl r ↦ elim (after_found limits call site suite e c r.0) [
        | inl a ↦ inl (a.0, both_true a.1 r.1)
        | inr b ↦ inr (record { before = []; since = calls; parts = ap (λ k. k ∷ calls) b.0; own = b.1; spared = r.1 })
      ]
      | inr w ↦ inr (record { before = call ∷ w.before; since = w.since; parts = ap (λ l. call ∷ l) w.parts; own = w.own; spared = w.spared })
    ]

put_there : (limits : Limits) (calls : List Call) (site suite : ℕ) (e : Entry) → entry_of (run limits calls []) site suite ≡ Some e → WasPut site suite e calls
put_there limits calls site suite e h = elim (run_found limits calls [] site suite e h) [ inl r ↦ absurd (none_is_no_entry e r.0) | inr w ↦ w ]

none_is_none : {X : Type 0} (x : X) → None ≡ Some x → ⊥
none_is_none x h = cc h

hint_was_put : HintWasPut
hint_was_put limits calls site suite prefix h = search (none_is_none, put_there, some_same, arith)

content_was_put : ContentWasPut
content_was_put limits calls site suite dver content h = search (none_is_none, put_there, eqb-true, some_same, arith)

pub found_was_put : FoundWasPut
found_was_put = record { hint = hint_was_put; content = content_was_put }
