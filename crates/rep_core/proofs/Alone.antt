-- An exclusive lock stands alone through each change.
use Rattle.rep_core.proofs.Vocabulary.{◌≡◌, ℕ, Bool, true, false, ◌⊎◌, inl, inr, List, None, refl, sym, ap, ◌∙◌, arith, find, filter, nat_tests, LockMode, Lock, Part, is_exclusive, conflicts, is_own, raised_lock, raised, before, with_lock, locked}
use Rattle.rep_core.proofs.Vocabulary.{with_prepared, State}
use Rattle.rep_core.proofs.Ways.{Ways}
use Rattle.rep_core.proofs.Members.{Has, has_filter, has_map, has_between, find_none}

-- no exclusive lock stands beside another transaction's lock on the suite
abbrev pub Alone : List Lock → Type 0
Alone locks = (a b : Lock) → Has locks a → Has locks b → a.suite ≡ b.suite → is_exclusive a.mode ≡ true → a.t ≡ b.t

-- two locks that differ in no more than being prepared
record SameLock (a b : Lock) : Type 0 where
  pub t : a.t ≡ b.t
  pub suite : a.suite ≡ b.suite
  pub mode : a.mode ≡ b.mode

-- each lock was one before
abbrev NoNewLock : List Lock → List Lock → Type 0
NoNewLock old new = (x : Lock) → Has new x → (y : Lock) × Has old y × SameLock x y

alone_no_new : (old new : List Lock) → NoNewLock old new → Alone old → Alone new
alone_no_new old new from alone a b has_a has_b same exclusive = search arith

-- a lock that does not conflict
pub no_conflict : (t s : ℕ) (m : LockMode) (l : Lock) → conflicts t s m l ≡ false → l.suite ≡ s → (is_exclusive m ≡ true) ⊎ (is_exclusive l.mode ≡ true) → l.t ≡ t
no_conflict t s m l e = grind (arith, nat_tests)

alone_with_lock : (t s : ℕ) (m : LockMode) (ls : List Lock) → find (conflicts t s m) ls ≡ None → Alone ls → Alone (with_lock (record { t = t; suite = s; mode = m; prepared = false }) ls)
alone_with_lock t s m ls none alone a b has_a has_b same exclusive =
    let new : Lock = record { t = t; suite = s; mode = m; prepared = false } in
    elim (has_between (λ other. before other new) ls new a has_a) [
      | inl old_a ↦ elim (has_between (λ other. before other new) ls new b has_b) [
        | inl old_b ↦ alone a b old_a old_b same exclusive
        | inr new_b ↦ no_conflict t s m a (find_none _ ls a none old_a) (same ∙ ap (λ (l : Lock). l.suite) (sym new_b)) (inr exclusive) ∙ ap (λ (l : Lock). l.t) new_b
      ]
      | inr new_a ↦ elim (has_between (λ other. before other new) ls new b has_b) [
        | inl old_b ↦ ap (λ (l : Lock). l.t) (sym new_a) ∙ sym (no_conflict t s m b (find_none _ ls b none old_b) (sym same ∙ ap (λ (l : Lock). l.suite) (sym new_a)) (inl (ap (λ (l : Lock). is_exclusive l.mode) new_a ∙ exclusive)))
        | inr new_b ↦ ap (λ (l : Lock). l.t) (sym new_a ∙ new_b)
      ]
    ]

pub own_is : (t s : ℕ) (l : Lock) → is_own t s l ≡ true → (l.t ≡ t) × (l.suite ≡ s)
own_is t s l e = (grind (arith, nat_tests), grind (arith, nat_tests))

-- what is exclusive once it is raised
raised_exclusive : (t s : ℕ) (m : LockMode) (l : Lock) → is_exclusive (raised_lock t s m l).mode ≡ true → (is_exclusive l.mode ≡ true) ⊎ ((l.t ≡ t) × (l.suite ≡ s) × (is_exclusive m ≡ true))
raised_exclusive t s m l e = search arith

alone_raised : (t s : ℕ) (m : LockMode) (ls : List Lock) → find (conflicts t s m) ls ≡ None → Alone ls → Alone (raised t s m ls)
alone_raised t s m ls none alone a b has_a has_b same exclusive = search (has_map, raised_exclusive, no_conflict, find_none, arith)

pub alone_locked : (t s : ℕ) (m : LockMode) (ls : List Lock) → find (conflicts t s m) ls ≡ None → Alone ls → Alone (locked t s m ls)
alone_locked t s m ls none alone = search (alone_raised, alone_with_lock, arith)

pub alone_prepared : (t : ℕ) (parts : List Part) (ls : List Lock) → Alone ls → Alone (with_prepared t parts ls)
alone_prepared t parts ls = search (alone_no_new, has_map, arith)

alone_filter : (p : Lock → Bool) (ls : List Lock) → Alone ls → Alone (filter p ls)
alone_filter p ls = alone_no_new ls _ (λ x h. (x, (has_filter p ls x h).0, record { t = refl; suite = refl; mode = refl }))

-- ---- each request

pub alone_ways : (st : State) → Alone st.locks → Ways st (λ _ new. Alone new.locks)
alone_ways st alone = search (alone_locked, alone_prepared, alone_filter, arith)
