-- A prepared lock stays through each change but a Finish of its transaction.
use Rattle.rep_core.proofs.Vocabulary.{◌≡◌, ℕ, Bool, true, false, cond, List, refl, arith, filter, not, ◌==◌, ◌&&◌, nat_tests, LockMode, Lock, Part, serves, stronger, is_own, has_lock, raised_lock, raised, before, with_lock, locked, prepared_lock}
use Rattle.rep_core.proofs.Vocabulary.{with_prepared, State, StillPrepared, is_finish}
use Rattle.rep_core.proofs.Ways.{Ways}
use Rattle.rep_core.proofs.Members.{Has, filter_has, map_has, between_has}

-- the lock stands there still, prepared
abbrev pub Stands : List Lock → Lock → Type 0
Stands locks lock = (later : Lock) × Has locks later × StillPrepared lock later

pub serves_itself : (m : LockMode) → serves m m ≡ true
serves_itself m = search arith

serves_raised : (m want : LockMode) → serves (stronger m want) m ≡ true
serves_raised m want = search arith

pub serves_on : (a b c : LockMode) → serves b a ≡ true → serves c b ≡ true → serves c a ≡ true
serves_on a b c h3 h4 = search arith

pub itself : (l : Lock) → l.prepared ≡ true → StillPrepared l l
itself l p = record { t = refl; suite = refl; prepared = p; mode = serves_itself l.mode }

-- a lock that stands after one step and then after another
pub stands_on : (locks : List Lock) (first later : Lock) → StillPrepared first later → Stands locks later → Stands locks first
stands_on locks first later one more = search arith

pub stands_filter : (p : Lock → Bool) (ls : List Lock) (l : Lock) → Has ls l → l.prepared ≡ true → p l ≡ true → Stands (filter p ls) l
stands_filter p ls l has prepared passes = (l, filter_has p ls l has passes, itself l prepared)

pub raised_serves : (t s : ℕ) (m : LockMode) (l : Lock) → serves (raised_lock t s m l).mode l.mode ≡ true
raised_serves t s m l = elim (is_own t s l) as (λ b. serves (cond b (stronger l.mode m) l.mode) l.mode ≡ true) [ true ↦ serves_raised l.mode m | false ↦ serves_itself l.mode ]

pub stands_locked : (t s : ℕ) (m : LockMode) (ls : List Lock) (l : Lock) → Has ls l → l.prepared ≡ true → Stands (locked t s m ls) l
stands_locked t s m ls l has prepared =
    let new : Lock = record { t = t; suite = s; mode = m; prepared = false } in
    elim (has_lock t s ls) as (λ b. Stands (cond b (raised t s m ls) (with_lock new ls)) l) [
      | true ↦ (raised_lock t s m l, map_has (raised_lock t s m) ls l has, record { t = refl; suite = refl; prepared = prepared; mode = raised_serves t s m l })
      | false ↦ (l, between_has (λ other. before other new) ls new l has, itself l prepared)
    ]

pub stands_prepared : (t : ℕ) (parts : List Part) (ls : List Lock) (l : Lock) → Has ls l → l.prepared ≡ true → Stands (with_prepared t parts ls) l
stands_prepared t parts ls l has prepared = search (map_has (prepared_lock t parts) ls l has, serves_itself l.mode, arith)

not_finished : (l : Lock) (t : ℕ) → ((t == l.t) ≡ true → ⊥) → not (l.t == t) ≡ true
not_finished l t other = search arith

pub kept_by_break : (t s : ℕ) (l : Lock) → l.prepared ≡ true → not (is_own t s l && not l.prepared) ≡ true
kept_by_break t s l p = grind (arith, nat_tests)

-- ---- each request

-- the lock stands after a request that does not finish its transaction at a server that is up
pub stays_ways : (st : State) (l : Lock) → Has st.locks l → l.prepared ≡ true → Ways st (λ asked new. (st.up ≡ true → is_finish l.t asked ≡ true → ⊥) → Stands new.locks l)
stays_ways st l has prepared = search (itself, stands_locked, stands_prepared, stands_filter, not_finished, kept_by_break, arith)
