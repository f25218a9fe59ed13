-- Locks that are put and let go one by one, and what that comes to.
use Rattle.rep_core.proofs.Vocabulary.{◌≡◌, ℕ, ◌+◌, ◌<◌, ◌≤◌, ◌^◌, length, Bool, true, false, cond, inl, inr, List, [], ◌∷◌, ◌++◌, Option, Some, None, refl, sym, ap, ◌∙◌, arith, Less, Equal, Greater, ◌==◌, ◌&&◌, ◌||◌, not, nat_lt, filter, find}
use Rattle.rep_core.proofs.Vocabulary.{option_map, list_any, list_all, AllByRecursion, nat_cmp, ordering_then, is_lt, keys_of, and_parts, false≢true, true≢false, nat_tests, same_Some, IsOrdered, first_from, LockMode, serves, Lock, Part, before, rise}
use Rattle.rep_core.proofs.Vocabulary.{is_own, lock_at, has_lock_for, locked, with_prepared, released, broken, prepared_locks, holder_cmp}
use Rattle.std.specs.List.Sorted.{IsStrictlySortedBy}
use Rattle.rep_core.specs.code.Keyed.{Kept, lock_of, locks_of, own_of, next_of, lock_with, is_loose, AreNumbered, stronger_than, IsPut, without, one_prepared, with_one_prepared}
use Rattle.rep_core.proofs.Members.{Has}
use Rattle.rep_core.proofs.Finding.{find_some, find_map, none_ahead, find_filter_same, find_filter_none, once_both}
use Rattle.rep_core.proofs.LockLookups.{lock_own, taken, ready, if_prepared, one_each, lock_at-locked, lock_at-crashed, lock_at-broken}
use Rattle.rep_core.proofs.Rising.{rise_filter, rise_map, rise_locked}
use Rattle.rep_core.proofs.KeptLocks.{same_locks}

-- ---- lists

module _ {X : Type 0} where
  -- a filter that keeps no less changes nothing before another
  filter_twice : (p q : X → Bool) → ((x : X) → p x ≡ true → q x ≡ true) → (xs : List X) → filter p (filter q xs) ≡ filter p xs
  filter_twice p q keeps [] = refl
  filter_twice p q keeps (x ∷ xs) = search (false≢true, filter_twice p q keeps xs, arith)

  -- where a search finds nothing, a filter drops nothing that it would find
  none_dropped : (p q : X → Bool) → ((x : X) → q x ≡ true → p x ≡ true) → (xs : List X) → find p xs ≡ None → filter (λ x. not (q x)) xs ≡ xs
  none_dropped p q weaker [] none = refl
  none_dropped p q weaker (x ∷ xs) none = search (none_ahead, false≢true, none_dropped p q weaker xs, arith)

  no_longer : (q : X → Bool) (xs : List X) → length (filter q xs) ≤ length xs
  no_longer q [] = omega arith
  no_longer q (x ∷ xs) = search (no_longer q xs, arith)

  -- a filter that drops one of the list
  shorter : (q : X → Bool) (xs : List X) (x : X) → Has xs x → q x ≡ false → length (filter q xs) < length xs
  shorter q [] x has out = absurd has
  shorter q (y ∷ xs) x has out = search (no_longer, shorter q xs x, arith)

  -- what passes a stronger test is not there where a search finds nothing
  none_stronger : (p q : X → Bool) → ((x : X) → q x ≡ true → p x ≡ true) → (xs : List X) → find p xs ≡ None → list_any q xs ≡ false
  none_stronger p q weaker [] none = refl
  none_stronger p q weaker (x ∷ xs) none = search (none_ahead, false≢true, none_stronger p q weaker xs, arith)

  any_has : (q : X → Bool) (xs : List X) (x : X) → Has xs x → q x ≡ true → list_any q xs ≡ true
  any_has q [] x has is = absurd has
  any_has q (y ∷ xs) x has is = search (any_has q xs x, arith)

-- ---- a lock that is put

module _ (t s : ℕ) where
  same_key : (u z : ℕ) → ((u == t) && (z == s)) ≡ true → (u ≡ t) × (z ≡ s)
  same_key u z e = (grind (arith, nat_tests), grind (arith, nat_tests))

  pub put_stronger : (m : LockMode) (old new : List Lock) → IsPut t s (stronger_than (lock_at t s old) m) old new → new ≡ locked t s m old
  put_stronger m old new put = same_locks new (locked t s m old) put.rising (rise_locked t s m old put.was_rising) (λ u z.
      put.at u z ∙ ap (λ l. cond ((u == t) && (z == s)) (Some l) (lock_at u z old)) (by (lock_at t s old) refl) ∙ sym (lock_at-locked t s m old put.was_rising u z))
    where
      by : (o : Option Lock) → lock_at t s old ≡ o → lock_with t s (stronger_than o m) ≡ taken t s m o
      by o h1 = search (lock_own, arith)

  own_by : (u z : ℕ) (l : Lock) → (l.t ≡ u) × (l.suite ≡ z) → is_own t s l ≡ ((u == t) && (z == s))
  own_by u z l own = let a = own.0 in let b = own.1 in grind (arith, nat_tests)

  lock_at-one : (ls : List Lock) (u z : ℕ) → lock_at u z (with_one_prepared t s ls) ≡ cond ((u == t) && (z == s)) (option_map ready (lock_at u z ls)) (lock_at u z ls)
  lock_at-one ls u z = search (find_map, ready, own_by, lock_own, arith)

  pub put_ready : (own : Lock) (old new : List Lock) → lock_at t s old ≡ Some own → IsPut t s (own.mode, true) old new → new ≡ with_one_prepared t s old
  put_ready own old new is put = same_locks new (with_one_prepared t s old) put.rising (rise_map (one_prepared t s) (λ a b. refl) old ∙ put.was_rising) (λ u z.
      put.at u z ∙ by u z ((u == t) && (z == s)) refl ∙ sym (lock_at-one old u z))
    where
      by : (u z : ℕ) (b : Bool) → ((u == t) && (z == s)) ≡ b → cond b (Some (lock_with t s (own.mode, true))) (lock_at u z old) ≡ cond b (option_map ready (lock_at u z old)) (lock_at u z old)
      by u z b h3 = search (same_key, lock_own, ready, arith)

  pub none_ready : (ls : List Lock) → lock_at t s ls ≡ None → ls ≡ with_one_prepared t s ls
  none_ready [] none = refl
  none_ready (l ∷ ls) none = search (none_ahead, none_ready ls, arith)

-- of the parts one after the other
pub prepared_first : (t : ℕ) (part : Part) (parts : List Part) (ls : List Lock) → with_prepared t parts (with_one_prepared t part.suite ls) ≡ with_prepared t (part ∷ parts) ls
prepared_first t part parts [] = refl
prepared_first t part parts (l ∷ ls) = search (nat_tests, prepared_first t part parts ls, arith)

pub prepared_none : (t : ℕ) (ls : List Lock) → with_prepared t [] ls ≡ ls
prepared_none t [] = refl
prepared_none t (l ∷ ls) = search (prepared_none t ls, arith)

-- ---- locks that go

other_than_released : (t s : ℕ) (l : Lock) → not (l.t == t) ≡ true → not (is_own t s l) ≡ true
other_than_released t s l is = grind (arith, nat_tests)

pub released_on : (t s : ℕ) (ls : List Lock) → released t (without t s ls) ≡ released t ls
released_on t s ls = filter_twice (λ l. not (l.t == t)) (λ l. not (is_own t s l)) (other_than_released t s) ls

abbrev is_next : ℕ → ℕ → Lock → Bool
is_next t from l = (l.t == t) && not (nat_lt l.suite from)

own_is_next : (t : ℕ) (l : Lock) → (l.t == t) ≡ true → is_next t 0 l ≡ true
own_is_next t l is = grind (arith, nat_tests)

pub released_all : (t : ℕ) (ls : List Lock) → next_of t 0 ls ≡ None → released t ls ≡ ls
released_all t ls none = none_dropped (is_next t 0) (λ l. l.t == t) (own_is_next t) ls none

pub released_one : (t : ℕ) (ls : List Lock) (l : Lock) → next_of t 0 ls ≡ Some l → length (without t l.suite ls) < length ls
released_one t ls l is =
    let found = find_some (is_next t 0) ls l is in
    shorter (λ x. not (is_own t l.suite x)) ls l found.0 (goes l found.1)
  where
    goes : (l : Lock) → is_next t 0 l ≡ true → not (is_own t l.suite l) ≡ false
    goes l is = grind (arith, nat_tests)

-- ---- locks that are not prepared

module _ (t s : ℕ) (ls : List Lock) (up : rise ls ≡ true) where
  same_as : (u z : ℕ) → ((u == t) && (z == s)) ≡ true → lock_at u z ls ≡ lock_at t s ls
  same_as u z e = let same = same_key t s u z e in λ i. lock_at (same.0 i) (same.1 i) ls

  not_same : (u z : ℕ) → ((u == t) && (z == s)) ≡ true → (l : Lock) → is_own u z l ≡ true → not (is_own t s l) ≡ false
  not_same u z e l own = grind (arith, nat_tests)

  not_other : (u z : ℕ) → ((u == t) && (z == s)) ≡ false → (l : Lock) → is_own u z l ≡ true → not (is_own t s l) ≡ true
  not_other u z e l own = grind (arith, nat_tests)

  lock_at-without : (u z : ℕ) (b : Bool) → ((u == t) && (z == s)) ≡ b → lock_at u z (without t s ls) ≡ cond b None (lock_at u z ls)
  lock_at-without u z b h3 = search (find_filter_none, not_same, find_filter_same, not_other, arith)

  loose_none : (o : Option Lock) → is_loose o ≡ true → if_prepared o ≡ None
  loose_none o h1 = search arith

  tight_same : (o : Option Lock) → is_loose o ≡ false → if_prepared o ≡ o
  tight_same o h1 = search arith

  pub crashed_on : is_loose (lock_at t s ls) ≡ true → prepared_locks (without t s ls) ≡ prepared_locks ls
  crashed_on loose = same_locks (prepared_locks (without t s ls)) (prepared_locks ls) (rise_filter (λ l. l.prepared) (without t s ls) left) (rise_filter (λ l. l.prepared) ls up) (λ u z.
      lock_at-crashed (without t s ls) left u z ∙ by u z ((u == t) && (z == s)) refl ∙ sym (lock_at-crashed ls up u z))
    where
      left : rise (without t s ls) ≡ true
      left = rise_filter (λ l. not (is_own t s l)) ls up

      by : (u z : ℕ) (b : Bool) → ((u == t) && (z == s)) ≡ b → if_prepared (lock_at u z (without t s ls)) ≡ if_prepared (lock_at u z ls)
      by u z true e = ap if_prepared (lock_at-without u z true e) ∙ sym (ap if_prepared (same_as u z e) ∙ loose_none (lock_at t s ls) loose)
      by u z false e = ap if_prepared (lock_at-without u z false e)

  pub broken_loose : is_loose (lock_at t s ls) ≡ true → without t s ls ≡ broken t s ls
  broken_loose loose = same_locks (without t s ls) (broken t s ls) (rise_filter (λ l. not (is_own t s l)) ls up) (rise_filter (λ l. not (is_own t s l && not l.prepared)) ls up) (λ u z.
      by u z ((u == t) && (z == s)) refl ∙ sym (lock_at-broken t s ls up u z))
    where
      by : (u z : ℕ) (b : Bool) → ((u == t) && (z == s)) ≡ b → lock_at u z (without t s ls) ≡ cond b (if_prepared (lock_at u z ls)) (lock_at u z ls)
      by u z true e = lock_at-without u z true e ∙ sym (ap if_prepared (same_as u z e) ∙ loose_none (lock_at t s ls) loose)
      by u z false e = lock_at-without u z false e

  pub broken_tight : is_loose (lock_at t s ls) ≡ false → ls ≡ broken t s ls
  broken_tight tight = search (same_locks, rise_filter, lock_at-broken, if_prepared, tight_same, same_as, arith)

  pub crashed_one : is_loose (lock_at t s ls) ≡ true → length (without t s ls) < length ls
  crashed_one loose = by (lock_at t s ls) refl loose
    where
      out : (l : Lock) → is_own t s l ≡ true → not (is_own t s l) ≡ false
      out l own = ap not own

      by : (o : Option Lock) → lock_at t s ls ≡ o → is_loose o ≡ true → length (without t s ls) < length ls
      by None is loose = absurd (false≢true loose)
      by (Some l) is loose = let found = find_some (is_own t s) ls l is in shorter (λ x. not (is_own t s x)) ls l found.0 (out l found.1)

pub all_tight : (ls : List Lock) → rise ls ≡ true → ((t s : ℕ) → is_loose (lock_at t s ls) ≡ false) → prepared_locks ls ≡ ls
all_tight ls up tight = same_locks (prepared_locks ls) ls (rise_filter (λ l. l.prepared) ls up) up (λ u z. lock_at-crashed ls up u z ∙ tight_same 0 0 ls up (lock_at u z ls) (tight u z))

-- ---- the transaction's locks, one after the other

abbrev is_ready : ℕ → ℕ → Lock → Bool
is_ready t from l = (l.t == t) && l.prepared && not (nat_lt l.suite from)

-- the transaction has a prepared lock on this suite or one above it
abbrev pub has_ready : ℕ → ℕ → List Lock → Bool
has_ready t from ls = list_any (is_ready t from) ls

ready_is_next : (t from : ℕ) (l : Lock) → is_ready t from l ≡ true → is_next t from l ≡ true
ready_is_next t from l is = grind (arith, nat_tests)

pub ready_none : (t from : ℕ) (ls : List Lock) → next_of t from ls ≡ None → has_ready t from ls ≡ false
ready_none t from ls none = none_stronger (is_next t from) (is_ready t from) (ready_is_next t from) ls none

pub ready_here : (t from : ℕ) (ls : List Lock) (l : Lock) → next_of t from ls ≡ Some l → l.prepared ≡ true → has_ready t from ls ≡ true
ready_here t from ls l is prepared =
    let found = find_some (is_next t from) ls l is in
    any_has (is_ready t from) ls l found.0 (both l found.1 prepared)
  where
    both : (l : Lock) → is_next t from l ≡ true → l.prepared ≡ true → is_ready t from l ≡ true
    both l next prepared = grind (arith, nat_tests)

pub next_above : (t from : ℕ) (ls : List Lock) (l : Lock) → next_of t from ls ≡ Some l → from ≤ l.suite
next_above t from ls l is = over l (find_some (is_next t from) ls l is).1
  where
    over : (l : Lock) → is_next t from l ≡ true → from ≤ l.suite
    over l is = grind (arith, nat_tests)

pub ready_behind : (t from : ℕ) (ls : List Lock) (l : Lock) → rise ls ≡ true → next_of t from ls ≡ Some l → l.prepared ≡ false → has_ready t from ls ≡ has_ready t (l.suite + 1) ls
ready_behind t from [] l up is loose = refl
ready_behind t from (x ∷ ls) l up is loose =
    let parts = and_parts (list_all (before x) ls) (rise ls) up in
    elim (is_next t from x) as (λ b. is_next t from x ≡ b → cond b (Some x) (next_of t from ls) ≡ Some l → has_ready t from (x ∷ ls) ≡ has_ready t (l.suite + 1) (x ∷ ls)) [
      | true ↦ λ next is.
          let same : x ≡ l = cc in
          (λ i. here x next (ap (λ (y : Lock). y.prepared) same ∙ loose) i || behind x next ls parts.0 i) ∙ ap (λ (y : Lock). has_ready t (y.suite + 1) (x ∷ ls)) same
      | false ↦ λ other is. λ i. passed x other (next_above t from ls l is) i || ready_behind t from ls l parts.1 is loose i
    ] refl is
  where
    here : (x : Lock) → is_next t from x ≡ true → x.prepared ≡ false → is_ready t from x ≡ is_ready t (x.suite + 1) x
    here x next loose = grind (arith, nat_tests)

    one : (x y : Lock) → is_next t from x ≡ true → before x y ≡ true → is_ready t from y ≡ is_ready t (x.suite + 1) y
    one x y next is = grind (arith, nat_tests)

    behind : (x : Lock) → is_next t from x ≡ true → (ls : List Lock) → list_all (before x) ls ≡ true → has_ready t from ls ≡ has_ready t (x.suite + 1) ls
    behind x next [] all = refl
    behind x next (y ∷ ls) all = let parts = and_parts (before x y) (list_all (before x) ls) all in λ i. one x y next parts.0 i || behind x next ls parts.1 i

    passed : (x : Lock) → is_next t from x ≡ false → from ≤ l.suite → is_ready t from x ≡ is_ready t (l.suite + 1) x
    passed x other least = grind (arith, nat_tests)

pub next_numbered : (t from : ℕ) (ls : List Lock) (l : Lock) → AreNumbered ls → next_of t from ls ≡ Some l → l.suite < 2 ^ 64
next_numbered t from ls l few is = (few l.t l.suite (any_has (is_own l.t l.suite) ls l (find_some (is_next t from) ls l is).0 (itself l))).1
  where
    itself : (l : Lock) → is_own l.t l.suite l ≡ true
    itself l = grind (arith, nat_tests)

-- no suite has a number above the last
pub ready_end : (t from : ℕ) (ls : List Lock) → AreNumbered ls → 2 ^ 64 ≤ from → has_ready t from ls ≡ false
ready_end t from ls few last = by (has_ready t from ls) refl
  where
    some : (xs : List Lock) → list_any (is_ready t from) xs ≡ true → (l : Lock) × Has xs l × (is_ready t from l ≡ true)
    some [] is = absurd (false≢true is)
    some (x ∷ xs) is = elim (is_ready t from x) as (λ b. is_ready t from x ≡ b → (b || list_any (is_ready t from) xs) ≡ true → (l : Lock) × Has (x ∷ xs) l × (is_ready t from l ≡ true)) [
      | true ↦ λ e _. (x, inl refl, e)
      | false ↦ λ _ later. let rest = some xs later in (rest.0, inr rest.1, rest.2)
    ] refl is

    itself : (l : Lock) → is_own l.t l.suite l ≡ true
    itself l = grind (arith, nat_tests)

    over : (l : Lock) → is_ready t from l ≡ true → from ≤ l.suite
    over l is = grind (arith, nat_tests)

    by : (b : Bool) → has_ready t from ls ≡ b → has_ready t from ls ≡ false
    by true is =
        let one = some ls is in
        let most = (few one.0.t one.0.suite (any_has (is_own one.0.t one.0.suite) ls one.0 one.1 (itself one.0))).1 in
        let least = over one.0 one.2 in
        absurd (omega (arith, most, least, last))
    by false is = is

-- ---- the lock of a part

abbrev pub serves_by : LockMode → Option Lock → Bool
serves_by mode None = false
serves_by mode (Some lock) = serves lock.mode mode

pub served : (t : ℕ) (part : Part) (ls : List Lock) → rise ls ≡ true → serves_by part.mode (lock_at t part.suite ls) ≡ has_lock_for t ls part
served t part ls up = by (lock_at t part.suite ls) refl (has_lock_for t ls part) refl
  where
    and_first : (a b : Bool) → (a && b) ≡ true → a ≡ true
    and_first a b is = (and_parts a b is).0

    by : (o : Option Lock) → lock_at t part.suite ls ≡ o → (b : Bool) → has_lock_for t ls part ≡ b → serves_by part.mode o ≡ b
    by None is b has = sym (none_stronger (is_own t part.suite) (λ l. is_own t part.suite l && serves l.mode part.mode) (λ l both. and_first (is_own t part.suite l) (serves l.mode part.mode) both) ls is) ∙ has
    by (Some l) is true has =
        let one = once_both (is_own t part.suite) (λ l. serves l.mode part.mode) ls (one_each t part.suite ls up) has in
        let same : one.0 ≡ l = same_Some one.0 l (sym one.1 ∙ is) in
        ap (λ (x : Lock). serves x.mode part.mode) (sym same) ∙ one.2
    by (Some l) is false has = no (serves l.mode part.mode) refl
      where
        no : (c : Bool) → serves l.mode part.mode ≡ c → serves l.mode part.mode ≡ false
        no true right =
            let found = find_some (is_own t part.suite) ls l is in
            absurd (false≢true (sym has ∙ any_has (λ l. is_own t part.suite l && serves l.mode part.mode) ls l found.0 (λ i. found.1 i && right i)))
        no false is = is

-- ---- the first from a key on

later_none : (t from : ℕ) (d : Kept) (ps : List Kept) → t < d.0.0 → AllByRecursion (λ b. holder_cmp d.0 b ≡ Less) (keys_of ps) → next_of t from (locks_of ps) ≡ None
later_none t from d [] past all = refl
later_none t from d (p ∷ ps) past all = search (nat_tests, nat_lt, later_none t from d ps past, arith)

abbrev pub by_own : ℕ → Option Kept → Option Lock
by_own t None = None
by_own t (Some p) = own_of t p

pub next_is : (t from : ℕ) (ps : List Kept) → IsOrdered holder_cmp ps → by_own t (first_from holder_cmp (t, from) ps) ≡ next_of t from (locks_of ps)
unfolding IsStrictlySortedBy
next_is t from [] ordered = refl
next_is t from (d ∷ ps) ordered =
    elim (is_lt (holder_cmp d.0 (t, from))) as (λ b. is_lt (holder_cmp d.0 (t, from)) ≡ b → by_own t (cond b (first_from holder_cmp (t, from) ps) (Some d)) ≡ next_of t from (locks_of (d ∷ ps))) [
      | true ↦ λ below. next_is t from ps ordered.1 ∙ sym (ap (λ b. cond b (Some (lock_of d)) (next_of t from (locks_of ps))) (not_next d.0.0 d.0.1 below))
      | false ↦ λ over. elim (d.0.0 == t) as (λ b. (d.0.0 == t) ≡ b → cond b (Some (lock_of d)) None ≡ cond (b && not (nat_lt d.0.1 from)) (Some (lock_of d)) (next_of t from (locks_of ps))) [
        | true ↦ λ own. sym (ap (λ b. cond b (Some (lock_of d)) (next_of t from (locks_of ps))) (is_over d.0.0 d.0.1 own over))
        | false ↦ λ other. sym (later_none t from d ps (is_past d.0.0 d.0.1 other over) ordered.0)
      ] refl
    ] refl
  where
    below_lower : (a n : ℕ) → nat_cmp a t ≡ Less → ((a == t) && not (nat_lt n from)) ≡ false
    below_lower a n e = grind (arith, nat_tests)

    below_same : (a n : ℕ) → is_lt (nat_cmp n from) ≡ true → ((a == t) && not (nat_lt n from)) ≡ false
    below_same a n e = grind (arith, nat_tests)

    not_next : (a n : ℕ) → is_lt (holder_cmp (a, n) (t, from)) ≡ true → ((a == t) && not (nat_lt n from)) ≡ false
    not_next a n is = search (below_lower, below_same, false≢true, arith)

    equal : (a : ℕ) → (a == t) ≡ true → nat_cmp a t ≡ Equal
    equal a own = grind (arith, nat_tests)

    not_lt : (n : ℕ) → is_lt (nat_cmp n from) ≡ false → not (nat_lt n from) ≡ true
    not_lt n is = grind (arith, nat_tests)

    is_over : (a n : ℕ) → (a == t) ≡ true → is_lt (holder_cmp (a, n) (t, from)) ≡ false → not (nat_lt n from) ≡ true
    is_over a n own is = not_lt n (sym (ap (λ o. is_lt (ordering_then o (nat_cmp n from))) (equal a own)) ∙ is)

    more : (a : ℕ) → nat_cmp a t ≡ Greater → t < a
    more a e = grind (arith, nat_tests)

    not_equal : (a : ℕ) → (a == t) ≡ false → nat_cmp a t ≡ Equal → ⊥
    not_equal a other e = grind (arith, nat_tests)

    is_past : (a n : ℕ) → (a == t) ≡ false → is_lt (holder_cmp (a, n) (t, from)) ≡ false → t < a
    is_past a n other is = search (true≢false, not_equal, more, arith)

-- ---- a lock in front of others

rise_behind : (xs ys : List Lock) → rise (xs ++ ys) ≡ true → rise ys ≡ true
rise_behind [] ys up = up
rise_behind (x ∷ xs) ys up = rise_behind xs ys (and_parts (list_all (before x) (xs ++ ys)) (rise (xs ++ ys)) up).1

pub put_front : (xs : List Lock) (l : Lock) (ls new : List Lock) → rise (xs ++ l ∷ ls) ≡ true → IsPut l.t l.suite (l.mode, l.prepared) ls new → new ≡ l ∷ ls
put_front xs l ls new up put = search (same_locks, rise_behind, nat_tests, arith)

pub moved : (xs : List Lock) (l : Lock) (ls : List Lock) → (xs ++ l ∷ []) ++ ls ≡ xs ++ l ∷ ls
moved [] l ls = refl
moved (x ∷ xs) l ls = ap (λ k. x ∷ k) (moved xs l ls)
