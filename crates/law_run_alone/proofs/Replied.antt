-- What a server does not reply where a lock stands and a Prepare can be, and what is not in a register's log.
use Rattle.law_run_alone.proofs.Vocabulary.{◌≡◌, inl, inr, ℕ, Bool, true, false, cond, List, [], ◌∷◌, map, Option, Some, None, is_some, refl, sym, ap, subst, ◌∙◌, arith, ◌==◌, ◌⊎◌, list_all, list_any, AllByRecursion, nat_cmp, and_from, nat_tests}
use Rattle.law_run_alone.proofs.Vocabulary.{none-some, is_exclusive, serves, LockMode, Shared, Exclusive, Lock, Part, is_own, lock_at, has_lock, lists_twice, Has, any_find, Beginning, Entry, transaction, Inv, IsRecorded, hold_of, Going}
use Rattle.std.specs.declared.cmp.Ordering.TheVariants.{Less}
use Rattle.law_suite_machine.specs.Machine.{Hold, Answered, Aborted, Verdict, Refused, World}
use Rattle.std.specs.List.Sorted.{IsStrictlySortedBy}

-- ---- locks

-- a lock that the machine has, an exclusive one where that is wanted
pub record HasLock (locks : List Lock) (t z : ℕ) (exclusive : Bool) : Type 0 where
  pub lock : Lock
  pub is : lock_at t z locks ≡ Some lock
  pub mode : exclusive ≡ true → is_exclusive lock.mode ≡ true

pub held_lock : (o : Option Lock) (h : Hold) → hold_of o ≡ Some h → (lock : Lock) × (o ≡ Some lock) × (is_exclusive lock.mode ≡ h.exclusive)
held_lock o h h2 = search arith

pub has_found : (locks : List Lock) (t z : ℕ) (exclusive : Bool) → HasLock locks t z exclusive → has_lock t z locks ≡ true
has_found locks t z exclusive has = any_find (is_own t z) locks ∙ ap is_some has.is

-- it serves as it was told of
pub serves_as : (mode : LockMode) (b : Bool) → (b ≡ true → is_exclusive mode ≡ true) → serves mode (cond b Exclusive Shared) ≡ true
serves_as mode b h2 = search arith

-- ---- parts

pub all_of : {X : Type 0} (p : X → Bool) (xs : List X) → ((x : X) → Has xs x → p x ≡ true) → list_all p xs ≡ true
all_of p [] each = refl
all_of p (x ∷ xs) each = and_from (p x) (list_all p xs) (each x (inl refl)) (all_of p xs (λ y has. each y (inr has)))

-- suites that rise stand once
none_twice : (k : ℕ) (parts : List Part) → AllByRecursion (λ y. nat_cmp k y ≡ Less) (map (λ part. part.suite) parts) → list_any (λ later. later.suite == k) parts ≡ false
none_twice k [] above = refl
none_twice k (part ∷ parts) above = search (nat_tests, none_twice k parts, arith)

pub rising_once : (parts : List Part) → IsStrictlySortedBy nat_cmp (map (λ part. part.suite) parts) → lists_twice parts ≡ false
unfolding IsStrictlySortedBy
rising_once [] rise = refl
rising_once (part ∷ parts) rise = search (none_twice part.suite parts rise.0, nat_tests, rising_once parts, arith)

-- ---- what is recorded

-- what is not decided is not in the log
pub unlogged : (start : Beginning) (w : World) (t : ℕ) → Inv start w → Going w t → Has (map transaction w.log) t → ⊥
unlogged start w t inv going = of w.log inv.recorded
  where
    both : (verdict : Option Verdict) → (verdict ≡ None) ⊎ (verdict ≡ Some Aborted) → (verdict ≡ Some Answered) ⊎ (verdict ≡ Some Refused) → ⊥
    both verdict h1 h2 = search (none-some, arith)

    of : (log : List Entry) → AllByRecursion (IsRecorded w.verdict w.gave_up) log → Has (map transaction log) t → ⊥
    of [] all has = has
    of (entry ∷ log) all has = elim has [
      | inl same ↦ both (w.verdict t) going.verdict (subst (λ t. (w.verdict t ≡ Some Answered) ⊎ (w.verdict t ≡ Some Refused)) same all.0.0)
      | inr later ↦ of log all.1 later
    ]

pub unanswered : (w : World) (t : ℕ) → Going w t → w.verdict t ≡ Some Answered → ⊥
unanswered w t going is = elim (going.verdict) [ inl none ↦ none-some Answered (sym none ∙ is) | inr aborted ↦ (let same = sym aborted ∙ is in cc) ]
