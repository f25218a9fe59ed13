-- Searches in rising locks: those that pass a test that goes with their order come first.
use Rattle.rep_core.proofs.Vocabulary.{◌≡◌, ℕ, zero, suc, ◌+◌, ◌<◌, ◌≤◌, Bool, true, false, cond, ◌&&◌, List, [], ◌∷◌, length, get_or, set, refl, sym, ap, ◌∙◌, arith, ◌||◌, ◌==◌, nat_lt, count_by, list_all, IsPartitionedBy, IsPartitionPoint}
use Rattle.rep_core.proofs.Vocabulary.{and_parts, or_parts, nat_tests, LockMode, stronger, Lock, before, rise, is_own, has_lock, raised_lock, raised}
use Rattle.rep_core.proofs.Rising.{count_cons}

-- ---- a place found by halving

module _ (p : Lock → Bool) (down : (a b : Lock) → before a b ≡ true → p b ≡ true → p a ≡ true) where
  head_passes : (l : Lock) (ls : List Lock) (j : ℕ) (d : Lock) → list_all (before l) ls ≡ true → j < length ls → p (get_or ls j d) ≡ true → p l ≡ true
  head_passes l [] j d all within passes = absurd (omega arith)
  head_passes l (x ∷ ls) zero d all within passes = down l x (and_parts (before l x) (list_all (before l) ls) all).0 passes
  head_passes l (x ∷ ls) (suc j) d all within passes = head_passes l ls j d (and_parts (before l x) (list_all (before l) ls) all).1 (omega arith) passes

  pub partitioned : (ls : List Lock) → rise ls ≡ true → IsPartitionedBy p ls
  partitioned [] up i j d le within passes = absurd (omega arith)
  partitioned (l ∷ ls) up zero zero d le within passes = passes
  partitioned (l ∷ ls) up zero (suc j) d le within passes = head_passes l ls j d (and_parts (list_all (before l) ls) (rise ls) up).0 (omega arith) passes
  partitioned (l ∷ ls) up (suc i) zero d le within passes = absurd (omega arith)
  partitioned (l ∷ ls) up (suc i) (suc j) d le within passes = partitioned ls (and_parts (list_all (before l) ls) (rise ls) up).1 i j d (omega arith) (omega arith) passes

module _ {X : Type 0} (p : X → Bool) where
  -- the point between those that pass and those that do not is how many pass
  pub count_point : (xs : List X) (i : ℕ) → i ≤ length xs → IsPartitionPoint (λ x. p x ≡ true) (λ x. p x ≡ false) xs i → i ≡ count_by p xs
  count_point [] i within point = omega arith
  count_point (x ∷ xs) zero within point =
      let fails : p x ≡ false = point.1 0 x (omega arith) (omega arith) in
      let rest : 0 ≡ count_by p xs = count_point xs 0 (omega arith) (λ k d low high. absurd (omega arith), λ k d low high. point.1 (suc k) d (omega arith) (omega arith)) in
      rest ∙ sym (count_cons p x xs ∙ ap (λ b. cond b 1 0 + count_by p xs) fails ∙ (let e : 0 + count_by p xs ≡ count_by p xs = omega arith in e))
  count_point (x ∷ xs) (suc i) within point =
      let passes : p x ≡ true = point.0 0 x (omega arith) (omega arith) in
      let rest : i ≡ count_by p xs = count_point xs i (omega arith) (λ k d low high. point.0 (suc k) d (omega arith) (omega arith), λ k d low high. point.1 (suc k) d (omega arith) (omega arith)) in
      ap suc rest ∙ sym (count_cons p x xs ∙ ap (λ b. cond b 1 0 + count_by p xs) passes ∙ (let e : 1 + count_by p xs ≡ suc (count_by p xs) = omega arith in e))

-- ---- the place of a transaction's lock on a suite

-- whether a lock stands before one of the transaction on the suite
abbrev pub stands_before : ℕ → ℕ → Lock → Bool
stands_before t suite lock = nat_lt lock.t t || ((lock.t == t) && nat_lt lock.suite suite)

pub before_down : (t suite : ℕ) (a b : Lock) → before a b ≡ true → stands_before t suite b ≡ true → stands_before t suite a ≡ true
before_down t suite a b h k = grind (arith, nat_tests)

pub before_not_own : (t suite : ℕ) (l : Lock) → stands_before t suite l ≡ true → is_own t suite l ≡ false
before_not_own t suite l h = grind (arith, nat_tests)

behind_not_own : (t suite : ℕ) (x y : Lock) → stands_before t suite x ≡ false → before x y ≡ true → is_own t suite y ≡ false
behind_not_own t suite x y h k = grind (arith, nat_tests)

behind_not_before : (t suite : ℕ) (x y : Lock) → stands_before t suite x ≡ false → before x y ≡ true → stands_before t suite y ≡ false
behind_not_before t suite x y h k = grind (arith, nat_tests)

module _ (t suite : ℕ) where
  abbrev p : Lock → Bool
  p lock = stands_before t suite lock

  pub none_behind : (x : Lock) (ls : List Lock) → p x ≡ false → list_all (before x) ls ≡ true → (has_lock t suite ls ≡ false) × (count_by p ls ≡ 0)
  none_behind x [] fails all = (refl, refl)
  none_behind x (y ∷ ls) fails all = search (and_parts, behind_not_own, count_cons, behind_not_before, none_behind x ls fails, arith)

  -- a transaction has a lock on a suite where the one at its place is it
  pub has_lock-at : (ls : List Lock) (n : ℕ) (d : Lock) → rise ls ≡ true → n ≡ count_by p ls → n < length ls → has_lock t suite ls ≡ is_own t suite (get_or ls n d)
  has_lock-at [] n d up is within = absurd (omega arith)
  has_lock-at (x ∷ ls) n d up is within =
      let parts = and_parts (list_all (before x) ls) (rise ls) up in
      elim (p x) as (λ b. p x ≡ b → n ≡ cond b 1 0 + count_by p ls → has_lock t suite (x ∷ ls) ≡ is_own t suite (get_or (x ∷ ls) n d)) [
        | true ↦ λ first is.
            let rest = has_lock-at ls (count_by p ls) d parts.1 refl (omega arith) in
            let place : n ≡ suc (count_by p ls) = omega arith in
            ap (λ b. b || has_lock t suite ls) (before_not_own t suite x first) ∙ rest ∙ sym (ap (λ k. is_own t suite (get_or (x ∷ ls) k d)) place)
        | false ↦ λ behind is.
            let none = none_behind x ls behind parts.0 in
            let place : n ≡ 0 = omega (arith, none.1) in
            ap (λ b. is_own t suite x || b) none.0 ∙ or_false (is_own t suite x) ∙ sym (ap (λ k. is_own t suite (get_or (x ∷ ls) k d)) place)
      ] refl (is ∙ count_cons p x ls)
    where
      or_false : (b : Bool) → (b || false) ≡ b
      or_false b = search arith

  -- and has none where its place is the end
  pub has_lock-end : (ls : List Lock) (n : ℕ) → rise ls ≡ true → n ≡ count_by p ls → length ls ≤ n → has_lock t suite ls ≡ false
  has_lock-end [] n up is over = refl
  has_lock-end (x ∷ ls) n up is over =
      let parts = and_parts (list_all (before x) ls) (rise ls) up in
      elim (p x) as (λ b. p x ≡ b → n ≡ cond b 1 0 + count_by p ls → has_lock t suite (x ∷ ls) ≡ false) [
        | true ↦ λ first is. (λ i. before_not_own t suite x first i || has_lock-end ls (count_by p ls) parts.1 refl (let e : length ls ≤ count_by p ls = omega arith in e) i)
        | false ↦ λ behind is. let none = none_behind x ls behind parts.0 in absurd (omega (arith, none.1))
      ] refl (is ∙ count_cons p x ls)

-- ---- the transaction's own lock, raised

module _ (t suite : ℕ) (mode : LockMode) where
  abbrev raised_where : Lock → Bool → Lock
  raised_where x own = record x { mode = cond own (stronger x.mode mode) x.mode }

  raised_other : (x : Lock) → is_own t suite x ≡ false → raised_lock t suite mode x ≡ x
  raised_other x other = ap (raised_where x) other

  pub raised-none : (ls : List Lock) → has_lock t suite ls ≡ false → raised t suite mode ls ≡ ls
  raised-none [] none = refl
  raised-none (x ∷ ls) none = search (or_parts, raised_other, raised-none ls, arith)

  pub raised-at : (ls : List Lock) (n : ℕ) (d : Lock) → rise ls ≡ true → n ≡ count_by (λ lock. stands_before t suite lock) ls → n < length ls → set ls n (raised_lock t suite mode (get_or ls n d)) ≡ raised t suite mode ls
  raised-at [] n d up is within = absurd (omega arith)
  raised-at (x ∷ ls) n d up is within =
      let parts = and_parts (list_all (before x) ls) (rise ls) up in
      let p : Lock → Bool = λ lock. stands_before t suite lock in
      let f : Lock → Lock = raised_lock t suite mode in
      elim (p x) as (λ b. p x ≡ b → n ≡ cond b 1 0 + count_by p ls → set (x ∷ ls) n (f (get_or (x ∷ ls) n d)) ≡ raised t suite mode (x ∷ ls)) [
        | true ↦ λ first is.
            let rest = raised-at ls (count_by p ls) d parts.1 refl (omega arith) in
            let place : n ≡ suc (count_by p ls) = omega arith in
            ap (λ k. set (x ∷ ls) k (f (get_or (x ∷ ls) k d))) place ∙ (λ i. sym (raised_other x (before_not_own t suite x first)) i ∷ rest i)
        | false ↦ λ behind is.
            let none = none_behind t suite x ls behind parts.0 in
            let place : n ≡ 0 = omega (arith, none.1) in
            ap (λ k. set (x ∷ ls) k (f (get_or (x ∷ ls) k d))) place ∙ ap (λ l. f x ∷ l) (sym (raised-none ls none.0))
      ] refl (is ∙ count_cons p x ls)
