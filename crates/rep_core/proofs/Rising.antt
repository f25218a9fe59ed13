-- Locks in their order.
use Rattle.rep_core.proofs.Vocabulary.{◌≡◌, ℕ, ◌+◌, suc, Bool, true, false, cond, List, [], ◌∷◌, ◌++◌, refl, sym, ap, ◌∙◌, arith, ◌&&◌, not, filter, map, count_by, list_all, and_parts, and_from, or_parts, nat_tests, sum_by-cons, LockMode, Lock, Part}
use Rattle.rep_core.proofs.Vocabulary.{before, rise, is_own, has_lock, with_lock, locked, prepared_lock, with_prepared}
use Rattle.std.specs.Prelude.{insert}

-- ---- the order

before_on : (a b c : Lock) → before a b ≡ true → before b c ≡ true → before a c ≡ true
before_on a b c h k = grind (arith, nat_tests)

-- a lock of another transaction, or on another suite, stands before or behind
behind : (a b : Lock) → is_own a.t a.suite b ≡ false → before b a ≡ false → before a b ≡ true
behind a b other h = grind (arith, nat_tests)

-- ---- lists

module _ {X : Type 0} where
  all_filter : (p q : X → Bool) (xs : List X) → list_all p xs ≡ true → list_all p (filter q xs) ≡ true
  all_filter p q [] all = refl
  all_filter p q (x ∷ xs) all = search (and_parts, and_from, all_filter p q xs, arith)

  all_pass : (p : X → Bool) (xs : List X) → list_all p (filter p xs) ≡ true
  all_pass p [] = refl
  all_pass p (x ∷ xs) = search (and_from, all_pass p xs, arith)

  all_weaker : (p q : X → Bool) → ((x : X) → p x ≡ true → q x ≡ true) → (xs : List X) → list_all p xs ≡ true → list_all q xs ≡ true
  all_weaker p q weaker [] all = refl
  all_weaker p q weaker (x ∷ xs) all = search (and_parts, and_from, all_weaker p q weaker xs, arith)

  pub count_cons : (p : X → Bool) (x : X) (xs : List X) → count_by p (x ∷ xs) ≡ cond (p x) 1 0 + count_by p xs
  count_cons p x xs = sum_by-cons (λ x. cond (p x) 1 0) x xs

  -- where none passes
  filter_none : (p q : X → Bool) → ((x : X) → q x ≡ true → p x ≡ false) → (xs : List X) → list_all q xs ≡ true → (filter p xs ≡ []) × (filter (λ x. not (p x)) xs ≡ xs) × (count_by p xs ≡ 0)
  filter_none p q misses [] all = (refl, refl, refl)
  filter_none p q misses (x ∷ xs) all = search (and_parts, count_cons, filter_none p q misses xs, arith)

  insert_first : (x y : X) (xs : List X) (n : ℕ) → insert (x ∷ xs) (1 + n) y ≡ x ∷ insert xs n y
  insert_first x y xs n = ap (λ k. insert (x ∷ xs) k y) (let e : 1 + n ≡ suc n = omega arith in e)

-- ---- the rising list, changed

pub rise_filter : (q : Lock → Bool) (ls : List Lock) → rise ls ≡ true → rise (filter q ls) ≡ true
rise_filter q [] up = refl
rise_filter q (l ∷ ls) up = search (and_parts, and_from, all_filter, rise_filter q ls, arith)

all_map : (f : Lock → Lock) → ((a b : Lock) → before (f a) (f b) ≡ before a b) → (l : Lock) (ls : List Lock) → list_all (before (f l)) (map f ls) ≡ list_all (before l) ls
all_map f same l [] = refl
all_map f same l (x ∷ ls) = λ i. same l x i && all_map f same l ls i

pub rise_map : (f : Lock → Lock) → ((a b : Lock) → before (f a) (f b) ≡ before a b) → (ls : List Lock) → rise (map f ls) ≡ rise ls
rise_map f same [] = refl
rise_map f same (l ∷ ls) = λ i. all_map f same l ls i && rise_map f same ls i

rise_joined : (l : Lock) (xs ys : List Lock) → rise xs ≡ true → rise ys ≡ true → list_all (λ x. before x l) xs ≡ true → list_all (before l) ys ≡ true → rise (xs ++ l ∷ ys) ≡ true
rise_joined l [] ys up_x up_y below above = and_from (list_all (before l) ys) (rise ys) above up_y
rise_joined l (x ∷ xs) ys up_x up_y below above =
    let ups = and_parts (list_all (before x) xs) (rise xs) up_x in
    let belows = and_parts (before x l) (list_all (λ x. before x l) xs) below in
    and_from (list_all (before x) (xs ++ l ∷ ys)) (rise (xs ++ l ∷ ys))
    (all_joined x xs belows.0 ups.0)
    (rise_joined l xs ys ups.1 up_y belows.1 above)
  where
    all_joined : (x : Lock) (zs : List Lock) → before x l ≡ true → list_all (before x) zs ≡ true → list_all (before x) (zs ++ l ∷ ys) ≡ true
    all_joined x [] under all = and_from (before x l) (list_all (before x) ys) under (all_weaker (before l) (before x) (λ y over. before_on x l y under over) ys above)
    all_joined x (z ∷ zs) under all =
        let parts = and_parts (before x z) (list_all (before x) zs) all in
        and_from (before x z) (list_all (before x) (zs ++ l ∷ ys)) parts.0 (all_joined x zs under parts.1)

above_all : (l : Lock) (ls : List Lock) → has_lock l.t l.suite ls ≡ false → list_all (before l) (filter (λ x. not (before x l)) ls) ≡ true
above_all l [] none = refl
above_all l (x ∷ ls) none = search (or_parts, and_from, behind, above_all l ls, arith)

rise_with_lock : (l : Lock) (ls : List Lock) → rise ls ≡ true → has_lock l.t l.suite ls ≡ false → rise (with_lock l ls) ≡ true
rise_with_lock l ls up none = search (rise_joined, rise_filter, all_pass, above_all, arith)

pub rise_locked : (t s : ℕ) (m : LockMode) (ls : List Lock) → rise ls ≡ true → rise (locked t s m ls) ≡ true
rise_locked t s m ls up = search (rise_map, rise_with_lock, arith)

pub rise_prepared : (t : ℕ) (parts : List Part) (ls : List Lock) → rise ls ≡ true → rise (with_prepared t parts ls) ≡ true
rise_prepared t parts ls up = rise_map (prepared_lock t parts) (λ a b. refl) ls ∙ up

-- ---- the place of a new lock

not_after : (l x y : Lock) → before x l ≡ false → before x y ≡ true → before y l ≡ false
not_after l x y behind_it h = grind (arith, nat_tests)

-- in rising locks those before a new one come first
pub insert_at_place : (l : Lock) (ls : List Lock) → rise ls ≡ true → insert ls (count_by (λ x. before x l) ls) l ≡ with_lock l ls
insert_at_place l [] up = refl
insert_at_place l (x ∷ ls) up =
    let parts = and_parts (list_all (before x) ls) (rise ls) up in
    let p : Lock → Bool = λ x. before x l in
    ap (λ n. insert (x ∷ ls) n l) (count_cons p x ls) ∙ elim (before x l) as
    (λ b. before x l ≡ b → insert (x ∷ ls) (cond b 1 0 + count_by p ls) l ≡ cond b (x ∷ filter p ls) (filter p ls) ++ l ∷ cond (not b) (x ∷ filter (λ x. not (p x)) ls)
    (filter (λ x. not (p x)) ls)) [
      | true ↦ λ _. insert_first x l ls (count_by p ls) ∙ ap (λ k. x ∷ k) (insert_at_place l ls parts.1)
      | false ↦ λ over.
          let none = filter_none p (before x) (λ y above. not_after l x y over above) ls parts.0 in
          ap (λ n. insert (x ∷ ls) (0 + n) l) none.2 ∙ sym (ap (λ k. k ++ l ∷ x ∷ filter (λ x. not (p x)) ls) none.0 ∙ ap (λ k. l ∷ x ∷ k) none.1)
    ] refl
