-- Lists of locks that are filtered, and how many transactions have some.
use Rattle.law_run_recovers.proofs.Vocabulary.{◌≡◌, inl, inr, ℕ, ◌+◌, Bool, true, false, cond, List, [], ◌∷◌, ◌++◌, refl, sym, ap, ◌∙◌, arith, ◌==◌, ◌&&◌, ◌||◌, not, filter, list_all, list_any, and_parts, eqb-true, nat_tests, Lock, before, rise}
use Rattle.law_run_recovers.proofs.Vocabulary.{with_lock, Has, all_at, rising, others, one_if, holders}

module _ {X : Type 0} where
  -- a filter of a filter
  pub filter_twice : (p q : X → Bool) (xs : List X) → filter q (filter p xs) ≡ filter (λ x. p x && q x) xs
  filter_twice p q [] = refl
  filter_twice p q (x ∷ xs) = search (filter_twice p q xs, arith)

  -- two tests that agree on all members
  pub filter_alike : (p q : X → Bool) (xs : List X) → ((x : X) → Has xs x → p x ≡ q x) → filter p xs ≡ filter q xs
  filter_alike p q [] same = refl
  filter_alike p q (x ∷ xs) same = search (filter_alike p q xs, arith)

  pub filter_all : (p : X → Bool) (xs : List X) → ((x : X) → Has xs x → p x ≡ true) → filter p xs ≡ xs
  filter_all p [] all = refl
  filter_all p (x ∷ xs) all = ap (λ b. cond b (x ∷ filter p xs) (filter p xs)) (all x (inl refl)) ∙ ap (λ xs. x ∷ xs) (filter_all p xs (λ y has. all y (inr has)))

  pub filter_none : (p : X → Bool) (xs : List X) → ((x : X) → Has xs x → p x ≡ false) → filter p xs ≡ []
  filter_none p [] none = refl
  filter_none p (x ∷ xs) none = ap (λ b. cond b (x ∷ filter p xs) (filter p xs)) (none x (inl refl)) ∙ filter_none p xs (λ y has. none y (inr has))

-- ---- locks in order

apart_before : (a b : Lock) → before a b ≡ true → before b a ≡ false
apart_before a b is = grind (arith, nat_tests)

-- locks that rise are in the order of a sweep
pub rising_same : (locks : List Lock) → rise locks ≡ true → rising locks ≡ locks
rising_same [] rises = refl
rising_same (lock ∷ locks) rises =
    let parts = and_parts (list_all (before lock) locks) (rise locks) rises in
    let after = λ (other : Lock) (has : Has locks other). apart_before lock other (all_at (before lock) locks other parts.0 has) in
    ap (with_lock lock) (rising_same locks parts.1)
    ∙ ap (λ first. first ++ lock ∷ filter (λ other. not (before other lock)) locks) (filter_none (λ other. before other lock) locks after)
    ∙ ap (λ later. lock ∷ later) (filter_all (λ other. not (before other lock)) locks (λ other has. ap not (after other has)))

-- ---- how many transactions

abbrev pub has_of : ℕ → List Lock → Bool
has_of t locks = list_any (λ (other : Lock). other.t == t) locks

-- those of others tell whether another has some
has_of_others : (t u : ℕ) (locks : List Lock) → (u == t) ≡ false → has_of u (others t locks) ≡ has_of u locks
has_of_others t u [] apart = refl
has_of_others t u (lock ∷ locks) apart = search (nat_tests, has_of_others t u locks apart, arith)

-- one of them and the others
pub holders_of : (t : ℕ) (locks : List Lock) → holders locks ≡ one_if (has_of t locks) + holders (others t locks)
holders_of t [] = refl
holders_of t (lock ∷ locks) =
    let rest = holders_of t locks in
    elim (lock.t == t) as (λ b. (lock.t == t) ≡ b → one_if (not (has_of lock.t locks)) + holders locks ≡ one_if (b || has_of t locks) + holders (cond (not b) (lock ∷ others t locks) (others t locks))) [
      | true ↦ λ is.
          let same = ap (λ t. has_of t locks) (eqb-true lock.t t is) in
          ap (λ b. one_if (not b) + holders locks) same ∙ ap (λ n. one_if (not (has_of t locks)) + n) rest ∙ both (has_of t locks) (holders (others t locks))
      | false ↦ λ apart.
          ap (λ n. one_if (not (has_of lock.t locks)) + n) rest
          ∙ turned (one_if (not (has_of lock.t locks))) (one_if (has_of t locks)) (holders (others t locks))
          ∙ ap (λ b. one_if (has_of t locks) + (one_if (not b) + holders (others t locks))) (sym (has_of_others t lock.t locks apart))
    ] refl
  where
    both : (b : Bool) (n : ℕ) → one_if (not b) + (one_if b + n) ≡ 1 + n
    both b n = search arith

    turned : (a b c : ℕ) → a + (b + c) ≡ b + (a + c)
    turned a b c = omega arith
