-- The servers that pass a test, number by number.
use Rattle.txn_core.proofs.Vocabulary.{◌≡◌, ◌+◌, ℕ, zero, suc, Bool, true, false, cond, List, [], ◌∷◌, ◌++◌, ap, ◌∙◌, arith, filter, filter-append, append-nil, numbers_from}

numbers_last : (start n : ℕ) → numbers_from start (n + 1) ≡ numbers_from start n ++ (start + n) ∷ []
numbers_last start zero = ap (λ k. k ∷ []) (let e : start ≡ start + 0 = omega arith in e)
numbers_last start (suc n) = search (numbers_last (start + 1) n, arith)

passing_last : (test : ℕ → Bool) (n : ℕ) → filter test (numbers_from 0 (n + 1)) ≡ filter test (numbers_from 0 n) ++ cond (test n) (n ∷ []) []
passing_last test n = ap (filter test) (numbers_last 0 n ∙ ap (λ k. numbers_from 0 n ++ k ∷ []) (let e : 0 + n ≡ n = omega arith in e)) ∙ filter-append test (numbers_from 0 n) (n ∷ [])

pub one_passes : (test : ℕ → Bool) (n : ℕ) (before after : List ℕ) → test n ≡ true → after ≡ before ++ n ∷ [] → before ≡ filter test (numbers_from 0 n) → after ≡ filter test (numbers_from 0 (n + 1))
one_passes test n before after passes is so_far = search (passing_last, arith)

pub one_fails : (test : ℕ → Bool) (n : ℕ) (before after : List ℕ) → test n ≡ false → after ≡ before → before ≡ filter test (numbers_from 0 n) → after ≡ filter test (numbers_from 0 (n + 1))
one_fails test n before after fails is so_far = search (passing_last, append-nil, arith)
