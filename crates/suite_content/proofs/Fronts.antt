-- Two lists of bytes, told apart by their fronts as numbers.
use Rattle.suite_content.proofs.Vocabulary.{◌≡◌, ℕ, zero, suc, ◌+◌, ◌-◌, ◌*◌, ◌<◌, ◌≤◌, ◌⊎◌, List, [], ◌∷◌, length, take, drop, replicate, get_or, Less, Equal, Greater, refl, sym, ap, subst, inl, inr, ⊎_elim, ◌∙◌, arith, ◌≢◌, IsTrue, MatchOrdering}
use Rattle.suite_content.proofs.Vocabulary.{nat_cmp, ordering_then, slice_cmp, nat_tests, get_or-take, get_or-drop, get_or_past, IsName, is_name_byte, number_with, IsPadded, kept_length}
use Rattle.std.specs.declared.cmp.Ordering.{Ordering}
use Rattle.std.proofs.lemmas.Cmp.{ranked}
use Rattle.std.proofs.lemmas.Grind.{get_or_after_one}

-- each is a byte
abbrev pub AreBytes : List ℕ → Type 0
AreBytes xs = (k : ℕ) → get_or xs k 0 < 256

less : (x y : ℕ) → x < y → nat_cmp x y ≡ Less
less x y below = grind (arith, nat_tests)

greater : (x y : ℕ) → y < x → nat_cmp x y ≡ Greater
greater x y above = grind (arith, nat_tests)

behind : (xs : List ℕ) → AreBytes xs → AreBytes (drop 1 xs)
behind xs are k = subst (λ b. b < 256) (sym (get_or_after_one xs k 0)) (are (1 + k))

-- the lower of two numbers stays lower, whatever bytes follow
stays_lower : (n a b : ℕ) (xs ys : List ℕ) → AreBytes xs → a < b → number_with a n xs < number_with b n ys
stays_lower zero a b xs ys are lower = lower
stays_lower (suc n) a b xs ys are lower = search (behind, stays_lower n, arith)

-- nothing is lower than zeros
zeros_least : (n a b : ℕ) (ys : List ℕ) → a ≤ b → number_with a n [] ≤ number_with b n ys
zeros_least zero a b ys most = most
zeros_least (suc n) a b ys most = zeros_least n (a * 256 + 0) (b * 256 + get_or ys 0 0) (drop 1 ys) (omega arith)

-- numbers that differ lie as the lists do
pub told_apart : (n a : ℕ) (xs ys : List ℕ) → AreBytes xs → AreBytes ys → number_with a n xs ≢ number_with a n ys → nat_cmp (number_with a n xs) (number_with a n ys) ≡ slice_cmp nat_cmp xs ys
told_apart zero a xs ys are are' apart = absurd (apart refl)
told_apart (suc n) a [] [] are are' apart = absurd (apart refl)
told_apart (suc n) a [] (y ∷ ys) are are' apart = search (zeros_least, less, arith)
told_apart (suc n) a (x ∷ xs) [] are are' apart = search (zeros_least, greater, arith)
told_apart (suc n) a (x ∷ xs) (y ∷ ys) are are' apart = by (told_apart n (a * 256 + x) xs ys (behind (x ∷ xs) are) (behind (y ∷ ys) are')) (nat_cmp x y) refl (ranked x y (nat_cmp x y) refl)
  where
    Lie : ℕ → Type 0
    Lie z = nat_cmp (number_with (a * 256 + x) n xs) (number_with (a * 256 + z) n ys) ≡ slice_cmp nat_cmp xs ys

    by : (number_with (a * 256 + x) n xs ≢ number_with (a * 256 + x) n ys → Lie x) → (o : Ordering) → nat_cmp x y ≡ o → MatchOrdering o (x < y) (x ≡ y) (y < x)
        → nat_cmp (number_with (a * 256 + x) n xs) (number_with (a * 256 + y) n ys) ≡ slice_cmp nat_cmp (x ∷ xs) (y ∷ ys)
    by rest Less is below =
        let under : x < y = below in
        less _ _ (stays_lower n (a * 256 + x) (a * 256 + y) xs ys (behind (x ∷ xs) are) (omega arith)) ∙ sym (ap (λ o. ordering_then o (slice_cmp nat_cmp xs ys)) is)
    by rest Equal is same =
        let same_byte : x ≡ y = same in
        subst Lie same_byte (rest (λ e. apart (e ∙ ap (λ z. number_with (a * 256 + z) n ys) same_byte))) ∙ sym (ap (λ o. ordering_then o (slice_cmp nat_cmp xs ys)) is)
    by rest Greater is above =
        let over : y < x = above in
        greater _ _ (stays_lower n (a * 256 + y) (a * 256 + x) ys xs (behind (y ∷ ys) are') (omega arith)) ∙ sym (ap (λ o. ordering_then o (slice_cmp nat_cmp xs ys)) is)

-- bytes that both have in numbers that are the same are the same
pub same_front : (k n a : ℕ) (xs ys : List ℕ) → AreBytes xs → AreBytes ys → number_with a n xs ≡ number_with a n ys → k ≤ n → k ≤ length xs → k ≤ length ys → slice_cmp nat_cmp (drop k xs) (drop k ys) ≡ slice_cmp nat_cmp xs ys
same_front zero n a xs ys are are' same p q r = refl
same_front (suc k) zero a xs ys are are' same p q r = absurd (omega arith)
same_front (suc k) (suc n) a [] ys are are' same p q r = absurd (omega arith)
same_front (suc k) (suc n) a (x ∷ xs) [] are are' same p q r = absurd (omega arith)
same_front (suc k) (suc n) a (x ∷ xs) (y ∷ ys) are are' same p q r = by (λ is. same_front k n (a * 256 + x) xs ys (behind (x ∷ xs) are) (behind (y ∷ ys) are') is
    (omega (arith, p)) (omega (arith, q)) (omega (arith, r))) (nat_cmp x y) refl (ranked x y (nat_cmp x y) refl)
  where
    by : (number_with (a * 256 + x) n xs ≡ number_with (a * 256 + x) n ys → slice_cmp nat_cmp (drop k xs) (drop k ys) ≡ slice_cmp nat_cmp xs ys) → (o : Ordering) → nat_cmp x y ≡ o
        → MatchOrdering o (x < y) (x ≡ y) (y < x) → slice_cmp nat_cmp (drop k xs) (drop k ys) ≡ slice_cmp nat_cmp (x ∷ xs) (y ∷ ys)
    by rest Less is below =
        let under : x < y = below in
        let lower = stays_lower n (a * 256 + x) (a * 256 + y) xs ys (behind (x ∷ xs) are) (omega arith) in
        absurd (omega (arith, lower, same))
    by rest Equal is level =
        let same_byte : x ≡ y = level in
        rest (same ∙ ap (λ z. number_with (a * 256 + z) n ys) (sym same_byte))
        ∙ sym (ap (λ o. ordering_then o (slice_cmp nat_cmp xs ys)) is)
    by rest Greater is above =
        let over : y < x = above in
        let higher = stays_lower n (a * 256 + y) (a * 256 + x) ys xs (behind (y ∷ ys) are') (omega arith) in
        absurd (omega (arith, higher, same))

-- ---- what the numbers are read from

one_more : (i : ℕ) (xs : List ℕ) → drop 1 (drop i xs) ≡ drop (suc i) xs
one_more zero xs = refl
one_more (suc i) [] = refl
one_more (suc i) (x ∷ xs) = one_more i xs

-- byte by byte
next_byte : (a i n : ℕ) (xs : List ℕ) → number_with a (suc n) (drop i xs) ≡ number_with (a * 256 + get_or xs i 0) n (drop (suc i) xs)
next_byte a i n xs = search (get_or-drop, one_more, arith)

pub eight_bytes : (xs : List ℕ)
    → number_with 0 8 xs ≡ (((((((0 * 256 + get_or xs 0 0) * 256 + get_or xs 1 0) * 256 + get_or xs 2 0) * 256 + get_or xs 3 0) * 256 + get_or xs 4 0) * 256 + get_or xs 5 0) * 256
    + get_or xs 6 0) * 256 + get_or xs 7 0
eight_bytes xs =
    next_byte 0 0 7 xs ∙ next_byte _ 1 6 xs ∙ next_byte _ 2 5 xs ∙ next_byte _ 3 4 xs ∙ next_byte _ 4 3 xs ∙ next_byte _ 5 2 xs ∙ next_byte _ 6 1 xs ∙ next_byte _ 7 0 xs

zeros_at : (n k : ℕ) → get_or {A = ℕ} (replicate n 0) k 0 ≡ 0
zeros_at zero k = refl
zeros_at (suc n) zero = refl
zeros_at (suc n) (suc k) = zeros_at n k

within_or_past : (k n : ℕ) → (k < n) ⊎ (n ≤ k)
within_or_past k zero = inr (omega arith)
within_or_past zero (suc n) = inl (omega arith)
within_or_past (suc k) (suc n) = ⊎_elim (λ within. inl (omega (arith, within))) (λ past. inr (omega (arith, past))) (within_or_past k n)

-- what is kept in an array reads as the array does: there are zeros behind it
pub kept_at : (n : ℕ) (array : List ℕ) → IsPadded n array → (k : ℕ) → get_or (take n array) k 0 ≡ get_or array k 0
kept_at n array kept k = ⊎_elim
    (λ within. get_or-take n array k 0 within)
    (λ past.
    let after : n + (k - n) ≡ k = omega (arith, past) in
    get_or_past (take n array) k 0 (omega (arith, past, kept_length n array kept))
    ∙ sym (zeros_at (64 - n) (k - n))
    ∙ ap (λ l. get_or l (k - n) 0) (sym kept.zeros)
    ∙ get_or-drop n array (k - n) 0
    ∙ ap (λ j. get_or array j 0) after)
    (within_or_past k n)

-- ---- names

below : (byte : ℕ) → IsTrue (is_name_byte byte) → byte < 256
below byte is = grind (arith, nat_tests)

pub bytes_of_name : (xs : List ℕ) → IsName xs → AreBytes xs
bytes_of_name xs name k = search (below, get_or_past, within_or_past, arith)
