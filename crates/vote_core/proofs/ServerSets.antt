-- What a word's changes do to the set that it stands for.
use Rattle.vote_core.proofs.Vocabulary.{◌≡◌, ℕ, ◌*◌, ◌%◌, ◌^◌, ◌<◌, ◌≤◌, Bool, ◌&&◌, ◌||◌, eqb, ltb, max, bit_or, w32, true, false, refl, sym, ap, ◌∙◌, inl, inr, arith, cases_eq, and_right, eq-eqb, ne_eqb, lt-ltb, nat_tests, bit_at-lt, bit_at_or}
use Rattle.vote_core.proofs.Vocabulary.{bit_at-zero, bit_at_set_same, bit_at_set_other, bit_at, nat_cmp, nat_cmp_total, unsigned_tied, contains-set_below}
use Rattle.vote_core.specs.code.ServerBits.{set_below}
use Rattle.std.specs.FinSet as set

-- a server is in a set to which one is added if it is that one or was in it
pub contains_inserted : (members : set.FinSet nat_cmp) (k q : ℕ) → set.contains (set.insert members k) q ≡ (eqb q k || set.contains members q)
contains_inserted members k q = set.contains-insert nat_cmp_total members k q ∙ ap (λ b. b || set.contains members q) (unsigned_tied q k)

-- a bit set, as a test of each number
with_bit : (n bits k : ℕ) → k < n → n ≤ 32 → (q : ℕ) → (ltb q n && eqb (bit_at (bit_or bits (1 * 2 ^ k % 2 ^ 32)) q) 1) ≡ (eqb q k || (ltb q n && eqb (bit_at bits q) 1))
with_bit n bits k lt word q =
    let within : k < 32 = omega arith in
    elim (cases_eq q k) [
      | inl same ↦
          let below : ltb q n ≡ true = lt-ltb q n (omega arith) in
          let there : bit_at (bit_or bits (1 * 2 ^ k % 2 ^ 32)) q ≡ 1 = ap (bit_at (bit_or bits (1 * 2 ^ k % 2 ^ 32))) same ∙ bit_at_set_same w32 bits k within in
          rw (below, there, eq-eqb q k same) refl
      | inr other ↦ rw (ne_eqb q k other, bit_at_set_other w32 bits k within q other) refl
    ]

-- no bit, no number
pub set_below-zero : (n : ℕ) → set_below n 0 ≡ set.empty
set_below-zero n = set.same_set nat_cmp_total set.nat_cmp-IsAntisymmetric _ _ (λ q.
    contains-set_below n 0 q ∙ and_right (ltb q n) (eqb (bit_at 0 q) 1) (ap (λ b. eqb b 1) (bit_at-zero q)) ∙ sym (set.contains-empty nat_cmp q))

-- a bit set adds its number
pub set_below-bit_or : (n bits k : ℕ) → k < n → n ≤ 32 → set_below n (bit_or bits (1 * 2 ^ k % 2 ^ 32)) ≡ set.insert (set_below n bits) k
set_below-bit_or n bits k lt word = set.same_set nat_cmp_total set.nat_cmp-IsAntisymmetric _ _ (λ q.
    contains-set_below n (bit_or bits (1 * 2 ^ k % 2 ^ 32)) q
    ∙ with_bit n bits k lt word q
    ∙ sym (contains_inserted (set_below n bits) k q ∙ ap (λ b. eqb q k || b) (contains-set_below n bits q)))

-- a bit is set in the greater of two where it is set in one
bit_of_either : (a b : ℕ) → a < 2 → b < 2 → eqb (max a b) 1 ≡ (eqb a 1 || eqb b 1)
bit_of_either a b a_lt b_lt = grind (arith, nat_tests)

-- below n where one of two says so
below_either : (below one other : Bool) → (below && (one || other)) ≡ ((below && one) || (below && other))
below_either true one other = refl
below_either false one other = refl

-- a server is in the set of two words' bits if it is in that of one
pub contains_united : (n a b q : ℕ) → set.contains (set_below n (bit_or a b)) q ≡ (set.contains (set_below n a) q || set.contains (set_below n b) q)
contains_united n a b q =
    contains-set_below n (bit_or a b) q
    ∙ ap (λ bit. ltb q n && eqb bit 1) (bit_at_or a b q)
    ∙ ap (λ either. ltb q n && either) (bit_of_either (bit_at a q) (bit_at b q) (bit_at-lt a q) (bit_at-lt b q))
    ∙ below_either (ltb q n) (eqb (bit_at a q) 1) (eqb (bit_at b q) 1)
    ∙ sym (λ i. contains-set_below n a q i || contains-set_below n b q i)
