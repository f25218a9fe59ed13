-- A set of server numbers has the numbers whose bits are set, and gives its word back.
use Rattle.std.proofs.Common.{◌≡◌, ℕ, zero, suc, ◌+◌, ◌*◌, ◌%◌, ◌^◌, ◌<◌, ◌≤◌, Bool, true, false, cond, ◌&&◌, ◌||◌, eqb, ltb, refl, sym, ap, ◌∙◌, inl, inr, arith}
use Rattle.std.proofs.lemmas.Bool.{cases_eq, cases_Bool, and_right, eq-eqb, ne_eqb, eqb-true, lt-ltb, le-ltb}
use Rattle.std.proofs.lemmas.Bool.Decides.{nat_tests}
use Rattle.std.proofs.lemmas.Nat.{mod-pow-add}
use Rattle.std.proofs.lemmas.Nat.Bits.{bit_at-lt}
use Rattle.std.proofs.Math.Nat.{mod-eq_of_lt}
use Rattle.std.specs.Int.{bit_at}
use Rattle.std.specs.Ordering.{nat_cmp}
use Rattle.std.specs.Cmp.{nat_cmp_total, unsigned_tied}
use Rattle.std.specs.FinSet as set
use Rattle.vote_core.specs.declared.TheConstants.{MAX_SERVERS}
use Rattle.vote_core.specs.declared.server_set.ServerSet.TheInside.{Inside}
use Rattle.vote_core.specs.code.ServerBits.{set_below, word_below}

-- one number more: n is in the larger set where b says so
one_more : (b : Bool) (passes : ℕ → Bool) (members : set.FinSet nat_cmp) (n q : ℕ) → passes n ≡ b → set.contains members q ≡ (ltb q n && passes q)
    → set.contains (cond b (set.insert members n) members) q ≡ (ltb q (suc n) && passes q)
one_more true passes members n q at_n below =
    set.contains-insert nat_cmp_total members n q
    ∙ (λ i. unsigned_tied q n i || below i)
    ∙ elim (cases_eq q n) [
      | inl same ↦ rw (eq-eqb q n same, lt-ltb q (suc n) (omega arith), ap passes same, at_n) refl
      | inr other ↦ rw (ne_eqb q n other) (grind (arith, nat_tests))
    ]
one_more false passes members n q at_n below =
    below
    ∙ elim (cases_eq q n) [
      | inl same ↦ let fails : passes q ≡ false = ap passes same ∙ at_n in and_right (ltb q n) (passes q) fails ∙ sym (and_right (ltb q (suc n)) (passes q) fails)
      | inr other ↦ grind (arith, nat_tests)
    ]

pub contains-set_below : (n bits q : ℕ) → set.contains (set_below n bits) q ≡ (ltb q n && eqb (bit_at bits q) 1)
unfolding set_below
contains-set_below zero bits q = set.contains-empty nat_cmp q ∙ sym (ap (λ b. b && eqb (bit_at bits q) 1) (le-ltb q 0 (omega arith)))
contains-set_below (suc n) bits q = one_more (eqb (bit_at bits n) 1) (λ k. eqb (bit_at bits k) 1) (set_below n bits) n q refl (contains-set_below n bits q)

-- below the bound, the numbers are the bits
pub contains-set_within : (n bits q : ℕ) → q < n → set.contains (set_below n bits) q ≡ eqb (bit_at bits q) 1
contains-set_within n bits q lt = contains-set_below n bits q ∙ ap (λ b. b && eqb (bit_at bits q) 1) (lt-ltb q n lt)

-- a bit as a term of the word
bit_term : (bits n : ℕ) → cond (eqb (bit_at bits n) 1) (2 ^ n) 0 ≡ bit_at bits n * 2 ^ n
bit_term bits n =
    elim (cases_Bool (eqb (bit_at bits n) 1)) [
      | inl set ↦ rw (eqb-true (bit_at bits n) 1 set) (omega arith)
      | inr clear ↦ let small = bit_at-lt bits n in let none : bit_at bits n ≡ 0 = grind (arith, nat_tests) in rw none (omega arith)
    ]

-- the word of the numbers below n is what the lowest n bits make
pub word_part : (n m bits : ℕ) → n ≤ m → word_below n (set_below m bits) ≡ bits % 2 ^ n
unfolding word_below
word_part zero m bits le = omega arith
word_part (suc n) m bits le =
    let rest = word_part n m bits (omega arith) in
    let one : 1 + n ≡ suc n = omega arith in
    ap (λ b. cond b (2 ^ n) 0 + word_below n (set_below m bits)) (contains-set_within m bits n (omega arith))
    ∙ (λ i. bit_term bits n i + rest i)
    ∙ sym (mod-pow-add bits 1 n)
    ∙ ap (λ k. bits % 2 ^ k) one

-- a set gives the word back that it is made of
pub word-set_below : (n bits : ℕ) → bits < 2 ^ n → word_below n (set_below n bits) ≡ bits
word-set_below n bits lt = word_part n n bits (omega arith) ∙ mod-eq_of_lt lt

pub fields_back : (set : Inside) → set.bits < 2 ^ MAX_SERVERS → let back : Inside = record { bits = word_below MAX_SERVERS (set_below MAX_SERVERS set.bits) } in back ≡ set
fields_back set within = ap (λ bits. let fields : Inside = record { bits = bits } in fields) (word-set_below MAX_SERVERS set.bits within)
