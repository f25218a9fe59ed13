-- What is known, told suite by suite.
use Rattle.txn_core.proofs.Vocabulary.{◌≡◌, ◌<◌, ◌+◌, ℕ, length, drop, get_or, [], ◌∷◌, ◌++◌, Less, arith, Option, nat_cmp, AllByRecursion, keys_of, sorted_head, sorted_tail, drop-cons, IsOrdered, Known, ReadPoint, GatheredSuite, Suites, known_if}
use Rattle.txn_core.proofs.Vocabulary.{known_of, append_assoc}
use Rattle.std.specs.List.Sorted.{IsStrictlySortedBy}

-- ---- suite by suite

one_then : (number : ℕ) (suite : GatheredSuite) (first : Option ReadPoint) (rest : Known) → known_if number suite first [] ++ rest ≡ known_if number suite first rest
one_then number suite first rest = search arith

-- what is known so far, with what the others tell, is all
abbrev pub IsTelling : Suites → Suites → Known → Type 0
IsTelling suites left known = known ++ known_of left ≡ known_of suites

pub telling_more : (suites : Suites) (i : ℕ) (one : ℕ × GatheredSuite) (known new : Known) → i < length suites → one ≡ get_or suites i one
    → new ≡ known ++ known_if one.0 one.1 one.1.first [] → IsTelling suites (drop i suites) known → IsTelling suites (drop (i + 1) suites) new
telling_more suites i one known new below here is at = search (drop-cons, append_assoc, one_then, arith)

-- ---- what is known rises

above_one : (number : ℕ) (one : ℕ × GatheredSuite) (first : Option ReadPoint) (known : Known) → nat_cmp number one.0 ≡ Less
    → AllByRecursion (λ y. nat_cmp number y ≡ Less) (keys_of known) → AllByRecursion (λ y. nat_cmp number y ≡ Less) (keys_of (known_if one.0 one.1 first known))
above_one number one first known h4 h5 = search arith

above_all : (number : ℕ) (suites : Suites) → AllByRecursion (λ y. nat_cmp number y ≡ Less) (keys_of suites) → AllByRecursion (λ y. nat_cmp number y ≡ Less) (keys_of (known_of suites))
above_all number [] all = all
above_all number (one ∷ suites) all = above_one number one one.1.first (known_of suites) all.0 (above_all number suites all.1)

rises_one : (one : ℕ × GatheredSuite) (first : Option ReadPoint) (known : Known) → AllByRecursion (λ y. nat_cmp one.0 y ≡ Less) (keys_of known) → IsOrdered nat_cmp known → IsOrdered nat_cmp (known_if one.0 one.1 first known)
unfolding IsStrictlySortedBy
rises_one one first known h3 h4 = search arith

pub known_rises : (suites : Suites) → IsOrdered nat_cmp suites → IsOrdered nat_cmp (known_of suites)
known_rises [] ordered = ordered
known_rises (one ∷ suites) ordered =
    rises_one one one.1.first (known_of suites) (above_all one.0 suites (sorted_head nat_cmp one.0 (keys_of suites) ordered)) (known_rises suites (sorted_tail nat_cmp one.0 (keys_of suites) ordered))
