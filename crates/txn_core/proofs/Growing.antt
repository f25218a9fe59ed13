-- What is known of the suites that were gathered grows with them.
use Rattle.txn_core.proofs.Vocabulary.{◌≡◌, ℕ, Bool, true, false, cond, [], ◌∷◌, Option, Some, None, Less, refl, sym, ap, subst, ◌∙◌, nat_cmp, is_eq, is_some, not, ◌||◌, AllByRecursion, keys_of, nat_cmp_total, exact_unsigned, arith, sorted_head}
use Rattle.txn_core.proofs.Vocabulary.{sorted_tail, none-some, same_Some, equal_if, get-insert, IsOrdered, LockMode, serves, KnownSuite, Known, IsMore, IsMoreAt, MoreKnown, ReadPoint, GatheredSuite, Suites, suite_of, with_suite, known_row, known_if}
use Rattle.txn_core.proofs.Vocabulary.{known_of, PendingQuorum, settled_with}
use Rattle.file_exec.specs.Known as known
use Rattle.txn_core.proofs.Setting.{known_at}

-- ---- what is known is of a suite

pub record IsOfSuite (suites : Suites) (number : ℕ) (it : KnownSuite) : Type 0 where
  pub suite : GatheredSuite
  pub first : ReadPoint
  pub there : suite_of suites number ≡ Some suite
  pub was : suite.first ≡ Some first
  pub is : known_row suite first ≡ it

-- a number is not among greater ones
other_number : (number key other : ℕ) → nat_cmp key other ≡ Less → number ≡ key → is_eq (nat_cmp number other) ≡ false
other_number number key other less same = ap (λ n. is_eq (nat_cmp n other)) same ∙ ap is_eq less

absent_here : (number : ℕ) (one : ℕ × GatheredSuite) (suites : Suites) → is_eq (nat_cmp number one.0) ≡ false → known.known_of (known_of suites) number ≡ None
    → (found : Option ReadPoint) → known.known_of (known_if one.0 one.1 found (known_of suites)) number ≡ None
absent_here number one suites h3 h4 found = search arith

absent : (number key : ℕ) (suites : Suites) → AllByRecursion (λ y. nat_cmp key y ≡ Less) (keys_of suites) → number ≡ key → known.known_of (known_of suites) number ≡ None
absent number key [] all same = refl
absent number key (one ∷ suites) all same = absent_here number one suites (other_number number key one.0 all.0 same) (absent number key suites all.1 same) one.1.first

pub known_from : (suites : Suites) (number : ℕ) (it : KnownSuite) → IsOrdered nat_cmp suites → known.known_of (known_of suites) number ≡ Some it → IsOfSuite suites number it
known_from [] number it ordered is = absurd (none-some it is)
known_from (one ∷ suites) number it ordered is =
    of (known_from suites number it (sorted_tail nat_cmp one.0 (keys_of suites) ordered)) (is_eq (nat_cmp number one.0)) refl one.1.first refl is
  where
    of : (known.known_of (known_of suites) number ≡ Some it → IsOfSuite suites number it) → (b : Bool) → is_eq (nat_cmp number one.0) ≡ b → (found : Option ReadPoint)
        → one.1.first ≡ found → known.known_of (known_if one.0 one.1 found (known_of suites)) number ≡ Some it → IsOfSuite (one ∷ suites) number it
    of again true at (Some first) was is = record {
      suite = one.1;
      first = first;
      there = ap (λ b. cond b (Some one.1) (suite_of suites number)) at;
      was = was;
      is = same_Some (known_row one.1 first) it (sym (ap (λ b. cond b (Some (known_row one.1 first)) (known.known_of (known_of suites) number)) at) ∙ is);
    }
    of again true at None was is =
        absurd (none-some it (sym (absent number one.0 suites (sorted_head nat_cmp one.0 (keys_of suites) ordered) (exact_unsigned number one.0 (equal_if (nat_cmp number one.0) at))) ∙ is))
    of again false at (Some first) was is =
        let rest = again (sym (ap (λ b. cond b (Some (known_row one.1 first)) (known.known_of (known_of suites) number)) at) ∙ is) in
        record { suite = rest.suite; first = rest.first; there = ap (λ b. cond b (Some one.1) (suite_of suites number)) at ∙ rest.there; was = rest.was; is = rest.is }
    of again false at None was is =
        let rest = again is in
        record { suite = rest.suite; first = rest.first; there = ap (λ b. cond b (Some one.1) (suite_of suites number)) at ∙ rest.there; was = rest.was; is = rest.is }

-- ---- more of one suite

-- where a suite had a quorum, another keeps what it gave and its content, and is held in its mode or a stronger one
pub record Keeps (before after : GatheredSuite) (had : ReadPoint) : Type 0 where
  pub first : after.first ≡ Some had
  pub content : after.content ≡ before.content
  pub mode : serves after.mode before.mode ≡ true

abbrev pub GoesOnFrom : GatheredSuite → GatheredSuite → Type 0
GoesOnFrom before after = (first : ReadPoint) → before.first ≡ Some first → Keeps before after first

pub serves_itself : (mode : LockMode) → serves mode mode ≡ true
serves_itself mode = search arith

more_of : (before after : GatheredSuite) (first : ReadPoint) → Keeps before after first → IsMore (known_row before first) (known_row after first)
more_of before after first keeps = search arith

itself : (it : KnownSuite) → IsMore it it
itself it = record { mode = serves_itself it.mode; head = refl; opened = λ is. is; content = λ _. refl }

pub no_less : (all : Known) → MoreKnown all all
no_less all suite = search arith

-- more is known once such a suite stands in the place of another, or where there was none
pub more_known : (suites : Suites) (number : ℕ) (after : GatheredSuite) → IsOrdered nat_cmp suites
    → ((before : GatheredSuite) → suite_of suites number ≡ Some before → GoesOnFrom before after) → MoreKnown (known_of suites) (known_of (with_suite number after suites))
more_known suites number after ordered flow other = of (known.known_of (known_of suites) other) refl
  where
    more : Suites
    more = with_suite number after suites

    at : (it : KnownSuite) → IsOfSuite suites other it → (b : Bool) → is_eq (nat_cmp number other) ≡ b → IsMoreAt (Some it) (known.known_of (known_of more) other)
    at it found true same =
        let there = ap (suite_of suites) (exact_unsigned number other (equal_if (nat_cmp number other) same)) ∙ found.there in
        let keeps = flow found.suite there found.first found.was in
        let now = known_at more other after found.first (get-insert nat_cmp_total suites number after other ∙ ap (λ b. cond b (Some after) (suite_of suites other)) same) keeps.first in
        subst (IsMoreAt (Some it)) (sym now) (subst (λ it. IsMore it (known_row after found.first)) found.is (more_of found.suite after found.first keeps))
    at it found false apart =
        let now = known_at more other found.suite found.first (get-insert nat_cmp_total suites number after other ∙ ap (λ b. cond b (Some after) (suite_of suites other)) apart ∙ found.there) found.was in
        subst (IsMoreAt (Some it)) (sym (now ∙ ap Some found.is)) (itself it)

    of : (it : Option KnownSuite) → known.known_of (known_of suites) other ≡ it → IsMoreAt it (known.known_of (known_of more) other)
    of (Some it) is = at it (known_from suites other it ordered is) (is_eq (nat_cmp number other)) refl
    of None is = tt

-- what was collected of it does not matter
pub collects : (before after : GatheredSuite) → after ≡ record before { collector = after.collector } → GoesOnFrom before after
collects before after is first was = search arith

-- nothing is known of a suite without a quorum
pub starts : (before after : GatheredSuite) → before.first ≡ None → GoesOnFrom before after
starts before after none first was = absurd (none-some first (sym none ∙ was))

-- a suite that had no quorum goes on with its first, and another with one in its mode or a stronger one
pub settles : (pending : PendingQuorum) (suite : GatheredSuite) → (not (is_some suite.first) || serves suite.collector.mode suite.mode) ≡ true → GoesOnFrom suite (settled_with pending suite)
settles pending suite may first was = search arith
