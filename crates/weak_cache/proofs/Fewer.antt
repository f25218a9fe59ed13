-- A list with fewer entries than another is within what that one is within.
use Rattle.weak_cache.proofs.Vocabulary.{◌≡◌, ℕ, ◌+◌, ◌≤◌, Bool, true, [], ◌∷◌, ◌++◌, length, refl, ap, arith, filter, Entry, Cache, size_of, sum_of, is_at, is_of, list_of, Limits, IsWithin}

-- what entries come to together
abbrev pub total : (Entry → ℕ) → Cache → ℕ
total m [] = 0
total m (e ∷ c) = m e + total m c

abbrev pub bytes : Entry → ℕ
bytes e = size_of e.content

abbrev pub one : Entry → ℕ
one e = 1

pub sum_is : (c : Cache) → sum_of c ≡ total bytes c
sum_is [] = refl
sum_is (e ∷ c) = ap (λ n. bytes e + n) (sum_is c)

pub length_is : (c : Cache) → length c ≡ total one c
length_is [] = refl
length_is (e ∷ c) = omega (arith, length_is c)

all_stay : (c : Cache) → filter (λ (e : Entry). true) c ≡ c
all_stay [] = refl
all_stay (e ∷ c) = ap (λ l. e ∷ l) (all_stay c)

-- what passes a test comes to no more, whatever is counted
abbrev pub Fewer : Cache → Cache → Type 0
Fewer a b = (m : Entry → ℕ) (q : Entry → Bool) → total m (filter q a) ≤ total m (filter q b)

pub fewer_same : (a : Cache) → Fewer a a
fewer_same a m q = omega arith

pub fewer_then : (a b c : Cache) → Fewer a b → Fewer b c → Fewer a c
fewer_then a b c h k m q = omega (arith, h m q, k m q)

pub fewer_none : (a : Cache) → Fewer [] a
fewer_none a m q = omega arith

-- one entry more on both sides
pub fewer_more : (e : Entry) (a b : Cache) → Fewer a b → Fewer (e ∷ a) (e ∷ b)
fewer_more e a b h m q = search arith

-- and on one alone
pub fewer_without : (e : Entry) (a b : Cache) → Fewer a b → Fewer a (e ∷ b)
fewer_without e a b h m q = search arith

pub fewer_filter : (p : Entry → Bool) (c : Cache) → Fewer (filter p c) c
fewer_filter p [] = fewer_same []
fewer_filter p (e ∷ c) = search (fewer_more, fewer_without, fewer_filter p c, arith)

-- the order does not matter
pub fewer_moved : (newer : Cache) (e : Entry) (older : Cache) → Fewer (e ∷ newer ++ older) (newer ++ e ∷ older)
fewer_moved [] e older m q = fewer_same (e ∷ older) m q
fewer_moved (x ∷ newer) e older m q = search (fewer_moved newer e older m q, arith)

pub sum_fewer : (a b : Cache) → Fewer a b → sum_of a ≤ sum_of b
sum_fewer a b h = omega (arith, sum_is a, sum_is b, h bytes (λ _. true), ap (total bytes) (all_stay a), ap (total bytes) (all_stay b))

pub length_fewer : (a b : Cache) → Fewer a b → length a ≤ length b
length_fewer a b h = omega (arith, length_is a, length_is b, h one (λ _. true), ap (total one) (all_stay a), ap (total one) (all_stay b))

pub list_fewer : (site : ℕ) (a b : Cache) → Fewer a b → sum_of (list_of site a) ≤ sum_of (list_of site b)
list_fewer site a b h = omega (arith, sum_is (list_of site a), sum_is (list_of site b), h bytes (is_at site))

pub once_fewer : (site suite : ℕ) (a b : Cache) → Fewer a b → length (filter (is_of site suite) a) ≤ length (filter (is_of site suite) b)
once_fewer site suite a b h = omega (arith, length_is (filter (is_of site suite) a), length_is (filter (is_of site suite) b), h one (is_of site suite))

pub within_fewer : (limits : Limits) (a b : Cache) → IsWithin (record { limits = limits; entries = b }) → Fewer a b → IsWithin (record { limits = limits; entries = a })
within_fewer limits a b h fewer = record {
  budget = omega (arith, h.budget, sum_fewer a b fewer);
  quota = λ site. omega (arith, h.quota site, list_fewer site a b fewer);
  slots = omega (arith, h.slots, length_fewer a b fewer);
  once = λ site suite. omega (arith, h.once site suite, once_fewer site suite a b fewer);
}
