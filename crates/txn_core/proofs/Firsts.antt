-- What a sweep asks of the first of the locks that are left, which are in their order.
use Rattle.txn_core.proofs.Vocabulary.{list_any, IsPartitionedBy, IsPartitionPoint, and_parts, length-drop, nat_tests, Lock, before, has_prepared, Resolving, Breaking, above, in_order, others}
use Rattle.std.proofs.Common.{take, ◌≡◌, ◌≤◌, ◌+◌, ◌==◌, ℕ, zero, suc, Bool, true, false, cond, List, [], ◌∷◌, length, drop, refl, sym, ap, ◌∙◌, arith, Some, not, nat_le, ◌&&◌, ◌||◌}
use Rattle.txn_core.specs.code.SweepRunFields.{first_of}
use Rattle.txn_core.proofs.Places.{first_pass}

-- ---- behind the first lock those of its transaction come first

abbrev pub up_to : ℕ → Lock → Bool
up_to t lock = nat_le lock.t t

down : (t : ℕ) (x y : Lock) → not (before y x) ≡ true → up_to t y ≡ true → up_to t x ≡ true
down t x y under h = grind (arith, nat_tests)

own : (l x : Lock) → not (before x l) ≡ true → up_to l.t x ≡ true → (x.t == l.t) ≡ true
own l x under h = grind (arith, nat_tests)

not_own : (l x : Lock) → up_to l.t x ≡ false → (x.t == l.t) ≡ false
not_own l x h = grind (arith, nat_tests)

itself : (l : Lock) → (l.t == l.t) ≡ true
itself l = grind (arith, nat_tests)

pub own_pass : (t : ℕ) (locks : List Lock) → in_order locks ≡ true → IsPartitionedBy (up_to t) locks
own_pass t = first_pass (up_to t) (down t)

abbrev pub IsPoint : ℕ → List Lock → ℕ → Type 0
IsPoint t locks n = IsPartitionPoint (λ y. nat_le y.t t ≡ true) (λ y. nat_le y.t t ≡ false) locks n

own_first : (l : Lock) (xs : List Lock) (n : ℕ) → n ≤ length xs → above l xs ≡ true → IsPoint l.t xs n
    → (list_any (λ y. y.prepared) (take n xs) ≡ has_prepared l.t xs) × (drop n xs ≡ others l.t xs)
own_first l [] zero within all point = (refl, refl)
own_first l [] (suc n) within all point = absurd (omega arith)
own_first l (x ∷ xs) zero within all point =
    let fails : (x.t == l.t) ≡ false = not_own l x (point.1 0 x (omega arith) (omega arith)) in
    let rest = own_first l xs 0 (omega arith) (and_parts (not (before x l)) (above l xs) all).1 (λ k d low high. absurd (omega arith), λ k d low high. point.1 (suc k) d (omega arith) (omega arith)) in (
      rest.0 ∙ sym (ap (λ b. (b && x.prepared) || has_prepared l.t xs) fails),
      ap (λ k. x ∷ k) rest.1 ∙ sym (ap (λ b. cond (not b) (x ∷ others l.t xs) (others l.t xs)) fails),
    )
own_first l (x ∷ xs) (suc n) within all point =
    let parts = and_parts (not (before x l)) (above l xs) all in
    let passes : (x.t == l.t) ≡ true = own l x parts.0 (point.0 0 x (omega arith) (omega arith)) in
    let rest = own_first l xs n (omega arith) parts.1 (λ k d low high. point.0 (suc k) d (omega arith) (omega arith), λ k d low high. point.1 (suc k) d (omega arith) (omega arith)) in (
      ap (λ b. x.prepared || b) rest.0 ∙ sym (ap (λ b. (b && x.prepared) || has_prepared l.t xs) passes),
      rest.1 ∙ sym (ap (λ b. cond (not b) (x ∷ others l.t xs) (others l.t xs)) passes),
    )

order_dropped : (n : ℕ) (locks : List Lock) → in_order locks ≡ true → in_order (drop n locks) ≡ true
order_dropped zero locks up = up
order_dropped (suc n) [] up = refl
order_dropped (suc n) (lock ∷ locks) up = order_dropped n locks (and_parts (above lock locks) (in_order locks) up).1

pub order_behind : (lock : Lock) (rest locks : List Lock) → locks ≡ lock ∷ rest → in_order locks ≡ true → in_order rest ≡ true
order_behind lock rest locks is up = (and_parts (above lock rest) (in_order rest) (ap in_order (sym is) ∙ up)).1

-- ---- the first lock, those behind it, and how many of them are its transaction's

module _ (lock : Lock) (rest locks : List Lock) (n : ℕ) (is : locks ≡ lock ∷ rest) (up : in_order locks ≡ true) (within : n ≤ length rest) (point : IsPoint lock.t rest n) where
  parts : (above lock rest ≡ true) × (in_order rest ≡ true)
  parts = and_parts (above lock rest) (in_order rest) (ap in_order (sym is) ∙ up)

  first_own : (list_any (λ y. y.prepared) (take n rest) ≡ has_prepared lock.t rest) × (drop n rest ≡ others lock.t rest)
  first_own = own_first lock rest n within parts.0 point

  asked : (b : Bool) → (lock.prepared || list_any (λ y. y.prepared) (take n rest)) ≡ b → Some (cond b (Resolving lock.t (others lock.t rest)) (Breaking lock rest)) ≡ first_of locks
  asked b prepared =
      let all : has_prepared lock.t (lock ∷ rest) ≡ b =
      ap (λ b. (b && lock.prepared) || has_prepared lock.t rest) (itself lock)
      ∙ ap (λ b. lock.prepared || b) (sym first_own.0)
      ∙ prepared in
      sym (ap (λ b. Some (cond b (Resolving lock.t (others lock.t rest)) (Breaking lock rest))) all) ∙ ap first_of (sym is)

  pub first_resolves : (left : List Lock) → left ≡ drop n rest → (lock.prepared || list_any (λ y. y.prepared) (take n rest)) ≡ true → Some (Resolving lock.t left) ≡ first_of locks
  first_resolves left left_is prepared = ap (λ k. Some (Resolving lock.t k)) (left_is ∙ first_own.1) ∙ asked true prepared

  pub first_breaks : (lock.prepared || list_any (λ y. y.prepared) (take n rest)) ≡ false → Some (Breaking lock rest) ≡ first_of locks
  first_breaks prepared = asked false prepared

  pub fewer : (left : List Lock) → left ≡ drop n rest → length left + 1 ≤ length locks
  fewer left left_is = search (length-drop, arith)

  pub order_left : (left : List Lock) → left ≡ drop n rest → in_order left ≡ true
  order_left left left_is = ap in_order left_is ∙ order_dropped n rest parts.1
