-- The pairs of an ordered list, put one after the other into a map.
use Rattle.file_exec.proofs.Vocabulary.{◌≡◌, ℕ, ◌+◌, ◌<◌, zero, suc, add-one, take, get_or, Less, Greater, subst, List, [], ◌∷◌, length, sym, ap, ◌∙◌, arith, nat_cmp, AllByRecursion, keys_of, nat_tests, sorted_head, sorted_tail, IsOrdered, insert}
use Rattle.file_exec.proofs.Vocabulary.{insert_step}

swapped : (key other : ℕ) → nat_cmp key other ≡ Less → nat_cmp other key ≡ Greater
swapped key other less = grind (arith, nat_tests)

module _ {V : Type 0} where
  -- what holds of each key holds of the key at a place
  at_index : (P : ℕ → Type 0) (es : List (ℕ × V)) (i : ℕ) (pair : ℕ × V) → i < length es → pair ≡ get_or es i pair → AllByRecursion P (keys_of es) → P pair.0
  at_index P [] i pair in_range is all = absurd (omega arith)
  at_index P (e ∷ es) zero pair in_range is all = subst (λ (p : ℕ × V). P p.0) (sym is) all.0
  at_index P (e ∷ es) (suc i) pair in_range is all = at_index P es i pair (omega arith) is all.1

  insert_after : (pairs : List (ℕ × V)) (i : ℕ) (pair : ℕ × V) → IsOrdered nat_cmp pairs → i < length pairs → pair ≡ get_or pairs i pair → insert nat_cmp (take i pairs) pair.0 pair.1 ≡ take (suc i) pairs
  insert_after [] i pair rising in_range is = absurd (omega arith)
  insert_after (e ∷ es) zero pair rising in_range is = ap (λ p. p ∷ []) is
  insert_after (e ∷ es) (suc i) pair rising in_range is =
      let above = at_index (λ b. nat_cmp e.0 b ≡ Less) es i pair (omega arith) is (sorted_head nat_cmp e.0 (keys_of es) rising) in
      insert_step nat_cmp e (take i es) pair.0 pair.1 Greater (swapped e.0 pair.0 above)
      ∙ ap (λ l. e ∷ l) (insert_after es i pair (sorted_tail nat_cmp e.0 (keys_of es) rising) (omega arith) is)

  -- the next pair of an ordered list goes to the end of those before it
  pub insert_next : (pairs : List (ℕ × V)) (i : ℕ) (pair : ℕ × V) → IsOrdered nat_cmp pairs → i < length pairs → pair ≡ get_or pairs i pair → insert nat_cmp (take i pairs) pair.0 pair.1 ≡ take (i + 1) pairs
  insert_next pairs i pair rising in_range is = insert_after pairs i pair rising in_range is ∙ ap (λ n. take n pairs) (sym (add-one i))
