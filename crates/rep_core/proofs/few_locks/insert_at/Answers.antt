use Rattle.rep_core.proofs.Vocabulary.{◌≡◌, ℕ, zero, suc, ◌+◌, ◌-◌, ◌<◌, List, [], ◌∷◌, ◌++◌, length, set, take, drop, refl, ap, ◌∙◌, arith, copy_within}
use Rattle.std.specs.Prelude.{insert}
use Rattle.rep_core.proofs.few_locks.insert_at.Goals as goal

module _ {X : Type 0} (x : X) where
  all_but_last : (xs : List X) → take (length xs) (xs ++ x ∷ []) ++ drop (suc (length xs)) (xs ++ x ∷ []) ≡ xs
  all_but_last [] = refl
  all_but_last (y ∷ xs) = ap (λ l. y ∷ l) (all_but_last xs)

  -- one is put at the end, those from the place on are moved up, and it is put there
  put_in : (xs : List X) (at : ℕ) → at < length xs → set (copy_within (xs ++ x ∷ []) at (length xs) (at + 1)) at x ≡ insert xs at x
  put_in [] at within = absurd (omega arith)
  put_in (y ∷ xs) zero within =
      let all : List X = y ∷ (xs ++ x ∷ []) in
      let long : suc (length xs) - 0 ≡ suc (length xs) = omega arith in
      let behind : 1 + (suc (length xs) - 0) ≡ suc (suc (length xs)) = omega arith in
      (λ i. x ∷ (take (long i) all ++ drop (behind i) all)) ∙ ap (λ l. x ∷ y ∷ l) (all_but_last xs)
  put_in (y ∷ xs) (suc at) within =
      let all : List X = y ∷ (xs ++ x ∷ []) in
      let place : suc at + 1 ≡ suc (at + 1) = omega arith in
      let long : suc (length xs) - suc at ≡ length xs - at = omega arith in
      let behind : suc at + 1 + (suc (length xs) - suc at) ≡ suc (at + 1 + (length xs - at)) = omega arith in
      (λ i. set (take (place i) all ++ take (long i) (drop (suc at) all) ++ drop (behind i) all) (suc at) x) ∙ ap (λ l. y ∷ l) (put_in xs at (omega arith))

pub returns-then-at-end : goal.returns-then-at-end
returns-then-at-end c =
    let locks = c.args.locks.now.items in
    let at = c.args.at in
    let new = c.args.new in
    let long : c.len-end.result ≡ length locks = omega (arith, c.len-end.ensures) in
    ap (λ l. set l at new) (c.copy_within.ensures.items ∙ ap (λ l. copy_within l at c.len-end.result (at + 1)) c.push_reserved.ensures.items ∙ ap (λ n. copy_within (locks ++ new ∷ []) at n (at + 1)) long)
    ∙ put_in new locks at (omega (arith, c.if-at-end.true, long))
