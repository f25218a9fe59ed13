-- Numbers in sets and in lists, and how many are not among them.
use Rattle.suite_session.proofs.Vocabulary.{◌≡◌, ◌∙◌, ℕ, zero, suc, ◌+◌, ◌==◌, Bool, true, false, ◌||◌, not, cond, List, [], ◌∷◌, ◌++◌, Option, Some, None, ap}
use Rattle.suite_session.proofs.Vocabulary.{arith, refl, sym, false≢true, nat_tests, list_any-append, is_at, fold, list_any, nat_cmp, codes, decimal, State}
use Rattle.suite_session.proofs.Vocabulary.{server_at, Replica, line_feed, has, room_line, taken_text, unnamed, AreTold, HaveSame}
use Rattle.run_core.specs.Worlds.{World}
use Rattle.suite_session.specs.Places.{room_lines}

-- ---- a set has what the list of its keys has

at_is : (one k : ℕ) → is_at (nat_cmp one) k ≡ (k == one)
at_is one k = elim (k == one) as (λ b. (k == one) ≡ b → is_at (nat_cmp one) k ≡ b) [ true ↦ λ e. grind (arith, nat_tests) | false ↦ λ e. grind (arith, nat_tests) ] refl

is_at_it : (key one : ℕ) → is_at (nat_cmp key) one ≡ (key == one)
is_at_it key one = elim (key == one) as (λ b. (key == one) ≡ b → is_at (nat_cmp key) one ≡ b) [ true ↦ λ e. grind (arith, nat_tests) | false ↦ λ e. grind (arith, nat_tests) ] refl

pub has_at : (numbers : List ℕ) (one : ℕ) → list_any (is_at (nat_cmp one)) numbers ≡ has numbers one
has_at [] one = refl
has_at (k ∷ numbers) one = ap (λ b. b || list_any (is_at (nat_cmp one)) numbers) (at_is one k) ∙ ap (λ rest. (k == one) || rest) (has_at numbers one)

turned : (k h : Bool) → cond k true h ≡ (h || k)
turned true true = refl
turned true false = refl
turned false true = refl
turned false false = refl

pub has_added : (before after : List ℕ) (key one : ℕ) → list_any (is_at (nat_cmp one)) after ≡ cond (is_at (nat_cmp key) one) true (list_any (is_at (nat_cmp one)) before)
    → has after one ≡ (has before one || (key == one))
has_added before after key one is =
    sym (has_at after one)
    ∙ is
    ∙ ap (λ b. cond b true (list_any (is_at (nat_cmp one)) before)) (is_at_it key one)
    ∙ ap (λ h. cond (key == one) true h) (has_at before one)
    ∙ turned (key == one) (has before one)

-- ---- more numbers

pub has_append : (a b : List ℕ) (one : ℕ) → has (a ++ b) one ≡ (has a one || has b one)
has_append a b one = list_any-append (λ k. k == one) a b

pub or_false : (b : Bool) → b ≡ (b || false)
or_false true = refl
or_false false = refl

pub none_told : (world : World) (count : ℕ) (numbers : List ℕ) → AreTold world count [] numbers
none_told world count numbers suite one is = absurd (false≢true is)

-- ---- how many are not among the numbers

module _ (numbers others : List ℕ) (same : HaveSame numbers others) where
  abbrev step_in : List ℕ → ℕ → ℕ × Replica → ℕ
  step_in numbers n pair = n + cond (not (has numbers pair.0)) 1 0

  same_fold : (n : ℕ) (copies : List (ℕ × Replica)) → fold (step_in numbers) n copies ≡ fold (step_in others) n copies
  same_fold n [] = refl
  same_fold n (pair ∷ copies) = ap (λ b. fold (step_in numbers) (n + cond (not b) 1 0) copies) (same pair.0) ∙ same_fold (n + cond (not (has others pair.0)) 1 0) copies

  same_unnamed : (copies : List (ℕ × Replica)) → unnamed numbers copies ≡ unnamed others copies
  same_unnamed copies = same_fold 0 copies

  same_line : (number : ℕ) (found : Option State) → room_line numbers number found ≡ room_line others number found
  same_line number None = refl
  same_line number (Some st) =
      ap (λ n. codes "room server " ++ decimal number ++ taken_text st.store.copies ++ (codes " unnamed " ++ decimal n ++ line_feed)) (same_unnamed st.store.copies)

  pub same_lines : (world : World) (count : ℕ) → room_lines numbers world count ≡ room_lines others world count
  unfolding room_lines
  same_lines world zero = refl
  same_lines world (suc count) =
      ap (λ text. text ++ room_line numbers count (server_at world count)) (same_lines world count) ∙ ap (λ line. room_lines others world count ++ line) (same_line count (server_at world count))
