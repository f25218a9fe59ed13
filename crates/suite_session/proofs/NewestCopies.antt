-- The newest of copies is one of them, and none is newer.
use Rattle.suite_session.proofs.Vocabulary.{◌≡◌, ◌⊎◌, ℕ, zero, suc, ◌<◌, ◌≤◌, Bool, true, false, if◌then◌else◌, Option, Some, None, inl, inr, refl, sym, ap}
use Rattle.suite_session.proofs.Vocabulary.{subst, ◌∙◌, arith, nat_tests, none-some, nat_lt, Replica, Copies, newer, version_of, Side}
use Rattle.suite_session.specs.Rows.{newest}

-- a copy that is found, at least of this version
pub record AtLeast (one : Side) (version : ℕ) (found : Option Replica) : Type 0 where
  pub best : Replica
  pub is : found ≡ Some best
  pub least : version ≤ version_of one best

pub record IsNewest (one : Side) (copies : Copies) (suite count : ℕ) (found : Option Replica) : Type 0 where
  pub from : (copy : Replica) → found ≡ Some copy → (server : ℕ) × (copies server suite ≡ Some copy)
  pub least : (server : ℕ) (copy : Replica) → server < count → copies server suite ≡ Some copy → AtLeast one (version_of one copy) found

below_more : (server count : ℕ) → server < suc count → (server < count) ⊎ (server ≡ count)
below_more server count less = grind arith

lt_false : (a b : ℕ) → nat_lt a b ≡ false → b ≤ a
lt_false a b is = grind (arith, nat_tests)

lt_true : (a b : ℕ) → nat_lt a b ≡ true → a ≤ b
lt_true a b is = grind (arith, nat_tests)

same_copy : (a b : Replica) → Some a ≡ Some b → a ≡ b
same_copy a b is = cc

module _ (one : Side) (copies : Copies) (suite : ℕ) where
  kept : (count : ℕ) (old : Option Replica) → copies count suite ≡ None → IsNewest one copies suite count old → IsNewest one copies suite (suc count) old
  kept count old none was = record {
    from = was.from;
    least = λ server copy less is. elim (below_more server count less) [
      | inl before ↦ was.least server copy before is
      | inr same ↦ absurd (none-some copy (sym none ∙ ap (λ n. copies n suite) (sym same) ∙ is))
    ];
  }

  taken : (count : ℕ) (new : Replica) → copies count suite ≡ Some new → ((server : ℕ) (copy : Replica) → server < count → copies server suite ≡ Some copy → version_of one copy ≤ version_of one new)
      → IsNewest one copies suite (suc count) (Some new)
  taken count new there most = record {
    from = λ copy is. (count, there ∙ is);
    least = λ server copy less is. elim (below_more server count less) [
      | inl before ↦ record { best = new; is = refl; least = most server copy before is }
      | inr same ↦
          let e = same_copy new copy (sym there ∙ ap (λ n. copies n suite) (sym same) ∙ is) in
          record { best = new; is = refl; least = subst (λ (c : Replica). version_of one c ≤ version_of one new) e (omega arith) }
    ];
  }

  stays : (count : ℕ) (old new : Replica) → copies count suite ≡ Some new → version_of one new ≤ version_of one old → IsNewest one copies suite count (Some old)
      → IsNewest one copies suite (suc count) (Some old)
  stays count old new there most was = record {
    from = was.from;
    least = λ server copy less is. elim (below_more server count less) [
      | inl before ↦ was.least server copy before is
      | inr same ↦
          let e = same_copy new copy (sym there ∙ ap (λ n. copies n suite) (sym same) ∙ is) in
          record { best = old; is = refl; least = subst (λ (c : Replica). version_of one c ≤ version_of one old) e most }
    ];
  }

  no_more : (count : ℕ) (old new : Replica) → version_of one old ≤ version_of one new → IsNewest one copies suite count (Some old)
      → (server : ℕ) (copy : Replica) → server < count → copies server suite ≡ Some copy → version_of one copy ≤ version_of one new
  no_more count old new most was server copy less is =
      let found = was.least server copy less is in
      let e = same_copy old found.best found.is in
      let low = found.least in
      let up = subst (λ (c : Replica). version_of one c ≤ version_of one new) e most in
      omega (arith, low, up)

  either : (count : ℕ) (old new : Replica) → copies count suite ≡ Some new → IsNewest one copies suite count (Some old) → (is_less : Bool) → nat_lt (version_of one old) (version_of one new) ≡ is_less
      → IsNewest one copies suite (suc count) (if is_less then Some new else Some old)
  either count old new there was true is = taken count new there (no_more count old new (lt_true (version_of one old) (version_of one new) is) was)
  either count old new there was false is = stays count old new there (lt_false (version_of one old) (version_of one new) is) was

  one_more : (count : ℕ) (old new : Option Replica) → copies count suite ≡ new → IsNewest one copies suite count old → IsNewest one copies suite (suc count) (newer one old new)
  one_more count None None there was = kept count None there was
  one_more count None (Some new) there was = taken count new there (λ server copy less is. absurd (none-some (was.least server copy less is).best (was.least server copy less is).is))
  one_more count (Some old) None there was = kept count (Some old) there was
  one_more count (Some old) (Some new) there was = either count old new there was (nat_lt (version_of one old) (version_of one new)) refl

  pub is_newest : (count : ℕ) → IsNewest one copies suite count (newest one copies suite count)
  unfolding newest
  is_newest zero = record { from = λ copy is. absurd (none-some copy is); least = λ server copy less is. absurd (omega (arith, less)) }
  is_newest (suc count) = one_more count (newest one copies suite count) (copies count suite) refl (is_newest count)
