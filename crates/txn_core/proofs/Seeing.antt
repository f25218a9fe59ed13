-- The suites of a transaction, once something more is known, suite by suite.
use Rattle.txn_core.proofs.Vocabulary.{◌≡◌, ◌≢◌, ◌<◌, ℕ, zero, suc, cond, [], ◌∷◌, List, length, get_or, Option, Some, None, refl, sym, ap, subst, ◌∙◌, arith, ◌==◌, is_some, option_map, nat_cmp, keys_of, nat_cmp_total, exact_unsigned, eqb-true}
use Rattle.txn_core.proofs.Vocabulary.{eqb-false, IsOrdered-insert, IsOrdered, Known, Learned, GatheredSuite, Suites, suite_of, known_if, IsStrictlySortedBy}
use Rattle.sorted_map.specs.Numbers.{get_insert_here, get_insert_apart, same_maps}
use Rattle.txn_core.specs.code.Seeing.{told_of, changed_at, learned_suites, view_of_suite, known_by}

-- ---- a suite among those that are seen

module _ (just_learned : Learned) where
  -- one after the other
  abbrev pub told_all : Suites → Suites
  told_all [] = []
  told_all (one ∷ suites) = (one.0, told_of just_learned one.0 one.1) ∷ told_all suites

  pub told_length : (suites : Suites) → length (told_all suites) ≡ length suites
  told_length [] = refl
  told_length (one ∷ suites) = ap (λ n. suc n) (told_length suites)

  pub told_item : (suites : Suites) (i : ℕ) (one : ℕ × GatheredSuite) → i < length suites → one ≡ get_or suites i one → (one.0, told_of just_learned one.0 one.1) ≡ get_or (told_all suites) i (one.0, told_of just_learned one.0 one.1)
  told_item suites i one below is = ap (λ (it : ℕ × GatheredSuite). (it.0, told_of just_learned it.0 it.1)) is ∙ at suites i one below
    where
      at : (suites : Suites) (i : ℕ) (one : ℕ × GatheredSuite) → i < length suites → (let it = get_or suites i one in (it.0, told_of just_learned it.0 it.1)) ≡ get_or (told_all suites) i (one.0, told_of just_learned one.0 one.1)
      at [] i one below = absurd (omega arith)
      at (x ∷ suites) zero one below = refl
      at (x ∷ suites) (suc i) one below = at suites i one (omega arith)

  told_keys : (suites : Suites) → keys_of (told_all suites) ≡ keys_of suites
  told_keys [] = refl
  told_keys (one ∷ suites) = ap (λ keys. one.0 ∷ keys) (told_keys suites)

  pub told_ordered : (suites : Suites) → IsOrdered nat_cmp suites → IsOrdered nat_cmp (told_all suites)
  told_ordered suites ordered = subst (λ (keys : List ℕ). IsStrictlySortedBy nat_cmp keys) (sym (told_keys suites)) ordered

  told_at : (suites : Suites) (number : ℕ) → suite_of (told_all suites) number ≡ option_map (told_of just_learned number) (suite_of suites number)
  told_at [] number = refl
  told_at (one ∷ suites) number = search (exact_unsigned, told_at suites number, arith)

-- ---- and what was learned, set

-- one of them is another from now on
module _ (change : GatheredSuite → GatheredSuite) (place : ℕ) (suites : Suites) where
  abbrev changed : Option GatheredSuite → Suites
  changed found = changed_at change place found suites

  abbrev changed_of : ℕ → GatheredSuite → GatheredSuite
  changed_of number suite = cond (place == number) (change suite) suite

  changed_ordered : (found : Option GatheredSuite) → IsOrdered nat_cmp suites → IsOrdered nat_cmp (changed found)
  changed_ordered (Some suite) ordered = IsOrdered-insert nat_cmp_total suites place (change suite) ordered
  changed_ordered None ordered = ordered

  changed_here : (found : Option GatheredSuite) → suite_of suites place ≡ found → suite_of (changed found) place ≡ option_map change (suite_of suites place)
  changed_here (Some suite) is = get_insert_here suites place (change suite) ∙ ap (option_map change) (sym is)
  changed_here None is = is ∙ ap (option_map change) (sym is)

  changed_apart : (found : Option GatheredSuite) (number : ℕ) → number ≢ place → suite_of (changed found) number ≡ suite_of suites number
  changed_apart (Some suite) number apart = get_insert_apart suites place (change suite) number apart
  changed_apart None number apart = refl

  unchanged : (found : Option GatheredSuite) → found ≡ option_map (λ (suite : GatheredSuite). suite) found
  unchanged found = search arith

  found_at : (number : ℕ) → suite_of (changed (suite_of suites place)) number ≡ option_map (changed_of number) (suite_of suites number)
  found_at number = search (eqb-true, changed_here, changed_apart, eqb-false, unchanged, arith)

module _ (suites : Suites) where
  pub learned_ordered : (just_learned : Learned) → IsOrdered nat_cmp suites → IsOrdered nat_cmp (learned_suites just_learned suites)
  learned_ordered just_learned h1 = search (changed_ordered, arith)

  learned_at : (just_learned : Learned) (number : ℕ) → suite_of (learned_suites just_learned suites) number ≡ option_map (told_of just_learned number) (suite_of suites number)
  learned_at just_learned number = search (unchanged, found_at, arith)

  -- it is the same suite by suite
  pub told_learned : (just_learned : Learned) → IsOrdered nat_cmp suites → told_all just_learned suites ≡ learned_suites just_learned suites
  told_learned just_learned ordered =
      same_maps (told_all just_learned suites) (learned_suites just_learned suites) (told_ordered just_learned suites ordered) (learned_ordered just_learned ordered)
      (λ number. told_at just_learned suites number ∙ sym (learned_at just_learned number))

  pub learned_found : (just_learned : Learned) (number : ℕ) (suite : GatheredSuite) → Some suite ≡ suite_of suites number → suite_of (learned_suites just_learned suites) number ≡ Some (told_of just_learned number suite)
  learned_found just_learned number suite is = learned_at just_learned number ∙ ap (option_map (told_of just_learned number)) (sym is)

  pub learned_absent : (just_learned : Learned) (number : ℕ) → suite_of suites number ≡ None → suite_of (learned_suites just_learned suites) number ≡ None
  learned_absent just_learned number is = learned_at just_learned number ∙ ap (option_map (told_of just_learned number)) is

  pub learned_there : (just_learned : Learned) (number : ℕ) → is_some (suite_of (learned_suites just_learned suites) number) ≡ is_some (suite_of suites number)
  learned_there just_learned number = search (learned_at, arith)

-- ---- what is known of a suite is what is seen of it

pub known_seen : (number : ℕ) (suite : GatheredSuite) (known : Known) → known_by number (view_of_suite suite) known ≡ known_if number suite suite.first known
known_seen number suite known = search arith
