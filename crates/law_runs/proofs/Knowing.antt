-- Suites in order, each collected in its mode or a stronger one; and what is known of them grows with them.
use Rattle.law_runs.proofs.Vocabulary.{◌≡◌, ⊎_elim, ℕ, true, [], Some, sym, ap, subst, ◌∙◌, nat_cmp, none-some, same_Some, serves, MoreKnown, GatheredSuite, Suites, suite_of, with_suite, known_of, GoesOnFrom, more_known, arith}
use Rattle.std.proofs.lemmas.Cmp.{nat_cmp_total}
use Rattle.sorted_map.specs.SortedMap.{IsOrdered}
use Rattle.sorted_map.specs.Laws.{IsOrdered-insert}
use Rattle.sorted_map.specs.Numbers.{get_insert_here, get_insert_apart}
use Rattle.std.specs.List.Sorted.{IsStrictlySortedBy}
use Rattle.law_runs.proofs.Places.{same_or}

-- more is known once a suite stands in the place of one that it goes on from
pub more_after : (suites : Suites) (number : ℕ) (before after : GatheredSuite) → IsOrdered nat_cmp suites → suite_of suites number ≡ Some before → GoesOnFrom before after
    → MoreKnown (known_of suites) (known_of (with_suite number after suites))
more_after suites number before after ordered there goes = search (more_known, same_Some, arith)

-- in order, and each collected in its mode or a stronger one
pub record AreFit (suites : Suites) : Type 0 where
  pub ordered : IsOrdered nat_cmp suites
  pub modes : (number : ℕ) (suite : GatheredSuite) → suite_of suites number ≡ Some suite → serves suite.collector.mode suite.mode ≡ true

pub none_fit : AreFit []
unfolding IsStrictlySortedBy
none_fit = record { ordered = tt; modes = λ number suite is. absurd (none-some suite is) }

pub with_fit : (suites : Suites) (number : ℕ) (suite : GatheredSuite) → AreFit suites → serves suite.collector.mode suite.mode ≡ true → AreFit (with_suite number suite suites)
with_fit suites number suite fit mode = record {
  ordered = IsOrdered-insert nat_cmp_total suites number suite fit.ordered;
  modes = λ other found is. ⊎_elim
      (λ same. subst (λ (suite : GatheredSuite). serves suite.collector.mode suite.mode ≡ true) (same_Some suite found (sym (get_insert_here suites number suite) ∙ ap (suite_of (with_suite number suite suites)) (sym same) ∙ is)) mode)
      (λ apart. fit.modes other found (sym (get_insert_apart suites number suite other apart) ∙ is))
      (same_or other number);
}
