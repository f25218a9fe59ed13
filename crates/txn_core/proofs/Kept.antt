-- What stays as it was where suites get contents that are to be had without asking.
use Rattle.txn_core.proofs.Vocabulary.{◌≡◌, ℕ, Bool, true, false, cond, List, [], ◌∷◌, Option, Some, None, refl, ap, ◌∙◌, is_some, if◌then◌else◌, ◌==◌, nat_cmp, is_eq, nat_cmp_total, exact_unsigned, IsOrdered, get-insert, arith, IsOrdered-insert}
use Rattle.txn_core.proofs.Vocabulary.{Content, Cache, content_at, hint, searched, search_keeps_all, ReadPoint, GatheredSuite, Suites, suite_of, with_suite, Task, Gathered, after_search, HasUnused, opened_first, opened_at, opened_by, opened_all}
use Rattle.txn_core.proofs.Vocabulary.{free_of}
use Rattle.txn_core.proofs.Unused.{unused_searched}

-- what the first quorum of a suite gave
abbrev pub first_in : Option GatheredSuite → Option ReadPoint
first_in (Some suite) = suite.first
first_in None = None

pub record Keeps (all more : Gathered) : Type 0 where
  pub ordered : IsOrdered nat_cmp all.suites → IsOrdered nat_cmp more.suites
  pub firsts : (number : ℕ) → first_in (suite_of more.suites number) ≡ first_in (suite_of all.suites number)
  pub there : (number : ℕ) → is_some (suite_of more.suites number) ≡ is_some (suite_of all.suites number)
  pub contents : (site number dver : ℕ) → content_at more.cache site number dver ≡ content_at all.cache site number dver
  pub hints : (site number : ℕ) → hint more.cache site number ≡ hint all.cache site number
  pub unused : HasUnused all.cache → HasUnused more.cache

keeps_itself : (all : Gathered) → Keeps all all
keeps_itself all = record { ordered = λ o. o; firsts = λ number. refl; there = λ number. refl; contents = λ site number dver. refl; hints = λ site number. refl; unused = λ all. all }

keeps_on : (all some more : Gathered) → Keeps all some → Keeps some more → Keeps all more
keeps_on all some more first then' = search arith

-- at each number there is what the suite before and after have in common
same_at : {X : Type 0} (see : Option GatheredSuite → X) (suites : Suites) (number : ℕ) (suite new : GatheredSuite) → suite_of suites number ≡ Some suite → see (Some new) ≡ see (Some suite)
    → (other : ℕ) → see (suite_of (with_suite number new suites) other) ≡ see (suite_of suites other)
same_at see suites number suite new is same other =
    ap see (get-insert nat_cmp_total suites number new other) ∙ of (is_eq (nat_cmp number other)) refl
  where
    of : (b : Bool) → is_eq (nat_cmp number other) ≡ b → see (cond b (Some new) (suite_of suites other)) ≡ see (suite_of suites other)
    of b h1 = search (exact_unsigned, arith)

-- what is looked for in the cache moves, and stays
pub record StaysFound (cache more : Cache) : Type 0 where
  pub contents : (site number dver : ℕ) → content_at more site number dver ≡ content_at cache site number dver
  pub hints : (site number : ℕ) → hint more site number ≡ hint cache site number
  pub unused : HasUnused cache → HasUnused more

search_keeps : (task : Task) (cache : Cache) (number : ℕ) (first : ReadPoint) → StaysFound cache (after_search task cache number first)
search_keeps task cache number first = of (first.dver == 0)
  where
    of : (b : Bool) → StaysFound cache (if b then cache else searched task.site number first.dver cache)
    of true = record { contents = λ site other dver. refl; hints = λ site other. refl; unused = λ all. all }
    of false = record {
      contents = λ site other dver. search_keeps_all.content task.site number first.dver site other dver cache;
      hints = λ site other. search_keeps_all.hint task.site number first.dver site other cache;
      unused = unused_searched task.site number first.dver cache;
    }

keeps_one : (task : Task) (all : Gathered) (one : ℕ × Content) → Keeps all (opened_by task all one)
keeps_one task all one = of (suite_of all.suites one.0) refl
  where
    opens : (suite : GatheredSuite) → suite_of all.suites one.0 ≡ Some suite → (first : Option ReadPoint) → suite.first ≡ first → Keeps all (opened_first task all one.0 one.1 suite first)
    opens suite is None was = keeps_itself all
    opens suite is (Some first) was =
        let new : GatheredSuite = record suite { content = Some one.1 } in
        let cache = search_keeps task all.cache one.0 first in
        record {
          ordered = λ o. IsOrdered-insert nat_cmp_total all.suites one.0 new o;
          firsts = same_at first_in all.suites one.0 suite new is refl;
          there = same_at is_some all.suites one.0 suite new is refl;
          contents = cache.contents;
          hints = cache.hints;
          unused = cache.unused;
        }

    of : (found : Option GatheredSuite) → suite_of all.suites one.0 ≡ found → Keeps all (opened_at task all one.0 one.1 found)
    of found h1 = search (opens, keeps_itself, arith)

pub keeps_all : (task : Task) (list : List (ℕ × Content)) (all : Gathered) → Keeps all (opened_all task list all)
keeps_all task [] all = keeps_itself all
keeps_all task (one ∷ list) all = keeps_on all (opened_by task all one) (opened_all task list (opened_by task all one)) (keeps_one task all one) (keeps_all task list (opened_by task all one))

pub free_kept : (task : Task) (all more : Gathered) → Keeps all more → (number : ℕ) → free_of task more.cache number (suite_of more.suites number) ≡ free_of task all.cache number (suite_of all.suites number)
free_kept task all more keeps number = search arith
