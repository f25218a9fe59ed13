-- A content that may be had without asking is never fetched.
use Rattle.law_run_knowledge.proofs.Vocabulary.{◌≡◌, ℕ, zero, suc, ◌+◌, ◌<◌, ◌≤◌, false, cond, [], ◌∷◌, Option, Some, None, refl, sym, ap, subst, ◌∙◌, arith, Equal, Greater, ◌==◌, length, is_some, nat_cmp, is_eq, nat_cmp_total, same_Some, none-some}
use Rattle.law_run_knowledge.proofs.Vocabulary.{IsOrdered, Content, Know, ReadPoint, GatheredSuite, Suites, suite_of, with_suite, known_of, Fixed, Task}
use Rattle.std.specs.BTreeMap.{is_at}
use Rattle.std.specs.Map.{keys_of}
use Rattle.std.proofs.lemmas.Map.Entries.{lookup_head, lookup_tail}
use Rattle.std.proofs.lemmas.Map.Keys.{sorted_tail}
use Rattle.sorted_map.specs.Comparisons.{by_answer}
use Rattle.sorted_map.specs.Laws.{insert_step, get_below, IsOrdered-insert}
use Rattle.file_exec.proofs.Unmet.{needs_what_is_unmet}
use Rattle.txn_core.specs.Transactions.{Gathered, opened, or_all, open_needed, open_suite, open_first, opened_with, free_content, heard_on}
use Rattle.txn_core.proofs.Setting.{known_at}
use Rattle.txn_core.proofs.Fetches.{needed_first}
use Rattle.file_exec.specs.declared.executor.Outcome.{Outcome as Executed}
use Rattle.file_exec.specs.declared.executor.Outcome.TheVariants as exec
use Rattle.file_exec.specs.Known as known

-- ---- suites whose content is not there

abbrev closed : Suites → ℕ
closed [] = 0
closed (one ∷ suites) = cond (is_some one.1.content) 0 1 + closed suites

few_closed : (suites : Suites) → closed suites ≤ length suites
few_closed [] = omega arith
few_closed (one ∷ suites) = search (few_closed suites, arith)

one_closed : (suite : GatheredSuite) → is_some suite.content ≡ false → ◌≡◌ {A = ℕ} (cond (is_some suite.content) 0 1) 1
one_closed suite none = ap (λ b. cond b 0 1) none

some_closed : (suites : Suites) (number : ℕ) (suite : GatheredSuite) → suite_of suites number ≡ Some suite → is_some suite.content ≡ false → 1 ≤ closed suites
some_closed [] number suite there none = cc
some_closed (e ∷ es) number suite there none = search (one_closed, same_Some, some_closed es number suite, arith)

-- one of them is opened
opens_one : (suites : Suites) (number : ℕ) (suite : GatheredSuite) (content : Content) → IsOrdered nat_cmp suites → suite_of suites number ≡ Some suite → is_some suite.content ≡ false
    → closed (with_suite number (record suite { content = Some content }) suites) + 1 ≡ closed suites
opens_one [] number suite content ordered there none = cc
opens_one (e ∷ es) number suite content ordered there none =
    let new : GatheredSuite = record suite { content = Some content } in
    by_answer (nat_cmp number e.0)
    (λ less. absurd (none-some suite (sym (get_below nat_cmp_total number e es ordered less) ∙ there)))
    (λ equal.
    let same : e.1 ≡ suite = same_Some e.1 suite (sym (lookup_head (is_at (nat_cmp number)) e es (ap is_eq equal)) ∙ there) in
    let one = one_closed e.1 (ap (λ (suite : GatheredSuite). is_some suite.content) same ∙ none) in
    ap (λ suites. closed suites + 1) (insert_step nat_cmp e es number new Equal equal) ∙ (let sum : closed ((e.0, new) ∷ es) + 1 ≡ closed (e ∷ es) = omega (arith, one) in sum))
    (λ greater.
    let rest = opens_one es number suite content (sorted_tail nat_cmp e.0 (keys_of es) ordered) (sym (lookup_tail (is_at (nat_cmp number)) e es (ap is_eq greater)) ∙ there) none in
    ap (λ suites. closed suites + 1) (insert_step nat_cmp e es number new Greater greater) ∙ (let sum : closed (e ∷ with_suite number new es) + 1 ≡ closed (e ∷ es) = omega (arith, rest) in sum))

-- ---- what the executor needs is not there

away : (fixed : Fixed) (task : Task) (suites : Suites) (number : ℕ) → heard_on fixed task suites ≡ exec.Need (Know number) → (suite : GatheredSuite) (first : ReadPoint)
    → suite_of suites number ≡ Some suite → suite.first ≡ Some first → is_some suite.content ≡ false
away fixed task suites number is suite first there was =
    sym (ap known.is_opened (known_at suites number suite first there was))
    ∙ needs_what_is_unmet fixed.service (known_of suites) task.t task.caller task.ops (Know number)
    (needed_first (known_of suites) (known.exec_of fixed.service (known_of suites) task.t task.caller task.ops) (Know number) is)

-- ---- all is opened that may be

-- what is needed has to be asked for
abbrev IsAsked : Fixed → Task → Gathered → Type 0
IsAsked fixed task all = (number : ℕ) → heard_on fixed task all.suites ≡ exec.Need (Know number) → open_suite task all number (suite_of all.suites number) ≡ None

-- one content more is there
record OneMore (all more : Gathered) : Type 0 where
  ordered : IsOrdered nat_cmp more.suites
  fewer : closed more.suites + 1 ≡ closed all.suites

module _ (fixed : Fixed) (task : Task) (all : Gathered) (ordered : IsOrdered nat_cmp all.suites) where
  with_content : (number : ℕ) (suite : GatheredSuite) (first : ReadPoint) (content : Option Content) (more : Gathered) → suite_of all.suites number ≡ Some suite
      → is_some suite.content ≡ false → opened_with task all number suite first content ≡ Some more → OneMore all more
  with_content number suite first (Some content) more there none is =
      subst (λ (more : Gathered). OneMore all more) (same_Some _ more is)
      (record { ordered = IsOrdered-insert nat_cmp_total all.suites number (record suite { content = Some content }) ordered; fewer = opens_one all.suites number suite content ordered there none })
  with_content number suite first None more there none is = cc

  at_first : (number : ℕ) (suite : GatheredSuite) (first : Option ReadPoint) (more : Gathered) → heard_on fixed task all.suites ≡ exec.Need (Know number)
      → suite_of all.suites number ≡ Some suite → suite.first ≡ first → open_first task all number suite first ≡ Some more → OneMore all more
  at_first number suite (Some first) more needs there was is = with_content number suite first (free_content task all.cache number first) more there (away fixed task all.suites number needs suite first there was) is
  at_first number suite None more needs there was is = cc

  at_suite : (number : ℕ) (found : Option GatheredSuite) (more : Gathered) → heard_on fixed task all.suites ≡ exec.Need (Know number) → suite_of all.suites number ≡ found → open_suite task all number found ≡ Some more → OneMore all more
  at_suite number (Some suite) more needs there is = at_first number suite suite.first more needs there refl is
  at_suite number None more needs there is = cc

  opens_more : (heard : Executed) (more : Gathered) → heard_on fixed task all.suites ≡ heard → open_needed task all heard ≡ Some more → OneMore all more
  opens_more (exec.Need (Know number)) more needs is = at_suite number (suite_of all.suites number) more needs refl is
  opens_more other more needs is = cc

  -- where each suite has its content
  none_left : closed all.suites ≤ 0 → IsAsked fixed task all
  none_left few number needs = of (suite_of all.suites number) refl
    where
      first_of : (suite : GatheredSuite) (first : Option ReadPoint) → suite_of all.suites number ≡ Some suite → suite.first ≡ first → open_first task all number suite first ≡ None
      first_of suite None there was = refl
      first_of suite (Some first) there was = absurd (let some = some_closed all.suites number suite there (away fixed task all.suites number needs suite first there was) in omega (arith, some, few))

      of : (found : Option GatheredSuite) → suite_of all.suites number ≡ found → open_suite task all number found ≡ None
      of None there = refl
      of (Some suite) there = first_of suite suite.first there refl

all_opened : (n : ℕ) (fixed : Fixed) (task : Task) (all : Gathered) → IsOrdered nat_cmp all.suites → closed all.suites ≤ n → IsAsked fixed task (opened n fixed task all)
all_opened zero fixed task all ordered few = none_left fixed task all ordered few
all_opened (suc n) fixed task all ordered few = of (open_needed task all (heard_on fixed task all.suites)) refl (λ more ordered few. all_opened n fixed task more ordered few)
  where
    of : (found : Option Gathered) → open_needed task all (heard_on fixed task all.suites) ≡ found
        → ((more : Gathered) → IsOrdered nat_cmp more.suites → closed more.suites ≤ n → IsAsked fixed task (opened n fixed task more))
        → IsAsked fixed task (or_all all found (λ all. opened n fixed task all))
    of found h1 h2 = search (opens_more, arith)

-- ---- what is fetched

above_zero : (n : ℕ) → (n == 0) ≡ false → 0 < n
above_zero n h1 = search arith

not_free : (task : Task) (all : Gathered) (number : ℕ) (suite : GatheredSuite) (first : ReadPoint) → open_first task all number suite (Some first) ≡ None → 0 < first.dver
not_free task all number suite first is = search arith

-- a suite whose content is fetched has one of a version above 0
pub fetched_above : (fixed : Fixed) (task : Task) (all : Gathered) → IsOrdered nat_cmp all.suites → let open' = opened (length all.suites) fixed task all in
    (number : ℕ) → heard_on fixed task open'.suites ≡ exec.Need (Know number) → (suite : GatheredSuite) (first : ReadPoint) → suite_of open'.suites number ≡ Some suite → suite.first ≡ Some first → 0 < first.dver
fetched_above fixed task all ordered number needs suite first there was = search (all_opened (length all.suites) fixed task all ordered (few_closed all.suites) number needs, few_closed all.suites, not_free, arith)
