-- Moves from a point on come to the step that the function takes, and to no other.
use Rattle.law_protocol.proofs.Vocabulary.{nat_cmp_total, IsOrdered-insert, Hold, Know, Next, Ask, Current, Short, next, Cache, GatheredSuite, Suites, suite_of, with_suite, step_at, step_from, IsEager, Rises, GoesTo, Outcome as Executed, ◌≡◌, ℕ}
use Rattle.law_protocol.proofs.Vocabulary.{zero, suc, ◌≤◌, false, List, [], ◌∷◌, Option, Some, None, refl, sym, ap, subst, ◌∙◌, arith, length, Granted, Fixed, Task, Gathering, Fetching, Widening}
use Rattle.suite_prefix.specs.declared.lock_mode.LockMode.{LockMode}
use Rattle.txn_core.specs.Transactions.{Step, Gathered, on_with, gather, gather_by, widen_by, widen_one, widened, widen_all, open_needed, open_suite, or_all, opened, heard_on, raised_or_new, proceed, execute}
use Rattle.txn_core.specs.Moves.{Stage, Executes, Widens, Asks, Prepares, PreparesAt, GivesUp, Tells, TellsAt, Point, point, EndsIn, is_short, Move, opens, fetches, gathers, lacks_lock, refuses, grants, prepares, passes, widens, widens_by}
use Rattle.txn_core.specs.Moves.{lacks_wide, Moves, stays, goes}
use Rattle.file_exec.specs.declared.executor.Outcome.TheVariants as exec
use Rattle.law_protocol.proofs.Opened.{missing, missing_few, with_content, next_round, opens_by, round_opens, grows, nothing_opens, one_more}

-- what is fetched
abbrev fetched_at : Stage → ℕ
fetched_at (Asks (Fetching number)) = number
fetched_at other = 0

module _ (fixed : Fixed) (task : Task) where
  -- ---- one move

  abbrev all_at : Cache → Suites → Gathered
  all_at cache suites = record { suites = suites; cache = cache }

  executes_on : (cache : Cache) (suites : Suites) (heard : Executed) → heard_on fixed task suites ≡ heard → open_needed task (all_at cache suites) heard ≡ None
      → execute fixed task (all_at cache suites) ≡ proceed fixed task cache suites heard
  executes_on cache suites heard is none = search (nothing_opens, arith)

  gathers_on : (cache : Cache) (suites : Suites) (number : ℕ) (coming : Next) → is_short coming ≡ false → gather_by task cache suites number coming ≡ on_with task cache suites (Gathering number)
  gathers_on cache suites number coming h4 = search arith

  widens_on : (cache : Cache) (suites : Suites) (number : ℕ) (left : List ℕ) (granted : Granted) (suite : GatheredSuite) (coming : Next) → suite_of suites number ≡ Some suite → next (widened granted.changes number suite).collector ≡ coming
      → widen_all task cache suites granted (number ∷ left)
      ≡ widen_by task cache (with_suite number (widened granted.changes number suite) suites) (Widening (number ∷ left) granted) number coming (λ suites. widen_all task cache suites granted left)
  widens_on cache suites number left granted suite coming there is = search arith

  one_move : {at next : Point} → Move fixed task at next → Rises at.suites → IsEager task next → step_from fixed task at ≡ step_from fixed task next
  one_move (opens {cache = cache} {suites = suites} {number = number} {suite = suite} {first = first} {content = content} needs there was free) rises eager =
      let all = all_at cache suites in
      ap (λ (all : Gathered). proceed fixed task all.cache all.suites (heard_on fixed task all.suites))
      (one_more fixed task all (with_content task all number suite first content) rises (round_opens fixed task all number suite first content needs there was free))
  one_move (fetches {cache = cache} {suites = suites} {number = number} needs) rises eager = executes_on cache suites (exec.Need (Know number)) needs (eager number refl)
  one_move (gathers {cache = cache} {suites = suites} {number = number} {mode = mode} {suite = suite} needs new more) rises eager =
      executes_on cache suites (exec.Need (Hold number mode)) needs refl ∙ ap (gather task cache suites number) new ∙ gathers_on cache (with_suite number suite suites) number (next suite.collector) more
  one_move (lacks_lock {cache = cache} {suites = suites} {number = number} {mode = mode} {suite = suite} needs new short) rises eager =
      executes_on cache suites (exec.Need (Hold number mode)) needs refl ∙ ap (gather task cache suites number) new ∙ ap (gather_by task cache (with_suite number suite suites) number) short
  one_move (refuses {cache = cache} {suites = suites} {refusal = refusal} is) rises eager = executes_on cache suites (exec.Refused refusal) is refl
  one_move (grants {cache = cache} {suites = suites} {answers = answers} {changes = changes} is) rises eager = executes_on cache suites (exec.Done answers changes) is refl
  one_move (passes {cache = cache} {suites = suites} {number = number} {left = left} {granted = granted} none) rises eager = search arith
  one_move (widens {cache = cache} {suites = suites} {number = number} {left = left} {granted = granted} {suite = suite} there is) rises eager = widens_on cache suites number left granted suite _ there is
  one_move (widens_by {cache = cache} {suites = suites} {number = number} {left = left} {granted = granted} {suite = suite} there is) rises eager = widens_on cache suites number left granted suite _ there is
  one_move (lacks_wide {cache = cache} {suites = suites} {number = number} {left = left} {granted = granted} {suite = suite} there is) rises eager = widens_on cache suites number left granted suite _ there is
  one_move prepares rises eager = refl

  rises_on : {at next : Point} → Move fixed task at next → Rises at.suites → Rises next.suites
  rises_on (opens {suites = suites} {number = number} needs there was free) rises = IsOrdered-insert nat_cmp_total suites number _ rises
  rises_on (gathers {suites = suites} {number = number} needs new more) rises = IsOrdered-insert nat_cmp_total suites number _ rises
  rises_on (lacks_lock {suites = suites} {number = number} needs new short) rises = IsOrdered-insert nat_cmp_total suites number _ rises
  rises_on (widens {suites = suites} {number = number} there is) rises = IsOrdered-insert nat_cmp_total suites number _ rises
  rises_on (widens_by {suites = suites} {number = number} there is) rises = IsOrdered-insert nat_cmp_total suites number _ rises
  rises_on (lacks_wide {suites = suites} {number = number} there is) rises = IsOrdered-insert nat_cmp_total suites number _ rises
  rises_on _ rises = rises

  -- ---- to no other

  eager_before : {at end : Point} → Moves fixed task at end → IsEager task end → IsEager task at
  eager_before h0 h1 = search arith

  ends_at : (cache : Cache) (suites : Suites) (stage : Stage) (step : Step) → EndsIn task cache suites stage step → step ≡ step_at fixed task cache suites stage
  ends_at cache suites stage step h4 = search arith

  pub comes_to : {at end : Point} (step : Step) → Moves fixed task at end → EndsIn task end.cache end.suites end.stage step → Rises at.suites → IsEager task end → step ≡ step_from fixed task at
  comes_to step (stays {at = at}) ends rises eager = ends_at at.cache at.suites at.stage step ends
  comes_to step (goes move rest) ends rises eager = comes_to step rest ends (rises_on move rises) eager ∙ sym (one_move move rises (eager_before rest eager))

  -- ---- to that one

  in_front : {at mid : Point} {step : Step} → Move fixed task at mid → GoesTo fixed task mid step → GoesTo fixed task at step
  in_front move rest = record { moves = record { end = rest.moves.end; moves = goes move rest.moves.moves; ends = rest.moves.ends }; eager = rest.eager }

  ends_with : {at : Point} {step : Step} (end : Point) → Move fixed task at end → EndsIn task end.cache end.suites end.stage step → IsEager task end → GoesTo fixed task at step
  ends_with end move ends eager = record { moves = record { end = end; moves = goes move stays; ends = ends }; eager = eager }

  goes_wide : (cache : Cache) (suites : Suites) (granted : Granted) (left : List ℕ) → GoesTo fixed task (point (Widens left granted) cache suites) (widen_all task cache suites granted left)
  goes_wide cache suites granted [] = ends_with _ prepares refl (λ number is. cc)
  goes_wide cache suites granted (number ∷ left) = of (suite_of suites number) refl (λ suites. goes_wide cache suites granted left)
    where
      by : (suite : GatheredSuite) → suite_of suites number ≡ Some suite → (coming : Next) → next (widened granted.changes number suite).collector ≡ coming
          → ((suites : Suites) → GoesTo fixed task (point (Widens left granted) cache suites) (widen_all task cache suites granted left))
          → GoesTo fixed task (point (Widens (number ∷ left) granted) cache suites)
          (widen_by task cache (with_suite number (widened granted.changes number suite) suites) (Widening (number ∷ left) granted) number coming (λ suites. widen_all task cache suites granted left))
      by suite there (Current prefix dver members) is rest = in_front (widens there is) (rest _)
      by suite there (Ask server asked) is rest = ends_with _ (widens_by there is) refl (λ number is. cc)
      by suite there (Short got wanting busy) is rest = ends_with _ (lacks_wide there is) refl (λ number is. cc)

      of : (found : Option GatheredSuite) → suite_of suites number ≡ found → ((suites : Suites) → GoesTo fixed task (point (Widens left granted) cache suites) (widen_all task cache suites granted left))
          → GoesTo fixed task (point (Widens (number ∷ left) granted) cache suites)
          (widen_one task cache suites (Widening (number ∷ left) granted) granted.changes number found (λ suites. widen_all task cache suites granted left))
      of (Some suite) there rest = by suite there (next (widened granted.changes number suite).collector) refl rest
      of None there rest = in_front (passes there) (rest suites)

  goes_gather : (cache : Cache) (suites : Suites) (number : ℕ) (mode : LockMode) (suite : GatheredSuite) → heard_on fixed task suites ≡ exec.Need (Hold number mode)
      → raised_or_new fixed task cache number mode (suite_of suites number) ≡ suite
      → (coming : Next) → next suite.collector ≡ coming → GoesTo fixed task (point Executes cache suites) (gather_by task cache (with_suite number suite suites) number coming)
  goes_gather cache suites number mode suite needs new (Short got wanting busy) is = ends_with _ (lacks_lock needs new is) refl (λ number is. cc)
  goes_gather cache suites number mode suite needs new _ is = ends_with _ (gathers needs new (ap is_short is)) refl (λ number is. cc)

  goes_proceed : (cache : Cache) (suites : Suites) (heard : Executed) → heard_on fixed task suites ≡ heard → open_needed task (all_at cache suites) heard ≡ None
      → GoesTo fixed task (point Executes cache suites) (proceed fixed task cache suites heard)
  goes_proceed cache suites (exec.Need (Hold number mode)) is none = search (goes_gather, arith)
  goes_proceed cache suites (exec.Need (Know number)) is none =
      ends_with _ (fetches is) refl (λ other same. subst (λ other. open_suite task (all_at cache suites) other (suite_of suites other) ≡ None) (ap fetched_at same) none)
  goes_proceed cache suites (exec.Done answers changes) is none = in_front (grants is) (goes_wide cache suites _ _)
  goes_proceed cache suites (exec.Refused refusal) is none = ends_with _ (refuses is) refl (λ number is. cc)

  abbrev Goes : Gathered → Gathered → Type 0
  Goes all open' = GoesTo fixed task (point Executes all.cache all.suites) (proceed fixed task open'.cache open'.suites (heard_on fixed task open'.suites))

  goes_where_none_opens : (all : Gathered) → next_round fixed task all ≡ None → Goes all all
  goes_where_none_opens all none = goes_proceed all.cache all.suites (heard_on fixed task all.suites) refl none

  goes_opened : (n : ℕ) (all : Gathered) → Rises all.suites → missing all.suites ≤ n → Goes all (opened n fixed task all)
  goes_opened zero all rises few = of (next_round fixed task all) refl
    where
      of : (found : Option Gathered) → next_round fixed task all ≡ found → Goes all all
      of None is = goes_where_none_opens all is
      of (Some more) is = let less = (grows fixed task all more rises is).less in absurd (omega (arith, less, few))
  goes_opened (suc n) all rises few = of (next_round fixed task all) refl (λ more. goes_opened n more)
    where
      of : (found : Option Gathered) → next_round fixed task all ≡ found → ((more : Gathered) → Rises more.suites → missing more.suites ≤ n → Goes more (opened n fixed task more)) → Goes all (opened (suc n) fixed task all)
      of None is rest = subst (Goes all) (sym (ap (λ found. or_all all found (λ all. opened n fixed task all)) is)) (goes_where_none_opens all is)
      of (Some more) is rest =
          let g = grows fixed task all more rises is in
          let fewer = g.less in
          let o = opens_by fixed task all more is in
          let move = subst (λ (more : Gathered). Move fixed task (point Executes all.cache all.suites) (point Executes more.cache more.suites)) o.is (opens o.needs o.there o.was o.free) in
          subst (Goes all) (sym (ap (λ found. or_all all found (λ all. opened n fixed task all)) is)) (in_front move (rest more g.rises (omega (arith, fewer, few))))

  pub goes_from : (cache : Cache) (suites : Suites) (stage : Stage) → Rises suites → IsEager task (point stage cache suites) → GoesTo fixed task (point stage cache suites) (step_at fixed task cache suites stage)
  goes_from cache suites Executes rises eager = goes_opened (length suites) (all_at cache suites) rises (missing_few suites)
  goes_from cache suites (Widens left granted) rises eager = goes_wide cache suites granted left
  goes_from cache suites (Asks phase) rises eager = record { moves = record { end = point (Asks phase) cache suites; moves = stays; ends = refl }; eager = eager }
  goes_from cache suites (Prepares outcome) rises eager = record { moves = record { end = point (Prepares outcome) cache suites; moves = stays; ends = refl }; eager = eager }
  goes_from cache suites (PreparesAt servers outcome) rises eager = record { moves = record { end = point (PreparesAt servers outcome) cache suites; moves = stays; ends = refl }; eager = eager }
  goes_from cache suites (GivesUp cause) rises eager = record { moves = record { end = point (GivesUp cause) cache suites; moves = stays; ends = refl }; eager = eager }
  goes_from cache suites (Tells verdict ending) rises eager = record { moves = record { end = point (Tells verdict ending) cache suites; moves = stays; ends = refl }; eager = eager }
  goes_from cache suites (TellsAt servers verdict ending) rises eager = record { moves = record { end = point (TellsAt servers verdict ending) cache suites; moves = stays; ends = refl }; eager = eager }
