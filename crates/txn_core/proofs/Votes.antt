-- The suites that get votes are widened one after the other.
use Rattle.txn_core.proofs.Vocabulary.{◌≡◌, ℕ, ◌+◌, true, List, [], ◌∷◌, drop, length, get_or, ◌≤◌, ◌<◌, ◌⊎◌, refl, sym, ap, ◌∙◌, subst, arith, slice_get, Option, Some, None, Ok, IsSome, nat_cmp, drop-cons, nat_cmp_total, eq_by_cmp_equiv}
use Rattle.txn_core.proofs.Vocabulary.{lookup_from_place, IsDistinct-from_sorted, slice_get_within, get_or_from_slice_get, slice_get_cases, none-some, IsOrdered, replace, insert_present, Configuration, Change, Next, widen, next, Cache, Coming, Comes}
use Rattle.txn_core.proofs.Vocabulary.{Changes, Granted, Task, Widening, TransactionRun, Steps, WidensTo, Ending, GatheredSuite, Suites, suite_of, with_suite, Step, on_with, give_up, short_cause, to_widen, votes_then, widened, widen_by, widen_all}
use Rattle.txn_core.proofs.Vocabulary.{prepare, locked_at, change_of}
use Rattle.std.proofs.Math.ListN.{drop_of_length-le}
use Rattle.suite_collect.specs.declared.coming.Asked.{Asked}
use Rattle.txn_core.specs.code.Steps.{Widens}
use Rattle.suite_collect.specs.declared.coming.Coming.TheVariants as coming

-- ---- the changes from a place on

split : (changes : Changes) (at : ℕ) (one : ℕ × Change) → slice_get changes at ≡ Some one → drop at changes ≡ one ∷ drop (at + 1) changes
split changes at one is = search (drop-cons changes, slice_get_within changes, get_or_from_slice_get changes, arith)

pub met : (changes : Changes) (at : ℕ) (one : ℕ × Change) → slice_get changes at ≡ Some one → one.1.votes ≡ true → to_widen (drop at changes) ≡ one.0 ∷ to_widen (drop (at + 1) changes)
met changes at one is sets = search (split, arith)

pub change_at : (changes : Changes) (at : ℕ) (one : ℕ × Change) → IsOrdered nat_cmp changes → slice_get changes at ≡ Some one → change_of changes one.0 ≡ Some one.1
change_at changes at one ordered is = lookup_from_place (eq_by_cmp_equiv nat_cmp_total) changes at one.0 one.1 (IsDistinct-from_sorted nat_cmp _ ordered) is

-- ---- one suite

module _ (task : Task) (cache : Cache) (granted : Granted) (number : ℕ) (change : Change) (left : List ℕ) (is : change_of granted.changes number ≡ Some change) where
  abbrev go_on : Suites → Step
  go_on suites = widen_all task cache suites granted left

  abbrev widened_by : GatheredSuite → GatheredSuite
  widened_by suite = record suite { collector = widen change.row.votes suite.collector }

  same : (suite : GatheredSuite) → widened granted.changes number suite ≡ widened_by suite
  same suite = ap (λ c. record suite { collector = widen (votes_then c suite.first suite.collector.start.votes) suite.collector }) is

  -- what comes next decides
  found : (suites : Suites) (suite : GatheredSuite) (n : Next) → suite_of suites number ≡ Some suite → next (widened_by suite).collector ≡ n
      → widen_all task cache suites granted (number ∷ left) ≡ widen_by task cache (with_suite number (widened_by suite) suites) (Widening (number ∷ left) granted) number n go_on
  found suites suite n there is' = search arith

  stays_at : (before after : TransactionRun) (f : Option GatheredSuite) → suite_of before.suites number ≡ f → WidensTo f number change.row.votes before coming.Current after
      → widen_all task cache before.suites granted (number ∷ left) ≡ widen_all task cache after.suites granted left
  stays_at before after f h3 h4 = search arith

  pub stays : (before after : TransactionRun) → Widens number change.row.votes before coming.Current after
      → widen_all task cache before.suites granted (number ∷ left) ≡ widen_all task cache after.suites granted left
  stays before after w = stays_at before after (suite_of before.suites number) refl w

  asks_at : (before after : TransactionRun) (server : ℕ) (asked : Asked) (f : Option GatheredSuite) → suite_of before.suites number ≡ f → WidensTo f number change.row.votes before (coming.Ask server asked) after
      → widen_all task cache before.suites granted (number ∷ left) ≡ on_with task cache after.suites (Widening (number ∷ left) granted)
  asks_at before after server asked f h5 h6 = search arith

  pub asks : (before after : TransactionRun) (server : ℕ) (asked : Asked) → Widens number change.row.votes before (coming.Ask server asked) after
      → widen_all task cache before.suites granted (number ∷ left) ≡ on_with task cache after.suites (Widening (number ∷ left) granted)
  asks before after server asked w = asks_at before after server asked (suite_of before.suites number) refl w

  short_at : (before after : TransactionRun) (got needed : ℕ) (busy : Option (ℕ × ℕ)) (f : Option GatheredSuite) → suite_of before.suites number ≡ f → WidensTo f number change.row.votes before (coming.Short got needed busy) after
      → widen_all task cache before.suites granted (number ∷ left) ≡ give_up task cache after.suites (short_cause number got needed busy)
  short_at before after got needed busy (Some suite) there w =
      found before.suites suite _ there w.1 ∙ ap (λ (c : TransactionRun). give_up task cache c.suites (short_cause number got needed busy)) (sym w.0)
  short_at before after got needed busy None there w = cc

  pub short : (before after : TransactionRun) (got needed : ℕ) (busy : Option (ℕ × ℕ)) → Widens number change.row.votes before (coming.Short got needed busy) after
      → widen_all task cache before.suites granted (number ∷ left) ≡ give_up task cache after.suites (short_cause number got needed busy)
  short before after got needed busy w = short_at before after got needed busy (suite_of before.suites number) refl w

-- ---- so far

task_at : (before after : TransactionRun) (number : ℕ) (votes : Configuration) (what : Coming) (f : Option GatheredSuite) → WidensTo f number votes before what after → after.task ≡ before.task
task_at before after number votes what f h6 = search arith

-- what was to be widened at first goes on as what is left
pub record Left (start : TransactionRun) (from : ℕ) (granted : Granted) (now : TransactionRun) (at : ℕ) : Type 0 where
  pub task : now.task ≡ start.task
  pub same : (cache : Cache) → widen_all start.task cache start.suites granted (to_widen (drop from granted.changes)) ≡ widen_all now.task cache now.suites granted (to_widen (drop at granted.changes))

module _ (start : TransactionRun) (from : ℕ) (granted : Granted) (now : TransactionRun) (at : ℕ) (left : Left start from granted now at) where
  -- once all are widened the servers prepare
  ended : (given : Changes) → drop at given ≡ [] → to_widen (drop at given) ≡ []
  ended given none = ap to_widen none

  pub left_none : (cache : Cache) (result : Option Ending) (after : TransactionRun) → slice_get granted.changes at ≡ None → Steps (prepare now.task cache now.suites (Ok granted) (locked_at now.suites)) result after cache
      → Steps (widen_all start.task cache start.suites granted (to_widen (drop from granted.changes))) result after cache
  left_none cache result after none steps =
      let Stepped : Step → Type 0 = λ step. Steps step result after cache in
      subst Stepped (sym (left.same cache ∙ ap (λ l. widen_all now.task cache now.suites granted l) (ended granted.changes (past granted.changes at none)))) steps
    where
      past : (l : Changes) (n : ℕ) → slice_get l n ≡ None → drop n l ≡ []
      past l n none = of (slice_get_cases l n).1
        where
          of : ((x : ℕ × Change) × (n < length l) × (slice_get l n ≡ Some x) × (get_or l n x ≡ x)) ⊎ ((length l ≤ n) × (slice_get l n ≡ None)) → drop n l ≡ []
          of h0 = search (found, none-some, drop_of_length-le, arith)

  module _ (number : ℕ) (change : Change) (votes : Configuration) (after : TransactionRun) (is : slice_get granted.changes at ≡ Some (number, change))
      (up : IsOrdered nat_cmp granted.changes) (sets : change.votes ≡ true) (own : votes ≡ change.row.votes) where
    there : change_of granted.changes number ≡ Some change
    there = change_at granted.changes at (number, change) up is

    step : (cache : Cache) → widen_all start.task cache start.suites granted (to_widen (drop from granted.changes)) ≡ widen_all now.task cache now.suites granted (number ∷ to_widen (drop (at + 1) granted.changes))
    step cache = left.same cache ∙ ap (λ l. widen_all now.task cache now.suites granted l) (met granted.changes at (number, change) is sets)

    owned : (what : Coming) → Widens number votes now what after → Widens number change.row.votes now what after
    owned what w = let By : Configuration → Type 0 = λ votes. Widens number votes now what after in subst By own w

    same_task : (what : Coming) → Widens number votes now what after → after.task ≡ now.task
    same_task what w = task_at now after number votes what (suite_of now.suites number) w

    pub left_met : Widens number votes now coming.Current after → Left start from granted after (at + 1)
    left_met w = search (same_task, same, step, stays, there, owned, arith)

    pub left_asks : (server : ℕ) (asked : Asked) (cache : Cache) → Widens number votes now (coming.Ask server asked) after
        → Steps (widen_all start.task cache start.suites granted (to_widen (drop from granted.changes))) None (record after { phase = Widening (number ∷ to_widen (drop (at + 1) granted.changes)) granted }) cache
    left_asks server asked cache w = search (step, asks, there, owned, same_task, arith)

    pub left_short : (got needed : ℕ) (busy : Option (ℕ × ℕ)) (cache : Cache) (result : Option Ending) (end : TransactionRun) → Widens number votes now (coming.Short got needed busy) after
        → Steps (give_up after.task cache after.suites (short_cause number got needed busy)) result end cache
        → Steps (widen_all start.task cache start.suites granted (to_widen (drop from granted.changes))) result end cache
    left_short got needed busy cache result end w steps = search (step, short, there, owned, same_task, arith)

-- ---- a suite in its place

pub widens_here : (before after : TransactionRun) (held : Suites) (number : ℕ) (votes : Configuration) (suite new : GatheredSuite) (what : Coming) → held ≡ before.suites → Some suite ≡ suite_of held number → IsOrdered nat_cmp held
    → new ≡ record suite { collector = widen votes suite.collector } → Comes what (next new.collector) → after ≡ record before { suites = replace nat_cmp held number new } → Widens number votes before what after
widens_here before after held number votes suite new what same there up is comes put =
    let own : GatheredSuite = record suite { collector = widen votes suite.collector } in
    let found : suite_of before.suites number ≡ Some suite = ap (λ l. suite_of l number) (sym same) ∙ sym there in
    let some : IsSome (suite_of held number) = let Some' : Option GatheredSuite → Type 0 = λ f. IsSome f in subst Some' there refl in
    let inserted : replace nat_cmp held number new ≡ with_suite number own before.suites =
    sym (insert_present nat_cmp_total held number new up some) ∙ ap (λ s. with_suite number s held) is ∙ ap (λ l. with_suite number own l) same in
    let Comes' : GatheredSuite → Type 0 = λ s. Comes what (next s.collector) in
    let Widens' : Option GatheredSuite → Type 0 = λ f. WidensTo f number votes before what after in
    subst Widens' (sym found) (put ∙ ap (λ l. record before { suites = l }) inserted, subst Comes' is comes)
