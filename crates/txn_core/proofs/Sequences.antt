-- What a plan sets and what follows it is what an execution comes to.
use Rattle.txn_core.proofs.Vocabulary.{◌≡◌, ℕ, Option, None, refl, sym, ap, subst, false≢true, LockMode, Cache, Limited, hint, Hold, Know, Plan, NextPhase, Fetched, arith, GatheredSuite, Suites, suite_of, with_suite, Fixed, Task, Gathered, gather}
use Rattle.txn_core.proofs.Vocabulary.{raised_or_new, proceed, execute, new_for, with_asked, carried_out, IsPlanOf, shelved, HasUnused, next_phase_of, gather_again, follow, Outcome as Executed}
use Rattle.sorted_map.specs.Numbers.{get_insert_here}
use Rattle.file_exec.specs.declared.executor.Outcome.TheVariants as exec
use Rattle.txn_core.proofs.Kept.{Keeps, keeps_all}

gathers : (task : Task) (cache : Cache) (suites : Suites) (number : ℕ) (suite : GatheredSuite) →
    let more = with_suite number suite suites in
    gather_again task cache more number (suite_of more number) ≡ gather task cache suites number suite
gathers task cache suites number suite = ap (gather_again task cache (with_suite number suite suites) number) (get_insert_here suites number suite)

new_again : (fixed : Fixed) (task : Task) (cache more : Cache) (number : ℕ) (mode : LockMode) → hint more task.site number ≡ hint cache task.site number
    → raised_or_new fixed task more number mode None ≡ raised_or_new fixed task cache number mode None
new_again fixed task cache more number mode same = search arith

follows : (fixed : Fixed) (task : Task) (all more : Gathered) → Keeps all more → (outcome : Executed) (new : Option GatheredSuite) → new ≡ new_for fixed task all outcome
    → follow task more.cache (with_asked outcome new more.suites) (next_phase_of outcome) ≡ proceed fixed task more.cache more.suites outcome
follows fixed task all more keeps (exec.Need (Hold number mode)) new is = search (gathers, new_again, false≢true, arith)
follows fixed task all more keeps (exec.Need (Know number)) new is = refl
follows fixed task all more keeps _ new is = refl

-- ----

pub plan_follows : (fixed : Fixed) (task : Task) (all : Gathered) (plan : Plan) → IsPlanOf fixed task all plan
    → follow task (carried_out task plan all).cache (carried_out task plan all).suites (next_phase_of plan.outcome) ≡ execute fixed task all
plan_follows fixed task all plan is = search (keeps_all task plan.opened.items all, follows, arith)

-- the same where it was planned with the cache as it would be, and then carried out
module _ (fixed : Fixed) (task : Task) (before : Limited) (suites : Suites) (seen fetched : Option Fetched) (plan : Plan) (is : IsPlanOf fixed task (record { suites = suites; cache = shelved before seen }) plan) (same : seen ≡ fetched)
    (put after : Limited) (room then' : Suites) (is_put : put ≡ record before { entries = shelved before fetched }) (roomy : room ≡ suites)
    (cache_then : after ≡ record put { entries = (carried_out task plan (record { suites = room; cache = put.entries })).cache }) where
  abbrev all : Gathered
  all = record { suites = suites; cache = shelved before fetched }

  abbrev now : Gathered
  now = record { suites = room; cache = put.entries }

  as_planned : now ≡ all
  as_planned = λ i. record { suites = roomy i; cache = ap (λ (l : Limited). l.entries) is_put i }

  pub carried_follows : (next_phase : NextPhase) → then' ≡ (carried_out task plan now).suites → next_phase ≡ next_phase_of plan.outcome → follow task after.entries then' next_phase ≡ execute fixed task all
  carried_follows next_phase suites_then sequel_is = search (as_planned, plan_follows, arith)

  pub carried_unused : HasUnused (shelved before fetched) → HasUnused after.entries
  carried_unused unused =
      let kept = keeps_all task plan.opened.items now in
      subst (λ (l : Limited). HasUnused l.entries) (sym cache_then) (kept.unused (subst (λ (g : Gathered). HasUnused g.cache) (sym as_planned) unused))
