-- A Prepare lists the locks that were heard, its suites rising.
use Rattle.txn_core.proofs.Vocabulary.{◌≡◌, ℕ, Bool, true, false, cond, List, [], ◌∷◌, Option, Some, None, refl, sym, ap, ◌∙◌, arith, ◌==◌, ◌&&◌, ◌||◌, map, list_any, AllByRecursion, nat_cmp, is_at, unsigned_tied, keys_of, nat_tests, nat_cmp_total}
use Rattle.txn_core.proofs.Vocabulary.{eq_by_cmp_equiv, none_past_head, IsDistinct-from_sorted, sorted_tail, IsOrdered, Shared, of_job, PrepareListsTheLocks, APrepareRises, Agent, Event, next_in, next_of, begin, is_idle, after_all, Part, holds}
use Rattle.txn_core.proofs.Vocabulary.{GatheredSuite, Suites, suite_of, told_at, holds_lock, Job, Changes, Fixed, Doing, parts_at}
use Rattle.std.proofs.lemmas.Map.{lookup-none}
use Rattle.std.specs.declared.cmp.Ordering.TheVariants.{Less}
use Rattle.std.specs.List.Sorted.{IsStrictlySortedBy}
use Rattle.rep_core.specs.declared.request.Request.TheVariants as request
use Rattle.txn_core.proofs.Locks.{or_false, Keeps, plus_all, all_keep, nothing_held, begin_keeps}

-- ---- what a Prepare lists

-- a suite that is listed, where it holds something
abbrev holds_in : (GatheredSuite → Bool) → Option GatheredSuite → Bool
holds_in p (Some suite) = p suite
holds_in p None = false

any_at : (p : GatheredSuite → Bool) (suites : Suites) (number : ℕ) → IsOrdered nat_cmp suites → list_any (λ one. (one.0 == number) && p one.1) suites ≡ holds_in p (suite_of suites number)
any_at p [] number ordered = refl
any_at p (e ∷ es) number ordered =
    ap (λ b. (b && p e.1) || list_any (λ one. (one.0 == number) && p one.1) es) (flip e.0 number ∙ sym (unsigned_tied number e.0))
    ∙ of (is_at (nat_cmp number) e.0) refl (any_at p es number (sorted_tail nat_cmp e.0 (keys_of es) ordered))
  where
    flip : (a b : ℕ) → (a == b) ≡ (b == a)
    flip a b = grind (arith, nat_tests)

    of : (b : Bool) → is_at (nat_cmp number) e.0 ≡ b → list_any (λ one. (one.0 == number) && p one.1) es ≡ holds_in p (suite_of es number)
        → ((b && p e.1) || list_any (λ one. (one.0 == number) && p one.1) es) ≡ holds_in p (cond b (Some e.1) (suite_of es number))
    of true is tail' =
        let none : suite_of es number ≡ None = lookup-none (is_at (nat_cmp number)) es (none_past_head (eq_by_cmp_equiv nat_cmp_total) number e es (IsDistinct-from_sorted nat_cmp _ ordered) is) in
        ap (λ b. p e.1 || b) (tail' ∙ ap (holds_in p) none) ∙ or_false (p e.1)
    of false is tail' = tail'

-- of the suites, filtered and mapped
any_filtered : (changes : Changes) (server number : ℕ) (suites : Suites) → list_any (λ part. part.suite == number) (parts_at suites changes server) ≡ list_any (λ one. (one.0 == number) && holds_lock one.1 server) suites
any_filtered changes server number [] = refl
any_filtered changes server number (e ∷ es) = search (any_filtered changes server number es, arith)

listed : (changes : Changes) (server number : ℕ) (suites : Suites) → IsOrdered nat_cmp suites → list_any (λ part. part.suite == number) (parts_at suites changes server) ≡ holds Shared (told_at suites number) server
listed changes server number suites ordered = search (any_filtered changes server number suites, any_at (λ suite. holds_lock suite server) suites number ordered, arith)

-- a Prepare is of the locks that were heard to be held
record IsPrepare (held : ℕ → ℕ → Bool) (server : ℕ) (list : List Part) : Type 0 where
  suites : Suites
  changes : Changes
  ordered : IsOrdered nat_cmp suites
  told : (number who : ℕ) → holds Shared (told_at suites number) who ≡ held number who
  parts : parts_at suites changes server ≡ list

prepare_is : (held : ℕ → ℕ → Bool) (fixed : Fixed) (doing : Option Doing) (server t : ℕ) (parts : List Part) → Keeps held doing → next_in fixed doing ≡ Some (server, request.Prepare t parts)
    → IsPrepare held server parts
prepare_is held fixed doing server t parts h6 h7 = search arith

prepare_there : (fixed : Fixed) (agent : Agent) (job : Job) (events : List Event) (server t : ℕ) (parts : List Part) → is_idle agent.doing ≡ true
    → next_of fixed (after_all fixed (begin fixed agent job) events) ≡ Some (server, request.Prepare t parts) → IsPrepare (plus_all nothing_held (of_job fixed agent job events)) server parts
prepare_there fixed agent job events server t parts idle is =
    prepare_is (plus_all nothing_held (of_job fixed agent job events)) fixed (after_all fixed (begin fixed agent job) events).doing server t parts
    (all_keep nothing_held fixed (begin fixed agent job) events (begin_keeps fixed agent job idle)) is

pub prepare_lists_the_locks : PrepareListsTheLocks
prepare_lists_the_locks fixed agent job events server t suite parts idle is = search (prepare_there, listed, arith)

-- ---- the suites of a Prepare rise

all_above : (k : ℕ) (changes : Changes) (server : ℕ) (suites : Suites) → AllByRecursion (λ y. nat_cmp k y ≡ Less) (keys_of suites) → AllByRecursion (λ y. nat_cmp k y ≡ Less) (map (λ part. part.suite) (parts_at suites changes server))
all_above k changes server [] above = tt
all_above k changes server (e ∷ es) above = search (all_above k changes server es, arith)

parts_rise : (changes : Changes) (server : ℕ) (suites : Suites) → IsOrdered nat_cmp suites → IsStrictlySortedBy nat_cmp (map (λ part. part.suite) (parts_at suites changes server))
unfolding IsStrictlySortedBy
parts_rise changes server [] ordered = tt
parts_rise changes server (e ∷ es) ordered = search (all_above e.0 changes server es ordered.0, parts_rise changes server es, arith)

pub a_prepare_rises : APrepareRises
a_prepare_rises fixed agent job events server t parts idle is = search (prepare_there, parts_rise, arith)
