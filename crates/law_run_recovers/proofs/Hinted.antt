-- What a transaction leaves in its agent's cache: of a suite the site is hinted what it was before, or where the suite was found.
use Rattle.law_run_recovers.proofs.Vocabulary.{◌≡◌, ◌⊎◌, inr, ℕ, zero, suc, Bool, true, false, cond, List, [], ◌∷◌, Option, Some, None, Ok, refl, sym, ap, subst, ◌∙◌, ◌==◌, eqb-true, none-some, same_Some, Content, Prefix, arith, is_prepared, Request}
use Rattle.law_run_recovers.proofs.Vocabulary.{Reply, Verdict, PlainTable, Said, Told, mode_of, tell, Next, next, Entry, Cache, hint, put, Ending, Undecided, Cause, Lost, ReadPoint, GatheredSuite, Suites, suite_of, with_suite, Fixed, Task, Granted}
use Rattle.law_run_recovers.proofs.Vocabulary.{Phase, Gathering, Fetching, Preparing, Deciding, Finishing, World, led_to_by, Outcome as Executed}
use Rattle.txn_core.specs.Transactions.{Step, Gathered, tell_end, give_up, prepare, gather_by, widen_all, proceed, heard_on, opened_with, open_first, open_suite}
use Rattle.txn_core.specs.Transactions.{open_needed, or_all, opened, execute, hear, collected, heard_of, given_in, keep_content, fetched, locked_at, after_reply}
use Rattle.rep_core.specs.declared.reply.Verdict.TheVariants as verdict
use Rattle.txn_core.specs.Doing as doing
use Rattle.txn_core.specs.Transactions as txn_run
use Rattle.law_run_recovers.proofs.Hinting.{hint_put, hint_put_here}
use Rattle.law_run_recovers.proofs.SameDemands.{LeadsFrom, HintsLed}
use Rattle.law_run_recovers.proofs.Polled.{Sight, finds_at}
use Rattle.law_run_recovers.proofs.Stands.{Ground, locks_on, IsReady, PhaseStands}
use Rattle.law_run_recovers.proofs.Executes.{hint_after}

-- ---- what keeps the cache

tell_cache : (task : Task) (now : Cache) (suites : Suites) (v : Verdict) (ended : Ending) (servers : List ℕ) → (tell_end task now suites v ended servers).cache ≡ now
tell_cache task now suites v ended servers = search arith

up_cache : (task : Task) (now : Cache) (suites : Suites) (cause : Cause) → (give_up task now suites cause).cache ≡ now
up_cache task now suites cause = tell_cache task now suites verdict.Aborted (Undecided cause) (locked_at suites)

prepare_cache : (task : Task) (now : Cache) (suites : Suites) (outcome : doing.Proposal) (servers : List ℕ) → (prepare task now suites outcome servers).cache ≡ now
prepare_cache task now suites outcome servers = search arith

gather_cache : (task : Task) (now : Cache) (suites : Suites) (number : ℕ) (after : Next) → (gather_by task now suites number after).cache ≡ now
gather_cache task now suites number after = search (up_cache, arith)

widen_cache : (task : Task) (now : Cache) (granted : Granted) (left : List ℕ) (suites : Suites) → (widen_all task now suites granted left).cache ≡ now
widen_cache task now granted [] suites = prepare_cache task now suites (Ok granted) (locked_at suites)
widen_cache task now granted (number ∷ left) suites = search (up_cache, widen_cache task now granted left, arith)

proceed_cache : (fixed : Fixed) (task : Task) (now : Cache) (suites : Suites) (what : Executed) → (proceed fixed task now suites what).cache ≡ now
proceed_cache fixed task now suites what = search (gather_cache, widen_cache, prepare_cache, arith)

module _ (fixed : Fixed) (world : World) (sight : Sight) (table : PlainTable) (task : Task) (cache : Cache) (Was : ℕ → Prefix → Type 0) (ground : Ground fixed world sight cache task.site (locks_on table task) Was) where
  abbrev found_from : ℕ → Prefix → Prefix
  found_from z start = led_to_by fixed world (finds_at sight z) z start

  abbrev Led : Cache → Type 0
  Led now = HintsLed (λ z start. led_to_by fixed world (finds_at sight z) z start) fixed cache task.site now

  -- ---- contents that are to be had without asking

  module _ (all : Gathered) (z : ℕ) where
    abbrev SameHint : Gathered → Type 0
    SameHint more = hint more.cache task.site z ≡ hint all.cache task.site z

    with_hint : (number : ℕ) (suite : GatheredSuite) (first : ReadPoint) (found : Option Content) (more : Gathered) → opened_with task all number suite first found ≡ Some more → SameHint more
    with_hint number suite first found more h5 = search (none-some, same_Some, hint_after, arith)

    first_hint : (number : ℕ) (suite : GatheredSuite) (first : Option ReadPoint) (more : Gathered) → open_first task all number suite first ≡ Some more → SameHint more
    first_hint number suite first more h4 = search (none-some, with_hint, arith)

    suite_hint : (number : ℕ) (found : Option GatheredSuite) (more : Gathered) → open_suite task all number found ≡ Some more → SameHint more
    suite_hint number found more h3 = search (none-some, first_hint, arith)

    needed_hint : (what : Executed) (more : Gathered) → open_needed task all what ≡ Some more → SameHint more
    needed_hint what more h2 = search (suite_hint, none-some, arith)

  opened_hint : (n : ℕ) (all : Gathered) (z : ℕ) → hint (opened n fixed task all).cache task.site z ≡ hint all.cache task.site z
  opened_hint zero all z = refl
  opened_hint (suc n) all z = of (open_needed task all (heard_on fixed task all.suites)) refl (λ more. opened_hint n more z)
    where
      of : (found : Option Gathered) → open_needed task all (heard_on fixed task all.suites) ≡ found → ((more : Gathered) → hint (opened n fixed task more).cache task.site z ≡ hint more.cache task.site z)
          → hint (or_all all found (λ all. opened n fixed task all)).cache task.site z ≡ hint all.cache task.site z
      of found h1 h2 = search (needed_hint, arith)

  pub execute_hints : (all : Gathered) → Led all.cache → Led (execute fixed task all).cache
  execute_hints all led z prefix hinted = search (opened_hint, proceed_cache, arith)

  -- ---- replies

  module _ (now : Cache) (led : Led now) (server : ℕ) (asked : Request) (said : Reply) where
    as_now : (step : Step) → step.cache ≡ now → Led step.cache
    as_now step same = subst Led (sym same) led

    heard_hints : (suites : Suites) (phase : Phase) (number : ℕ) (found : Option GatheredSuite) (go_on : Suites → Step) → ((suites : Suites) → Led (go_on suites).cache)
        → Led (heard_of task now suites phase number found server asked said go_on).cache
    heard_hints suites phase number None go_on go = as_now (give_up task now suites (Lost server)) (up_cache task now suites (Lost server))
    heard_hints suites phase number (Some suite) go_on go = of (txn_run.said_to asked said)
      where
        on : GatheredSuite → Step
        on suite = go_on (with_suite number suite suites)

        by : (new : GatheredSuite) (after : Next) → Led (collected task now suites phase number new after on).cache
        by new after = search (as_now, up_cache, arith)

        of : (found : Option Said) → Led (hear task now suites phase number suite server asked found on).cache
        of None = as_now (give_up task now suites (Lost server)) (up_cache task now suites (Lost server))
        of (Some heard) =
            let one : Told = record { server = server; mode = mode_of asked; said = heard } in
            by (record suite { collector = tell one suite.collector }) (next (tell one suite.collector))

    fetched_hints : (suites : Suites) (number : ℕ) → IsReady fixed world sight table task cache Was ground suites → (given : Option Content) → Led (fetched fixed task now suites number (suite_of suites number) server given).cache
    fetched_hints suites number ready given = of (suite_of suites number) refl given
      where
        by : (suite : GatheredSuite) → suite_of suites number ≡ Some suite → (content : Content) (first : Option ReadPoint) → suite.first ≡ first → Led (keep_content fixed task now suites number suite content first server).cache
        by suite there content None had = as_now (give_up task now suites (Lost server)) (up_cache task now suites (Lost server))
        by suite there content (Some first) had =
            execute_hints (record { suites = with_suite number (record suite { content = Some content }) suites; cache = put fixed.limits entry now }) (λ z prefix hinted. at z prefix hinted (number == z) refl)
          where
            entry : Entry
            entry = record { site = task.site; suite = number; prefix = first.prefix; dver = first.dver; content = content }

            at : (z : ℕ) (prefix : Prefix) → hint (put fixed.limits entry now) task.site z ≡ Some prefix → (b : Bool) → (number == z) ≡ b → (hint cache task.site z ≡ Some prefix) ⊎ LeadsFrom found_from fixed cache task.site z prefix
            at z prefix hinted true same =
                let is = eqb-true number z same in
                let found = (ready.whole number suite there).found in
                subst (λ z. (hint cache task.site z ≡ Some prefix) ⊎ LeadsFrom found_from fixed cache task.site z prefix) is
                (inr (record { start = found.start; may = found.may; is = hint_put_here fixed.limits entry now prefix (ap (hint (put fixed.limits entry now) task.site) is ∙ hinted) ∙ found.led first had }))
            at z prefix hinted false apart = led z prefix (hint_put task.site z number apart fixed.limits entry refl refl now prefix hinted)

        of : (found : Option GatheredSuite) → suite_of suites number ≡ found → (given : Option Content) → Led (fetched fixed task now suites number found server given).cache
        of (Some suite) there None = as_now (give_up task now suites (Lost server)) (up_cache task now suites (Lost server))
        of (Some suite) there (Some content) = by suite there content suite.first refl
        of None there other = as_now (give_up task now suites (Lost server)) (up_cache task now suites (Lost server))

    prepared_hints : (suites : Suites) (outcome : doing.Proposal) (left : List ℕ) (b : Bool) → Led (cond b (prepare task now suites outcome left) (give_up task now suites (Lost server))).cache
    prepared_hints suites outcome left b = search (as_now, prepare_cache, up_cache, arith)

    pub reply_hints : (suites : Suites) (phase : Phase) → PhaseStands fixed world sight table task cache Was ground suites now phase → Led (after_reply fixed task now suites phase server asked said).cache
    reply_hints suites (Gathering number) at = search (heard_hints, execute_hints, arith)
    reply_hints suites (Fetching number) at = fetched_hints suites number at.0 (given_in said)
    reply_hints suites (doing.Widening [] granted) at = absurd at
    reply_hints suites (doing.Widening (number ∷ left) granted) at =
        heard_hints suites (doing.Widening (number ∷ left) granted) number (suite_of suites number) (λ suites. widen_all task now suites granted left)
        (λ suites. as_now (widen_all task now suites granted left) (widen_cache task now granted left suites))
    reply_hints suites (Preparing [] outcome) at = as_now (give_up task now suites (Lost server)) (up_cache task now suites (Lost server))
    reply_hints suites (Preparing (first ∷ left) outcome) at = prepared_hints suites outcome left (is_prepared said)
    reply_hints suites (Deciding outcome) at = search (as_now, tell_cache, arith)
    reply_hints suites (Finishing [] v ended) at = as_now (tell_end task now suites v ended []) (tell_cache task now suites v ended [])
    reply_hints suites (Finishing (first ∷ left) v ended) at = as_now (tell_end task now suites v ended left) (tell_cache task now suites v ended left)
