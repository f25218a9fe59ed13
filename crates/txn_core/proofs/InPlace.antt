-- A suite hears a reply in its place, among the others of its transaction.
use Rattle.txn_core.proofs.Vocabulary.{◌≡◌, ℕ, true, Option, Some, None, Result, Ok, Err, sym, ap, subst, ◌∙◌, option_map, IfOk, OnErr, nat_cmp, AllocError, nat_cmp_total, Reply, is_held, Request, IsOrdered, replace, replace_same, arith, Comes}
use Rattle.txn_core.proofs.Vocabulary.{IsTold, asked_in, shows_lock, Collector, Collecting, Next, Ask, next, Coming, Told, TransactionRun, asks_in, heard_at, CompletesAt, HearsIn, HearsAt, FallsShort, IsSettled, SettlesAt, GatheredSuite, Suites}
use Rattle.txn_core.proofs.Vocabulary.{suite_of, with_suite, asked_by, SawUnused, shows_unused, Hearing as Heard}
use Rattle.suite_collect.specs.declared.coming.Asked.{Asked}
use Rattle.suite_collect.specs.declared.hearing.Hearing.TheVariants.{Lost, Asks, Short, Quorum}
use Rattle.txn_core.specs.code.Hearing.{Hears}
use Rattle.suite_collect.specs.Answering as collector
use Rattle.suite_collect.specs.declared.coming.Coming.TheVariants as coming
use Rattle.txn_core.specs.code.Hearing as hearing
use Rattle.txn_core.proofs.Carried.{set_there}
use Rattle.txn_core.proofs.Heard.{hears_lost, hears_asks, hears_short, hears_quorum}
use Rattle.txn_core.proofs.Unused.{saw_more, told_says}

-- a lock that is shown, of versions that are not used up, is held
pub locks_held : (answer : Reply) → shows_unused answer ≡ true → shows_lock answer ≡ true → is_held answer ≡ true
locks_held answer h1 h2 = search arith

-- what a collector heard, of its suite
module _ (rest : GatheredSuite) (before after : Collecting) (answer : Reply) (unused : shows_unused answer ≡ true) where
  abbrev pub with_collector : Collector → GatheredSuite
  with_collector c = record rest { collector = c }

  pub heard_as : (result : Result Heard AllocError) → IfOk result (λ hearing. collector.Hears hearing before answer after)
      → IfOk result (λ hearing. Hears hearing (with_collector before.collector) answer (with_collector after.collector))
  heard_as (Err why) hears = tt
  heard_as (Ok Lost) hears = (hears_lost (with_collector before.collector) answer hears.0, ap (λ (now : Collecting). with_collector now.collector) hears.1)
  heard_as (Ok Asks) hears = hears_asks (with_collector before.collector) answer hears.0.last after.collector hears.0.told (ap (λ (now : Collecting). now.collector) hears.0.new) hears.1
  heard_as (Ok Short) hears = hears_short (with_collector before.collector) answer hears.0.last after.collector hears.0.told (ap (λ (now : Collecting). now.collector) hears.0.new) hears.1
  heard_as (Ok (Quorum last)) hears = search (hears_quorum, locks_held, told_says, arith)

  pub heard_unused : (result : Result Heard AllocError) → IfOk result (λ hearing. collector.Hears hearing before answer after) → OnErr result (after ≡ before) → SawUnused before.collector → SawUnused after.collector
  heard_unused result hears left saw = of result hears left
    where
      same : after ≡ before → SawUnused after.collector
      same is = subst (λ (now : Collecting). SawUnused now.collector) (sym is) saw

      told : IsTold before answer after → SawUnused after.collector
      told is = subst (λ (now : Collecting). SawUnused now.collector) (sym is.new) (saw_more before.collector _ answer is.last is.told unused saw)

      of : (result : Result Heard AllocError) → IfOk result (λ hearing. collector.Hears hearing before answer after) → OnErr result (after ≡ before) → SawUnused after.collector
      of result h1 h2 = search (same, told, arith)

-- a suite that was left is as it was
pub left_there : (before after : TransactionRun) (held : Suites) (number : ℕ) (suite new : GatheredSuite) → held ≡ before.suites → Some suite ≡ suite_of held number → new ≡ suite
    → after ≡ record before { suites = replace nat_cmp held number new } → after ≡ before
left_there before after held number suite new same there is put =
    put
    ∙ ap (λ new. record before { suites = replace nat_cmp held number new }) is
    ∙ ap (λ suites. record before { suites = suites }) (replace_same nat_cmp_total held number suite (sym there) ∙ same)

-- a suite that heard a reply, among those of a transaction's run
module _ (before after : TransactionRun) (held : Suites) (number : ℕ) (suite new : GatheredSuite) (said : Reply) (same : held ≡ before.suites) (there : Some suite ≡ suite_of held number) (up : IsOrdered nat_cmp held)
    (put : after ≡ record before { suites = replace nat_cmp held number new }) where
  inserted : after ≡ record before { suites = with_suite number new before.suites }
  inserted = search (set_there, arith)

  hears_one : (what : Heard) → Hears what suite said new → HearsIn what number suite before said after
  hears_one Asks hears = (new, hears, inserted)
  hears_one Short hears = (new, hears, inserted)
  hears_one _ hears = (hears.0, left_there before after held number suite new same there hears.1 put)

  pub hears_there : (result : Result Heard AllocError) → IfOk result (λ what. Hears what suite said new) → IfOk result (λ what. HearsAt (suite_of before.suites number) number what before said after)
  hears_there result h1 = search (hears_one, arith)

-- whom a suite asks
module _ (before : TransactionRun) (held : Suites) (number : ℕ) (suite : GatheredSuite) (same : held ≡ before.suites) (there : Some suite ≡ suite_of held number) where
  asks_by : (next' : Next) → next suite.collector ≡ next' → option_map (λ (asked : ℕ × Request). asked.0) (asked_by before.task number next') ≡ asks_in before number
  asks_by next' is = search arith

  pub asks_there : (server : ℕ) (asked : Asked) → Comes (coming.Ask server asked) (next suite.collector) → Some server ≡ asks_in before number
  asks_there server asked comes = asks_by (Ask server (asked_in asked)) comes

  pub asks_nobody : (coming' : Coming) → ((server : ℕ) (asked : Asked) → coming' ≡ coming.Ask server asked → ⊥) → Comes coming' (next suite.collector) → None ≡ asks_in before number
  asks_nobody coming' h1 h2 = search arith

-- and what came of it
module _ (before after : TransactionRun) (number : ℕ) (said : Reply) where
  pub at_lost : (found : Option GatheredSuite) → HearsAt found number Lost before said after → (heard_at found said ≡ hearing.Lost) × (after ≡ before)
  at_lost found h1 = search arith

  pub at_short : (found : Option GatheredSuite) → HearsAt found number Short before said after → (new : GatheredSuite) × FallsShort (heard_at found said) new × (after ≡ record before { suites = with_suite number new before.suites })
  at_short (Some suite) hears = hears
  at_short None hears = cc

  pub at_quorum : (last : Told) (found : Option GatheredSuite) → HearsAt found number (Quorum last) before said after → CompletesAt found last said × (after ≡ before)
  at_quorum last found h2 = search arith

-- with a lock that completes a quorum
module _ (last : Told) (said : Reply) where
  pub settled_at : (found : Option GatheredSuite) → CompletesAt found last said → IsSettled (heard_at found said)
  settled_at found h1 = search arith

-- the quorum that a suite is to have then
module _ (said : Reply) where
  pub settles_lost : (found : Option GatheredSuite) → SettlesAt found None said → heard_at found said ≡ hearing.Lost
  settles_lost found h1 = search arith
