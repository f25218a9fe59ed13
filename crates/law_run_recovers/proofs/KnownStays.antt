-- What a transaction knows as it executes it still knows once it goes on, whatever it does next.
use Rattle.law_run_recovers.proofs.Vocabulary.{◌≡◌, ℕ, zero, suc, ◌+◌, ◌≤◌, ◌<◌, Bool, true, false, cond, List, [], ◌∷◌, length, Option, Some, None, is_some, Ok, Err, refl, sym, ap, subst, ◌∙◌, arith, ◌==◌, nat_lt, list_any, nat_cmp, is_eq}
use Rattle.law_run_recovers.proofs.Vocabulary.{false≢true, eqb-true, nat_tests, nat_cmp_total, none-some, same_Some, IsOrdered, IsOrdered-insert, max_servers, Prefix, Shared, Has, filter_has, Verdict, PlainTable, row_of, Hold, Know, IsSoAt}
use Rattle.law_run_recovers.proofs.Vocabulary.{AgreesWith, holds, raise, all_told, Next, Current, Ask, Short, next, Cache, Ending, Undecided, ReadPoint, GatheredSuite, Suites, suite_of, with_suite, known_of, holds_lock, has_locks, Fixed, Task}
use Rattle.law_run_recovers.proofs.Vocabulary.{Granted, TransactionRun, GoesOn, with_at, World, or_right, Outcome as Executed}
use Rattle.txn_core.specs.Transactions.{Step, Gathered, numbers_from, locked_at, tell_end, prepare, short_cause, gather_by, gather, raised_or_new, widened, widen_by, widen_one, widen_all, to_widen, proceed, opened, heard_on, execute}
use Rattle.rep_core.specs.declared.reply.Verdict.TheVariants as verdict
use Rattle.file_exec.specs.declared.executor.Outcome.TheVariants as exec
use Rattle.file_exec.specs.Known as known
use Rattle.txn_core.specs.Doing as doing
use Rattle.law_run_recovers.proofs.Asking.{known_in, known_if_first, known_is}
use Rattle.law_run_recovers.proofs.Polled.{Sight}
use Rattle.law_run_recovers.proofs.Stands.{Ground, asks_of, locks_on, Hints, IsReady}
use Rattle.law_run_recovers.proofs.Executes.{Opened, opened_stands}

-- ---- some server holds a lock

pub any_at : (p : GatheredSuite → Bool) (suites : Suites) (z : ℕ) (suite : GatheredSuite) → suite_of suites z ≡ Some suite → p suite ≡ true → list_any (λ (one : ℕ × GatheredSuite). p one.1) suites ≡ true
any_at p [] z suite is so = absurd (none-some suite is)
any_at p (e ∷ es) z suite is so = of (is_eq (nat_cmp z e.0)) is (λ is. any_at p es z suite is so)
  where
    of : (b : Bool) → cond b (Some e.1) (suite_of es z) ≡ Some suite → (suite_of es z ≡ Some suite → list_any (λ (one : ℕ × GatheredSuite). p one.1) es ≡ true) → list_any (λ (one : ℕ × GatheredSuite). p one.1) (e ∷ es) ≡ true
    of b h1 h2 = search (same_Some, or_right, arith)

pub among_numbers : (count start n : ℕ) → start ≤ n → n < start + count → Has (numbers_from start count) n
among_numbers zero start n from below = absurd (omega (arith, from, below))
among_numbers (suc count) start n from below = search (nat_tests, eqb-true, among_numbers count (start + 1) n, arith)

-- a suite on which some server holds a lock
pub record HasSome (suites : Suites) : Type 0 where
  pub z : ℕ
  pub suite : GatheredSuite
  pub there : suite_of suites z ≡ Some suite
  pub server : ℕ
  pub is_one : nat_lt server max_servers ≡ true
  pub holds : holds Shared (all_told suite.collector) server ≡ true

locked_some : (suites : Suites) → HasSome suites → (server : ℕ) × Has (locked_at suites) server
locked_some suites some = (
  some.server,
  filter_has (has_locks suites) (numbers_from 0 max_servers) some.server (among_numbers max_servers 0 some.server (omega arith) (below some.server some.is_one))
      (any_at (λ suite. holds_lock suite some.server) suites some.z some.suite some.there some.holds),
)
  where
    below : (server : ℕ) → nat_lt server max_servers ≡ true → server < 0 + max_servers
    below server is = grind (arith, nat_tests)

-- ---- the same is known

-- as much is known of each suite; and some server holds a lock
pub record Like (suites more : Suites) : Type 0 where
  pub ordered : IsOrdered nat_cmp more
  pub same : (z : ℕ) → known_in (suite_of more z) ≡ known_in (suite_of suites z)
  pub some : HasSome more

-- it goes on, and knows as much
pub record KnowsOn (suites : Suites) (step : Step) : Type 0 where
  pub txn_run : TransactionRun
  pub is : step.after ≡ GoesOn txn_run
  pub like : Like suites txn_run.suites

like_with : (suites more : Suites) (number : ℕ) (new : GatheredSuite) → Like suites more → known_in (Some new) ≡ known_in (suite_of more number)
    → ((old : GatheredSuite) → suite_of more number ≡ Some old → all_told new.collector ≡ all_told old.collector)
    → Like suites (with_suite number new more)
like_with suites more number new like knows told = record {
  ordered = IsOrdered-insert nat_cmp_total more number new like.ordered;
  same = λ z. ap known_in (with_at number new more z) ∙ of z (number == z) refl ∙ like.same z;
  some = put (number == like.some.z) refl;
}
  where
    of : (z : ℕ) (b : Bool) → (number == z) ≡ b → known_in (cond b (Some new) (suite_of more z)) ≡ known_in (suite_of more z)
    of z b h2 = search (known_in, eqb-true, arith)

    put : (b : Bool) → (number == like.some.z) ≡ b → HasSome (with_suite number new more)
    put b h1 = search (with_at, eqb-true, arith)

module _ (task : Task) (now : Cache) (suites : Suites) where
  tells_on : (more : Suites) → Like suites more → (v : Verdict) (ended : Ending) → KnowsOn suites (tell_end task now more v ended (locked_at more))
  tells_on more like v ended = of (locked_at more) (locked_some more like.some)
    where
      of : (servers : List ℕ) → (server : ℕ) × Has servers server → KnowsOn suites (tell_end task now more v ended servers)
      of [] some = absurd some.1
      of (server ∷ servers) some = record { txn_run = record { task = task; suites = more; phase = doing.Finishing (server ∷ servers) v ended }; is = refl; like = like }

  prepares_on : (more : Suites) → Like suites more → (outcome : doing.Proposal) (servers : List ℕ) → KnowsOn suites (prepare task now more outcome servers)
  prepares_on more like outcome [] = record { txn_run = record { task = task; suites = more; phase = doing.Deciding outcome }; is = refl; like = like }
  prepares_on more like outcome (server ∷ servers) = record { txn_run = record { task = task; suites = more; phase = doing.Preparing (server ∷ servers) outcome }; is = refl; like = like }

  gathers_on : (more : Suites) → Like suites more → (number : ℕ) (after : Next) → KnowsOn suites (gather_by task now more number after)
  gathers_on more like number (Short had wanting busy) = tells_on more like verdict.Aborted (Undecided (short_cause number had wanting busy))
  gathers_on more like number other = record { txn_run = record { task = task; suites = more; phase = doing.Gathering number }; is = refl; like = like }

  widens_on : (left : List ℕ) (more : Suites) → Like suites more → (granted : Granted) → KnowsOn suites (widen_all task now more granted left)
  widens_on [] more like granted = prepares_on more like (Ok granted) (locked_at more)
  widens_on (number ∷ left) more like granted = of (suite_of more number) refl (λ more like. widens_on left more like granted)
    where
      go_on : Suites → Step
      go_on suites = widen_all task now suites granted left

      by : (more : Suites) → Like suites more → (after : Next) → ((more : Suites) → Like suites more → KnowsOn suites (go_on more)) → KnowsOn suites (widen_by task now more (doing.Widening (number ∷ left) granted) number after go_on)
      by more like (Current prefix dver members) go = go more like
      by more like (Ask server asked) go = record { txn_run = record { task = task; suites = more; phase = doing.Widening (number ∷ left) granted }; is = refl; like = like }
      by more like (Short had wanting busy) go = tells_on more like verdict.Aborted (Undecided (short_cause number had wanting busy))

      of : (found : Option GatheredSuite) → suite_of more number ≡ found → ((more : Suites) → Like suites more → KnowsOn suites (go_on more))
          → KnowsOn suites (widen_one task now more (doing.Widening (number ∷ left) granted) granted.changes number found go_on)
      of None is go = go more like
      of (Some suite) is go =
          let new : GatheredSuite = widened granted.changes number suite in
          by (with_suite number new more)
          (like_with suites more number new like (by_first suite.first ∙ ap known_in (sym is)) (λ old there. ap (λ (suite : GatheredSuite). all_told suite.collector) (same_Some suite old (sym is ∙ there))))
          (next new.collector) go
        where
          by_first : (first : Option ReadPoint) → known_if_first (widened granted.changes number suite) first ≡ known_if_first suite first
          by_first first = search arith

  pub proceeds_on : (fixed : Fixed) → Like suites suites → (what : Executed) → KnowsOn suites (proceed fixed task now suites what)
  proceeds_on fixed like (exec.Need (Know number)) = record { txn_run = record { task = task; suites = suites; phase = doing.Fetching number }; is = refl; like = like }
  proceeds_on fixed like (exec.Done answers changes) = widens_on (to_widen changes) suites like (record { answers = answers; changes = changes })
  proceeds_on fixed like (exec.Refused refusal) = prepares_on suites like (Err refusal) (locked_at suites)
  proceeds_on fixed like (exec.Need (Hold number mode)) = of (suite_of suites number) refl
    where
      of : (found : Option GatheredSuite) → suite_of suites number ≡ found → KnowsOn suites (gather task now suites number (raised_or_new fixed task now number mode found))
      of None is =
          let new : GatheredSuite = raised_or_new fixed task now number mode None in
          gathers_on (with_suite number new suites) (like_with suites suites number new like (ap known_in (sym is)) (λ old there. absurd (none-some old (sym is ∙ there)))) number (next new.collector)
      of (Some suite) is =
          let new : GatheredSuite = record suite { collector = raise suite.collector } in
          gathers_on (with_suite number new suites) (like_with suites suites number new like (by_first suite.first ∙ ap known_in (sym is))
          (λ old there. ap (λ (suite : GatheredSuite). all_told suite.collector) (same_Some suite old (sym is ∙ there)))) number (next new.collector)
        where
          by_first : (first : Option ReadPoint) → known_if_first (record suite { collector = raise suite.collector }) first ≡ known_if_first suite first
          by_first first = search arith

-- ---- so what is known once it went on was known as it executed

module _ (fixed : Fixed) (world : World) (sight : Sight) (table : PlainTable) (task : Task) (cache : Cache) (Was : ℕ → Prefix → Type 0) (ground : Ground fixed world sight cache task.site (locks_on table task) Was) where
  pub agreed : (all : Gathered) → IsReady fixed world sight table task cache Was ground all.suites → Hints fixed world sight table task cache all.suites all.cache → (number : ℕ) → is_some (suite_of all.suites number) ≡ true
      → ((txn_run : TransactionRun) → (execute fixed task all).after ≡ GoesOn txn_run → (z : ℕ) → asks_of (locks_on table task) z ≡ true → IsSoAt (known.known_of (known_of txn_run.suites) z) (row_of table.rows z))
      → AgreesWith (known_of (opened (length all.suites) fixed task all).suites) (row_of table.rows)
  agreed all ready hints number some so z = of (suite_of (opened (length all.suites) fixed task all).suites z) refl
    where
      more : Gathered
      more = opened (length all.suites) fixed task all

      now : Opened fixed world sight table task cache Was ground all (opened (length all.suites) fixed task all)
      now = opened_stands fixed world sight table task cache Was ground (length all.suites) all ready hints

      some_in : (found : Option GatheredSuite) → suite_of (opened (length all.suites) fixed task all).suites number ≡ found → is_some found ≡ true → HasSome (opened (length all.suites) fixed task all).suites
      some_in None there is = absurd (false≢true is)
      some_in (Some suite) there is =
          let lock = (now.ready.whole number suite there).lock in
          record { z = number; suite = suite; there = there; server = lock.server; is_one = lock.is_one; holds = lock.holds }

      goes : KnowsOn (opened (length all.suites) fixed task all).suites (execute fixed task all)
      goes = proceeds_on task more.cache more.suites fixed (record {
        ordered = now.ready.asks.ordered;
        same = λ z. refl;
        some = some_in (suite_of more.suites number) refl (now.there number some);
      }) (heard_on fixed task more.suites)

      -- what is gathered was asked for
      of : (found : Option GatheredSuite) → suite_of (opened (length all.suites) fixed task all).suites z ≡ found → IsSoAt (known.known_of (known_of (opened (length all.suites) fixed task all).suites) z) (row_of table.rows z)
      of None is = subst (λ found. IsSoAt found (row_of table.rows z)) (sym (known_is more.suites now.ready.asks.ordered z ∙ ap known_in is)) tt
      of (Some suite) is =
          subst (λ found. IsSoAt found (row_of table.rows z)) (known_is goes.txn_run.suites goes.like.ordered z ∙ goes.like.same z ∙ sym (known_is more.suites now.ready.asks.ordered z))
          (so goes.txn_run goes.is z (now.ready.whole z suite is).found.asked)
