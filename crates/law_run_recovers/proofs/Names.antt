-- Which suites the requests of a transaction name, and how many requests it may make.
use Rattle.law_run_recovers.proofs.Vocabulary.{◌≡◌, inl, ℕ, zero, suc, ◌+◌, ◌≤◌, true, List, [], ◌∷◌, length, Option, Some, refl, sym, ap, subst, ◌∙◌, arith, ◌*◌, ◌==◌, map, list_any, eqb-true, eq-eqb, none-some, Identity, Opening, Prefix, LockMode}
use Rattle.law_run_recovers.proofs.Vocabulary.{Shared, Request, Has, any_has, has_any, map_has, Op, PlainTable, Asked, request_for, Cache, Transaction, GatheredSuite, Suites, Fixed, Task, Phase, Gathering, Fetching, Preparing, Deciding, Finishing}
use Rattle.law_run_recovers.proofs.Vocabulary.{home_of, numbers_from, asked_for, fetched_for, request_in, changes_of, decision_of, parts_at, Agent, fixed_of, is_idle, begin, exchanges, among, asks_only, names_of, names_only, asks_same, Event, World}
use Rattle.law_run_recovers.proofs.Vocabulary.{table_of, has_asked, locks_asked}
use Rattle.txn_core.proofs.Bound.{ends_in_time}
use Rattle.rep_core.specs.declared.request.Request.TheVariants as request
use Rattle.txn_core.specs.Doing as doing
use Rattle.txn_core.specs.Agents as agents
use Rattle.law_run_recovers.proofs.Asked.{onto_left, onto_so_far}
use Rattle.law_run_recovers.proofs.Asking.{onto, held_in}
use Rattle.law_run_recovers.proofs.Early.{fetch_is}
use Rattle.law_run_recovers.proofs.Heard.{asks_for}
use Rattle.law_run_recovers.proofs.Polled.{Sight}
use Rattle.law_run_recovers.proofs.Stands.{Ground, locks_on, PhaseStands}

names_lock : (numbers : List ℕ) (t z : ℕ) (question : Asked) → names_of numbers (request_for t z question) ≡ among numbers z
names_lock numbers t z question = search arith

-- ---- what it names

-- the suites that it locks on a table
abbrev pub suites_named : PlainTable → Task → List ℕ
suites_named table task = map (λ (one : ℕ × LockMode). one.0) (locks_on table task)

module _ (fixed : Fixed) (world : World) (sight : Sight) (table : PlainTable) (task : Task) (cache : Cache) (Was : ℕ → Prefix → Type 0) (ground : Ground fixed world sight cache task.site (locks_on table task) Was) where
  -- the suites that it names are those that it locks
  lock_named : (one : ℕ × LockMode) → Has (locks_on table task) one → among (suites_named table task) one.0 ≡ true
  lock_named one has = has_any (λ n. n == one.0) (suites_named table task) one.0 (map_has (λ (one : ℕ × LockMode). one.0) (locks_on table task) one has) (eq-eqb one.0 one.0 refl)

  asked_named : (asked left : List (ℕ × LockMode)) (z : ℕ) → locks_on table task ≡ onto asked left → list_any (λ (lock : ℕ × LockMode). lock.0 == z) asked ≡ true → among (suites_named table task) z ≡ true
  asked_named asked left z are is = search (any_has, eqb-true, lock_named, onto_so_far, arith)

  fetch_found : (suites : Suites) (z server : ℕ) (asked : Request) (found : Option GatheredSuite) → fetched_for task z found ≡ Some (server, asked) → held_in Shared found ≡ true
  fetch_found suites z server asked found h5 = search arith

  any_wider : (asked : List (ℕ × LockMode)) (z : ℕ) → has_asked asked z Shared ≡ true → list_any (λ (lock : ℕ × LockMode). lock.0 == z) asked ≡ true
  any_wider asked z is = search arith

  pub names_for : (now : Cache) (suites : Suites) (phase : Phase) → PhaseStands fixed world sight table task cache Was ground suites now phase → (server : ℕ) (asked : Request) → request_in fixed task suites phase ≡ Some (server, asked)
      → names_of (suites_named table task) asked ≡ true
  names_for now suites (Gathering z) at server asked is =
      let g = at.0 in
      let asks = asks_for task z g.suite.collector server asked (sym (ap (asked_for task z) g.there) ∙ is) in
      ap (names_of (suites_named table task)) asks.asked_is ∙ names_lock (suites_named table task) task.t z asks.question
      ∙ lock_named (z, g.mode) (subst (λ locks. Has locks (z, g.mode)) (sym (g.asks.order ∙ ap (onto g.asked) g.next_is)) (onto_left g.asked _ (z, g.mode) (inl refl)))
  names_for now suites (Fetching z) at server asked is = search (fetch_found, fetch_is, asked_named, any_wider, arith)
  names_for now suites (doing.Widening (z ∷ numbers) granted) at server asked is = search (asked_named at.sets.so_far [] z at.sets.all (at.sets.locked (z, at.votes) (inl refl)), asks_for, names_lock, arith)
  names_for now suites (Preparing (now' ∷ numbers) outcome) at server asked is = ap (names_of (suites_named table task)) (sym (asks_same now' server (request.Prepare task.t (parts_at suites (changes_of outcome) now')) asked is))
  names_for now suites (Deciding outcome) at server asked is = ap (names_of (suites_named table task)) (sym (asks_same (home_of fixed.service task.t) server (request.Decide task.t (decision_of task outcome)) asked is))
  names_for now suites (Finishing (now' ∷ numbers) v ended) at server asked is = ap (names_of (suites_named table task)) (sym (asks_same now' server (request.Finish task.t v) asked is))
  names_for now suites other at server asked is = absurd (none-some (server, asked) is)

-- ---- how often it asks

-- so many requests were made so far, of these servers and naming these suites
pub record CountedOf (fixed : Fixed) (begun : Agent) (servers suites : List ℕ) (told : List agents.Event) (so_far : ℕ) : Type 0 where
  pub asks : asks_only servers (exchanges fixed begun told) ≡ true
  pub names : names_only suites (exchanges fixed begun told) ≡ true
  pub many : length (exchanges fixed begun told) ≡ so_far

module _ (given : Opening) (events : List Event) (before : Agent) (t : ℕ) (caller : Identity) (site : ℕ) (ops : List Op) (number : 64 * before.count + before.index ≡ t) (idle : is_idle before.doing ≡ true) where
  abbrev its : Task
  its = record { t = 64 * before.count + before.index; caller = caller; site = site; ops = ops }

  abbrev bound : ℕ → ℕ → ℕ
  bound k n = k * (2 * n + 1) + 2 * n + 1

  pub few_enough : (so_far : ℕ) (told : List agents.Event) → CountedOf (fixed_of given) (begin (fixed_of given) before (Transaction caller site ops)) (numbers_from 0 given.servers) (suites_named (table_of given events) its) told so_far
      → so_far ≤ length (locks_asked (table_of given events) t caller ops) * (2 * given.servers + 1) + 2 * given.servers + 1
  few_enough so_far told c =
      let servers = numbers_from 0 given.servers in
      let suites = suites_named (table_of given events) its in
      let most = ends_in_time (fixed_of given) before caller site ops told servers suites idle c.asks c.names in
      let same : bound (length suites) (length servers) ≡ bound (length (locks_asked (table_of given events) t caller ops)) given.servers =
      ap (λ k. bound k (length servers)) (mapped (locks_on (table_of given events) its) ∙ ap (λ n. length (locks_asked (table_of given events) n caller ops)) number)
      ∙ ap (bound (length (locks_asked (table_of given events) t caller ops))) (counted given.servers 0) in
      within (length (exchanges (fixed_of given) (begin (fixed_of given) before (Transaction caller site ops)) told)) so_far (bound (length suites) (length servers))
      (bound (length (locks_asked (table_of given events) t caller ops)) given.servers) c.many most same
    where
      mapped : (xs : List (ℕ × LockMode)) → length (map (λ (one : ℕ × LockMode). one.0) xs) ≡ length xs
      mapped [] = refl
      mapped (x ∷ xs) = ap (λ n. suc n) (mapped xs)

      counted : (count start : ℕ) → length (numbers_from start count) ≡ count
      counted zero start = refl
      counted (suc count) start = ap (λ n. suc n) (counted count (start + 1))

      within : (a b c d : ℕ) → a ≡ b → a ≤ c → c ≡ d → b ≤ d
      within a b c d x y z = omega (arith, x, y, z)
