-- A transaction prepares at a server once: where it is to prepare, none of its locks is prepared there.
use Rattle.law_run_machine.proofs.Vocabulary.{◌≡◌, ◌⊎◌, inl, inr, ℕ, zero, suc, ◌+◌, ◌≤◌, Bool, true, false, cond, List, [], ◌∷◌, Option, Some, None, refl, sym, ap, subst, ◌∙◌, arith, ◌*◌, ◌==◌, ◌&&◌, filter, and_parts, nat_tests, max_servers}
use Rattle.law_run_machine.proofs.Vocabulary.{Opening, Lock, Request, Stamped, is_prepared, has_prepared, State, is_prepare, WasPrepared, is_full, served, Has, has_from, contains_from, has_filter, any_has, has_any, Cache, Suites, suite_of, has_locks}
use Rattle.law_run_machine.proofs.Vocabulary.{parts_at, Response, Replied, Lacked, Job, Transaction, Sweep, Cause, Lost, Ending, Undecided, Fixed, Task, Proposal, Phase, Gathering, Fetching, Widening, Preparing, Deciding, Finishing, TransactionRun}
use Rattle.law_run_machine.proofs.Vocabulary.{SweepRun, Doing, Running, RunningSweep, After, GoesOn, Ends, execute, tell_end, give_up, prepare, locked_at, numbers_from, lack_cause, after_response, request_in, changes_of, verdict_in, ending_by}
use Rattle.law_run_machine.proofs.Vocabulary.{cause_of_abort, Agent, next_in, take_in, begin, started, left, asked_as, fetched_as, IsEarly, goes_response, goes_execute, server_at, with_server, at1, another, servers_of}
use Rattle.rep_core.proofs.PreparedLocks.{prepared_by_prepare}
use Rattle.rep_core.specs.declared.reply.Verdict.{Verdict}
use Rattle.rep_core.specs.Serving.{step}
use Rattle.rep_core.specs.declared.request.Request.TheVariants as request
use Rattle.rep_core.specs.declared.reply.Verdict.TheVariants as verdict
use Rattle.txn_core.specs.Sweeps as sweep
use Rattle.run_core.specs.Worlds as worlds
use Rattle.law_run_machine.proofs.Servers.{server_there, servers_set}
use Rattle.law_run_machine.proofs.Consistent.{served_is}

-- ---- a server

same_t : (a b : ℕ) → (a == b) ≡ true → a ≡ b
same_t a b e = grind (arith, nat_tests)

itself_t : (a b : ℕ) → a ≡ b → (a == b) ≡ true
itself_t a b e = grind (arith, nat_tests)

both : (a b : Bool) → a ≡ true → b ≡ true → (a && b) ≡ true
both a b x y = grind (arith, nat_tests)

-- no lock of a transaction becomes prepared but by a Prepare of it
pub prepared_step : (st : State) (asked : Stamped Request) (u : ℕ) → is_prepare u asked.value ≡ false → has_prepared u st.locks ≡ false → has_prepared u (step st asked).locks ≡ false
prepared_step st asked u other none =
    elim (has_prepared u (step st asked).locks) as (λ b. has_prepared u (step st asked).locks ≡ b → b ≡ false) [
      | true ↦ λ is.
          let found = any_has (λ lock. (lock.t == u) && lock.prepared) (step st asked).locks is in
          let lock = found.0 in
          let tests = and_parts (lock.t == u) lock.prepared found.2 in
          let same = same_t lock.t u tests.0 in
          by lock same (prepared_by_prepare st asked lock (contains_from (step st asked).locks lock found.1) tests.1)
      | false ↦ λ _. refl
    ] refl
  where
    by : (lock : Lock) → lock.t ≡ u → (is_prepare lock.t asked.value ≡ true) ⊎ WasPrepared st.locks lock.t lock.suite → true ≡ false
    by lock same (inl asks) = sym (ap (λ t. is_prepare t asked.value) (sym same) ∙ asks) ∙ other
    by lock same (inr was) =
        sym (has_any (λ lock. (lock.t == u) && lock.prepared) st.locks was.lock (has_from st.locks was.lock was.there) (both (was.lock.t == u) was.lock.prepared (itself_t was.lock.t u (was.of_it ∙ same)) was.prepared)) ∙ none

-- the servers once one of them has served a request
pub record Keeps (old new : ℕ → State) (server : ℕ) (asked : Request) : Type 0 where
  pub unprepared : (u j : ℕ) → is_prepare u asked ≡ false → has_prepared u (old j).locks ≡ false → has_prepared u (new j).locks ≡ false
  pub away : (j : ℕ) → (j ≡ server → ⊥) → new j ≡ old j

pub keeps_same : (servers : ℕ → State) (server : ℕ) (asked : Request) → Keeps servers servers server asked
keeps_same servers server asked = record { unprepared = λ u j other none. none; away = λ j apart. refl }

pub keeps_served : (given : Opening) (world : worlds.World) (i : ℕ) (st : State) (asked : Stamped Request) → server_at world i ≡ Some st → is_full st asked ≡ false
    → Keeps (servers_of given world) (servers_of given (with_server i (served st asked) world)) i asked.value
keeps_served given world i st asked there none =
    subst (λ servers. Keeps (servers_of given world) servers i asked.value) (servers_set given world i st (served st asked) there) (record {
      unprepared = λ u j other was. at1 (λ (st : State). has_prepared u st.locks ≡ false) (servers_of given world) i (served st asked) j
          (λ same. subst (λ (st : State). has_prepared u st.locks ≡ false) (served_is st asked none)
          (prepared_step st asked u other (subst (λ (st : State). has_prepared u st.locks ≡ false) (ap (servers_of given world) same ∙ server_there given world i st there) was)))
          (λ _. was);
      away = λ j apart. ap (λ b. cond b (served st asked) (servers_of given world j)) (another i j apart);
    })

-- ---- lists in which no server stands twice

abbrev pub AreApart : List ℕ → Type 0
AreApart [] = Unit {0}
AreApart (server ∷ servers) = (Has servers server → ⊥) × AreApart servers

above : (start count x : ℕ) → Has (numbers_from start count) x → start ≤ x
above start zero x has = absurd has
above start (suc count) x has = elim has [ inl same ↦ omega arith | inr later ↦ let more = above (start + 1) count x later in omega arith ]

numbers_apart : (start count : ℕ) → AreApart (numbers_from start count)
numbers_apart start zero = tt
numbers_apart start (suc count) = (λ has. let more = above (start + 1) count start has in absurd (omega arith), numbers_apart (start + 1) count)

filter_apart : (p : ℕ → Bool) (xs : List ℕ) → AreApart xs → AreApart (filter p xs)
filter_apart p [] apart = tt
filter_apart p (x ∷ xs) apart = search (has_filter, filter_apart p xs, arith)

locked_apart : (suites : Suites) → AreApart (locked_at suites)
locked_apart suites = filter_apart (has_locks suites) (numbers_from 0 max_servers) (numbers_apart 0 max_servers)

-- ---- a transaction

-- none of its locks is prepared anywhere; or at those servers at which it is to prepare still
abbrev pub Waits : ℕ → (ℕ → State) → Phase → Type 0
Waits t servers (Preparing left outcome) = ((j : ℕ) → Has left j → has_prepared t (servers j).locks ≡ false) × AreApart left
Waits t servers (Deciding outcome) = Unit {0}
Waits t servers (Finishing told v ending) = Unit {0}
Waits t servers other = (j : ℕ) → has_prepared t (servers j).locks ≡ false

abbrev WaitsLeft : ℕ → (ℕ → State) → After TransactionRun → Type 0
WaitsLeft t servers (GoesOn txn_run) = (txn_run.task.t ≡ t) × Waits t servers txn_run.phase
WaitsLeft t servers (Ends ending) = Unit {0}

pub waits_on : (old new : ℕ → State) (t : ℕ) (phase : Phase) → ((j : ℕ) → has_prepared t (old j).locks ≡ false → has_prepared t (new j).locks ≡ false) → Waits t old phase → Waits t new phase
waits_on old new t phase h4 h5 = search arith

module _ (task : Task) (servers : ℕ → State) where
  waits_end : (cache : Cache) (suites : Suites) (v : Verdict) (ending : Ending) (left : List ℕ) → WaitsLeft task.t servers (tell_end task cache suites v ending left).after
  waits_end cache suites v ending left = search arith

  waits_give_up : (cache : Cache) (suites : Suites) (cause : Cause) → WaitsLeft task.t servers (give_up task cache suites cause).after
  waits_give_up cache suites cause = waits_end cache suites verdict.Aborted (Undecided cause) (locked_at suites)

  waits_prepare : (cache : Cache) (suites : Suites) (outcome : Proposal) (left : List ℕ) → ((j : ℕ) → Has left j → has_prepared task.t (servers j).locks ≡ false) → AreApart left
      → WaitsLeft task.t servers (prepare task cache suites outcome left).after
  waits_prepare cache suites outcome left h4 h5 = search arith

  module _ (none : (j : ℕ) → has_prepared task.t (servers j).locks ≡ false) where
    waits_early : (suites : Suites) (phase : Phase) → IsEarly phase → WaitsLeft task.t servers (GoesOn (record { task = task; suites = suites; phase = phase }))
    waits_early suites phase h2 = search arith

    waits_prepares : (cache : Cache) (suites : Suites) (outcome : Proposal) → WaitsLeft task.t servers (prepare task cache suites outcome (locked_at suites)).after
    waits_prepares cache suites outcome = waits_prepare cache suites outcome (locked_at suites) (λ j _. none j) (locked_apart suites)

    waits_early_response : (fixed : Fixed) (cache : Cache) (suites : Suites) (phase : Phase) (server : ℕ) (asked : Request) (response : Response) → IsEarly phase
        → WaitsLeft task.t servers (after_response fixed (record { task = task; suites = suites; phase = phase }) cache server asked response).after
    waits_early_response fixed cache suites phase server asked response is = goes_response task (WaitsLeft task.t servers) waits_early waits_give_up waits_prepares fixed cache suites phase server asked response is

    waits_begin : (fixed : Fixed) (cache : Cache) → WaitsLeft task.t servers (execute fixed task (record { suites = []; cache = cache })).after
    waits_begin fixed cache = goes_execute task (WaitsLeft task.t servers) waits_early waits_give_up waits_prepares fixed (record { suites = []; cache = cache })

module _ (fixed : Fixed) (task : Task) (cache : Cache) (suites : Suites) (server : ℕ) (asked : Request) (response : Response) (old new : ℕ → State) (keeps : Keeps old new server asked) where
  waits_response : (phase : Phase) → request_in fixed task suites phase ≡ Some (server, asked) → Waits task.t old phase
      → WaitsLeft task.t new (after_response fixed (record { task = task; suites = suites; phase = phase }) cache server asked response).after
  waits_response (Gathering number) is waits =
      waits_early_response task new (λ j. keeps.unprepared task.t j (asked_as (is_prepare task.t) false task number (suite_of suites number) server asked (λ mode. refl) refl is)
      (waits j)) fixed cache suites (Gathering number) server asked response tt
  waits_response (Fetching number) is waits =
      waits_early_response task new (λ j. keeps.unprepared task.t j (fetched_as (is_prepare task.t) false task number (suite_of suites number) server asked refl is) (waits j)) fixed cache suites (Fetching number) server asked response tt
  waits_response (Widening (number ∷ left) granted) is waits =
      waits_early_response task new (λ j. keeps.unprepared task.t j (asked_as (is_prepare task.t) false task number (suite_of suites number) server asked (λ mode. refl) refl is)
      (waits j)) fixed cache suites (Widening (number ∷ left) granted) server asked response tt
  waits_response (Preparing (now ∷ left) outcome) is waits = of response
    where
      here : now ≡ server
      here = at is
        where
          at : ◌≡◌ {A = Option (ℕ × Request)} (Some (now, request.Prepare task.t (parts_at suites (changes_of outcome) now))) (Some (server, asked)) → now ≡ server
          at same = ap number same
            where
              number : Option (ℕ × Request) → ℕ
              number None = now
              number (Some pair) = pair.0

      later : (j : ℕ) → Has left j → has_prepared task.t (new j).locks ≡ false
      later j has = ap (λ (st : State). has_prepared task.t st.locks) (keeps.away j (λ same. waits.1.0 (subst (Has left) (same ∙ sym here) has))) ∙ waits.0 j (inr has)

      of : (response : Response) → WaitsLeft task.t new (after_response fixed (record { task = task; suites = suites; phase = Preparing (now ∷ left) outcome }) cache server asked response).after
      of (Replied said) =
          elim (is_prepared said) as (λ b. WaitsLeft task.t new (cond b (prepare task cache suites outcome left) (give_up task cache suites (Lost server))).after) [
            | true ↦ waits_prepare task new cache suites outcome left later waits.1.1
            | false ↦ waits_give_up task new cache suites (Lost server)
          ]
      of (Lacked lacked) = waits_give_up task new cache suites (lack_cause server lacked)
  waits_response (Deciding outcome) is waits = of response
    where
      of : (response : Response) → WaitsLeft task.t new (after_response fixed (record { task = task; suites = suites; phase = Deciding outcome }) cache server asked response).after
      of (Replied said) = waits_end task new cache suites (verdict_in said verdict.Aborted) (ending_by (verdict_in said verdict.Aborted) (cause_of_abort said)) (locked_at suites)
      of (Lacked lacked) = waits_give_up task new cache suites (lack_cause server lacked)
  waits_response (Finishing (now ∷ left) v ending) is waits = search (waits_end, arith)
  waits_response other is waits = cc

-- ---- an agent

abbrev pub IsWaiting : (ℕ → State) → Option Doing → Type 0
IsWaiting servers (Some (Running txn_run)) = Waits txn_run.task.t servers txn_run.phase
IsWaiting servers (Some (RunningSweep sweep_run)) = Unit {0}
IsWaiting servers None = Unit {0}

pub record Waiting (servers : ℕ → State) (n : ℕ) (agent : Agent) : Type 0 where
  pub fresh : (place : ℕ) → agent.count ≤ place → (j : ℕ) → has_prepared (64 * place + n) (servers j).locks ≡ false
  pub now : IsWaiting servers agent.doing

waiting_left : (servers : ℕ → State) (t : ℕ) (after : After TransactionRun) → WaitsLeft t servers after → IsWaiting servers (left Running after)
waiting_left servers t after h3 = search arith

waiting_round : (servers : ℕ → State) (after : After SweepRun) → IsWaiting servers (left RunningSweep after)
waiting_round servers after = search arith

pub take_waiting : (fixed : Fixed) (agent : Agent) (response : Response) (doing : Option Doing) (asked : ℕ × Request) (old new : ℕ → State) → Keeps old new asked.0 asked.1
    → next_in fixed doing ≡ Some asked → IsWaiting old doing → IsWaiting new (take_in fixed agent response doing (Some asked)).agent.doing
take_waiting fixed agent response (Some (Running txn_run)) asked old new keeps is waits =
    waiting_left new txn_run.task.t _ (waits_response fixed txn_run.task agent.cache txn_run.suites asked.0 asked.1 response old new keeps txn_run.phase is waits)
take_waiting fixed agent response (Some (RunningSweep sweep_run)) asked old new keeps is waits = waiting_round new (sweep.after_response fixed.service sweep_run asked.0 response)
take_waiting fixed agent response None asked old new keeps is waits = absurd cc

pub started_waiting : (fixed : Fixed) (agent : Agent) (n : ℕ) (servers : ℕ → State) (job : Job) → agent.index ≡ n → Waiting servers n agent → IsWaiting servers (started fixed agent job).doing
started_waiting fixed agent n servers (Transaction caller site ops) index waiting =
    waiting_left servers (64 * agent.count + agent.index) _ (waits_begin (record { t = 64 * agent.count + agent.index; caller = caller; site = site; ops = ops }) servers
    (λ j. ap (λ i. has_prepared (64 * agent.count + i) (servers j).locks) index ∙ waiting.fresh agent.count (omega arith) j) fixed agent.cache)
started_waiting fixed agent n servers (Sweep server) index waiting = tt

pub begin_waiting : (fixed : Fixed) (agent : Agent) (n : ℕ) (servers : ℕ → State) (job : Job) → agent.index ≡ n → Waiting servers n agent → Waiting servers n (begin fixed agent job)
begin_waiting fixed agent n servers job index waiting = search (started_waiting fixed agent n servers job index waiting, arith)
