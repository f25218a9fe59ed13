-- A transaction is decided once each server that told it of a copy has prepared.
use Rattle.law_run_machine.proofs.Vocabulary.{◌≡◌, ◌⊎◌, inl, inr, ℕ, zero, suc, ◌+◌, ◌<◌, ◌≤◌, true, false, cond, List, [], ◌∷◌, Option, Some, None, is_some, refl, sym, ◌∙◌, arith, ◌==◌, filter, nat_cmp, false≢true, nat_tests, max_servers, get}
use Rattle.law_run_machine.proofs.Vocabulary.{Shared, Request, Reply, is_prepared, Has, filter_has, map_has, has_any, any_find, holds, Cache, GatheredSuite, Suites, has_locks, holds_lock, told_at, part_of, parts_at, Response, Replied, Lacked, Cause}
use Rattle.law_run_machine.proofs.Vocabulary.{Lost, Ending, Undecided, Changes, Fixed, Task, Proposal, Phase, Gathering, Fetching, Widening, Preparing, Deciding, Finishing, TransactionRun, SweepRun, Doing, Running, RunningSweep, After, GoesOn, Ends}
use Rattle.law_run_machine.proofs.Vocabulary.{execute, tell_end, give_up, prepare, locked_at, numbers_from, lack_cause, after_response, request_in, verdict_in, ending_by, cause_of_abort, Agent, next_in, take_in, left, IsEarly, goes_response}
use Rattle.law_run_machine.proofs.Vocabulary.{goes_execute, Beginning, World, Event, happens, run, at2, itself, prepare_of}
use Rattle.std.specs.BTreeMap.{is_at}
use Rattle.rep_core.specs.declared.reply.Verdict.{Verdict}
use Rattle.rep_core.specs.declared.reply.Reply.TheVariants as reply
use Rattle.rep_core.specs.declared.reply.Verdict.TheVariants as verdict
use Rattle.txn_core.specs.Sweeps as sweep
use Rattle.law_server_moves.specs.Preparing as preparing

-- ---- what was prepared stays so in the books

ready_event : (start : Beginning) (w : World) (event : Event) (i u : ℕ) → is_some (w.ready i u) ≡ true → is_some ((happens start w event).ready i u) ≡ true
ready_event start w event i u h5 = search arith

pub ready_stays : (start : Beginning) (w : World) (events : List Event) (i u : ℕ) → is_some (w.ready i u) ≡ true → is_some ((run start w events).ready i u) ≡ true
ready_stays start w [] i u is = is
ready_stays start w (event ∷ events) i u is = ready_stays start (happens start w event) events i u (ready_event start w event i u is)

-- ---- servers that hold a lock

-- what is found in a list stands there
found_there : {V : Type 0} (pairs : List (ℕ × V)) (key : ℕ) (value : V) → get nat_cmp pairs key ≡ Some value → (found : ℕ × V) × Has pairs found × (found.0 ≡ key) × (found.1 ≡ value)
found_there [] key value is = absurd cc
found_there (e ∷ es) key value is =
    elim (is_at (nat_cmp key) e.0) as (λ b. is_at (nat_cmp key) e.0 ≡ b → cond b (Some e.1) (get nat_cmp es key) ≡ Some value → (found : _) × Has (e ∷ es) found × (found.0 ≡ key) × (found.1 ≡ value)) [
      | true ↦ λ here is. (e, inl refl, same key e.0 here, some e.1 value is)
      | false ↦ λ _ is. let later = found_there es key value is in (later.0, inr later.1, later.2, later.3)
    ] refl is
  where
    same : (a b : ℕ) → is_at (nat_cmp a) b ≡ true → b ≡ a
    same a b e = grind (arith, nat_tests)

    some : {V : Type 0} (a b : V) → Some a ≡ Some b → a ≡ b
    some a b is = cc

-- where a suite's collector holds a lock, the suite stands among those that were gathered
holds_at : (suites : Suites) (z i : ℕ) → holds Shared (told_at suites z) i ≡ true → (one : ℕ × GatheredSuite) × Has suites one × (one.0 ≡ z) × (holds_lock one.1 i ≡ true)
holds_at suites z i is = search (false≢true, found_there, arith)

among : (start count i : ℕ) → start ≤ i → i < start + count → Has (numbers_from start count) i
among start zero i low high = absurd (omega arith)
among start (suc count) i low high = search (nat_tests, among (start + 1) count i, arith)

locked_has : (suites : Suites) (z i : ℕ) → i < max_servers → holds Shared (told_at suites z) i ≡ true → Has (locked_at suites) i
locked_has suites z i small is =
    let one = holds_at suites z i is in
    filter_has (has_locks suites) (numbers_from 0 max_servers) i (among 0 max_servers i (omega arith) (omega arith)) (has_any (λ one. holds_lock one.1 i) suites one.0 one.1 one.3)

-- a Prepare at a server that holds a lock on the suite has a part of it
part_there : (suites : Suites) (changes : Changes) (z i : ℕ) → holds Shared (told_at suites z) i ≡ true → is_some (preparing.part_of z (parts_at suites changes i)) ≡ true
part_there suites changes z i is =
    let one = holds_at suites z i is in
    sym (any_find (λ part. part.suite == z) (parts_at suites changes i))
    ∙ has_any (λ part. part.suite == z) (parts_at suites changes i) (part_of changes i one.0)
    (map_has (part_of changes i) (filter (λ one. holds_lock one.1 i) suites) one.0 (filter_has (λ one. holds_lock one.1 i) suites one.0 one.1 one.3)) (itself z one.0.0 one.2)

-- and so it is prepared in the books
pub prepared_now : (start : Beginning) (w : World) (suites : Suites) (changes : Changes) (z i t : ℕ) → holds Shared (told_at suites z) i ≡ true
    → is_some ((run start w (prepare_of i t w (preparing.part_of z (parts_at suites changes i)))).ready i t) ≡ true
prepared_now start w suites changes z i t is = search (part_there suites changes z i is, false≢true, at2, arith)

-- ---- a transaction

-- each server that holds a lock on the suite is still to prepare, or has prepared
abbrev pub ReadyIn : ℕ → World → ℕ → Suites → Phase → Type 0
ReadyIn z w t suites (Preparing left outcome) = (i : ℕ) → i < max_servers → holds Shared (told_at suites z) i ≡ true → Has left i ⊎ (is_some (w.ready i t) ≡ true)
ReadyIn z w t suites (Deciding outcome) = (i : ℕ) → i < max_servers → holds Shared (told_at suites z) i ≡ true → is_some (w.ready i t) ≡ true
ReadyIn z w t suites other = Unit {0}

abbrev ReadyLeft : ℕ → World → ℕ → After TransactionRun → Type 0
ReadyLeft z w t (GoesOn txn_run) = (txn_run.task.t ≡ t) × ReadyIn z w t txn_run.suites txn_run.phase
ReadyLeft z w t (Ends ending) = Unit {0}

module _ (z : ℕ) (w : World) (task : Task) where
  ready_end : (cache : Cache) (suites : Suites) (v : Verdict) (ending : Ending) (servers : List ℕ) → ReadyLeft z w task.t (tell_end task cache suites v ending servers).after
  ready_end cache suites v ending servers = search arith

  ready_give_up : (cache : Cache) (suites : Suites) (cause : Cause) → ReadyLeft z w task.t (give_up task cache suites cause).after
  ready_give_up cache suites cause = ready_end cache suites verdict.Aborted (Undecided cause) (locked_at suites)

  ready_prepare : (cache : Cache) (suites : Suites) (outcome : Proposal) (left : List ℕ)
      → ((i : ℕ) → i < max_servers → holds Shared (told_at suites z) i ≡ true → Has left i ⊎ (is_some (w.ready i task.t) ≡ true))
      → ReadyLeft z w task.t (prepare task cache suites outcome left).after
  ready_prepare cache suites outcome left h4 = search arith

  ready_early : (suites : Suites) (phase : Phase) → IsEarly phase → ReadyLeft z w task.t (GoesOn (record { task = task; suites = suites; phase = phase }))
  ready_early suites phase h2 = search arith

  ready_prepares : (cache : Cache) (suites : Suites) (outcome : Proposal) → ReadyLeft z w task.t (prepare task cache suites outcome (locked_at suites)).after
  ready_prepares cache suites outcome = ready_prepare cache suites outcome (locked_at suites) (λ i small held. inl (locked_has suites z i small held))

  ready_early_response : (fixed : Fixed) (cache : Cache) (suites : Suites) (phase : Phase) (server : ℕ) (asked : Request) (response : Response) → IsEarly phase
      → ReadyLeft z w task.t (after_response fixed (record { task = task; suites = suites; phase = phase }) cache server asked response).after
  ready_early_response fixed cache suites phase server asked response is = goes_response task (ReadyLeft z w task.t) ready_early ready_give_up ready_prepares fixed cache suites phase server asked response is

  pub ready_begin : (fixed : Fixed) (cache : Cache) → ReadyLeft z w task.t (execute fixed task (record { suites = []; cache = cache })).after
  ready_begin fixed cache = goes_execute task (ReadyLeft z w task.t) ready_early ready_give_up ready_prepares fixed (record { suites = []; cache = cache })

prepared_is : (said : Reply) → is_prepared said ≡ true → said ≡ reply.Prepared
prepared_is said h1 = search arith

module _ (z : ℕ) (w later : World) (fixed : Fixed) (task : Task) (cache : Cache) (suites : Suites) (server : ℕ) (asked : Request) (response : Response)
    (more : (i : ℕ) → is_some (w.ready i task.t) ≡ true → is_some (later.ready i task.t) ≡ true) where
  ready_response : (phase : Phase) → request_in fixed task suites phase ≡ Some (server, asked) → ReadyIn z w task.t suites phase
      → ((now : ℕ) (left : List ℕ) (outcome : Proposal) → phase ≡ Preparing (now ∷ left) outcome → response ≡ Replied reply.Prepared → holds Shared (told_at suites z) now ≡ true → is_some (later.ready now task.t) ≡ true)
      → ReadyLeft z later task.t (after_response fixed (record { task = task; suites = suites; phase = phase }) cache server asked response).after
  ready_response (Gathering number) is ready now = ready_early_response z later task fixed cache suites (Gathering number) server asked response tt
  ready_response (Fetching number) is ready now = ready_early_response z later task fixed cache suites (Fetching number) server asked response tt
  ready_response (Widening (number ∷ left) granted) is ready now = ready_early_response z later task fixed cache suites (Widening (number ∷ left) granted) server asked response tt
  ready_response (Preparing (first ∷ left) outcome) is ready now = of response (λ said. now first left outcome refl said)
    where
      of : (response : Response) → (response ≡ Replied reply.Prepared → holds Shared (told_at suites z) first ≡ true → is_some (later.ready first task.t) ≡ true)
          → ReadyLeft z later task.t (after_response fixed (record { task = task; suites = suites; phase = Preparing (first ∷ left) outcome }) cache server asked response).after
      of (Replied said) now =
          elim (is_prepared said) as (λ b. is_prepared said ≡ b → ReadyLeft z later task.t (cond b (prepare task cache suites outcome left) (give_up task cache suites (Lost server))).after) [
            | true ↦ λ e. search (ready_prepare, prepared_is, arith)
            | false ↦ λ _. ready_give_up z later task cache suites (Lost server)
          ] refl
      of (Lacked lacked) now = ready_give_up z later task cache suites (lack_cause server lacked)
  ready_response (Deciding outcome) is ready now = of response
    where
      of : (response : Response) → ReadyLeft z later task.t (after_response fixed (record { task = task; suites = suites; phase = Deciding outcome }) cache server asked response).after
      of (Replied said) = ready_end z later task cache suites (verdict_in said verdict.Aborted) (ending_by (verdict_in said verdict.Aborted) (cause_of_abort said)) (locked_at suites)
      of (Lacked lacked) = ready_give_up z later task cache suites (lack_cause server lacked)
  ready_response (Finishing (first ∷ left) v ending) is ready now = search (ready_end, arith)
  ready_response other is ready now = cc

-- ---- an agent

abbrev pub IsReadying : ℕ → World → Option Doing → Type 0
IsReadying z w (Some (Running txn_run)) = ReadyIn z w txn_run.task.t txn_run.suites txn_run.phase
IsReadying z w (Some (RunningSweep sweep_run)) = Unit {0}
IsReadying z w None = Unit {0}

pub readying_left : (z : ℕ) (w : World) (t : ℕ) (after : After TransactionRun) → ReadyLeft z w t after → IsReadying z w (left Running after)
readying_left z w t after h4 = search arith

readying_round : (z : ℕ) (w : World) (after : After SweepRun) → IsReadying z w (left RunningSweep after)
readying_round z w after = search arith

pub readying_later : (z : ℕ) (w later : World) (doing : Option Doing) → ((i u : ℕ) → is_some (w.ready i u) ≡ true → is_some (later.ready i u) ≡ true) → IsReadying z w doing → IsReadying z later doing
readying_later z w later doing h4 h5 = search arith

-- what a Prepare that is answered Prepared leaves in the books
abbrev pub PreparesNow : ℕ → World → Option Doing → Response → Type 0
PreparesNow z later doing response =
    (before : TransactionRun) (now : ℕ) (left : List ℕ) (outcome : Proposal) → doing ≡ Some (Running before) → before.phase ≡ Preparing (now ∷ left) outcome → response ≡ Replied reply.Prepared
    → holds Shared (told_at before.suites z) now ≡ true → is_some (later.ready now before.task.t) ≡ true

pub take_readying : (z : ℕ) (w later : World) (fixed : Fixed) (agent : Agent) (response : Response) (doing : Option Doing) (asked : ℕ × Request)
    → ((i u : ℕ) → is_some (w.ready i u) ≡ true → is_some (later.ready i u) ≡ true) → next_in fixed doing ≡ Some asked → IsReadying z w doing → PreparesNow z later doing response
    → IsReadying z later (take_in fixed agent response doing (Some asked)).agent.doing
take_readying z w later fixed agent response (Some (Running txn_run)) asked more is ready now =
    readying_left z later txn_run.task.t _ (ready_response z w later fixed txn_run.task agent.cache txn_run.suites asked.0 asked.1 response
    (λ i. more i txn_run.task.t) txn_run.phase is ready (λ first left outcome phase said held. now txn_run first left outcome refl phase said held))
take_readying z w later fixed agent response (Some (RunningSweep sweep_run)) asked more is ready now = readying_round z later (sweep.after_response fixed.service sweep_run asked.0 response)
take_readying z w later fixed agent response None asked more is ready now = absurd cc
