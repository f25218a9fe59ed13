-- What is prepared of a suite at a server is the part that was sent: what a request makes of it, and what an agent's own step does.
use Rattle.law_headline.proofs.Vocabulary.{◌≡◌, ◌⊎◌, ℕ, ◌<◌, Bool, true, false, cond, List, [], ◌∷◌, Option, Some, None, refl, sym, ap, ◌∙◌, arith, ◌==◌, filter, map, nat_cmp, nat_tests, same_Some, max_servers, get, Shared, Part, Request, Reply}
use Rattle.law_headline.proofs.Vocabulary.{Verdict, is_prepared, Has, holds, Cache, GatheredSuite, Suites, suite_of, holds_lock, told_in, told_at, part_of, parts_at, Response, Replied, Lacked, Cause, Ending, Undecided, Changes, Fixed, Task, Proposal}
use Rattle.law_headline.proofs.Vocabulary.{Phase, Gathering, Fetching, Widening, Preparing, Deciding, Finishing, TransactionRun, SweepRun, Doing, Running, RunningSweep, After, execute, tell_end, give_up, prepare, locked_at, changes_of, lack_cause}
use Rattle.law_headline.proofs.Vocabulary.{verdict_in, ending_by, cause_of_abort, Agent, next_in, take_in, left, World, itself, PreparedPart, same_or}
use Rattle.std.specs.BTreeMap.{is_at}
use Rattle.law_run_machine.proofs.Readying.{ReadyIn, IsReadying, ready_begin, readying_left, take_readying}
use Rattle.rep_core.specs.declared.reply.Reply.TheVariants as reply
use Rattle.rep_core.specs.declared.reply.Verdict.TheVariants as verdict
use Rattle.txn_core.specs.Sweeps as sweep
use Rattle.law_server_moves.specs.Preparing as preparing

-- at a server the transaction has prepared its part of the suite
abbrev pub IsPrepared : ℕ → World → ℕ → Suites → Proposal → ℕ → Type 0
IsPrepared z w t suites outcome i = (suite : GatheredSuite) → suite_of suites z ≡ Some suite → PreparedPart w t i (part_of (changes_of outcome) i (z, suite))

-- each server that holds a lock on the suite is still to prepare, or has prepared its part
abbrev pub PartsIn : ℕ → World → ℕ → Suites → Phase → Type 0
PartsIn z w t suites (Preparing left outcome) = (i : ℕ) → i < max_servers → holds Shared (told_at suites z) i ≡ true → Has left i ⊎ IsPrepared z w t suites outcome i
PartsIn z w t suites (Deciding outcome) = (i : ℕ) → i < max_servers → holds Shared (told_at suites z) i ≡ true → IsPrepared z w t suites outcome i
PartsIn z w t suites other = Unit {0}

abbrev pub DoingPrepared : ℕ → World → Option Doing → Type 0
DoingPrepared z w (Some (Running txn_run)) = PartsIn z w txn_run.task.t txn_run.suites txn_run.phase
DoingPrepared z w (Some (RunningSweep sweep_run)) = Unit {0}
DoingPrepared z w None = Unit {0}

-- ---- as long as nothing of the transaction is prepared anew, it stays so

prepared_same : (w later : World) (t i : ℕ) (part : Part) → later.ready i t ≡ w.ready i t → PreparedPart w t i part → PreparedPart later t i part
prepared_same w later t i part same is = record { copy = is.copy; is = same ∙ is.is }

pub doing_same : (z : ℕ) (w later : World) (doing : Option Doing) → ((txn_run : TransactionRun) → doing ≡ Some (Running txn_run) → (i : ℕ)
    → later.ready i txn_run.task.t ≡ w.ready i txn_run.task.t) → DoingPrepared z w doing → DoingPrepared z later doing
doing_same z w later doing h4 h5 = search arith

-- ---- the part of the suite that a Prepare has

module _ (changes : Changes) (z i : ℕ) where
  at_key : (a b : ℕ) → is_at (nat_cmp a) b ≡ true → b ≡ a
  at_key a b e = grind (arith, nat_tests)

  off_key : (a b : ℕ) → is_at (nat_cmp a) b ≡ false → (b == a) ≡ false
  off_key a b e = grind (arith, nat_tests)

  -- what a server prepares of the suites that it holds
  abbrev parts_kept : Bool → ℕ × GatheredSuite → Suites → List Part
  parts_kept b e es = map (part_of changes i) (cond b (e ∷ filter (λ one. holds_lock one.1 i) es) (filter (λ one. holds_lock one.1 i) es))

  -- it is found by the suite's number
  pub part_found : (suites : Suites) (suite : GatheredSuite) → suite_of suites z ≡ Some suite → holds_lock suite i ≡ true → preparing.part_of z (parts_at suites changes i) ≡ Some (part_of changes i (z, suite))
  part_found [] suite is held = cc
  part_found (e ∷ es) suite is held =
      elim (is_at (nat_cmp z) e.0) as (λ b. is_at (nat_cmp z) e.0 ≡ b → cond b (Some e.1) (get nat_cmp es z) ≡ Some suite → preparing.part_of z (parts_kept (holds_lock e.1 i) e es) ≡ Some (part_of changes i (z, suite))) [
        | true ↦ λ at is. here (at_key z e.0 at) (same_Some e.1 suite is)
        | false ↦ λ at is. there (off_key z e.0 at) (part_found es suite is held)
      ] refl is
    where
      here : e.0 ≡ z → e.1 ≡ suite → preparing.part_of z (parts_kept (holds_lock e.1 i) e es) ≡ Some (part_of changes i (z, suite))
      here key value = search (itself, arith)

      there : (e.0 == z) ≡ false → preparing.part_of z (parts_at es changes i) ≡ Some (part_of changes i (z, suite)) → preparing.part_of z (parts_kept (holds_lock e.1 i) e es) ≡ Some (part_of changes i (z, suite))
      there apart rest = search arith

-- where a collector holds a lock
pub lock_held : (suites : Suites) (z i : ℕ) (suite : GatheredSuite) → suite_of suites z ≡ Some suite → holds Shared (told_at suites z) i ≡ true → holds_lock suite i ≡ true
lock_held suites z i suite found held = ap (λ o. holds Shared (told_in o) i) (sym found) ∙ held

-- ---- an agent's own step

-- a world in which nothing was prepared
abbrev unprepared : World → World
unprepared w = record w { ready = λ i t. None }

-- what begins to prepare has each of these servers before it
from_unprepared : (z : ℕ) (w : World) (doing : Option Doing) → IsReadying z (unprepared w) doing → DoingPrepared z w doing
from_unprepared z w doing h3 = search arith

pub prepared_begin : (z : ℕ) (w : World) (task : Task) (fixed : Fixed) (cache : Cache) → DoingPrepared z w (left Running (execute fixed task (record { suites = []; cache = cache })).after)
prepared_begin z w task fixed cache = from_unprepared z w _ (readying_left z (unprepared w) task.t _ (ready_begin z (unprepared w) task fixed cache))

-- what a Prepare that is answered Prepared leaves in the books: the part here, and at others what was there
pub record Prepares (z : ℕ) (w later : World) (before : TransactionRun) (outcome : Proposal) (now : ℕ) : Type 0 where
  pub here : holds Shared (told_at before.suites z) now ≡ true → IsPrepared z later before.task.t before.suites outcome now
  pub elsewhere : (i : ℕ) → (i ≡ now → ⊥) → later.ready i before.task.t ≡ w.ready i before.task.t

abbrev pub PreparesPart : ℕ → World → World → Option Doing → Response → Type 0
PreparesPart z w later doing response =
    (before : TransactionRun) (now : ℕ) (left : List ℕ) (outcome : Proposal) → doing ≡ Some (Running before) → before.phase ≡ Preparing (now ∷ left) outcome → response ≡ Replied reply.Prepared → Prepares z w later before outcome now

said_prepared : (said : Reply) → is_prepared said ≡ true → said ≡ reply.Prepared
said_prepared said h1 = search arith

-- in a phase before the servers prepare
abbrev phase_or : Option Doing → Phase
phase_or (Some (Running txn_run)) = txn_run.phase
phase_or other = Gathering 0

module _ (z : ℕ) (later : World) (task : Task) where
  prepared_end : (cache : Cache) (suites : Suites) (v : Verdict) (ending : Ending) (servers : List ℕ) → DoingPrepared z later (left Running (tell_end task cache suites v ending servers).after)
  prepared_end cache suites v ending servers = search arith

  prepared_give_up : (cache : Cache) (suites : Suites) (cause : Cause) → DoingPrepared z later (left Running (give_up task cache suites cause).after)
  prepared_give_up cache suites cause = prepared_end cache suites verdict.Aborted (Undecided cause) (locked_at suites)

  prepared_rest : (cache : Cache) (suites : Suites) (outcome : Proposal) (servers : List ℕ) → ((i : ℕ) → i < max_servers → holds Shared (told_at suites z) i ≡ true → Has servers i ⊎ IsPrepared z later task.t suites outcome i)
      → DoingPrepared z later (left Running (prepare task cache suites outcome servers).after)
  prepared_rest cache suites outcome servers h4 = search arith

  module _ (w : World) (fixed : Fixed) (agent : Agent) (response : Response) (suites : Suites) (asked : ℕ × Request) where
    abbrev in_phase : Phase → Option Doing
    in_phase phase = Some (Running (record { task = task; suites = suites; phase = phase }))

    abbrev Taken : Phase → Type 0
    Taken phase = DoingPrepared z later (take_in fixed agent response (in_phase phase) (Some asked)).agent.doing

    -- where the servers do not prepare nothing is asked of what was prepared
    unasked : (phase : Phase) → next_in fixed (in_phase phase) ≡ Some asked → ReadyIn z (unprepared later) task.t suites phase → ((now : ℕ) (left : List ℕ) (outcome : Proposal) → phase ≡ Preparing (now ∷ left) outcome → ⊥) → Taken phase
    unasked phase is ready other =
        from_unprepared z later (take_in fixed agent response (in_phase phase) (Some asked)).agent.doing
        (take_readying z (unprepared later) (unprepared later) fixed agent response (in_phase phase) asked (λ i u is. is) is ready (λ before now left outcome running at said held. absurd (other now left outcome (ap phase_or running ∙ at))))

    parts_response : (phase : Phase) → next_in fixed (in_phase phase) ≡ Some asked → PartsIn z w task.t suites phase
        → ((now : ℕ) (left : List ℕ) (outcome : Proposal) → phase ≡ Preparing (now ∷ left) outcome → response ≡ Replied reply.Prepared → Prepares z w later (record { task = task; suites = suites; phase = phase }) outcome now)
        → Taken phase
    parts_response (Gathering number) is parts now = unasked (Gathering number) is tt (λ now left outcome same. cc)
    parts_response (Fetching number) is parts now = unasked (Fetching number) is tt (λ now left outcome same. cc)
    parts_response (Widening left granted) is parts now = unasked (Widening left granted) is tt (λ now left outcome same. cc)
    parts_response (Finishing servers v ending) is parts now = unasked (Finishing servers v ending) is tt (λ now left outcome same. cc)
    parts_response (Preparing [] outcome) is parts now = cc
    parts_response (Preparing (first ∷ rest) outcome) is parts now = of response (λ said. now first rest outcome refl said)
      where
        of : (response : Response) → (response ≡ Replied reply.Prepared → Prepares z w later (record { task = task; suites = suites; phase = Preparing (first ∷ rest) outcome }) outcome first)
            → DoingPrepared z later (take_in fixed agent response (in_phase (Preparing (first ∷ rest) outcome)) (Some asked)).agent.doing
        of response h1 = grind (prepared_give_up, said_prepared, prepared_rest, same_or, prepared_same, arith)
    parts_response (Deciding outcome) is parts now = of response
      where
        of : (response : Response) → DoingPrepared z later (take_in fixed agent response (in_phase (Deciding outcome)) (Some asked)).agent.doing
        of (Replied said) = prepared_end agent.cache suites (verdict_in said verdict.Aborted) (ending_by (verdict_in said verdict.Aborted) (cause_of_abort said)) (locked_at suites)
        of (Lacked lacked) = prepared_give_up agent.cache suites (lack_cause asked.0 lacked)

prepared_round : (z : ℕ) (w : World) (after : After SweepRun) → DoingPrepared z w (left RunningSweep after)
prepared_round z w after = search arith

-- whatever it is told
pub take_prepared : (z : ℕ) (w later : World) (fixed : Fixed) (agent : Agent) (response : Response) (doing : Option Doing) (asked : ℕ × Request) → next_in fixed doing ≡ Some asked
    → DoingPrepared z w doing → PreparesPart z w later doing response
    → DoingPrepared z later (take_in fixed agent response doing (Some asked)).agent.doing
take_prepared z w later fixed agent response (Some (Running txn_run)) asked is parts now =
    parts_response z later txn_run.task w fixed agent response txn_run.suites asked txn_run.phase is parts (λ first left outcome phase said. now txn_run first left outcome refl phase said)
take_prepared z w later fixed agent response (Some (RunningSweep sweep_run)) asked is parts now = prepared_round z later (sweep.after_response fixed.service sweep_run asked.0 response)
take_prepared z w later fixed agent response None asked is parts now = absurd cc
