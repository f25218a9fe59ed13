-- Servers that are asked one after the other.
use Rattle.txn_core.proofs.Vocabulary.{◌≡◌, ℕ, Bool, true, false, List, [], ◌∷◌, drop, Some, None, refl, sym, ap, ◌∙◌, if◌then◌else◌, slice_get, is_prepared, Reply, Verdict, Cache, Lost, Ending, Flow, On, Replied, arith, Fixed, Task, Proposal, Phase}
use Rattle.txn_core.proofs.Vocabulary.{Preparing, Deciding, Finishing, TransactionRun, GoesBy, TellsNext, taken, proposing, Suites, tell_end, prepare, give_up, request_of}
use Rattle.txn_core.proofs.Replies.{replied_prepared}

-- a run whose phase the code looks at in its place
pub in_place : (now held : TransactionRun) (phase : Phase) → held ≡ now → held.phase ≡ phase → record held { phase = phase } ≡ now
in_place now held phase same is = ap (λ (phase : Phase). record held { phase = phase }) (sym is) ∙ same

pub phase_at : (now held : TransactionRun) (phase : Phase) → held ≡ now → held.phase ≡ phase → now.phase ≡ phase
phase_at now held phase same is = ap (λ (txn_run : TransactionRun). txn_run.phase) (sym same) ∙ is

-- the first of them, and those that are left
pub first_of : (servers : List ℕ) (server : ℕ) → slice_get servers 0 ≡ Some server → servers ≡ server ∷ drop 1 servers
first_of servers server h2 = search arith

pub none_of : (servers : List ℕ) → slice_get servers 0 ≡ None → servers ≡ []
none_of [] none = refl
none_of (now ∷ left) none = cc

-- ---- they prepare, and then the home decides

pub proposing_first : (servers : List ℕ) (outcome : Proposal) (server : ℕ) → slice_get servers 0 ≡ Some server → proposing servers outcome ≡ Preparing (server ∷ drop 1 servers) outcome
proposing_first servers outcome server first = ap (λ servers. proposing servers outcome) (first_of servers server first)

pub proposing_none : (servers : List ℕ) (outcome : Proposal) → slice_get servers 0 ≡ None → proposing servers outcome ≡ Deciding outcome
proposing_none servers outcome none = ap (λ servers. proposing servers outcome) (none_of servers none)

pub proposes : (task : Task) (cache : Cache) (suites : Suites) (outcome : Proposal) (servers : List ℕ)
    → GoesBy (prepare task cache suites outcome servers) On (record { task = task; suites = suites; phase = proposing servers outcome }) cache
proposes task cache suites outcome servers = search arith

-- the first of them has prepared, or it has not
module _ (fixed : Fixed) (txn_run : TransactionRun) (cache : Cache) (said : Reply) (servers : List ℕ) (outcome : Proposal) (server : ℕ)
    (is : txn_run.phase ≡ proposing servers outcome) (first : slice_get servers 0 ≡ Some server) where
  answers : (holds : Bool) → is_prepared said ≡ holds → taken fixed txn_run cache (request_of fixed txn_run) (Replied said)
      ≡ (if holds then prepare txn_run.task cache txn_run.suites outcome (drop 1 servers) else give_up txn_run.task cache txn_run.suites (Lost server))
  answers holds so = search (replied_prepared, proposing_first, arith)

  pub prepares_on : is_prepared said ≡ true
      → GoesBy (taken fixed txn_run cache (request_of fixed txn_run) (Replied said)) On (record txn_run { phase = proposing (drop 1 servers) outcome }) cache
  prepares_on holds = search arith

  pub prepares_not : (flow : Flow) (after : TransactionRun) → is_prepared said ≡ false → GoesBy (give_up txn_run.task cache txn_run.suites (Lost server)) flow after cache
      → GoesBy (taken fixed txn_run cache (request_of fixed txn_run) (Replied said)) flow after cache
  prepares_not flow after holds steps = search arith

-- ---- the end is told to them

pub tells : (task : Task) (cache : Cache) (suites : Suites) (verdict : Verdict) (servers : List ℕ) (ending : Ending) (flow : Flow) (next : ℕ) (left : List ℕ) (kept : Ending)
    → TellsNext flow servers ending next left kept
    → GoesBy (tell_end task cache suites verdict ending servers) flow (record { task = task; suites = suites; phase = Finishing (next ∷ left) verdict kept }) cache
tells task cache suites verdict servers ending flow next left kept h10 = search arith
