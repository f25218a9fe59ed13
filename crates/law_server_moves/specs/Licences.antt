-- When a request may be served late: what an agent may ask now, and so later.
use Rattle.std.specs.Prelude.{◌≡◌, ◌≢◌, ℕ, false, List, Some}
use Rattle.std.specs.List.{AllByRecursion}
use Rattle.rep_core.specs.declared.lock.Lock.{Lock}
use Rattle.rep_core.specs.declared.request.Request.{Request}
use Rattle.rep_core.specs.declared.request.Request.TheVariants as request
use Rattle.rep_core.specs.Locks.{has_prepared}
use Rattle.law_suite_machine.specs.Registers.{Beginning, IsBeginning}
use Rattle.law_suite_machine.specs.Machine.{Answered, World, begun}
use Rattle.law_suite_machine.specs.Events.{Event, Grant, run}
use Rattle.law_suite_machine.specs.Conditions.{Obeys}
use Rattle.law_suite_machine.specs.Laws.{after}
use Rattle.law_suite_machine.specs.Licences.{AllOther, DecidesIt}
use Rattle.law_server_moves.specs.Agents.{AgentSide}

-- no lock is set there for the transaction
abbrev pub IsNoGrant : ℕ → ℕ → Event → Type 0
IsNoGrant i t (Grant j u exclusive) = (j ≡ i) × (u ≡ t) → ⊥
IsNoGrant i t _ = Unit {0}

-- What must not have happened meanwhile, by what is asked: no other Poll of the transaction was served there; nothing of it is prepared there, and it was
-- not answered; or, of a Decide, it did nothing of its own. Of the other requests all may have happened.
abbrev pub MayWait : Event → ℕ → List Lock → World → List Event → Request → Type 0
MayWait decision i locks now meanwhile (request.Poll t suite mode) = AllByRecursion (IsNoGrant i t) meanwhile
MayWait decision i locks now meanwhile (request.Prepare t parts) = (has_prepared t locks ≡ false) × (now.verdict t ≢ Some Answered)
MayWait decision i locks now meanwhile (request.Decide t decided) = DecidesIt t decision × AllOther t meanwhile
MayWait decision i locks now meanwhile _ = Unit {0}

-- Then what was its agent's side when it was asked is so when it is served.
abbrev pub SidesWait : Type 0
SidesWait =
    (start : Beginning) → IsBeginning start → (events meanwhile : List Event) → Obeys start (begun start) events → Obeys start (after start events) meanwhile
    → (z : ℕ) (home : ℕ → ℕ) (decision : Event) (i : ℕ) (before locks : List Lock) (asked : Request)
    → AgentSide start z home decision i before (after start events) asked → MayWait decision i locks (run start (after start events) meanwhile) meanwhile asked
    → AgentSide start z home decision i locks (run start (after start events) meanwhile) asked
