-- What a Prepare is to the machine of one suite.
use Rattle.std.specs.Prelude.{◌≡◌, ◌≢◌, ℕ, false, ◌==◌, if◌then◌else◌, List, Option, Some, None, find}
use Rattle.suite_prefix.specs.declared.copies.Replica.{Replica}
use Rattle.rep_core.specs.declared.lock.Lock.{Lock}
use Rattle.rep_core.specs.declared.request.Take.{Take}
use Rattle.rep_core.specs.declared.request.Take.TheVariants as take
use Rattle.rep_core.specs.declared.request.Part.{Part}
use Rattle.rep_core.specs.Locks.{has_prepared}
use Rattle.rep_core.specs.Store.{is_keep, left_by}
use Rattle.law_suite_machine.specs.Registers.{Change}
use Rattle.law_suite_machine.specs.Machine.{World, Answered}

-- the part of the suite
abbrev pub part_of : ℕ → List Part → Option Part
part_of suite parts = find (λ part. part.suite == suite) parts

-- what it leaves of the copy, if anything
abbrev pub left_of : Part → Replica → Option Replica
left_of part copy = if is_keep part.take then None else Some (left_by part.take copy)

-- a whole copy that is sent is what the transaction is to write
pub record IsWhole (whole : Replica) (new : Change) : Type 0 where
  pub prefix : whole.prefix ≡ new.prefix
  pub dver : whole.dver ≡ new.dver
  pub content : new.content ≡ Some whole.content

-- a take is of what the transaction is to write
abbrev pub GoesBy : Take → Change → Type 0
GoesBy take.Keep new = Unit {0}
GoesBy (take.Prefix prefix) new = prefix ≡ new.prefix
GoesBy (take.Whole whole) new = IsWhole whole new

-- the agent's side of a Prepare: it prepares at a server once, nothing once it was answered, and it sends what it has fixed
pub record SendsFixed (w : World) (locks : List Lock) (t : ℕ) (part : Part) : Type 0 where
  pub first : has_prepared t locks ≡ false
  pub unanswered : w.verdict t ≢ Some Answered
  pub fixed : is_keep part.take ≡ false → (new : Change) × (w.aim t ≡ Some new) × GoesBy part.take new

-- of the part of this suite, where there is one
abbrev pub Sends : World → List Lock → ℕ → ℕ → List Part → Type 0
Sends w locks t suite parts = (part : Part) → part_of suite parts ≡ Some part → SendsFixed w locks t part
