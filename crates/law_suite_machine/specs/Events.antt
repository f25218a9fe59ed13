-- What happens to one suite, and what each event changes. When it may happen stands in `Conditions`.
use Rattle.std.specs.Prelude.{ℕ, Bool, true, false, ◌==◌, if◌then◌else◌, List, [], ◌∷◌, Option, Some, None}
use Rattle.suite_prefix.specs.declared.copies.Replica.{Replica}
use Rattle.law_suite_machine.specs.Registers.{Beginning, Known, Change, changed, Entry, Read, Wrote, row}
use Rattle.law_suite_machine.specs.Machine.{Hold, Intention, Verdict, Answered, Refused, Aborted, World, set1, set2}

pub data Event : Type 0 where
  Grant : (i t : ℕ) (exclusive : Bool) → Event  -- a lock is set
  Raise : (i t : ℕ) → Event  -- a lock becomes exclusive
  Hear : (i t : ℕ) (exclusive : Bool) → Event  -- a transaction is told, with Held, of the lock that it has, and of the copy there
  Aim : (t : ℕ) (new : Change) → Event  -- a transaction fixes what it is to write
  Prepare : (i t : ℕ) (left : Option Replica) → Event  -- Prepare is answered Prepared, and an intention kept or none
  DecideRead : (t : ℕ) (set : ℕ → Bool) (known : Known) → Event  -- answered; it only read the suite
  DecideRefused : (t : ℕ) (set : ℕ → Bool) (known : Known) → Event  -- refused, for what it read
  DecideWrite : (t : ℕ) (set : ℕ → Bool) (known : Known) (new : Change) → Event  -- answered; it wrote the suite
  DecideElsewhere : (t : ℕ) (verdict : Verdict) → Event  -- a verdict on a transaction that has not asked for the suite
  Overrule : (t : ℕ) → Event  -- Aborted is recorded
  GiveUp : (t : ℕ) → Event  -- a transaction ends for want of something
  Finish : (i t : ℕ) (verdict : Verdict) → Event
  Lose : (keep : ℕ → ℕ → Bool) → Event  -- locks break, or go in a crash; keep says which stay

-- ---- what each event changes

abbrev pub granted : World → ℕ → ℕ → Bool → World
granted w i t exclusive = record w { lock = set2 w.lock i t (Some (record { exclusive = exclusive; prepared = false })); granted = set2 w.granted i t true }

abbrev pub raised_hold : Option Hold → Option Hold
raised_hold None = None
raised_hold (Some hold) = Some (record { exclusive = true; prepared = hold.prepared })

abbrev pub raised : World → ℕ → ℕ → World
raised w i t = record w { lock = set2 w.lock i t (raised_hold (w.lock i t)) }

abbrev pub heard : World → ℕ → ℕ → Bool → World
heard w i t exclusive = record w { told = set2 w.told i t (Some (record { exclusive = exclusive; copy = w.copy i })) }

abbrev pub aimed : World → ℕ → Change → World
aimed w t new = record w { aim = set1 w.aim t (Some new) }

abbrev pub prepared_hold : Option Hold → Option Hold
prepared_hold None = None
prepared_hold (Some hold) = Some (record { exclusive = hold.exclusive; prepared = true })

abbrev pub intended : ℕ → Option Replica → Option Intention → Option Intention
intended t None old = old
intended t (Some copy) old = Some (record { t = t; copy = copy })

abbrev pub prepared : World → ℕ → ℕ → Option Replica → World
prepared w i t left = record w {
  lock = set2 w.lock i t (prepared_hold (w.lock i t));
  plan = set1 w.plan i (intended t left (w.plan i));
  ready = set2 w.ready i t (Some left);
}

-- a verdict is recorded
abbrev pub decided : World → ℕ → Verdict → List Entry → World
decided w t verdict log = record w { verdict = set1 w.verdict t (Some verdict); log = log }

abbrev pub given_up : World → ℕ → World
given_up w t = record w { gave_up = set1 w.gave_up t true }

-- an intention of the transaction becomes the copy where it was answered
abbrev pub copy_after : Verdict → ℕ → Option Intention → Replica → Replica
copy_after Answered t (Some plan) copy = if plan.t == t then plan.copy else copy
copy_after Answered t None copy = copy
copy_after Refused t plan copy = copy
copy_after Aborted t plan copy = copy

abbrev pub plan_after : ℕ → Option Intention → Option Intention
plan_after t None = None
plan_after t (Some plan) = if plan.t == t then None else Some plan

abbrev pub finished : World → ℕ → ℕ → Verdict → World
finished w i t verdict = record w {
  copy = set1 w.copy i (copy_after verdict t (w.plan i) (w.copy i));
  lock = set2 w.lock i t None;
  plan = set1 w.plan i (plan_after t (w.plan i));
}

abbrev pub kept : Bool → Option Hold → Option Hold
kept true hold = hold
kept false hold = None

abbrev pub lost : World → (ℕ → ℕ → Bool) → World
lost w keep = record w { lock = λ i t. kept (keep i t) (w.lock i t) }

abbrev pub happens : Beginning → World → Event → World
happens start w (Grant i t exclusive) = granted w i t exclusive
happens start w (Raise i t) = raised w i t
happens start w (Hear i t exclusive) = heard w i t exclusive
happens start w (Aim t new) = aimed w t new
happens start w (Prepare i t left) = prepared w i t left
happens start w (DecideRead t set known) = decided w t Answered (Read t known ∷ w.log)
happens start w (DecideRefused t set known) = decided w t Refused (Read t known ∷ w.log)
happens start w (DecideWrite t set known new) = decided w t Answered (Wrote t known (changed new (row start w.log)) ∷ w.log)
happens start w (DecideElsewhere t verdict) = decided w t verdict w.log
happens start w (Overrule t) = decided w t Aborted w.log
happens start w (GiveUp t) = given_up w t
happens start w (Finish i t verdict) = finished w i t verdict
happens start w (Lose keep) = lost w keep

abbrev pub run : Beginning → World → List Event → World
run start w [] = w
run start w (event ∷ later) = run start (happens start w event) later
