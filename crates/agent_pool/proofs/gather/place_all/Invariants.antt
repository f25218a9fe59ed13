use Rattle.agent_pool.proofs.Vocabulary.{◌≡◌, ◌+◌, ◌++◌, ℕ, List, drop, length, Contains, Played, AllDone, RiseBetween, RiseInPlace, AreBelow, AreInOrderIn}
use Rattle.agent_pool.proofs.Vocabulary.{KeepFilled, filled_in, AreSeen, places_by}
use Rattle.std.proofs.Common.{take}
use Rattle.agent_pool.specs.Transcripts.{begins}
use Rattle.agent_pool.specs.Pools.{IsOf}
use Rattle.agent_pool.proofs.Apart.{At}
use Rattle.agent_pool.proofs.gather.place_all.Given as goal

abbrev pub invariant-loop-one : goal.invariant-loop-one
invariant-loop-one l =
    ((was players : List Played) (before player : Played) → IsOf was players l.agent before player → AllDone l.jobs (begins before.entries) player l.done
    → KeepFilled l.jobs was players l.fn.slots l.slots)
    × ((numbers : List ℕ) (low high floor roof : ℕ) → ¬ (Contains numbers l.agent) → RiseBetween low l.done high → RiseInPlace floor l.done roof → AreInOrderIn l.fn.slots
    → AreBelow numbers l.agent low floor l.fn.slots → At l.agent numbers high roof (drop l.one-index l.done) l.slots)
    × (filled_in l.slots ≡ filled_in l.fn.slots + l.one-index)
    × (length l.slots ≡ length l.fn.slots)
    × ((seen : List ℕ) → AreSeen seen l.fn.slots → AreSeen (seen ++ places_by (take l.one-index l.done)) l.slots)
