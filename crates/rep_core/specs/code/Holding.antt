-- What the parts of a server show of themselves inside the crate: what they hold, and how much more of it they take without memory.
use Rattle.std.specs.Prelude.{ℕ, List}
use Rattle.rep_core.specs.declared.lock.Lock.{Lock}
use Rattle.rep_core.specs.Store.{Store}
use Rattle.rep_core.specs.declared.reply.Verdict.{Verdict}
use Rattle.sorted_map.specs.Roomy.{Roomy}
use Rattle.rep_core.specs.code.ByAgent.{merged, rooms_of}

-- locks, and how many new ones there is room for
pub record Locking : Type 0 where
  pub locks : List Lock
  pub room : ℕ

-- a store, how many intentions there is room for, and for the copies that they will be
pub record Storing : Type 0 where
  pub store : Store
  pub room : ℕ

-- verdicts in the order of their transactions, and for how many new ones of each agent there is room
pub record Recording : Type 0 where
  pub pairs : List (ℕ × Verdict)
  pub rooms : List ℕ

abbrev pub recording_of : List (Roomy ℕ Verdict) → Recording
recording_of maps = record { pairs = merged maps; rooms = rooms_of maps }
