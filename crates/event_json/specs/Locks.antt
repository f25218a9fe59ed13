-- Locks as JSON has them.
use Rattle.std.specs.Prelude.{◌≡◌, ℕ, List, [], ◌∷◌, ◌++◌, codes}
use Rattle.rep_core.specs.declared.lock.Lock.{Lock}
use Rattle.suite_prefix.specs.declared.lock_mode.LockMode.{LockMode}
use Rattle.suite_prefix.specs.declared.lock_mode.LockMode.TheVariants.{Shared, Exclusive}
use Rattle.event_json.specs.Changes.{IsChange}
use Rattle.event_json.specs.Strings.{listed, member, truth}

-- the member of a mode
abbrev pub mode_text : LockMode → List ℕ
mode_text Shared = codes ",\"mode\":\"shared\""
mode_text Exclusive = codes ",\"mode\":\"exclusive\""

abbrev pub lock_text : Lock → List ℕ
lock_text lock =
    member (codes "{\"t\":") lock.t ++ member (codes ",\"suite\":") lock.suite ++ mode_text lock.mode
    ++ codes ",\"prepared\":" ++ truth lock.prepared ++ codes "}"

abbrev pub locks_text : List Lock → List ℕ
locks_text locks = codes "[" ++ listed lock_text locks ++ codes "]"

-- a lock that went, by its transaction and suite
abbrev pub gone_lock_text : Lock → List ℕ
gone_lock_text lock = member (codes "{\"t\":") lock.t ++ member (codes ",\"suite\":") lock.suite ++ codes "}"

-- the member of locks that went, where there are some
abbrev pub freed_text : List Lock → List ℕ
freed_text [] = []
freed_text (lock ∷ locks) = codes ",\"freed\":[" ++ listed gone_lock_text (lock ∷ locks) ++ codes "]"

-- and of those that came
abbrev pub came_text : List Lock → List ℕ
came_text [] = []
came_text (lock ∷ locks) = codes ",\"locks\":" ++ locks_text (lock ∷ locks)

-- What changed from one list of locks to the other is told: which went, and which came.
pub record TellsLockChange (old new : List Lock) (before after : List ℕ) : Type 0 where
  pub gone : List Lock
  pub came : List Lock
  pub change : IsChange old new gone came
  pub told : after ≡ before ++ freed_text gone ++ came_text came
