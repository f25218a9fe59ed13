-- Locks are shared or exclusive.
use Rattle.std.specs.Prelude.{Bool, true, false, ◌||◌, not}
use Rattle.suite_prefix.specs.declared.lock_mode.LockMode.{LockMode}
use Rattle.suite_prefix.specs.declared.lock_mode.LockMode.TheVariants.{Shared, Exclusive}

abbrev pub is_exclusive : LockMode → Bool
is_exclusive Shared = false
is_exclusive Exclusive = true

-- a lock in the first mode serves where one in the second is wanted
abbrev pub serves : LockMode → LockMode → Bool
serves have want = is_exclusive have || not (is_exclusive want)

abbrev pub stronger : LockMode → LockMode → LockMode
stronger Shared want = want
stronger Exclusive want = Exclusive
