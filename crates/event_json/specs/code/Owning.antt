-- Copies as servers keep them.
use Rattle.std.specs.Prelude.{ℕ, ◌==◌, ◌&&◌, if◌then◌else◌, List, [], ◌∷◌, ◌++◌, codes, Option, None}
use Rattle.std.specs.List.{find}
use Rattle.suite_prefix.specs.LockModes.{is_exclusive}
use Rattle.suite_prefix.specs.Stored.{Kept}
use Rattle.rep_core.specs.declared.lock.Lock.{Lock}
use Rattle.event_json.specs.Copies.{copy_text}

-- a copy of a suite, in whatever form it is kept
abbrev pub kept_text : ℕ × Kept → List ℕ
kept_text own = copy_text own.0 own.1.copy

-- the copy of the suite of a lock, where that is one of this transaction to write
abbrev pub kept_by : ℕ → List (ℕ × Kept) → Lock → Option (ℕ × Kept)
kept_by t copies lock = if (lock.t == t) && is_exclusive lock.mode then find (λ own. own.0 == lock.suite) copies else None

-- copies, with this before the first and a comma before each other
abbrev pub parted_by : List ℕ → List (ℕ × Kept) → List ℕ
parted_by between [] = []
parted_by between (own ∷ more) = between ++ kept_text own ++ parted_by (codes ",") more
