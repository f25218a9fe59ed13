-- In whose name a request is made.
use Rattle.std.specs.Prelude.{ℕ, ◌==◌, Bool, true, false}
use Rattle.rep_core.specs.declared.request.Request.{Request}
use Rattle.rep_core.specs.declared.request.Request.TheVariants as request

-- whether a request names a transaction
abbrev pub names : ℕ → Request → Bool
names t (request.Poll named suite mode) = named == t
names t (request.Upgrade named suite) = named == t
names t (request.Fetch named suite) = named == t
names t (request.Prepare named parts) = named == t
names t (request.Decide named decision) = named == t
names t (request.Resolve named) = named == t
names t (request.Finish named verdict) = named == t
names t (request.Break named suite) = named == t
names t _ = false

-- whether a sweep may ask it, in the name of others' transactions: for locks, and how one ended, and to end it
abbrev pub may_sweep : Request → Bool
may_sweep request.Locks = true
may_sweep (request.Resolve named) = true
may_sweep (request.Finish named verdict) = true
may_sweep (request.Break named suite) = true
may_sweep _ = false
