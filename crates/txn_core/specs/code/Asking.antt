-- Of which server a call asks what, and where it may run out of memory for that.
use Rattle.std.specs.Prelude.{◌≡◌, ℕ, IsTrue, option_map, Option}
use Rattle.file_ops.specs.declared.service.Service.{Service}
use Rattle.rep_core.specs.declared.request.Request.{Request}
use Rattle.weak_cache.specs.Cache.{Limits}
use Rattle.txn_core.specs.Doing.{Fixed, Phase, TransactionRun}
use Rattle.txn_core.specs.Transactions.{request_in}
use Rattle.txn_core.specs.Wanting.{by_asking}

-- what is put into a place, and of which server it is asked
abbrev pub asked_as : Option ℕ → Request → Option (ℕ × Request)
asked_as server request = option_map (λ server. (server, request)) server

abbrev pub fixed_on : Service → Limits → Fixed
fixed_on service limits = record { service = service; limits = limits }

-- so it is asked in a service, whatever a cache may keep
abbrev pub Asks : (Fixed → Option (ℕ × Request)) → Service → Option ℕ → Request → Type 0
Asks asked service server request = (limits : Limits) → asked_as server request ≡ asked (fixed_on service limits)

abbrev pub Wants : (Fixed → Option (ℕ × Request)) → Service → Type 0
Wants asked service = (limits : Limits) → IsTrue (by_asking (asked (fixed_on service limits)))

-- so a transaction's run asks in a phase, in whatever service
abbrev pub asked_in : Phase → TransactionRun → Fixed → Option (ℕ × Request)
asked_in phase txn_run fixed = request_in fixed txn_run.task txn_run.suites phase

abbrev pub AsksIn : Phase → TransactionRun → Option ℕ → Request → Type 0
AsksIn phase txn_run server request = (fixed : Fixed) → asked_as server request ≡ asked_in phase txn_run fixed

abbrev pub WantsIn : Phase → TransactionRun → Type 0
WantsIn phase txn_run = (fixed : Fixed) → IsTrue (by_asking (asked_in phase txn_run fixed))
