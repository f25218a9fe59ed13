-- The fields of `TransactionRun` as contracts see them.
use Rattle.std.specs.Prelude.{ℕ, List, [], ◌∷◌, drop}
use Rattle.txn_core.specs.declared.phase.Phase.{Phase as Coded}
use Rattle.txn_core.specs.declared.phase.Phase.TheVariants as coded
use Rattle.txn_core.specs.declared.transaction_run.TransactionRun.TheInside.{Inside}
use Rattle.txn_core.specs.Doing.{Proposal, Phase, Gathering, Fetching, Widening, Preparing, Deciding, Finishing, TransactionRun}
use Rattle.txn_core.specs.Transactions.{to_widen}

-- an outcome that these servers prepare, and then the home decides
abbrev pub proposing : List ℕ → Proposal → Phase
proposing [] outcome = Deciding outcome
proposing (server ∷ left) outcome = Preparing (server ∷ left) outcome

-- the suites that are widened after the first stand in the changes, from a place on; the servers that are told the end after the first are those left
abbrev pub phase_of : Coded → Phase
phase_of (coded.Gathering number) = Gathering number
phase_of (coded.Fetching number) = Fetching number
phase_of (coded.Widening number after granted) = Widening (number ∷ to_widen (drop after granted.changes)) granted
phase_of (coded.Proposing servers outcome) = proposing servers outcome
phase_of (coded.Finishing server left verdict ending) = Finishing (server ∷ left) verdict ending

abbrev pub course_of : Inside → TransactionRun
course_of fields = record { task = fields.task; suites = fields.suites.pairs; phase = phase_of fields.phase }
