-- The places of jobs, by their two columns.
use Rattle.std.specs.Prelude.{Bool, true, false, List, [], ◌∷◌, Option, Some, None}
use Rattle.agent_pool.specs.declared.outcome.JobOutcome.{JobOutcome}

abbrev pub slot_of : Bool → JobOutcome → Option JobOutcome
slot_of true outcome = Some outcome
slot_of false outcome = None

-- the outcome of each place where one was put
abbrev pub slots_of : List JobOutcome → List Bool → List (Option JobOutcome)
slots_of [] filled = []
slots_of (outcome ∷ outcomes) [] = []
slots_of (outcome ∷ outcomes) (there ∷ filled) = slot_of there outcome ∷ slots_of outcomes filled
