-- Events that give no votes of their own give valid ones.
use Rattle.law_run_recovers.proofs.Vocabulary.{◌≡◌, Bool, true, false, List, [], ◌∷◌, Some, None, AllByRecursion, list_all, and_parts, Op, Transaction, Event, Begin, GivesValidVotes, EventGivesValidVotes, arith}
use Rattle.file_ops.specs.declared.operation.Action.{Action}
use Rattle.file_ops.specs.declared.operation.Action.TheVariants as action

abbrev sets_none : Action → Bool
sets_none (action.Make kind init None) = true
sets_none (action.Make kind init (Some votes)) = false
sets_none (action.SetVotes votes) = false
sets_none _ = true

valid_action : (one : Action) → sets_none one ≡ true → GivesValidVotes one
valid_action one h1 = search arith

pub all_by : {X : Type 0} (P : X → Type 0) (p : X → Bool) → ((x : X) → p x ≡ true → P x) → (xs : List X) → list_all p xs ≡ true → AllByRecursion P xs
all_by P p each [] is = tt
all_by P p each (x ∷ xs) is = let parts = and_parts (p x) (list_all p xs) is in (each x parts.0, all_by P p each xs parts.1)

abbrev pub event_sets_none : Event → Bool
event_sets_none (Begin number (Transaction caller site ops)) = list_all (λ (op : Op). sets_none op.action) ops
event_sets_none _ = true

pub valid_event : (event : Event) → event_sets_none event ≡ true → EventGivesValidVotes event
valid_event event h1 = search (all_by, valid_action, arith)
