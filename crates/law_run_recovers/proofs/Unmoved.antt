-- How a transaction ends by what it demands decides whether it is decided; and where votes were never moved each prefix has the first ones.
use Rattle.law_run_recovers.proofs.Vocabulary.{◌≡◌, ℕ, Bool, true, false, List, [], ◌∷◌, ◌++◌, Result, refl, ap, ◌∙◌, ◌&&◌, map, Opening, Prefix, Answer, Refusal, row_of, Event, table_of, WasPrefix, arith, beginning, machine_of, CanBe, all_keep}
use Rattle.law_run_recovers.proofs.Vocabulary.{is_decided, Demand, all_met, first_short, HasFirstVotes, ending_of, ending_by}
use Rattle.law_suite_machine.proofs.Rows.{none_or_some}
use Rattle.law_one_table.proofs.Versions as versions

pub map_alike : {X Y : Type 0} (f g : X → Y) → ((x : X) → f x ≡ g x) → (xs : List X) → map f xs ≡ map g xs
map_alike f g same [] = refl
map_alike f g same (x ∷ xs) = ap (λ y. y ∷ map f xs) (same x) ∙ ap (λ ys. g x ∷ ys) (map_alike f g same xs)

pub decided_ending : (answer : Result (List Answer) Refusal) → is_decided (ending_of answer) ≡ true
decided_ending answer = search arith

-- it is decided where all is met and the home is up
pub decided_by : (all : List Demand) (up : Bool) (answer : Result (List Answer) Refusal) → is_decided (ending_by (first_short all) up answer) ≡ (all_met all && up)
decided_by [] true answer = decided_ending answer
decided_by [] false answer = refl
decided_by (one ∷ all) up answer = search (decided_by all up answer, arith)

-- each prefix that a suite had whose votes were never moved has the first votes
pub first_votes_at : (given : Opening) (events : List Event) → CanBe given events → (z : ℕ) → ((before later : List Event) → events ≡ before ++ later → HasFirstVotes given.c0 (row_of (table_of given before).rows z)) → (prefix : Prefix)
    → WasPrefix (beginning z given) (machine_of given z events).log prefix → prefix.votes ≡ given.c0
first_votes_at given events can z unmoved prefix was = search (versions.prefix_was given events (all_keep given events can) z prefix was, all_keep given events can, none_or_some prefix.pver, arith)
