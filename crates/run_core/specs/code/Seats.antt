-- How the code keeps the agents of a world.
use Rattle.std.specs.Prelude.{◌≡◌, ℕ, zero, suc, ◌+◌, List, [], ◌∷◌, All, map, slice_set, Option, Some, None}
use Rattle.suite_prefix.specs.SettingsRules.{Opening}
use Rattle.rep_core.specs.State.{State}
use Rattle.txn_core.specs.declared.ending.Ending.{Ending}
use Rattle.txn_core.specs.declared.response.Response.{Response}
use Rattle.txn_core.specs.Doing.{Fixed}
use Rattle.txn_core.specs.Agents as agents
use Rattle.txn_core.specs.Agents.{Agent, fixed_of, next_of, take}
use Rattle.txn_core.specs.Standing.{FitsAsked}
use Rattle.run_core.specs.declared.done.EndedJob.{EndedJob}
use Rattle.run_core.specs.Worlds.{Actor, World, moved, one_more, outcome_of}

-- an agent in a world, with what never changes
pub record Seated : Type 0 where
  pub fixed : Fixed
  pub actor : Actor

abbrev pub opening : Opening → ℕ → Seated
opening given index = record { fixed = fixed_of given; actor = record { agent = agents.opening index; stamp = 0; steps = 0 } }

abbrev pub changed : Seated → Agent → Seated
changed seat agent = record seat { actor = record seat.actor { agent = agent } }

-- a response answers what was asked
abbrev pub Fits : Seated → Response → Type 0
Fits seat response = FitsAsked (next_of seat.fixed seat.actor.agent) response

-- it took a response, and has this stamp from then on
abbrev pub after_response : Seated → ℕ → Response → Seated
after_response seat stamp response = record seat { actor = moved seat.actor stamp (take seat.fixed seat.actor.agent response) }

-- how its job ends with a response, if it does
abbrev pub ending_by : ℕ → Seated → Response → Option EndedJob
ending_by number seat response = outcome_of number seat.actor (take seat.fixed seat.actor.agent response).ending

-- how a job ended that took so many steps before its last
abbrev pub ended_with : ℕ → ℕ → ℕ → Ending → EndedJob
ended_with number count steps ending = record { agent = number; count = count; steps = one_more steps; ending = ending }

-- ---- all agents of a world

abbrev pub seats_from : Opening → ℕ → ℕ → List Seated
seats_from given start zero = []
seats_from given start (suc count) = opening given start ∷ seats_from given (start + 1) count

abbrev pub actors_in : List Seated → List Actor
actors_in seats = map (λ (seat : Seated). seat.actor) seats

abbrev pub world_of : List State → List Seated → World
world_of servers seats = record { servers = servers; agents = actors_in seats }

-- they are all of one service
abbrev pub AreOf : Fixed → List Seated → Type 0
AreOf fixed seats = All (λ (seat : Seated). seat.fixed ≡ fixed) seats

-- the one that was found at a place became another, if one was found
abbrev pub Becomes : Option Seated → (Seated → Seated) → ℕ → List Seated → List Seated → Type 0
Becomes (Some seat) change place seats seats' = seats' ≡ slice_set seats place (change seat)
Becomes None change place seats seats' = seats' ≡ seats
