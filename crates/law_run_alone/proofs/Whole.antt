-- What holds of a run and of the machine of each suite, event by event, as long as there are events to come that there can be.
use Rattle.law_run_alone.proofs.Vocabulary.{inl, ℕ, List, [], ◌∷◌, ◌++◌, refl, sym, subst, AllByRecursion, IsValid, Opening, Agent, fixed_of, Event, step, after, run, row, beginning, machine_from, machine_of, Owed, AreOwed, arith, event_log}
use Rattle.law_run_alone.proofs.Vocabulary.{EventGivesValidVotes, CanBe, AllValid, ValidOr, event_valid, Together, opens, goes_on, HoldsItsKind, opens_kind, kind_after, agents_owe}
use Rattle.law_suite_machine.specs.Machine.{begun, World}
use Rattle.law_run_machine.proofs.Kept.{actor_opens}
use Rattle.law_run_machine.specs.Machines.{moved}
use Rattle.run_core.specs.Worlds as worlds
use Rattle.law_run_alone.proofs.Grown.{Grown, opens_grown, grown_after}

-- of one suite
pub record Whole (given : Opening) (z : ℕ) (w : World) (world : worlds.World) : Type 0 where
  pub together : Together given z w world
  pub kind : HoldsItsKind (row (beginning z given) w.log)
  pub grown : Grown z (beginning z given) w.log

whole_next : (given : Opening) → IsValid given.c0 → (z : ℕ) (w : World) (world : worlds.World) → Whole given z w world → AllValid (fixed_of given) world → (event : Event) → Owed given z w world
    → Whole given z (moved given z w world event) (step (fixed_of given) world event).world
whole_next given c0 z w world now all event owed = search (goes_on given z w world now.together event owed, event_log given z w world now.together.shows event, kind_after, grown_after, arith)

-- of all suites, each with its machine, where these events are to come
pub record Carried (given : Opening) (machines : ℕ → World) (world : worlds.World) (events : List Event) : Type 0 where
  pub whole : (z : ℕ) → Whole given z (machines z) world
  pub valid : AllValid (fixed_of given) world
  pub owes : (z : ℕ) → AreOwed given z (machines z) world events
  pub votes : AllByRecursion EventGivesValidVotes events

-- the machines after an event
abbrev pub next_machines : Opening → (ℕ → World) → worlds.World → Event → ℕ → World
next_machines given machines world event z = moved given z (machines z) world event

pub carried_next : (given : Opening) → IsValid given.c0 → (machines : ℕ → World) (world : worlds.World) (event : Event) (events : List Event) → Carried given machines world (event ∷ events)
    → Carried given (next_machines given machines world event) (step (fixed_of given) world event).world events
carried_next given c0 machines world event events now = search (whole_next, event_valid, arith)

opens_carried : (given : Opening) (events : List Event) → CanBe given events → Carried given (λ z. begun (beginning z given)) (worlds.opening given) events
opens_carried given events can = record {
  whole = search (opens, opens_kind, opens_grown, arith);
  valid = λ n actor there. subst (λ (agent : Agent). ValidOr (fixed_of given) agent) (sym (actor_opens 0 given.agents n actor there).1) (inl refl);
  owes = agents_owe given events can;
  votes = can.votes;
}

-- so it is after each run that goes on as it can, with the run's own machines
carried_at : (given : Opening) → IsValid given.c0 → (machines : ℕ → World) (world : worlds.World) (events later : List Event) → Carried given machines world (events ++ later)
    → Carried given (λ z. machine_from given z (machines z) world events) (after (fixed_of given) world events) later
carried_at given c0 machines world [] later now = now
carried_at given c0 machines world (event ∷ events) later now =
    carried_at given c0 (next_machines given machines world event) (step (fixed_of given) world event).world events later (carried_next given c0 machines world event (events ++ later) now)

pub carried_by : (given : Opening) (events later : List Event) → CanBe given (events ++ later) → Carried given (λ z. machine_of given z events) (run given events) later
carried_by given events later can = carried_at given can.c0 (λ z. begun (beginning z given)) (worlds.opening given) events later (opens_carried given (events ++ later) can)
