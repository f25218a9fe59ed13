-- One event more of those that are played.
use Rattle.run_core.proofs.Vocabulary.{◌≡◌, ℕ, ◌+◌, ◌<◌, length, take, get_or, List, [], ◌∷◌, ◌++◌, Option, ap, ◌∙◌, cons_option, take_more, Opening, Fixed, fixed_of, Event, EndedJob, World, step, after, dones, outcomes, arith}
use Rattle.run_core.proofs.Appending.{after-append, dones-append, outcomes-append}

pub after_more : (fixed : Fixed) (world : World) (events : List Event) (i : ℕ) (d : Event) → i < length events
    → after fixed world (take (i + 1) events) ≡ (step fixed (after fixed world (take i events)) (get_or events i d)).world
after_more fixed world events i d within = ap (after fixed world) (take_more events i d within) ∙ after-append fixed world (take i events) (get_or events i d ∷ [])

pub outcomes_more : (fixed : Fixed) (world : World) (events : List Event) (i : ℕ) (d : Event) → i < length events
    → outcomes (dones fixed world (take (i + 1) events)) ≡ outcomes (dones fixed world (take i events)) ++ cons_option (step fixed (after fixed world (take i events)) (get_or events i d)).done.outcome []
outcomes_more fixed world events i d within = search (take_more events i d within, dones-append fixed world (take i events) (get_or events i d ∷ []), outcomes-append, arith)

-- the same, of what the code was told of an event
pub world_played : (given given' : Opening) (world world' world'' : World) (events : List Event) (i played : ℕ) (event : Event)
    → i < length events → given' ≡ given → played ≡ i → world' ≡ after (fixed_of given) world (take i events) → event ≡ get_or events i event
    → world'' ≡ (step (fixed_of given') world' event).world
    → world'' ≡ after (fixed_of given) world (take (played + 1) events)
world_played given given' world world' world'' events i played event within given'_is played_is world'_is event_is stepped = search (after_more, arith)

pub outcomes_played : (given given' : Opening) (world world' : World) (events : List Event) (i : ℕ) (event : Event) (outcome : Option EndedJob) (kept kept' : List EndedJob)
    → i < length events → given' ≡ given → world' ≡ after (fixed_of given) world (take i events) → event ≡ get_or events i event
    → outcome ≡ (step (fixed_of given') world' event).done.outcome
    → kept ≡ outcomes (dones (fixed_of given) world (take i events)) → kept' ≡ kept ++ cons_option outcome []
    → kept' ≡ outcomes (dones (fixed_of given) world (take (i + 1) events))
outcomes_played given given' world world' events i event outcome kept kept' within given'_is world'_is event_is stepped kept_is kept'_is = search (outcomes_more, arith)
