-- A world has as many servers and agents as it opened with.
use Rattle.law_runs.proofs.Vocabulary.{◌≡◌, ℕ, zero, suc, ◌+◌, List, [], ◌∷◌, length, refl, ap, ◌∙◌, Opening, Fixed, Event, arith}
use Rattle.law_runs.proofs.Vocabulary.{after, run, World, actors_from, servers_from, step}
use Rattle.std.proofs.lemmas.List.{length-set}
use Rattle.law_runs.proofs.Moves.{by_moves}

-- as many of both
abbrev AsMany : World → World → Type 0
AsMany world new = (length new.servers ≡ length world.servers) × (length new.agents ≡ length world.agents)

many_after : (fixed : Fixed) (world : World) (event : Event) → AsMany world (step fixed world event).world
many_after fixed world = by_moves fixed world (λ _ stepped. AsMany world stepped.world) (record {
  nothing = λ _. (refl, refl);
  begins = λ number actor job is. (refl, length-set _ _ _);
  forgets = λ number actor site is. (refl, length-set _ _ _);
  answers = λ number actor asked st is next there room. (length-set _ _ _, length-set _ _ _);
  lacks = λ event number actor asked why by is next. (refl, length-set _ _ _);
  operates = λ event server asked st is there room. (length-set _ _ _, refl);
})

many_in_all : (fixed : Fixed) (world : World) (events : List Event) → AsMany world (after fixed world events)
many_in_all fixed world [] = (refl, refl)
many_in_all fixed world (event ∷ events) =
    let here = many_after fixed world event in
    let later = many_in_all fixed (step fixed world event).world events in
    (later.0 ∙ here.0, later.1 ∙ here.1)

so_many_servers : (given : Opening) (start count : ℕ) → length (servers_from given start count) ≡ count
so_many_servers given start zero = refl
so_many_servers given start (suc count) = ap suc (so_many_servers given (start + 1) count)

so_many_actors : (start count : ℕ) → length (actors_from start count) ≡ count
so_many_actors start zero = refl
so_many_actors start (suc count) = ap suc (so_many_actors (start + 1) count)

pub so_many : (given : Opening) (events : List Event) → (length (run given events).servers ≡ given.servers) × (length (run given events).agents ≡ given.agents)
so_many given events = search (many_in_all, so_many_servers, so_many_actors, arith)
