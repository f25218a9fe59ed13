-- A transaction that is told as at its begin, though a lock came in its way and went, by computation. And all runs that the laws are about.
use Rattle.law_run_recovers.proofs.Vocabulary.{◌≡◌, ℕ, Bool, true, false, [], ◌∷◌, ◌++◌, Option, Some, None, refl, sym, ap, ◌∙◌, ◌==◌, ◌&&◌, ◌||◌, not, and_parts, eqb-true, eq-eqb, Opening, LockMode, Exclusive, Request, State, copy_of, Transaction}
use Rattle.law_run_recovers.proofs.Vocabulary.{fixed_of, next_of, owner, a, Event, Begin, Step, Actor, World, server_at, actor_at, run, way_at, is_up, is_running, is_telling, hinders_itself, robs, bereaves, begun_world, world_after, puts, not-true}
use Rattle.law_run_recovers.proofs.Vocabulary.{one_server, both_made, shows_same, SameWay, told_as_first, AsAtItsBegin, ToldAsAtItsBegin}
use Rattle.suite_prefix.specs.code.Equality.{same_prefix, same_prefix_decides}
use Rattle.law_run_recovers.specs.LawsWorked.{read_between, IsToldAsAtItsBegin, SomeRunsShowTheLaws}
use Rattle.rep_core.specs.declared.request.Request.TheVariants as request
use Rattle.law_run_recovers.proofs.ToldLaws.{told_end_by_votes}
use Rattle.law_run_recovers.proofs.LawsWorked.{happens_at, unless, same_bool, same_is, same_way, way_is, one_can, its_actor, goes_by_itself, met_by_nobody, among_locks, doubts_left}

-- ---- what it is told at a moment

abbrev same_shown : Option State → Option State → ℕ → Bool
same_shown (Some st) (Some old) suite = same_prefix (copy_of st.store suite).prefix (copy_of old.store suite).prefix && ((copy_of st.store suite).dver == (copy_of old.store suite).dver)
same_shown (Some st) None suite = true
same_shown None was suite = true

shown_is : (found was : Option State) (suite : ℕ) → same_shown found was suite ≡ true → shows_same found was suite
shown_is (Some st) (Some old) suite is =
    let one = (copy_of st.store suite).prefix in
    let other = (copy_of old.store suite).prefix in
    let parts = and_parts (same_prefix one other) ((copy_of st.store suite).dver == (copy_of old.store suite).dver) is in
    ((same_prefix_decides one other).0 parts.0, eqb-true (copy_of st.store suite).dver (copy_of old.store suite).dver parts.1)
shown_is (Some st) None suite is = tt
shown_is None was suite is = tt

module _ (given : Opening) (first : World) (agent t : ℕ) where
  abbrev lock_so : World → ℕ → ℕ → ℕ → LockMode → Bool
  lock_so w server u suite mode = same_way (way_at w u suite mode server) (way_at first u suite mode server) && same_shown (server_at w server) (server_at first server) suite

  lock_is : (w : World) (server u suite : ℕ) (mode : LockMode) → lock_so w server u suite mode ≡ true → SameWay first w server u suite mode
  lock_is w server u suite mode is =
      let parts = and_parts (same_way (way_at w u suite mode server) (way_at first u suite mode server)) (same_shown (server_at w server) (server_at first server) suite) is in
      record { way = way_is (way_at w u suite mode server) (way_at first u suite mode server) parts.0; shown = λ open'. shown_is (server_at w server) (server_at first server) suite parts.1 }

  abbrev told_so : World → ℕ → Request → Bool
  told_so w server (request.Poll u suite mode) = lock_so w server u suite mode
  told_so w server (request.Upgrade u suite) = lock_so w server u suite Exclusive
  told_so w server other = true

  told_is : (w : World) (server : ℕ) (asked : Request) → told_so w server asked ≡ true → told_as_first first w server asked
  told_is w server (request.Poll u suite mode) is = lock_is w server u suite mode is
  told_is w server (request.Upgrade u suite) is = lock_is w server u suite Exclusive is
  told_is w server other is = tt

  abbrev asks_then : Option Actor → Option (ℕ × Request)
  asks_then (Some actor) = next_of (fixed_of given) actor.agent
  asks_then None = None

  abbrev as_first : World → Option (ℕ × Request) → Bool
  as_first w (Some asked) = same_bool (is_up w asked.0) (is_up first asked.0) && told_so w asked.0 asked.1
  as_first w None = true

  -- its end is not fixed, and it takes this step
  abbrev works : World → Bool
  works w = is_running w agent t && not (is_telling w agent)

  abbrev step_so : World → Event → Bool
  step_so w (Step i) = not ((i == agent) && works w) || as_first w (asks_then (actor_at w agent))
  step_so w other = true

  abbrev free_so : World → Event → Bool
  free_so w event = not (works w) || not (hinders_itself given agent w event || (robs given agent t w event || bereaves given agent t w event))

  abbrev happens : World → Event → Bool
  happens w event = step_so w event && free_so w event

  at_work : (w : World) → is_running w agent t ≡ true → is_telling w agent ≡ false → works w ≡ true
  at_work w running untold = ap (λ b. b && not (is_telling w agent)) running ∙ ap not untold

  as_it_began : (w : World) (here : Actor) (asked : ℕ × Request) → happens w (Step agent) ≡ true → is_running w agent t ≡ true → is_telling w agent ≡ false → actor_at w agent ≡ Some here → next_of (fixed_of given) here.agent ≡ Some asked
      → AsAtItsBegin first w asked.0 asked.1
  as_it_began w here asked all running untold there next =
      let so = (and_parts (step_so w (Step agent)) (free_so w (Step agent)) all).0 in
      let its = unless ((agent == agent) && works w) (as_first w (asks_then (actor_at w agent))) so (ap (λ b. b && works w) (eq-eqb agent agent refl) ∙ at_work w running untold) in
      let parts = and_parts (same_bool (is_up w asked.0) (is_up first asked.0)) (told_so w asked.0 asked.1) (ap (as_first w) (sym (ap asks_then there ∙ next)) ∙ its) in
      record { up = same_is (is_up w asked.0) (is_up first asked.0) parts.0; told = told_is w asked.0 asked.1 parts.1 }

  free_hand : (w : World) (event : Event) → happens w event ≡ true → is_running w agent t ≡ true → is_telling w agent ≡ false
      → (hinders_itself given agent w event || (robs given agent t w event || bereaves given agent t w event)) ≡ false
  free_hand w event all running untold =
      not-true (hinders_itself given agent w event || (robs given agent t w event || bereaves given agent t w event))
      (unless (works w) (not (hinders_itself given agent w event || (robs given agent t w event || bereaves given agent t w event))) (and_parts (step_so w event) (free_so w event) all).1 (at_work w running untold))

-- ---- the run

abbrev first : World
first = run one_server both_made

abbrev begun : World
begun = begun_world one_server both_made 0 owner 0 (puts a 0 ∷ [])

goes : ToldAsAtItsBegin one_server both_made read_between 0 64 owner 0 (puts a 0 ∷ []) (its_actor both_made refl).0
goes = record {
  can = one_can (both_made ++ Begin 0 (Transaction owner 0 (puts a 0 ∷ [])) ∷ read_between) refl;
  there = (its_actor both_made refl).1;
  begins = refl;
  same = λ so_far rest here asked split running untold there next.
      as_it_began one_server first 0 64 (world_after one_server both_made 0 owner 0 (puts a 0 ∷ []) so_far) here asked
      (happens_at (λ w. true) (happens one_server first 0 64) (fixed_of one_server) read_between so_far rest (Step 0) begun refl split) running untold there next;
  free_hand = λ so_far rest event split running untold.
      free_hand one_server first 0 64 (world_after one_server both_made 0 owner 0 (puts a 0 ∷ []) so_far) event
      (happens_at (λ w. true) (happens one_server first 0 64) (fixed_of one_server) read_between so_far rest event begun refl split) running untold;
}

told_as_begun : IsToldAsAtItsBegin
told_as_begun = record {
  actor = (its_actor both_made refl).0;
  goes = goes;
  was_in_its_way = refl;
  ends = refl;
  so = told_end_by_votes one_server both_made read_between 0 64 owner 0 (puts a 0 ∷ []) (its_actor both_made refl).0 goes;
}

pub some_runs_show_the_laws : SomeRunsShowTheLaws
some_runs_show_the_laws = record { alone = goes_by_itself; unmet = met_by_nobody; among = among_locks; told = told_as_begun; doubts = doubts_left }
