-- What a transaction that nobody robs finds at each moment at which it is at work: no server has it recorded, its locks are there, and what it knows is so on the table of that moment.
use Rattle.law_run_recovers.proofs.Vocabulary.{◌≡◌, ℕ, List, [], ◌∷◌, ◌++◌, append_assoc, Some, None, sym, ap, subst, ◌∙◌, true, false, ◌||◌, Identity, Opening, Op, Request, State, record_of, Transaction, arith, TransactionRun, Running, fixed_of}
use Rattle.law_run_recovers.proofs.Vocabulary.{next_of, stands_on_locks, Event, Begin, Actor, World, server_at, actor_at, run, machine_of, CanBe, begins_job, no_record, Finds, HasSome, finds, stands_where, Stands, Carried, carried_by, world_after}
use Rattle.law_run_recovers.proofs.Vocabulary.{robs, hinders_itself, bereaves}
use Rattle.law_run_alone.proofs.Holding.{PhaseStands, doing_any}
use Rattle.law_run_recovers.proofs.AtWork.{locks_stand}
use Rattle.law_run_recovers.proofs.Keeps.{IsAtWork, after_append, run_at, at_work_before}
use Rattle.law_run_recovers.proofs.Open.{begun_servers}
use Rattle.law_run_recovers.proofs.Unfixed.{unrecorded_next}
use Rattle.law_run_recovers.proofs.Picks.{along}

module _ (given : Opening) (events later : List Event) (agent t : ℕ) (caller : Identity) (site : ℕ) (ops : List Op) (actor : Actor)
    (can : CanBe given (events ++ Begin agent (Transaction caller site ops) ∷ later)) (there : actor_at (run given events) agent ≡ Some actor)
    (begins_so : begins_job given (run given events) (Begin agent (Transaction caller site ops)) ≡ Some (t, Transaction caller site ops))
    (spares : (so_far rest : List Event) (event : Event) → later ≡ so_far ++ event ∷ rest → IsAtWork (world_after given events agent caller site ops so_far) agent t →
    let w = world_after given events agent caller site ops so_far in (hinders_itself given agent w event || (robs given agent t w event || bereaves given agent t w event)) ≡ false) where
  abbrev world_at : List Event → World
  world_at so_far = world_after given events agent caller site ops so_far

  abbrev so_all : List Event → List Event
  so_all so_far = events ++ Begin agent (Transaction caller site ops) ∷ so_far

  is_run : (so_far : List Event) → world_at so_far ≡ run given (so_all so_far)
  is_run = run_at given events later agent t caller site ops actor can there begins_so

  abbrev Unrecorded : World → Type 0
  Unrecorded w = (i : ℕ) (st : State) → server_at w i ≡ Some st → record_of st t ≡ None

  unrecorded_first : Unrecorded (world_at [])
  unrecorded_first i st at = search (no_record, begun_servers, arith)

  work_before : (so_far more : List Event) → IsAtWork (world_at (so_far ++ more)) agent t → IsAtWork (world_at so_far) agent t
  work_before = at_work_before given events later agent t caller site ops actor can there begins_so

  unrecorded_then : (so_far rest : List Event) (event : Event) → later ≡ so_far ++ event ∷ rest → IsAtWork (world_at (so_far ++ event ∷ [])) agent t → Unrecorded (world_at so_far) → Unrecorded (world_at (so_far ++ event ∷ []))
  unrecorded_then so_far rest event is at none = search (is_run, work_before, after_append, unrecorded_next, arith)

  -- no server has it recorded
  pub unrecorded_at : (so_far rest : List Event) → later ≡ so_far ++ rest → IsAtWork (world_at so_far) agent t → Unrecorded (world_at so_far)
  unrecorded_at = along later (λ so_far. IsAtWork (world_at so_far) agent t → Unrecorded (world_at so_far))
      (λ so_far rest event is none at. unrecorded_then so_far rest event is at (none (work_before so_far (event ∷ []) at))) (λ at. unrecorded_first)

  -- and what its requests stand on is there
  module _ (so_far rest : List Event) (is : later ≡ so_far ++ rest) (at : IsAtWork (world_at so_far) agent t) (here : Actor) (txn_run : TransactionRun)
      (there' : actor_at (world_at so_far) agent ≡ Some here) (running : here.agent.doing ≡ Some (Running txn_run))
      (number : txn_run.task.t ≡ t) (asked : ℕ × Request) (next : next_of (fixed_of given) here.agent ≡ Some asked) (st : State) (found : server_at (world_at so_far) asked.0 ≡ Some st) where
    carried : Carried given (λ z. machine_of given z (so_all so_far)) (world_at so_far) rest
    carried =
        subst (λ w. Carried given (λ z. machine_of given z (so_all so_far)) w rest) (sym (is_run so_far))
        (carried_by given (so_all so_far) rest (subst (CanBe given) (ap (λ later. events ++ Begin agent (Transaction caller site ops) ∷ later) is ∙ sym (append_assoc events (Begin agent (Transaction caller site ops) ∷ so_far) rest)) can))

    any_phase : (z : ℕ) → PhaseStands (machine_of given z (so_all so_far)) txn_run.task.t txn_run.phase
    any_phase z =
        doing_any (machine_of given z (so_all so_far)) txn_run.task.t (Some (Running txn_run))
        (subst (Stands (machine_of given z (so_all so_far))) (sym number) (locks_stand given events later agent t caller site ops actor can there begins_so spares so_far rest is at z))

    pub finds_then : Finds st asked.1
    finds_then = finds given can.c0 (world_at so_far) rest (λ z. machine_of given z (so_all so_far)) carried agent here txn_run there' running any_phase asked next st found

    -- a lock, where its request stands on one
    pub stands_then : stands_on_locks asked.1 ≡ true → HasSome txn_run.task.t st
    stands_then on = stands_where given can.c0 (world_at so_far) rest (λ z. machine_of given z (so_all so_far)) carried agent here txn_run there' running any_phase asked next on st found
