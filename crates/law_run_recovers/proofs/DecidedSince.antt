-- A transaction was not decided before it began, nor as it did.
use Rattle.law_run_recovers.proofs.Vocabulary.{◌≡◌, ℕ, ◌+◌, ◌*◌, ◌≤◌, List, [], ◌∷◌, ◌++◌, append-nil, Some, sym, ap, subst, ◌∙◌, arith, Identity, Opening, Op, Transaction, fixed_of, Event, Begin, Actor, actor_at, step, run, Decided, decisions}
use Rattle.law_run_recovers.proofs.Vocabulary.{decisions_from, decisions_from-append, has_append, append_has_right, holds_of, Has, agent_of, agent_at, no_task, CanBe}
use Rattle.law_runs.proofs.Agents.{not_begun}

-- it was not decided before, nor as it began
module _ (given : Opening) (events later : List Event) (agent t : ℕ) (caller : Identity) (site : ℕ) (ops : List Op) (actor : Actor) (can : CanBe given (events ++ Begin agent (Transaction caller site ops) ∷ later))
    (there : actor_at (run given events) agent ≡ Some actor) (number : 64 * actor.agent.count + agent ≡ t) where
  -- none of its number stood there as it began
  pub not_before : (one : Decided) → Has (decisions given events) one → one.t ≡ t → ⊥
  not_before one before of_it =
      not_begun (agent_at (run given events)) (decisions given events) agent actor.agent (holds_of given can.accepted events).agents (ap agent_of there) actor.agent.count (self actor.agent.count) one before (of_it ∙ sym number)
    where
      self : (n : ℕ) → n ≤ n
      self n = omega arith

  abbrev since : List Decided
  since = decisions_from (fixed_of given) (step (fixed_of given) (run given events) (Begin agent (Transaction caller site ops))).world later

  parts : decisions given (events ++ Begin agent (Transaction caller site ops) ∷ later) ≡ decisions given events ++ since
  parts = search (decisions_from-append, no_task, arith)

  -- one of those since stands among all
  pub has_since : (one : Decided) → Has (decisions_from (fixed_of given) (step (fixed_of given) (run given events) (Begin agent (Transaction caller site ops))).world later) one
      → Has (decisions given (events ++ Begin agent (Transaction caller site ops) ∷ later)) one
  has_since one has = subst (λ ds. Has ds one) (sym parts) (append_has_right (decisions given events) since one has)

  -- each that is of it stands among those since
  pub stood_since : (one : Decided) → Has (decisions given (events ++ Begin agent (Transaction caller site ops) ∷ later)) one → one.t ≡ t
      → Has (decisions_from (fixed_of given) (step (fixed_of given) (run given events) (Begin agent (Transaction caller site ops))).world later) one
  stood_since one has of_it = search (not_before, has_append, parts, arith)

  -- where none stands among those since, they are as they were
  pub none_since : decisions_from (fixed_of given) (step (fixed_of given) (run given events) (Begin agent (Transaction caller site ops))).world later ≡ []
      → decisions given (events ++ Begin agent (Transaction caller site ops) ∷ later) ≡ decisions given events
  none_since none = parts ∙ ap (λ more. decisions given events ++ more) none ∙ append-nil (decisions given events)
