-- A transaction that is at work was not decided, nor is it where it asks for a lock.
use Rattle.law_run_recovers.proofs.Vocabulary.{List, Option, Some, ap, false, sym, true, ℕ, ◌++◌, ◌∙◌, ◌∷◌, ◌≡◌, Identity, Op, CanBe, begins_job, IsAt, holds_of, agent_of, Has, Verdict, Request, Decided, arith, decisions, run, Actor, actor_at, Event}
use Rattle.law_run_recovers.proofs.Vocabulary.{Begin, Opening, Doing, Phase, is_decide, Transaction, runs, world_after, Tells}
use Rattle.rep_core.specs.declared.reply.Verdict.TheVariants as verdict
use Rattle.law_run_recovers.proofs.Keeps.{IsAtWork, Works, works, run_at}
use Rattle.law_run_recovers.proofs.Still.{IsOpen, IsOpenPhase}
use Rattle.law_run_recovers.proofs.MeetTold.{for_lock}

-- nothing was said of one that has not told how it ended
untold : (said : Verdict) (phase : Phase) → IsOpenPhase phase → Tells said phase → said ≡ verdict.Aborted
untold said phase h2 h3 = search arith

none_of : (ds : List Decided) (i count t : ℕ) (doing : Option Doing) → IsAt ds i count doing → IsOpen doing → runs t doing ≡ true → (d : Decided) → Has ds d → d.t ≡ t → ⊥
none_of ds i count t doing h5 h6 h7 d h9 h10 = search arith

module _ (given : Opening) (events later : List Event) (agent t : ℕ) (caller : Identity) (site : ℕ) (ops : List Op) (actor : Actor)
    (can : CanBe given (events ++ Begin agent (Transaction caller site ops) ∷ later)) (there : actor_at (run given events) agent ≡ Some actor)
    (begins_so : begins_job given (run given events) (Begin agent (Transaction caller site ops)) ≡ Some (t, Transaction caller site ops)) where
  pub not_decided_at_work : (so_far : List Event) → IsAtWork (world_after given events agent caller site ops so_far) agent t
      → (d : Decided) → Has (decisions given (events ++ Begin agent (Transaction caller site ops) ∷ so_far)) d → d.t ≡ t → ⊥
  not_decided_at_work so_far work =
      let all = events ++ Begin agent (Transaction caller site ops) ∷ so_far in
      let now : Works (world_after given events agent caller site ops so_far) agent t = works (world_after given events agent caller site ops so_far) agent t work in
      none_of (decisions given all) agent now.actor.agent.count t now.actor.agent.doing
      ((holds_of given can.accepted all).agents.at agent now.actor.agent
      (ap agent_of (ap (λ w. actor_at w agent) (sym (run_at given events later agent t caller site ops actor can there begins_so so_far)) ∙ now.there))) now.is_open now.runs_it

-- a request for a lock decides nothing
pub lock_decides_none : (t z : ℕ) (asked : Request) → for_lock t z asked ≡ true → is_decide asked ≡ false
lock_decides_none t z asked h3 = search arith
