-- What jobs that ended say of the decisions, and go on to say.
use Rattle.law_runs.proofs.Vocabulary.{◌≡◌, ⊎_elim, ℕ, ◌+◌, ◌≤◌, ◌<◌, List, ◌++◌, Option, Some, None, sym, ap, subst, ◌∙◌, arith, ◌*◌, same_Some, Has, Agent, Decided, EndedJob}
use Rattle.law_runs.proofs.Standing.{NotIn, has_append}
use Rattle.law_runs.proofs.Places.{Puts, same_or}
use Rattle.law_runs.proofs.Agents.{AreOf, EndStands, EndsAt, end_more, AreAt}

-- the job is over: its agent began more since, or is idle; and its ending stands among the decisions
pub record IsOver (h : ℕ → Option Agent) (ds : List Decided) (outcome : EndedJob) : Type 0 where
  pub agent : Agent
  pub at : h outcome.agent ≡ Some agent
  pub before : outcome.count < agent.count
  pub idle : outcome.count + 1 ≡ agent.count → agent.doing ≡ None
  pub stands : EndStands ds (64 * outcome.count + outcome.agent) outcome.ending

abbrev pub AreOver : (ℕ → Option Agent) → List Decided → List EndedJob → Type 0
AreOver h ds past = (outcome : EndedJob) → Has past outcome → IsOver h ds outcome

module _ (h g : ℕ → Option Agent) (i : ℕ) (old new : Agent) (ds more : List Decided) (puts : Puts h g i old new) (counts : old.count ≤ new.count)
    (rests : new.count ≡ old.count → old.doing ≡ None → new.doing ≡ None) (of : AreOf old i more) (holds : AreAt h ds) where
  -- what is decided now is of no job that is over
  apart_over : (outcome : EndedJob) → IsOver h ds outcome → NotIn more (64 * outcome.count + outcome.agent)
  apart_over outcome over d has same = search arith

  over_old : (outcome : EndedJob) → IsOver h ds outcome → IsOver g (ds ++ more) outcome
  over_old outcome over = search (end_more, apart_over, same_Some, same_or, arith)

  pub over_put : (past : List EndedJob) → AreOver h ds past → AreOver g (ds ++ more) past
  over_put past all outcome has = over_old outcome (all outcome has)

-- a job that ends now
pub over_last : (h : ℕ → Option Agent) (ds : List Decided) (i : ℕ) (agent : Agent) (outcome : EndedJob) → h i ≡ Some agent → outcome.agent ≡ i → agent.doing ≡ None
    → outcome.count + 1 ≡ agent.count → EndsAt ds i agent.count outcome.ending → IsOver h ds outcome
over_last h ds i agent outcome at index idle last ends =
    let place : ends.place ≡ outcome.count = (let before = ends.last in omega (arith, before, last)) in
    record {
      agent = agent;
      at = ap h index ∙ at;
      before = omega (arith, last);
      idle = λ _. idle;
      stands = subst (λ i. EndStands ds (64 * outcome.count + i) outcome.ending) (sym index) (subst (λ k. EndStands ds (64 * k + i) outcome.ending) place ends.stands);
    }

pub over_more : (h : ℕ → Option Agent) (ds : List Decided) (past more : List EndedJob) → AreOver h ds past → AreOver h ds more → AreOver h ds (past ++ more)
over_more h ds past more all new outcome has = ⊎_elim (λ left. all outcome left) (λ right. new outcome right) (has_append past more outcome has)
