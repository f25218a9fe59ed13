-- What is promised to a transaction that goes alone: it is met by nobody, and each job of its agent that ends from then on is it.
use Rattle.law_run_recovers.proofs.Vocabulary.{◌≡◌, ℕ, ◌+◌, ◌-◌, ◌*◌, arith, false, List, [], ◌∷◌, ◌++◌, sym, ap, subst, ◌∙◌, not, not-true, and_parts, has_from, hinders, unhindered_from, world_after, step, Contains, Identity, Opening, Op, fixed_of}
use Rattle.law_run_recovers.proofs.Vocabulary.{Event, EndedJob, Actor, dones, outcomes, GoesAlone, EndsThen, begun_world, Always, DecidedWhereVotesAreAt, EndsAreByVotesAt, EndsInTimeAt}
use Rattle.law_run_recovers.proofs.AmongOver.{ended_own}
use Rattle.law_run_recovers.proofs.AmongTime.{unmet_end_in_time}
use Rattle.law_run_recovers.proofs.AmongBegin.{first_course}
use Rattle.law_run_recovers.proofs.Keeps.{after_append}
use Rattle.law_run_recovers.proofs.NoMore.{Now, now_on, count_in}
use Rattle.law_run_recovers.proofs.Open.{here_at, its_begin, alone_is_unmet, unmet_is_among_locks}
use Rattle.law_run_recovers.proofs.Picks.{along}
use Rattle.law_run_recovers.proofs.Steady.{GoesSteadily, steady}
use Rattle.law_run_recovers.proofs.UnmetLaws.{unmet_by_votes, unmet_where_votes}

one_less : (k c : ℕ) → k ≡ (c + 1) - 1 → k ≡ c
one_less k c is = omega (arith, is)

module _ (given : Opening) (events later : List Event) (agent t : ℕ) (caller : Identity) (site : ℕ) (ops : List Op) (actor : Actor) (goes : GoesAlone given events later agent t caller site ops actor) where
  -- so it goes steadily
  abbrev pub steadily : GoesSteadily given events later agent t caller site ops actor
  steadily = steady given events later agent t caller site ops actor (unmet_is_among_locks given events later agent t caller site ops actor (alone_is_unmet given events later agent t caller site ops actor goes))

  -- nothing hinders it
  pub calm : (so_far rest : List Event) (event : Event) → later ≡ so_far ++ event ∷ rest → hinders given agent (world_after given events agent caller site ops so_far) event ≡ false
  calm so_far rest event split =
      let w = world_after given events agent caller site ops so_far in
      not-true (hinders given agent w event)
      (and_parts (not (hinders given agent w event)) (unhindered_from given agent (step (fixed_of given) w event).world rest) (here_at given events later agent t caller site ops actor goes so_far (event ∷ rest) split).calm).0

  -- its agent has begun it, and no more
  first_now : Now given agent (actor.agent.count + 1) (begun_world given events agent caller site ops)
  first_now = let c = first_course given events later agent t caller site ops actor steadily in record { here = c.here; there = c.there; count_is = c.count }

  pub now_at : (so_far rest : List Event) → later ≡ so_far ++ rest → Now given agent (actor.agent.count + 1) (world_after given events agent caller site ops so_far)
  now_at = along later (λ so_far. Now given agent (actor.agent.count + 1) (world_after given events agent caller site ops so_far))
      (λ so_far rest event split now. subst (Now given agent (actor.agent.count + 1)) (sym (after_append (fixed_of given) so_far (event ∷ []) (begun_world given events agent caller site ops)))
      (now_on given agent (actor.agent.count + 1) (world_after given events agent caller site ops so_far) event (calm so_far rest event split) now)) first_now

  -- a job of its agent is it
  pub alone_then : (job : EndedJob) → Contains (outcomes (dones (fixed_of given) (begun_world given events agent caller site ops) later)) job → job.agent ≡ agent → EndsThen given events later agent t caller site ops job
  alone_then job there own =
      let begun = its_begin given events later agent t caller site ops actor goes.can goes.there goes.begins in
      let count = count_in given agent (actor.agent.count + 1) job own later (begun_world given events agent caller site ops) first_now goes.alone
      (has_from (outcomes (dones (fixed_of given) (begun_world given events agent caller site ops) later)) job there) in
      record { there = there; of_it = ap (λ n. 64 * n + job.agent) (one_less job.count actor.agent.count count) ∙ ap (λ i. 64 * actor.agent.count + i) own ∙ begun.0 }

  -- and it is its agent's
  pub own_then : (job : EndedJob) → EndsThen given events later agent t caller site ops job → job.agent ≡ agent
  own_then job ends = ended_own given events later agent t caller site ops actor steadily job ends

pub ends_are_by_votes : Always EndsAreByVotesAt
ends_are_by_votes given events later agent t caller site ops actor goes job there own = search (unmet_by_votes, alone_is_unmet, alone_then, arith)

pub they_end_in_time : Always EndsInTimeAt
they_end_in_time given events later agent t caller site ops actor goes more =
    let it = unmet_end_in_time given events later agent t caller site ops actor (alone_is_unmet given events later agent t caller site ops actor goes) more in
    record { job = it.job; there = it.ends.there; of_it = own_then given events later agent t caller site ops actor goes it.job it.ends }

pub decided_where_votes_are : Always DecidedWhereVotesAreAt
decided_where_votes_are given events later agent t caller site ops actor goes unmoved job there own = search (unmet_where_votes, alone_is_unmet, alone_then, arith)
