-- A pool of what agents did.
use Rattle.agent_pool.proofs.Vocabulary.{◌+◌, List, subst, ◌∙◌, sym, ap, All, Result, Ok, Err, IfOk, AllZip, Held, PoolFault, Pool, SeatedAgent, Worked}
use Rattle.agent_pool.proofs.Vocabulary.{NamedJob, IsGathered, AreOutcomes, IsPoolOf, begun_by, done_in, players_of, AreDistinct, WentOn, numbers_of}
use Rattle.agent_pool.proofs.Vocabulary.{AreSeated, IsWorkOf, Played, IsIdle}
use Rattle.agent_pool.proofs.Filling.{all_begun, all_idle, sits_same}
use Rattle.agent_pool.proofs.Returning.{all_went, others_back}

pub pool_is : (jobs : List NamedJob) (was : List Played) (old left : List Held) (seats : List SeatedAgent) (worked : List Worked) (result : Result Pool PoolFault) → AreDistinct (numbers_of was) → AreSeated old left was seats
    → AllZip (IsWorkOf jobs) seats worked → IfOk result (IsGathered jobs worked left) → IfOk result (IsPoolOf jobs was old)
pool_is jobs was old left seats worked (Err fault) distinct seated work is = tt
pool_is jobs was old left seats worked (Ok pool) distinct seated work is = record {
  agents = subst (λ (players : List Played). AllZip (WentOn old pool.passes.items) was players) (sym is.agents) (all_went jobs old left pool.passes.items was seats worked distinct seated work is.ran is.passes);
  idle = subst (λ (players : List Played). All IsIdle players) (sym is.agents) (all_idle jobs seats worked work is.ran);
  others = others_back jobs old left pool.passes.items was seats worked seated work is.ran is.passes;
  each = subst (λ (players : List Played). AreOutcomes was players jobs pool.outcomes.items) (sym is.agents)
      (subst (λ (sat : List Played). AreOutcomes sat (players_of worked) jobs pool.outcomes.items) (sits_same old left was seats seated.each) (is.each seats work));
  apart = is.apart;
  order = is.order;
  once = ap begun_by is.agents ∙ all_begun jobs seats worked work is.ran
      ∙ ap (λ (sat : List Played). begun_by sat + done_in worked) (sits_same old left was seats seated.each) ∙ ap (λ n. begun_by was + n) is.once;
}
