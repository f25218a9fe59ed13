use Rattle.agent_pool.proofs.Vocabulary.{◌≡◌, List, sym, subst, None, Worked, JobOutcome, HaveOne, NoneFailed, TellsOf, first_stuck, places, AreApart}
use Rattle.agent_pool.proofs.Vocabulary.{AreInOrder, AreOutcomes, players_of, sitting, AreGathered}
use Rattle.agent_pool.proofs.Seen.{all_ran}
use Rattle.agent_pool.proofs.gather.gather.Goals as goal

pub returns-in-Ok-clause-gathers : goal.returns-in-Ok-clause-gathers
returns-in-Ok-clause-gathers c =
    subst (λ (ws : List Worked). NoneFailed ws × HaveOne c.args.jobs.now (places ws) × (first_stuck ws ≡ None)) c.as_slice.ensures.value c.in-Ok.ensures.gathers

pub returns-in-Ok-clause-pool : goal.returns-in-Ok-clause-pool
returns-in-Ok-clause-pool c =
    let worked = c.args.worked.items in
    let jobs = c.args.jobs.now in
    let told = subst (λ (ws : List Worked). NoneFailed ws × HaveOne jobs (places ws) × (first_stuck ws ≡ None)) c.as_slice.ensures.value c.in-Ok.ensures.gathers in
    let had = subst (λ (ws : List Worked). AreGathered jobs ws c.in-Ok.outcomes.items) c.as_slice.ensures.value c.in-Ok.ensures.outcomes in
    let same = c.pool_of.ensures.outcomes in
    record {
      agents = c.pool_of.ensures.agents;
      passes = c.pool_of.ensures.passes;
      ran = all_ran worked told.0.memory told.0.strange told.2;
      each = λ seats works. subst (λ (os : List JobOutcome). AreOutcomes (sitting seats) (players_of worked) jobs os) (sym same) (had.each seats works);
      apart = subst (λ (os : List JobOutcome). AreApart os) (sym same) had.apart;
      order = subst (λ (os : List JobOutcome). AreInOrder os) (sym same) had.order;
      once = had.once;
    }

pub returns-in-Err-clause-gathers : goal.returns-in-Err-clause-gathers
returns-in-Err-clause-gathers c = subst (λ (ws : List Worked). TellsOf c.args.jobs.now ws c.in-Err.fault) c.as_slice.ensures.value c.in-Err.ensures.gathers
