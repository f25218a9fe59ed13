use Rattle.txn_core.proofs.Vocabulary.{◌<◌, ◌≤◌, sym, ap, subst, ◌∙◌, rules, MAX_SERVERS, Service, is_idle, Standing}
use Rattle.txn_core.proofs.Reaching.{reaches_begun, reaches_idle}
use Rattle.txn_core.proofs.agent.Agent.start.Goals as goal

pub invariant_of-self : goal.invariant_of-self
invariant_of-self c =
    let kept = c.self.invariant in
    let keeps = c.begin.ensures.keeps in
    record {
      index = kept.index;
      jobs = kept.jobs;
      servers = subst (λ (service : Service). (0 < service.servers) × (service.servers ≤ MAX_SERVERS)) (sym keeps.fixed_parts) kept.servers;
      unused = keeps.unused;
      reached =
          reaches_idle c.begin.new.resources.fixed_parts c.begin.new.resources.progress c.self.inside.doing
          (ap (λ (s : Standing). is_idle s.state.doing) c.self.view_is ∙ c.requires.idle);
    }

pub invariant_of-self-in-Transaction : goal.invariant_of-self-in-Transaction
invariant_of-self-in-Transaction c =
    let kept = c.self.invariant in
    let keeps = c.begin.ensures.keeps in
    record {
      index = kept.index;
      jobs = kept.jobs;
      servers = subst (λ (service : Service). (0 < service.servers) × (service.servers ≤ MAX_SERVERS)) (sym keeps.fixed_parts) kept.servers;
      unused = keeps.unused;
      reached = reaches_begun c.begin.new.resources.fixed_parts c.begin.new.resources.progress c.in_ok-txn_run-in-Transaction.txn_run c.map.result c.map.ensures.cases (λ txn_run doing post. search rules) c.in_ok-txn_run-in-Transaction.ensures.reached;
    }
