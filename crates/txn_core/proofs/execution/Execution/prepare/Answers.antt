use Rattle.txn_core.proofs.Vocabulary.{sym, subst, IsPlanOf, fixed_in, opened_all, shelved, IsReachedIn, learned_suites, HasUnused}
use Rattle.txn_core.proofs.execution.Execution.prepare.Goals as goal

pub plan-requires-clause-unused : goal.plan-requires-clause-unused
plan-requires-clause-unused c = subst (λ one. HasUnused (shelved c.args.cache.now one)) (sym c.fetched.ensures) c.requires.unused

pub returns-clause-plan : goal.returns-clause-plan
returns-clause-plan c =
    let suites = learned_suites c.args.just_learned.now c.args.suites.now.pairs in
    subst (λ one. IsPlanOf (fixed_in c.args.self c.args.cache.now) c.args.self.task.now (record { suites = suites; cache = shelved c.args.cache.now one }) c.in_ok-plan.plan) c.fetched.ensures c.in_ok-plan.ensures.plan

pub returns-clause-reached : goal.returns-clause-reached
returns-clause-reached c =
    let suites = learned_suites c.args.just_learned.now c.args.suites.now.pairs in
    let task = c.args.self.task.now in
    subst (λ one. IsReachedIn c.args.self.fixed_parts.now task (opened_all task c.in_ok-plan.plan.opened.items
    (record { suites = suites; cache = shelved c.args.cache.now one })).suites c.plan.new.progress) c.fetched.ensures c.in_ok-plan.ensures.reached
