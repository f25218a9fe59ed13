use Rattle.txn_core.proofs.Vocabulary.{refl, ap, ◌∙◌, kept_by, fixed_in, learned_suites}
use Rattle.txn_core.proofs.Reaching.{reached_carried}
use Rattle.txn_core.proofs.Seeing.{learned_ordered}
use Rattle.txn_core.proofs.Sequences.{carried_follows, carried_unused}
use Rattle.txn_core.proofs.Unused.{unused_learned}
use Rattle.txn_core.proofs.execution.Execution.execute.Goals as goal

pub prepare-requires-clause-unused : goal.prepare-requires-clause-unused
prepare-requires-clause-unused c = unused_learned c.args.just_learned c.args.cache.now c.requires.fits c.requires.hints

pub returns-clause-ok : goal.returns-clause-ok
returns-clause-ok c =
    let just_learned = c.args.just_learned in
    let old = c.args.suites.now.pairs in
    carried_follows (fixed_in c.args.self c.args.cache.now) c.args.self.task.now c.args.cache.now (learned_suites just_learned old) (kept_by just_learned) (kept_by just_learned) c.in_ok-plan.plan c.in_ok-plan.ensures.plan refl
    c.set.new.cache c.carry_out.new.cache c.set.new.suites.pairs c.carry_out.new.suites.pairs c.in_ok-set.ensures.cache (c.in_ok-set.ensures.suites ∙ ap (learned_suites just_learned) c.prepare.ensures.pairs) c.carry_out.ensures.cache
    c.carry_out.result c.carry_out.ensures.suites c.carry_out.ensures.next_phase

pub returns-clause-unused : goal.returns-clause-unused
returns-clause-unused c =
    let just_learned = c.args.just_learned in
    let old = c.args.suites.now.pairs in
    carried_unused (fixed_in c.args.self c.args.cache.now) c.args.self.task.now c.args.cache.now (learned_suites just_learned old) (kept_by just_learned) (kept_by just_learned) c.in_ok-plan.plan c.in_ok-plan.ensures.plan refl
    c.set.new.cache c.carry_out.new.cache c.set.new.suites.pairs c.carry_out.new.suites.pairs c.in_ok-set.ensures.cache (c.in_ok-set.ensures.suites ∙ ap (learned_suites just_learned) c.prepare.ensures.pairs) c.carry_out.ensures.cache
    (unused_learned just_learned c.args.cache.now c.requires.fits c.requires.hints)

pub returns-clause-reached : goal.returns-clause-reached
returns-clause-reached c =
    let just_learned = c.args.just_learned in
    let old = c.args.suites.now.pairs in
    reached_carried c.args.self.fixed_parts.now c.prepare.new.progress (fixed_in c.args.self c.args.cache.now) c.args.self.task.now c.args.cache.now c.set.new.cache
    (learned_suites just_learned old) c.set.new.suites.pairs c.carry_out.new.suites.pairs (kept_by just_learned) (kept_by just_learned)
    c.in_ok-plan.plan c.in_ok-plan.ensures.plan refl c.in_ok-set.ensures.cache (c.in_ok-set.ensures.suites ∙ ap (learned_suites just_learned) c.prepare.ensures.pairs)
    (learned_ordered old just_learned c.in_ok-plan.ensures.ordered) c.carry_out.ensures.suites c.in_ok-plan.ensures.reached
