use Rattle.rep_core.proofs.Vocabulary.{sym, ap, subst, ◌∙◌, rise, Locking, AreNumbered}
use Rattle.rep_core.specs.code.Keyed as keyed
use Rattle.rep_core.proofs.KeptLocks.{rise-kept, numbered-kept}
use Rattle.rep_core.proofs.LockEdits.{by_own, next_is}
use Rattle.rep_core.proofs.many_locks.ManyLocks.next_of.Goals as goal

pub returns-in-Some-clause-next : goal.returns-in-Some-clause-next
returns-in-Some-clause-next c =
    let t = c.args.t in
    let from = c.args.from in
    c.own_of.ensures
    ∙ ap (by_own t) c.in-Some.ensures.first
    ∙ next_is t from c.self.inside.locks.pairs c.self.invariant.ordered
    ∙ ap (λ (many : Locking). keyed.next_of t from many.locks) c.self.view_is

pub returns-in-Some-clause-rising : goal.returns-in-Some-clause-rising
returns-in-Some-clause-rising c = sym (ap (λ (many : Locking). rise many.locks) c.self.view_is) ∙ rise-kept c.self.inside.locks.pairs c.self.invariant.ordered

pub returns-in-Some-clause-few : goal.returns-in-Some-clause-few
returns-in-Some-clause-few c = subst (λ (many : Locking). AreNumbered many.locks) c.self.view_is (numbered-kept c.self.inside.locks.pairs c.self.inside.holders.pairs c.self.inside.loose.pairs c.self.invariant)

pub returns-in-None-clause-next : goal.returns-in-None-clause-next
returns-in-None-clause-next c =
    let t = c.args.t in
    let from = c.args.from in
    ap (by_own t) c.in-None.ensures.first
    ∙ next_is t from c.self.inside.locks.pairs c.self.invariant.ordered
    ∙ ap (λ (many : Locking). keyed.next_of t from many.locks) c.self.view_is

pub returns-in-None-clause-rising : goal.returns-in-None-clause-rising
returns-in-None-clause-rising c = sym (ap (λ (many : Locking). rise many.locks) c.self.view_is) ∙ rise-kept c.self.inside.locks.pairs c.self.invariant.ordered

pub returns-in-None-clause-few : goal.returns-in-None-clause-few
returns-in-None-clause-few c = subst (λ (many : Locking). AreNumbered many.locks) c.self.view_is (numbered-kept c.self.inside.locks.pairs c.self.inside.holders.pairs c.self.inside.loose.pairs c.self.invariant)
