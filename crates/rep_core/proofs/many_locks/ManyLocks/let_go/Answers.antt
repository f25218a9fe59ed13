use Rattle.rep_core.proofs.Vocabulary.{sym, ap, ◌∙◌, rise, Locking, locks_of, without, is_loose_pair}
use Rattle.rep_core.proofs.KeptLocks.{kept_gone, kept_less, is_gone, rise-kept}
use Rattle.rep_core.proofs.many_locks.ManyLocks.let_go.Goals as goal

pub invariant_of-self : goal.invariant_of-self
invariant_of-self c =
    rw (c.remove-kept.ensures.pairs, c.remove.ensures.pairs, c.remove-then-was_loose.ensures.pairs)
    (kept_gone c.self.inside.locks.pairs c.self.inside.holders.pairs c.self.inside.loose.pairs c.self.invariant c.args.t c.args.suite)

pub invariant_of-self-else-was_loose : goal.invariant_of-self-else-was_loose
invariant_of-self-else-was_loose c =
    rw (c.remove-kept.ensures.pairs, c.remove.ensures.pairs)
    (kept_less c.self.inside.locks.pairs c.self.inside.holders.pairs c.self.inside.loose.pairs c.self.invariant c.args.t c.args.suite
    (ap is_loose_pair (sym c.remove-kept.ensures.before) ∙ sym c.was_loose.ensures ∙ c.if-was_loose.false))

pub returns-then-was_loose-clause-locks : goal.returns-then-was_loose-clause-locks
returns-then-was_loose-clause-locks c =
    ap locks_of c.remove-kept.ensures.pairs
    ∙ is_gone c.self.inside.locks.pairs c.self.inside.holders.pairs c.self.inside.loose.pairs c.self.invariant c.args.t c.args.suite
    ∙ ap (λ (many : Locking). without c.args.t c.args.suite many.locks) c.self.view_is

pub returns-then-was_loose-clause-was_rising : goal.returns-then-was_loose-clause-was_rising
returns-then-was_loose-clause-was_rising c = sym (ap (λ (many : Locking). rise many.locks) c.self.view_is) ∙ rise-kept c.self.inside.locks.pairs c.self.invariant.ordered

pub returns-else-was_loose-clause-locks : goal.returns-else-was_loose-clause-locks
returns-else-was_loose-clause-locks c =
    ap locks_of c.remove-kept.ensures.pairs
    ∙ is_gone c.self.inside.locks.pairs c.self.inside.holders.pairs c.self.inside.loose.pairs c.self.invariant c.args.t c.args.suite
    ∙ ap (λ (many : Locking). without c.args.t c.args.suite many.locks) c.self.view_is

pub returns-else-was_loose-clause-was_rising : goal.returns-else-was_loose-clause-was_rising
returns-else-was_loose-clause-was_rising c = sym (ap (λ (many : Locking). rise many.locks) c.self.view_is) ∙ rise-kept c.self.inside.locks.pairs c.self.invariant.ordered
