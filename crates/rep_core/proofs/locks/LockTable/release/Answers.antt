use Rattle.rep_core.proofs.Vocabulary.{rules, ◌++◌, sym, ap, ◌∙◌, filter_same, List, not, ◌==◌, Lock, Locking}
use Rattle.rep_core.specs.Locks as locking
use Rattle.rep_core.proofs.Rising.{rise_filter}
use Rattle.rep_core.proofs.SuiteHolders.{still_alone}
use Rattle.rep_core.proofs.TabledLocks.{few_changed, many_changed, few_tabled, many_tabled}
use Rattle.rep_core.proofs.locks.LockTable.release.Goals as goal

pub invariant_of-self : goal.invariant_of-self
invariant_of-self c =
    let all = c.self.invariant in
    let locks = c.self.inside.few.items ++ c.self.inside.many.locks in
    let kept = filter_same _ _ _ (λ x b f' k. search rules) _ _ c.retain.ensures.filtered in
    few_tabled c.self.inside.few.items c.self.inside.many.locks all (locking.released c.args.t) (rise_filter (λ l. not (l.t == c.args.t)) locks all.rising)
    (still_alone (λ l. not (l.t == c.args.t)) locks all.alone) (sym c.is_empty.ensures ∙ c.if-is_empty.true) _ kept

pub invariant_of-self-else-is_empty : goal.invariant_of-self-else-is_empty
invariant_of-self-else-is_empty c =
    let all = c.self.invariant in
    let locks = c.self.inside.few.items ++ c.self.inside.many.locks in
    many_tabled c.self.inside.few.items c.self.inside.many.locks all (locking.released c.args.t) (rise_filter (λ l. not (l.t == c.args.t)) locks all.rising)
    (still_alone (λ l. not (l.t == c.args.t)) locks all.alone) (sym c.is_empty.ensures ∙ c.if-is_empty.false) _ c.release.ensures

pub returns-then-is_empty : goal.returns-then-is_empty
returns-then-is_empty c =
    let f : List Lock → List Lock = locking.released c.args.t in
    let kept = filter_same _ _ _ (λ x b f' k. search rules) _ _ c.retain.ensures.filtered in
    few_changed c.self.inside.few.items c.self.inside.many.locks c.self.invariant f (sym c.is_empty.ensures ∙ c.if-is_empty.true) _ kept ∙ ap (λ (table : Locking). f table.locks) c.self.view_is

pub returns-else-is_empty : goal.returns-else-is_empty
returns-else-is_empty c =
    let f : List Lock → List Lock = locking.released c.args.t in
    many_changed c.self.inside.few.items c.self.inside.many.locks c.self.invariant f (sym c.is_empty.ensures ∙ c.if-is_empty.false) _ c.release.ensures ∙ ap (λ (table : Locking). f table.locks) c.self.view_is
