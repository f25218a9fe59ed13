use Rattle.rep_core.proofs.Vocabulary.{◌++◌, sym, ap, ◌∙◌, with_items_is, List, Lock, Locking}
use Rattle.rep_core.specs.Locks as locking
use Rattle.rep_core.proofs.Rising.{rise_prepared}
use Rattle.rep_core.proofs.SuiteHolders.{still_alone_prepared}
use Rattle.rep_core.proofs.TabledLocks.{few_changed, many_changed, few_tabled, many_tabled}
use Rattle.rep_core.proofs.locks.LockTable.prepare.Goals as goal

pub invariant_of-self : goal.invariant_of-self
invariant_of-self c =
    let all = c.self.invariant in
    let locks = c.self.inside.few.items ++ c.self.inside.many.locks in
    let kept = with_items_is c.self.inside.few c.prepare.new.locks (c.prepare.auto.locks ∙ c.deref_mut.ensures.len) ∙ c.prepare.ensures ∙ ap (locking.with_prepared c.args.t c.args.parts.now) c.deref_mut.ensures.value in
    few_tabled c.self.inside.few.items c.self.inside.many.locks all (locking.with_prepared c.args.t c.args.parts.now) (rise_prepared c.args.t c.args.parts.now locks all.rising)
    (still_alone_prepared c.args.t c.args.parts.now locks all.alone) (sym c.is_empty.ensures ∙ c.if-is_empty.true) _ kept

pub invariant_of-self-else-is_empty : goal.invariant_of-self-else-is_empty
invariant_of-self-else-is_empty c =
    let all = c.self.invariant in
    let locks = c.self.inside.few.items ++ c.self.inside.many.locks in
    many_tabled c.self.inside.few.items c.self.inside.many.locks all (locking.with_prepared c.args.t c.args.parts.now) (rise_prepared c.args.t c.args.parts.now locks all.rising)
    (still_alone_prepared c.args.t c.args.parts.now locks all.alone) (sym c.is_empty.ensures ∙ c.if-is_empty.false) _ c.prepare-else-is_empty.ensures

pub returns-then-is_empty : goal.returns-then-is_empty
returns-then-is_empty c =
    let f : List Lock → List Lock = locking.with_prepared c.args.t c.args.parts.now in
    let kept = with_items_is c.self.inside.few c.prepare.new.locks (c.prepare.auto.locks ∙ c.deref_mut.ensures.len) ∙ c.prepare.ensures ∙ ap (locking.with_prepared c.args.t c.args.parts.now) c.deref_mut.ensures.value in
    few_changed c.self.inside.few.items c.self.inside.many.locks c.self.invariant f (sym c.is_empty.ensures ∙ c.if-is_empty.true) _ kept ∙ ap (λ (table : Locking). f table.locks) c.self.view_is

pub returns-else-is_empty : goal.returns-else-is_empty
returns-else-is_empty c =
    let f : List Lock → List Lock = locking.with_prepared c.args.t c.args.parts.now in
    many_changed c.self.inside.few.items c.self.inside.many.locks c.self.invariant f (sym c.is_empty.ensures ∙ c.if-is_empty.false) _ c.prepare-else-is_empty.ensures ∙ ap (λ (table : Locking). f table.locks) c.self.view_is
