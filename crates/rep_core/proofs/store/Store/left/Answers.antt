use Rattle.rep_core.proofs.Vocabulary.{rules, ◌≡◌, subst, sym, IsCopy, PrefixFits, CopyFits, left_by, copy_of, TakeFits}
use Rattle.rep_core.specs.declared.request.Take.TheVariants as take
use Rattle.rep_core.proofs.LeftCopies.{left_valid}
use Rattle.rep_core.proofs.store.Store.left.Goals as goal

pub under-requires : goal.under-requires
under-requires c =
    let store = c.args.self.now.store in
    let part = c.args.part.now in
    let is : part.take ≡ take.Prefix c.in-Prefix.prefix = search rules in
    let own : PrefixFits c.in-Prefix.prefix = search rules in
    let there : CopyFits (copy_of store part.suite) = search rules in
    let takes : TakeFits part.take = subst TakeFits (sym is) own in
    subst (λ what. IsCopy (left_by what (copy_of store part.suite))) is (left_valid store part c.sound.ensures c.requires.sound c.requires.new c.requires.takes takes there)

pub new-requires : goal.new-requires
new-requires c =
    let store = c.args.self.now.store in
    let part = c.args.part.now in
    let is : part.take ≡ take.Whole c.in-Whole.replica = search rules in
    let own : CopyFits c.in-Whole.replica = search rules in
    let there : CopyFits (copy_of store part.suite) = search rules in
    let takes : TakeFits part.take = subst TakeFits (sym is) own in
    subst (λ what. IsCopy (left_by what (copy_of store part.suite))) is (left_valid store part c.sound.ensures c.requires.sound c.requires.new c.requires.takes takes there)
