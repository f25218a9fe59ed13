use Rattle.rep_core.proofs.Vocabulary.{rules, ◌≡◌, Some, None, sym, ap, subst, ◌∙◌, IsAlone, lock_at, Locking, locks_of, if_conflict}
use Rattle.rep_core.specs.Locks as locking
use Rattle.rep_core.proofs.KeptLocks.{held-kept, holders_numbered}
use Rattle.rep_core.proofs.SuiteHolders.{way_told, way_untold}
use Rattle.rep_core.proofs.many_locks.ManyLocks.in_the_way.Goals as goal

pub first_other-requires : goal.first_other-requires
first_other-requires c = holders_numbered c.self.inside.locks.pairs c.self.inside.holders.pairs c.self.inside.loose.pairs c.self.invariant

pub returns-in-Some : goal.returns-in-Some
returns-in-Some c =
    let t = c.args.t in
    let suite = c.args.suite in
    let mode = c.args.mode in
    let pairs = c.self.inside.locks.pairs in
    let seen : locks_of pairs ≡ c.args.self.now.locks = ap (λ (many : Locking). many.locks) c.self.view_is in
    let held = held-kept pairs c.self.inside.holders.pairs c.self.inside.loose.pairs c.self.invariant (subst IsAlone (sym seen) c.requires) in
    let has : c.first_other.result ≡ Some c.in-Some.other = search rules in
    c.conflict_of.ensures
    ∙ ap (if_conflict t suite mode) (c.lock_at.ensures ∙ ap (lock_at c.in-Some.other suite) (sym seen))
    ∙ way_told (locks_of pairs) c.self.inside.holders.pairs held t suite mode c.in-Some.other (sym c.first_other.ensures ∙ has)
    ∙ ap (locking.in_the_way t suite mode) seen

pub returns-in-None : goal.returns-in-None
returns-in-None c =
    let t = c.args.t in
    let suite = c.args.suite in
    let mode = c.args.mode in
    let pairs = c.self.inside.locks.pairs in
    let seen : locks_of pairs ≡ c.args.self.now.locks = ap (λ (many : Locking). many.locks) c.self.view_is in
    let held = held-kept pairs c.self.inside.holders.pairs c.self.inside.loose.pairs c.self.invariant (subst IsAlone (sym seen) c.requires) in
    let none : c.first_other.result ≡ None = search rules in
    way_untold (locks_of pairs) c.self.inside.holders.pairs held t suite mode (sym c.first_other.ensures ∙ none) ∙ ap (locking.in_the_way t suite mode) seen
