use Rattle.rep_core.proofs.Vocabulary.{◌≡◌, None, ◌++◌, sym, ap, ◌∙◌, nat_lt, length, and_parts, Locking, are_none, in_the_way, locked}
use Rattle.rep_core.proofs.Rising.{rise_locked}
use Rattle.rep_core.proofs.SuiteHolders.{still_alone_locked}
use Rattle.rep_core.proofs.TabledLocks.{few_tabled, all_many}
use Rattle.rep_core.proofs.locks.LockTable.set.Goals as goal

pub invariant_of-self : goal.invariant_of-self
invariant_of-self c =
    let t = c.args.t in
    let suite = c.args.suite in
    let mode = c.args.mode in
    let few = c.self.inside.few.items in
    let many = c.self.inside.many.locks in
    let all = c.self.invariant in
    let free : in_the_way t suite mode (few ++ many) ≡ None = ap (λ (table : Locking). in_the_way t suite mode table.locks) c.self.view_is ∙ c.requires.free in
    let none = (and_parts (are_none many) (nat_lt (length few) 64) (sym c.are_few.ensures ∙ c.if-are_few.true)).0 in
    few_tabled few many all (locked t suite mode) (rise_locked t suite mode (few ++ many) all.rising) (still_alone_locked t suite mode (few ++ many) free all.alone) none c.set_lock.new.locks.items c.set_lock.ensures

pub invariant_of-self-else-are_few : goal.invariant_of-self-else-are_few
invariant_of-self-else-are_few c =
    let t = c.args.t in
    let suite = c.args.suite in
    let mode = c.args.mode in
    let few = c.self.inside.few.items in
    let many = c.self.inside.many.locks in
    let all = c.self.invariant in
    let free : in_the_way t suite mode (few ++ many) ≡ None = ap (λ (table : Locking). in_the_way t suite mode table.locks) c.self.view_is ∙ c.requires.free in
    all_many c.move_all.new.few.items c.set.new.self.locks (locked t suite mode (few ++ many)) c.move_all.ensures.few (c.set.ensures ∙ ap (locked t suite mode) c.move_all.ensures.many)
    (rise_locked t suite mode (few ++ many) all.rising) (still_alone_locked t suite mode (few ++ many) free all.alone)
