use Rattle.std.proofs.Common.{rules}
use Rattle.rep_core.proofs.Kept.{copy_there}
use Rattle.rep_core.proofs.store.Store.has_copy.Goals as goal

pub returns : goal.returns
returns c =
    let copy = copy_there c.self.inside.copies.pairs c.args.suite in
    search (rules, copy)
