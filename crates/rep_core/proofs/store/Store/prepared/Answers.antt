use Rattle.rep_core.proofs.Vocabulary.{copies_in, rules}
use Rattle.rep_core.proofs.Planned.{prepared_in}
use Rattle.rep_core.proofs.store.Store.prepared.Goals as goal

pub returns-in-Some : goal.returns-in-Some
returns-in-Some c = let fields = c.self.inside in let is = prepared_in fields.absent.votes (copies_in fields.copies.pairs) fields.intentions.pairs c.args.suite c.self.invariant.3 in search (rules, is)

pub returns-in-None : goal.returns-in-None
returns-in-None c = let fields = c.self.inside in let is = prepared_in fields.absent.votes (copies_in fields.copies.pairs) fields.intentions.pairs c.args.suite c.self.invariant.3 in search (rules, is)
