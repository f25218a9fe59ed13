use Rattle.std.proofs.Common.{rules}
use Rattle.rep_core.proofs.Planned.{there_in}
use Rattle.rep_core.proofs.store.Store.takes_new.Goals as goal

pub returns-then-not-has_copy : goal.returns-then-not-has_copy
returns-then-not-has_copy c = let there = there_in c.self.inside.intentions.pairs c.args.part.now.suite in search (rules, there)
