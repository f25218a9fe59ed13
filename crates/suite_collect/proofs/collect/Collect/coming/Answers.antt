use Rattle.suite_collect.proofs.Vocabulary.{◌≡◌, rules, due_of}
use Rattle.suite_collect.specs.code.Dues as due
use Rattle.suite_collect.proofs.Dues.{current_next}
use Rattle.suite_collect.proofs.collect.Collect.coming.Goals as goal

pub returns-in-Current : goal.returns-in-Current
returns-in-Current c =
    let now = c.args.self.now.collector in
    let is : due_of now ≡ due.Current = search rules in
    (_, _, _, current_next now is)
